use Rattle.std.proofs.Common.{◌≡◌, ◌+◌, ◌-◌, drop}
use Rattle.std.specs.Slice.Iter.{chunks_exact_rest, chunks_exact_size}
use Rattle.std.specs.Iterator.Adapters.{zip_first, zip_second}
use Rattle.exchange.specs.Layout.{receipt_at}
use Rattle.exchange.specs.Machine.{walk}
use Rattle.exchange.proofs.opening.Exchange.signers.Given as goal

abbrev pub invariant-loop-i : goal.invariant-loop-i
invariant-loop-i g l =
    let k = g.S.Seal.meaning in
    let i = (zip_first l.i-iterator).start in
    (goal.iterator-loop-i g).can_next l.i-iterator
    × (goal.iterator-loop-i g).is_finite l.i-iterator
    × ((zip_first l.i-iterator).end ≡ l.head.count)
    × (chunks_exact_size (zip_second l.i-iterator) ≡ 1 + k.size)
    × (chunks_exact_rest (zip_second l.i-iterator) ≡ drop (receipt_at k.size i) l.bundle)
    × (walk (g.R.Rule.ruling l.self.rule) k l.self.seal l.bundle l.head.count 0 0
    ≡ walk (g.R.Rule.ruling l.self.rule) k l.self.seal l.bundle (l.head.count - i) i l.met)
