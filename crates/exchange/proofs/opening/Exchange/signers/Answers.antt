use Rattle.std.proofs.Common.{◌≡◌, ℕ, List, ◌-◌, ◌<◌, drop, Err, sym, ap, ◌∙◌, arith, ⊎_elim}
use Rattle.std.proofs.lemmas.Result.{err_from_is_err_and}
use Rattle.std.specs.Iterator.Adapters.{zip_first}
use Rattle.exchange.specs.Layout.{receipt_at}
use Rattle.exchange.specs.Machine.{walk}
use Rattle.exchange.proofs.Walk.{walk_none, walk_on, walk_stops, this_from, left_after, none_left}
use Rattle.exchange.proofs.opening.Exchange.signers.Goals as goal

pub returns-in_err-met : goal.returns-in_err-met
returns-in_err-met g c =
    let r = g.R.Rule.ruling c.args.self.now.rule in
    let k = g.S.Seal.meaning in
    let s = c.args.self.now.seal in
    let b : List ℕ = c.args.bundle.now in
    let i = (zip_first c.loop-i.i-iterator).start in
    let kept = c.loop-i.invariant in
    let turn = c.in-Some.ensures.steps in
    let inside : i < c.args.head.count = omega (arith, turn.0.1.0, kept.2) in
    let asked = this_from r k s b c.args.head.statement c.in-Some.i i c.loop-i.met _ _ _ c.requires.0 turn.0.1.1 kept.4 turn.1.1.0 (turn.1.1.1 ∙ kept.3) in
    let stop = walk_stops r k s b c.args.head.count i c.loop-i.met c.in_err-met.field-0.0 inside kept.5 (sym asked ∙ sym c.take.ensures ∙ c.in_err-met.was) in
    let exit = err_from_is_err_and c.from_residual.result c.from_residual.ensures.1 in
    exit.1 ∙ ap Err exit.2 ∙ sym stop

pub loop-i-preserved : goal.loop-i-preserved
loop-i-preserved g c =
    let r = g.R.Rule.ruling c.args.self.now.rule in
    let k = g.S.Seal.meaning in
    let s = c.args.self.now.seal in
    let b : List ℕ = c.args.bundle.now in
    let n : ℕ = c.args.head.count in
    let i = (zip_first c.loop-i.i-iterator).start in
    let kept = c.loop-i.invariant in
    let turn = c.in-Some.ensures.steps in
    let inside : i < n = omega (arith, turn.0.1.0, kept.2) in
    let asked = this_from r k s b c.args.head.statement c.in-Some.i i c.loop-i.met _ _ _ c.requires.0 turn.0.1.1 kept.4 turn.1.1.0 (turn.1.1.1 ∙ kept.3) in
    let on = walk_on r k s b n i c.loop-i.met c.in_ok-met.met inside kept.5 (sym asked ∙ sym c.take.ensures ∙ c.in_ok-met.was) in
    let next = sym turn.0.1.2 in (
      (tt, omega (arith, turn.1.0, kept.0.1)),
      tt,
      turn.0.0 ∙ kept.2,
      turn.1.0 ∙ kept.3,
      left_after r k s b i _ _ _ kept.4 turn.1.1.0 (turn.1.1.1 ∙ kept.3) ∙ ap (λ (m : ℕ). drop (receipt_at k.size m) b) next,
      on ∙ ap (λ (m : ℕ). walk r k s b (n - m) m c.in_ok-met.met) next,
    )

pub returns : goal.returns
returns g c =
    let r = g.R.Rule.ruling c.args.self.now.rule in
    let k = g.S.Seal.meaning in
    let s = c.args.self.now.seal in
    let b : List ℕ = c.args.bundle.now in
    let n : ℕ = c.args.head.count in
    let i = (zip_first c.loop-i.i-iterator).start in
    let kept = c.loop-i.invariant in
    let all : n - i ≡ 0 =
    ⊎_elim (λ counted. omega (arith, counted.1.1.0, kept.2)) (λ parted. none_left r k s b n i _ c.requires.1 kept.4 (omega (arith, parted.1.1.0, kept.3))) c.in-None.ensures.steps in
    sym (kept.5 ∙ ap (λ (m : ℕ). walk r k s b m i c.loop-i.met) all ∙ walk_none r k s b i c.loop-i.met)
