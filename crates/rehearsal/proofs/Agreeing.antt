-- What the exchange's law says of the lines of a rehearsal.
use Rattle.std.proofs.Common.{◌≡◌, ℕ, List, length, refl, ap, ◌∙◌, subst, arith}
use lib.Bits.{bit_xor, and_self, xor_self}
use lib.Count.{ones}
use Rattle.witness.specs.Consequences.{Trusted}
use Rattle.witness.specs.Rules.{Ruling, Lawful}
use Rattle.witness.specs.Sets.{full, missing}
use Rattle.witness.specs.CountingLemmas.{ones_none}
use Rattle.seal.specs.Registers.{register}
use Rattle.exchange.specs.Law.{countdown, OneStation}
use Rattle.exchange.specs.Stations.{fresh_station}
use Rattle.exchange.proofs.Agreement.{filed_digest, in_order}
use Rattle.cases.proofs.Forging.{register_unforged_by_note}
use Rattle.rehearsal.specs.Playing.{State, Played, Plays, Opens, Agrees}
use Rattle.rehearsal.proofs.Traces.{traced}

-- every house is honest
abbrev everyone : Ruling → ℕ
everyone r = full r.houses

trusted : (r : Ruling) → Trusted r (everyone r)
trusted r =
    let all = everyone r in
    let nobody : missing r.houses all ≡ 0 = ap (λ (x : ℕ). bit_xor all x) (and_self all) ∙ xor_self all in
    omega (arith, ap ones nobody ∙ ones_none)

one_station : (r : Ruling) → OneStation r fresh_station (everyone r)
one_station r i honest = (i, (refl, λ b same. same))

pub agrees : (r : Ruling) → Lawful r → (v : State) → Opens r.houses v.register v.stations
    → (history : List Played) (v' : State) → Plays r v history v' → Agrees history
agrees r law v opens history v' plays =
    let t = traced r law.most v.register v refl opens.fresh history v' plays in
    let unforged = register_unforged_by_note r fresh_station (everyone r) v.register opens.begun.none_used t.events t.world t.run (t.by_note (everyone r)) in
    record {
      one_digest = λ i i' j k p q x y.
          filed_digest r law register (everyone r) fresh_station v.register t.events t.world t.run (trusted r) (one_station r) unforged
          i i' j k p q (t.files i j k p x) (t.files i' j k q y);
      order = λ i j. subst (λ (ns : List ℕ). ns ≡ countdown (length ns)) (t.numbered i j)
          (in_order r law register (everyone r) fresh_station v.register t.events t.world t.run i i refl (λ b same. same) j);
    }
