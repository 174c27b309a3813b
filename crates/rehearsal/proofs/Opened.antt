-- The register of a rehearsal's opening.
use Rattle.std.proofs.Common.{◌≡◌, ℕ, ◌*◌, ◌/◌, ◌≤◌, ◌&&◌, leb, List, Ok, vec_capacity, Result, ap, ◌∙◌, subst₂, mul-div_cancel, arith}
use Rattle.std.proofs.lemmas.Bool.{le-leb, and_from}
use Rattle.refusal.specs.Questions.{after}
use Rattle.refusal.specs.declared.Refusal.{Refusal}
use Rattle.refusal.specs.declared.Refusal.TheVariants.{HouseCount, SealMemory}
use Rattle.seal.specs.declared.register.Register.{Register}
use Rattle.seal.specs.declared.table.Table.{Table}
use Rattle.seal.specs.Houses.{house_count}
use Rattle.seal.specs.Registers.{register_asked, Begun}
use Rattle.exchange.specs.declared.station.Station.{Station}
use Rattle.exchange.proofs.Questions.{yes_to}
use Rattle.rehearsal.specs.Playing.{Fresh, rows_each, Opens}

asked_yes : (n : ℕ) → 1 ≤ n → n ≤ 16 → register_asked n (rows_each * n) ≡ Ok tt
asked_yes n least most =
    yes_to (house_count n) HouseCount _ (and_from _ _ (le-leb 1 n least) (le-leb n 16 most))
    ∙ yes_to (leb n (rows_each * n) && leb (rows_each * n) 65535) SealMemory _ (and_from _ _ (le-leb n (rows_each * n) (omega arith)) (le-leb (rows_each * n) 65535 (omega arith)))

-- with rows for each of 1 to 16 houses, and fresh stations, the opening is made
pub opens_with : (n : ℕ) (table : Table) (s : Register) (stations : List Station) → 1 ≤ n → n ≤ 16
    → vec_capacity table.entries ≡ rows_each * n
    → Begun s (after (register_asked n (vec_capacity table.entries)) (λ _. n) 0) (after (register_asked n (vec_capacity table.entries)) (λ _. vec_capacity table.entries / n) 0) table
    → Fresh stations → Opens n s stations
opens_with n table s stations least most made begun fresh =
    let yes : register_asked n (vec_capacity table.entries) ≡ Ok tt = ap (register_asked n) made ∙ asked_yes n least most in
    let each : vec_capacity table.entries / n ≡ rows_each = ap (λ (x : ℕ). x / n) made ∙ mul-div_cancel rows_each least in
    let asks = λ (f : ℕ). ap (λ (a : Result (Unit {0}) Refusal). after a (λ _. f) 0) yes in
    record {
      table = table;
      rows = made;
      begun = subst₂ (λ (x y : ℕ). Begun s x y table) (asks n) (asks (vec_capacity table.entries / n) ∙ each) begun;
      fresh = fresh;
    }
