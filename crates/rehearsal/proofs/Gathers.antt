-- The rows of the register, one at a time.
use Rattle.std.proofs.Common.{◌≡◌, ℕ, suc, ◌+◌, ◌-◌, ◌<◌, ◌≤◌, List, length, get_or, Some, Ok, Err, Option, Result, sym, ap, ◌∙◌, arith}
use Rattle.std.specs.List.{slice_get}
use Rattle.std.proofs.lemmas.Option.{slice_get-get_or}
use Rattle.refusal.specs.declared.Refused.{Refused}
use Rattle.witness.specs.Rules.{Ruling}
use Rattle.seal.specs.declared.entry.Entry.{Entry}
use Rattle.seal.specs.declared.register.Register.{Register}
use Rattle.seal.specs.declared.statement.Statement.{Statement}
use Rattle.seal.specs.Registers.{entries_of, used, row_at}
use Rattle.exchange.specs.declared.gathering.Gathering.{Gathering}
use Rattle.exchange.specs.Machine.{go_on}
use Rattle.rehearsal.specs.Bundles.{row_step, rows_from}

module _ (r : Ruling) (q : Register) (x : Statement) (rows : List Entry) (same : rows ≡ entries_of q) where
  -- row i is added, and then those after it
  next_row : (i : ℕ) (d : Entry) (g : Gathering) (m : List ℕ) (z : Result (Gathering × List ℕ) Refused) → i < length rows → row_step r q x i (Some (get_or rows i d)) g m ≡ z
      → rows_from r q x (used q - i) i g m ≡ go_on z (λ y. rows_from r q x (used q - (i + 1)) (i + 1) y.0 y.1)
  unfolding rows_from
  next_row i d g m z h step =
      let one_more : used q - i ≡ suc (used q - (i + 1)) = omega (arith, ap length same) in
      let row : row_at q i ≡ Some (get_or rows i d) = ap (λ (v : List Entry). slice_get v i) (sym same) ∙ slice_get-get_or rows i d h in
      ap (λ (k : ℕ). rows_from r q x k i g m) one_more
      ∙ ap (λ (z : Result (Gathering × List ℕ) Refused). go_on z (λ y. rows_from r q x (used q - (i + 1)) (i + 1) y.0 y.1)) (ap (λ (o : Option Entry). row_step r q x i o g m) row ∙ step)

  -- after the last row all is done
  pub rows_done : (i : ℕ) (g : Gathering) (m : List ℕ) → length rows ≤ i → rows_from r q x (used q - i) i g m ≡ Ok (g, m)
  unfolding rows_from
  rows_done i g m h =
      let none : used q - i ≡ 0 = omega (arith, ap length same) in
      ap (λ (k : ℕ). rows_from r q x k i g m) none

  -- a turn of the loop: what is left gives what the whole gives
  pub rows_on : (i : ℕ) (d : Entry) (g g' : Gathering) (m m' : List ℕ) → i < length rows → row_step r q x i (Some (get_or rows i d)) g m ≡ Ok (g', m') → rows_from r q x (used q - i) i g m ≡ rows_from r q x (used q - (i + 1)) (i + 1) g' m'
  rows_on i d g g' m m' h taken = next_row i d g m (Ok (g', m')) h taken

  -- the turn that a refusal ends
  pub rows_stop : (i : ℕ) (d : Entry) (g : Gathering) (m : List ℕ) (e : Refused) → i < length rows → row_step r q x i (Some (get_or rows i d)) g m ≡ Err e → rows_from r q x (used q - i) i g m ≡ Err e
  rows_stop i d g m e h refused = next_row i d g m (Err e) h refused
