-- What a row remembers of the numbers noted in it.
use Rattle.std.proofs.Common.{◌≡◌, ℕ, zero, suc, ◌+◌, ◌-◌, ◌<◌, ◌≤◌, true, ◌≢◌, ◌⊎◌, List, [], ◌∷◌, length, Option, None, Some, get_or, sym, refl, ap, ◌∙◌, inl, inr, ⊎_elim, arith}
use Rattle.std.proofs.lemmas.List.{get_or-set_same, get_or-set_other}
use Rattle.std.proofs.lemmas.Bool.{cases_lt, false≢true}
use Rattle.sha256.specs.declared.value.Digest.{Digest}
use Rattle.exchange.specs.declared.station.Row.{Row}
use Rattle.exchange.specs.Machine.{window}
use Rattle.exchange.specs.Stations.{slot_of, is_empty, noted_row, filed_row}

-- number n was noted with digest d: it is filed by now, or its slot holds the digest
abbrev pub Remembers : Row → ℕ → Digest → Type 0
Remembers row n d = (n ≤ row.last) ⊎ ((slot_of row n ≡ Some d) × (n ≤ row.last + window))

held_not_empty : (slot : Option Digest) (d : Digest) → slot ≡ Some d → is_empty slot ≡ true → ⊥
held_not_empty slot d holds empty = false≢true (sym (ap is_empty holds) ∙ empty)

-- the slots, moved down by one
moved_down : (slots : List (Option Digest)) (q : ℕ) → q < 3
    → get_or (get_or slots 1 None ∷ get_or slots 2 None ∷ get_or slots 3 None ∷ None ∷ []) q None ≡ get_or slots (q + 1) None
moved_down slots zero h = refl
moved_down slots (suc zero) h = refl
moved_down slots (suc (suc zero)) h = refl
moved_down slots (suc (suc (suc q))) h = absurd (omega arith)

module _ (row : Row) (n : ℕ) (d : Digest) where
  pub remembers_new : length row.slots ≡ 4 → row.last < n → n ≤ row.last + window → Remembers (noted_row row n d) n d
  remembers_new four above ahead =
      let inside : n - row.last - 1 < length row.slots = omega arith in
      inr (get_or-set_same row.slots (n - row.last - 1) (Some d) None inside, ahead)

  -- after another number is noted
  pub remembers_old : (m : ℕ) (e : Digest) → n ≢ m → row.last < m → Remembers row n d → Remembers (noted_row row m e) n d
  remembers_old m e other above (inl filed) = inl filed
  remembers_old m e other above (inr held) = ⊎_elim later inl (cases_lt row.last n)
    where
      later : row.last < n → Remembers (noted_row row m e) n d
      later behind =
          let apart : n - row.last - 1 ≢ m - row.last - 1 = omega arith in
          inr (get_or-set_other row.slots (m - row.last - 1) (n - row.last - 1) (Some e) None apart ∙ held.0, held.1)

  -- after the next number is filed
  pub remembers_filed : Remembers row n d → Remembers (filed_row row) n d
  remembers_filed (inl filed) = inl (omega arith)
  remembers_filed (inr held) = ⊎_elim later inl (cases_lt (row.last + 1) n)
    where
      later : row.last + 1 < n → Remembers (filed_row row) n d
      later behind =
          let q = n - (row.last + 1) - 1 in
          let inside : q < 3 = omega arith in
          let place : q + 1 ≡ n - row.last - 1 = omega arith in
          inr (moved_down row.slots q inside ∙ ap (λ (i : ℕ). get_or row.slots i None) place ∙ held.0, omega arith)

  -- such a number is not noted again
  pub remembers_not_empty : row.last < n → is_empty (slot_of row n) ≡ true → Remembers row n d → ⊥
  remembers_not_empty above empty (inl filed) = omega arith
  remembers_not_empty above empty (inr held) = held_not_empty (slot_of row n) d held.0 empty
