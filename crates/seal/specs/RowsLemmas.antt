-- When a row holds a house and a statement.
use Rattle.std.specs.Prelude.{◌≡◌, ℕ, zero, suc, ◌<◌, Bool, true, false, cond, List, [], ◌∷◌, ◌++◌, length, Some, Decides, ◌==◌, ◌≢◌, refl}
use Rattle.std.specs.List.{slice_get}
use Rattle.std.proofs.Common.{ap, ◌∙◌, arith}
use Rattle.std.proofs.lemmas.Slice.Eq.{bytes_eq-Decides}
use Rattle.std.proofs.lemmas.Bool.{false≢true, and_parts, and_from, eqb-true, eq-eqb}
use Rattle.std.proofs.lemmas.Bool.Decides.{same_from_decides, Decides-like, Decides-and, Decides-eqb}
use Rattle.sha256.specs.declared.value.Digest.{Digest}
use Rattle.seal.specs.declared.entry.Entry.{Entry}
use Rattle.seal.specs.declared.statement.Statement.{Statement}
use Rattle.seal.specs.Rows.{entry, same_statement, holds, row_bytes, row_number}

-- statements with the same parts are one
same_parts : (x y : Statement) → x.mark ≡ y.mark → x.house ≡ y.house → x.number ≡ y.number → x.digest ≡ y.digest → x ≡ y
same_parts x y m h n d =
    ap (λ (v : ℕ). record { mark = v; house = x.house; number = x.number; digest = x.digest }) m
    ∙ ap (λ (v : ℕ). record { mark = y.mark; house = v; number = x.number; digest = x.digest }) h
    ∙ ap (λ (v : ℕ). record { mark = y.mark; house = y.house; number = v; digest = x.digest }) n
    ∙ ap (λ (v : Digest). record { mark = y.mark; house = y.house; number = y.number; digest = v }) d

pub same_statement_decides : (x y : Statement) → Decides (same_statement x y) (x ≡ y)
unfolding same_statement
same_statement_decides x y =
    Decides-like (same_statement x y)
    (λ p. same_parts x y p.0 p.1.0 p.1.1.0 (ap (λ (w : List ℕ). record { words = w }) p.1.1.1))
    (λ e. (ap (λ (v : Statement). v.mark) e, (ap (λ (v : Statement). v.house) e, (ap (λ (v : Statement). v.number) e, ap (λ (v : Statement). v.digest.words) e))))
    (Decides-and (x.mark == y.mark) _ (Decides-eqb x.mark y.mark)
    (Decides-and (x.house == y.house) _ (Decides-eqb x.house y.house)
    (Decides-and (x.number == y.number) _ (Decides-eqb x.number y.number) (bytes_eq-Decides x.digest.words y.digest.words))))

-- what a test says that compares two statements part by part
abbrev pub Compared : Statement → Statement → Bool → Type 0
Compared x y r =
    cond r
    (Decides true (x.mark ≡ y.mark) × (Decides true (x.house ≡ y.house) × (Decides true (x.number ≡ y.number) × Decides true (x.digest ≡ y.digest))))
    ((Decides false (x.mark ≡ y.mark) → ⊥) → (Decides false (x.house ≡ y.house) → ⊥) → (Decides false (x.number ≡ y.number) → ⊥) → (Decides false (x.digest ≡ y.digest) → ⊥) → ⊥)

compared_decides : (x y : Statement) (r : Bool) → Compared x y r → Decides r (x ≡ y)
compared_decides x y true (m, (h, (n, d))) = (λ _. same_parts x y (m.0 refl) (h.0 refl) (n.0 refl) (d.0 refl), λ _. refl)
compared_decides x y false apart = (
  λ e. absurd (false≢true e),
  λ e. absurd (apart
      (λ w. false≢true (w.1 (ap (λ (v : Statement). v.mark) e)))
      (λ w. false≢true (w.1 (ap (λ (v : Statement). v.house) e)))
      (λ w. false≢true (w.1 (ap (λ (v : Statement). v.number) e)))
      (λ w. false≢true (w.1 (ap (λ (v : Statement). v.digest) e)))),
)

pub compared : (x y : Statement) (r : Bool) → Compared x y r → r ≡ same_statement x y
compared x y r e = same_from_decides r (same_statement x y) (compared_decides x y r e) (same_statement_decides x y)

-- a row that was signed by the house on the statement
pub holds_own : (i : ℕ) (x : Statement) → holds (Some (entry i x)) i x ≡ true
holds_own i x = and_from (i == i) (same_statement x x) (eq-eqb i i refl) ((same_statement_decides x x).1 refl)

-- only such a row holds them
pub holds_only : (j : ℕ) (y : Statement) (i : ℕ) (x : Statement) → holds (Some (entry j y)) i x ≡ true → (j ≡ i) × (y ≡ x)
holds_only j y i x e =
    let parts = and_parts (j == i) (same_statement y x) e in
    (eqb-true j i parts.0, (same_statement_decides y x).0 parts.1)

-- a row that holds something is used
pub holds_within : (entries : List Entry) (k i : ℕ) (x : Statement) → holds (slice_get entries k) i x ≡ true → k < length entries
holds_within [] k i x e = absurd (false≢true e)
holds_within (y ∷ entries) zero i x e = omega arith
holds_within (y ∷ entries) (suc k) i x e = let rest = holds_within entries k i x e in omega arith

-- the row after some others, and each of those
pub next_row : (entries : List Entry) (y : Entry) → slice_get (entries ++ (y ∷ [])) (length entries) ≡ Some y
next_row [] y = refl
next_row (x ∷ entries) y = next_row entries y

pub other_rows : (entries : List Entry) (y : Entry) (k : ℕ) → (k ≢ length entries) → slice_get (entries ++ (y ∷ [])) k ≡ slice_get entries k
other_rows [] y zero other = absurd (other refl)
other_rows [] y (suc k) other = refl
other_rows (x ∷ entries) y zero other = refl
other_rows (x ∷ entries) y (suc k) other = other_rows entries y k (λ e. other (ap suc e))

pub row_number_bytes : (k : ℕ) → row_number (row_bytes k) ≡ k
row_number_bytes k = omega arith
