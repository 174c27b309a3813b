-- One turn of each loop, and what the cuts come to.
use Rattle.std.proofs.Common.{◌≡◌, refl, ◌∷◌, ℕ, ◌+◌, ◌-◌, ◌*◌, ◌<◌, ◌≤◌, Bool, true, false, cond, ◌&&◌, eqb, leb, List, [], ◌++◌, length, get_or, take, drop, Some, None, codes, sym, ap, ◌∙◌, append_assoc, arith}
use Rattle.std.specs.List.{position}
use Rattle.std.proofs.lemmas.List.{at_drop_more, at_drop_all, take_rest}
use Rattle.rehearsal.specs.declared.report.Line.{Line}
use Rattle.rehearsal.specs.Fields.{and_then, first_place, cut_at, read_on}
use Rattle.rehearsal.specs.Reports.{line_text, lines_text, report_text}

pub cut_none : (xs : List ℕ) (b : ℕ) → position (λ x. eqb x b) xs ≡ None → cut_at xs b ≡ None
unfolding cut_at first_place
cut_none xs b e = grind arith

-- as the code writes the two parts
pub cut_parts : (xs : List ℕ) (b p : ℕ) → position (λ x. eqb x b) xs ≡ Some p → cut_at xs b ≡ Some (take p xs, take (length xs - (p + 1)) (drop (p + 1) xs))
unfolding cut_at first_place
cut_parts xs b p e = rw (take_rest xs (p + 1)) (grind arith)

-- one digit, and then those after it
read_first : (v b : ℕ) (bs : List ℕ) → read_on v (b ∷ bs) ≡ and_then (read_on v (b ∷ [])) (λ w. read_on w bs)
read_first v b bs = go (leb 48 b && (leb b 57 && leb (v * 10 + (b - 48)) 65535))
  where
    go : (t : Bool) → cond t (read_on (v * 10 + (b - 48)) bs) None ≡ and_then (cond t (Some (v * 10 + (b - 48))) None) (λ w. read_on w bs)
    go true = refl
    go false = refl

pub read_step : (v : ℕ) (xs : List ℕ) (i : ℕ) → i < length xs → read_on v (drop i xs) ≡ and_then (read_on v (get_or xs i 0 ∷ [])) (λ w. read_on w (drop (i + 1) xs))
read_step v xs i h = at_drop_more (read_on v) xs i 0 h ∙ read_first v (get_or xs i 0) (drop (i + 1) xs)

pub read_end : (v : ℕ) (xs : List ℕ) (i : ℕ) → length xs ≤ i → read_on v (drop i xs) ≡ Some v
read_end v xs i h = at_drop_all (read_on v) xs i h

pub lines_step : (ls : List Line) (i : ℕ) (d : Line) → i < length ls → lines_text (drop i ls) ≡ (line_text (get_or ls i d) ++ codes "\n") ++ lines_text (drop (i + 1) ls)
unfolding lines_text
lines_step ls i d h = at_drop_more lines_text ls i d h

pub lines_end : (ls : List Line) (i : ℕ) → length ls ≤ i → lines_text (drop i ls) ≡ []
unfolding lines_text
lines_end ls i h = at_drop_all lines_text ls i h

pub report_step : (t t' : List ℕ) (ls : List Line) (i : ℕ) (d : Line) → i < length ls → t' ≡ t ++ (line_text (get_or ls i d) ++ codes "\n") → t ++ lines_text (drop i ls) ≡ report_text ls → t' ++ lines_text (drop (i + 1) ls) ≡ report_text ls
report_step t t' ls i d h e inv =
    ap (λ (z : List ℕ). z ++ lines_text (drop (i + 1) ls)) e
    ∙ (append_assoc t (line_text (get_or ls i d) ++ codes "\n") (lines_text (drop (i + 1) ls))
    ∙ (ap (λ (z : List ℕ). t ++ z) (sym (lines_step ls i d h)) ∙ inv))
