-- What the writes to a bundle's memory leave.
use Rattle.std.proofs.Common.{◌≡◌, ℕ, ◌+◌, ◌<◌, ◌≤◌, List, [], ◌∷◌, ◌++◌, length, get_or, take, drop, set, sym, ap, ◌∙◌, ap₂, zero-add, arith, length-append}
use borrow.Rule.Slice.PartMut.{put_mid}
use lib.Seq.{paste}
use Rattle.std.proofs.lemmas.List.{append_assoc, take_all, take_more_set, drop-set-lt, drop-drop, drop_more, set_at}

-- a house, and its seal after it
pub receipt_written : (m seal part : List ℕ) (at house k : ℕ) → at + (1 + length seal) ≤ length m → part ≡ seal → k ≡ length seal
    → put_mid (at + 1) k (set m at house) part ≡ paste m at (house ∷ seal) (1 + length seal)
receipt_written m seal part at house k room e f =
    let n = length seal in
    let within : at < length m = omega arith in
    let behind : at < at + 1 = omega arith in
    let after = drop (at + (1 + n)) m in
    let front = take_more_set m at house within in
    let back = ap (drop k) (drop-set-lt (at + 1) m at house behind) ∙ drop-drop k (at + 1) m ∙ ap (λ (i : ℕ). drop i m) (let sum : at + 1 + k ≡ at + (1 + n) = omega arith in sum) in
    let whole = take_all (1 + n) (house ∷ seal) (omega arith) in
    ap₂ (λ (x y : List ℕ). x ++ y) front (ap₂ (λ (x y : List ℕ). x ++ y) e back)
    ∙ append_assoc (take at m) (house ∷ []) (seal ++ after)
    ∙ sym (append_assoc (take at m) (house ∷ seal) after)
    ∙ ap (λ (x : List ℕ). take at m ++ x ++ after) (sym whole)

-- a statement, and the count after it
pub head_written : (m statement part : List ℕ) (count n : ℕ) → n + 1 ≤ length m → length statement ≡ n → part ≡ statement
    → set (put_mid 0 n m part) n count ≡ paste m 0 (statement ++ (count ∷ [])) (n + 1)
head_written m statement part count n room long e =
    let within : n < length m = omega arith in
    let head = statement ++ (count ∷ []) in
    let all : length head ≤ n + 1 = simp length-append (omega arith) in
    ap₂ (λ (x y : List ℕ). set (x ++ y) n count) e (drop_more m n 0 within)
    ∙ set_at statement (get_or m n 0) (drop (n + 1) m) count n long
    ∙ sym (append_assoc statement (count ∷ []) (drop (n + 1) m))
    ∙ ap₂ (λ (x : List ℕ) (i : ℕ). x ++ drop i m) (sym (take_all (n + 1) head all)) (sym (zero-add (n + 1)))
