-- The padded end of a message, as it is written into a buffer of zeros.
use Rattle.std.proofs.Common.{◌≡◌, ℕ, suc, ◌+◌, ◌-◌, ◌/◌, ◌<◌, List, [], ◌∷◌, ◌++◌, length, take, drop, set, sym, ap, ◌∙◌, ap₂, arith, length-append}
use lib.ListN.{length-replicate}
use lib.Seq.{paste}
use Rattle.std.proofs.lemmas.List.{append_assoc, take_at, drop_at, drop-drop, take_all, set_at, replicate-append-replicate}
use Rattle.sha256.specs.Padding.{nulls, zeros, padding, padded, blocks, bytes8}

nulls_length : (n : ℕ) → length (nulls n) ≡ n
nulls_length n = length-replicate n 0

nulls_split : (m n : ℕ) → nulls (m + n) ≡ nulls m ++ nulls n
nulls_split m n = sym (replicate-append-replicate m n 0)

-- q is written over r
paste_mid : (p q r s : List ℕ) (at n : ℕ) → length p ≡ at → length q ≡ n → length r ≡ n → paste (p ++ (r ++ s)) at q n ≡ p ++ (q ++ s)
paste_mid p q r s at n e f g =
    let front = take_at p (r ++ s) at e in
    let mid = take_all n q (omega arith) in
    let back = sym (drop-drop n at (p ++ (r ++ s))) ∙ ap (drop n) (drop_at p (r ++ s) at e) ∙ drop_at r s n g in
    ap₂ (λ (x y : List ℕ). x ++ y) (ap₂ (λ (x y : List ℕ). x ++ y) front mid) back ∙ append_assoc p q s

-- the buffer of zeros, in the parts that are written
buffer : (n z k : ℕ) → n + 1 + z + 8 + k ≡ 128 → nulls 128 ≡ nulls n ++ (0 ∷ (nulls z ++ (nulls 8 ++ nulls k)))
buffer n z k e =
    let sum : 128 ≡ n + suc (z + (8 + k)) = omega arith in
    ap nulls sum ∙ nulls_split n (suc (z + (8 + k)))
    ∙ ap (λ (v : List ℕ). nulls n ++ (0 ∷ v)) (nulls_split z (8 + k) ∙ ap (λ (v : List ℕ). nulls z ++ v) (nulls_split 8 k))

module _ (rest last : List ℕ) (n z k : ℕ) (long : length rest ≡ n) (eight : length last ≡ 8) (fits : n + 1 + z + 8 + k ≡ 128) where
  written : List ℕ
  written = rest ++ (0x80 ∷ nulls z)

  written_length : length written ≡ n + 1 + z
  unfolding written
  written_length = length-append rest (0x80 ∷ nulls z) ∙ omega (arith, nulls_length z)

  begun : set (paste (nulls 128) 0 rest n) n 0x80 ≡ written ++ (nulls 8 ++ nulls k)
  unfolding written
  begun =
      let tail = nulls z ++ (nulls 8 ++ nulls k) in
      ap (λ (v : List ℕ). set (paste v 0 rest n) n 0x80) (buffer n z k fits)
      ∙ ap (λ (v : List ℕ). set v n 0x80) (paste_mid [] rest (nulls n) (0 ∷ tail) 0 n (omega arith) long (nulls_length n))
      ∙ set_at rest 0 tail 0x80 n long
      ∙ sym (append_assoc rest (0x80 ∷ nulls z) (nulls 8 ++ nulls k))

  pub pasted : take (n + 1 + z + 8) (paste (set (paste (nulls 128) 0 rest n) n 0x80) (n + 1 + z) last 8) ≡ rest ++ (0x80 ∷ (nulls z ++ last))
  unfolding written
  pasted =
      ap (λ (v : List ℕ). take (n + 1 + z + 8) (paste v (n + 1 + z) last 8)) begun
      ∙ ap (take (n + 1 + z + 8)) (paste_mid written last (nulls 8) (nulls k) (n + 1 + z) 8 written_length eight (nulls_length 8) ∙ sym (append_assoc written last (nulls k)))
      ∙ take_at (written ++ last) (nulls k) (n + 1 + z + 8) (length-append written last ∙ omega (arith, written_length))
      ∙ append_assoc rest (0x80 ∷ nulls z) last

-- what the code's buffer holds up to the length's end
pub padded_end : (rest first second last : List ℕ) (bits n end k : ℕ)
    → length rest ≡ n → n < 64 → end ≡ n + 1 + zeros n → k ≡ end + 8
    → first ≡ paste (nulls 128) 0 rest n → last ≡ bytes8 bits → second ≡ paste (set first n 0x80) end last (length last)
    → take k second ≡ rest ++ padding (zeros n) bits
unfolding padding
padded_end rest first second last bits n end k long short place all e f g =
    let eight : length last ≡ 8 = ap length f in
    let fits : n + 1 + zeros n + 8 + (128 - (n + 1 + zeros n + 8)) ≡ 128 = omega arith in
    let whole : second ≡ paste (set (paste (nulls 128) 0 rest n) n 0x80) (n + 1 + zeros n) last 8 = cc in
    ap (λ (j : ℕ). take j second) (all ∙ ap (λ (j : ℕ). j + 8) place)
    ∙ ap (take (n + 1 + zeros n + 8)) whole
    ∙ pasted rest last n (zeros n) (128 - (n + 1 + zeros n + 8)) long eight fits
    ∙ ap (λ (v : List ℕ). rest ++ (0x80 ∷ (nulls (zeros n) ++ v))) f

pub padding_length : (z bits : ℕ) → length (padding z bits) ≡ z + 9
unfolding padding
padding_length z bits = ap suc (length-append (nulls z) (bytes8 bits)) ∙ omega (arith, nulls_length z)

-- how many blocks a padded message has
pub padded_blocks : (m : List ℕ) → blocks (padded m) ≡ (length m + 8) / 64 + 1
padded_blocks m = simp (length-append, padding_length) (omega arith)
