-- A digest's four words: they are equal if they are one by one; their bytes one after the other; how large they are.
use Rattle.std.proofs.Common.{◌≡◌, ℕ, zero, suc, ◌+◌, ◌/◌, ◌^◌, ◌<◌, List, [], ◌∷◌, ◌++◌, length, get_or, sym, refl, ap, ◌∙◌, subst, arith}
use Rattle.std.specs.List.{flat_map}
use Rattle.std.proofs.lemmas.List.{ext_get_or}
use Rattle.sha256.specs.declared.value.Digest.{Digest}
use Rattle.sha256.specs.declared.state.State.{State}
use Rattle.sha256.specs.Constants.{initial}
use Rattle.sha256.specs.Compression.{added, compressed}
use Rattle.sha256.specs.Padding.{bytes8, padded, block}
use Rattle.sha256.specs.Hash.{hashed, sha256, paired}
use Rattle.sha256.specs.Text.{bytes32, digest_bytes, digest_of}
use Rattle.sha256.proofs.Padding.{padded_blocks}
use Rattle.sha256.proofs.Hash.{hashed_more}

pub same_words : (x y : List ℕ) → length x ≡ 4 → length y ≡ 4
    → get_or x 0 0 ≡ get_or y 0 0 → get_or x 1 0 ≡ get_or y 1 0 → get_or x 2 0 ≡ get_or y 2 0 → get_or x 3 0 ≡ get_or y 3 0 → x ≡ y
same_words x y four other a b c d = ext_get_or 0 x y (four ∙ sym other) each
  where
    each : (i : ℕ) → i < length x → get_or x i 0 ≡ get_or y i 0
    each zero h = a
    each (suc zero) h = b
    each (suc (suc zero)) h = c
    each (suc (suc (suc zero))) h = d
    each (suc (suc (suc (suc i)))) h = absurd (omega arith)

pub four_words : (a b c d : ℕ) (rows : List (List ℕ)) → length rows ≡ 4
    → get_or rows 0 [] ≡ bytes8 a → get_or rows 1 [] ≡ bytes8 b → get_or rows 2 [] ≡ bytes8 c → get_or rows 3 [] ≡ bytes8 d
    → flat_map (λ row. row) rows ≡ bytes32 a b c d
unfolding bytes32
four_words a b c d [] four e f g h = absurd (omega arith)
four_words a b c d (w ∷ []) four e f g h = absurd (omega arith)
four_words a b c d (w ∷ x ∷ []) four e f g h = absurd (omega arith)
four_words a b c d (w ∷ x ∷ y ∷ []) four e f g h = absurd (omega arith)
four_words a b c d (w ∷ x ∷ y ∷ z ∷ []) four e f g h = λ i. e i ++ (f i ++ (g i ++ (h i ++ [])))
four_words a b c d (w ∷ x ∷ y ∷ z ∷ v ∷ rows) four e f g h = absurd (omega arith)

pub digest_bytes_length : (d : Digest) → length (digest_bytes d) ≡ 32
unfolding bytes32
digest_bytes_length d = refl

-- the words of a sum have 32 bits each, and so 64 in pairs
paired_fit : (s v : State) (i : ℕ) → get_or (paired (added s v)) i 0 < 2 ^ 64
paired_fit s v zero = omega arith
paired_fit s v (suc zero) = omega arith
paired_fit s v (suc (suc zero)) = omega arith
paired_fit s v (suc (suc (suc zero))) = omega arith
paired_fit s v (suc (suc (suc (suc i)))) = omega arith

-- the words of a message's digest have 64 bits
pub digest_words_fit : (m : List ℕ) (i : ℕ) → get_or (digest_of m).words i 0 < 2 ^ 64
unfolding sha256 compressed
digest_words_fit m i =
    let n = (length m + 8) / 64 in
    let last = hashed n initial (padded m) in
    let final : sha256 m ≡ compressed last (block (padded m) n) = ap (λ (k : ℕ). hashed k initial (padded m)) (padded_blocks m) ∙ hashed_more n initial (padded m) in
    subst (λ (s : State). get_or (paired s) i 0 < 2 ^ 64) (sym final) (paired_fit last _ i)
