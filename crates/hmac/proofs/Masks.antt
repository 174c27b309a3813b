-- Laws of the masked block.
use Rattle.std.proofs.Common.{◌≡◌, ℕ, zero, suc, ◌+◌, ◌<◌, ◌≤◌, List, [], ◌∷◌, ◌++◌, length, get_or, take, drop, set, refl, ap, ◌∙◌, ap₂, arith, append-nil}
use Rattle.std.proofs.lemmas.List.{take_all, drop_all}
use lib.Bits.{bit_xor}
use Rattle.hmac.specs.Key.{masked}

pub masked_length : (pad : ℕ) (bs : List ℕ) → length (masked pad bs) ≡ length bs
unfolding masked
masked_length pad [] = refl
masked_length pad (x ∷ bs) = ap suc (masked_length pad bs)

-- a block of which the first i bytes are masked
abbrev pub masked_until : ℕ → ℕ → List ℕ → List ℕ
masked_until pad i block = masked pad (take i block) ++ drop i block

pub masked_none : (pad : ℕ) (block : List ℕ) → block ≡ masked_until pad 0 block
unfolding masked
masked_none pad block = refl

-- one byte more
next_masked : (pad i : ℕ) (block : List ℕ) → i < length block → set (masked_until pad i block) i (bit_xor (get_or (masked_until pad i block) i 0) pad) ≡ masked_until pad (suc i) block
unfolding masked
next_masked pad i [] h = absurd (omega arith)
next_masked pad zero (b ∷ bs) h = refl
next_masked pad (suc i) (b ∷ bs) h = ap (λ (v : List ℕ). bit_xor b pad ∷ v) (next_masked pad i bs (omega arith))

pub masked_more : (pad i : ℕ) (block items : List ℕ) → i < length block → items ≡ masked_until pad i block → set items i (bit_xor (get_or items i 0) pad) ≡ masked_until pad (i + 1) block
masked_more pad i block items h before =
    let next : suc i ≡ i + 1 = omega arith in
    ap (λ (v : List ℕ). set v i (bit_xor (get_or v i 0) pad)) before
    ∙ next_masked pad i block h
    ∙ ap (λ (k : ℕ). masked_until pad k block) next

pub masked_all : (pad i : ℕ) (block items : List ℕ) → length block ≤ i → items ≡ masked_until pad i block → items ≡ masked pad block
masked_all pad i block items h before =
    before
    ∙ ap₂ (λ (v w : List ℕ). masked pad v ++ w) (take_all i block h) (drop_all i block h)
    ∙ append-nil (masked pad block)
