-- A block's words and its message schedule (FIPS 180-4, 5.2.1 and 6.2.2, step 1).
use Rattle.std.specs.Prelude.{ℕ, zero, suc, ◌+◌, ◌*◌, ◌^◌, List, [], ◌∷◌, ◌++◌, slice_index}
use Rattle.sha256.specs.Words.{plus}
use Rattle.sha256.specs.Functions.{σ0, σ1}

-- word i of a block: its bytes from 4i on, the most significant first
abbrev pub word : List ℕ → ℕ → ℕ
word block i =
    slice_index block (4 * i) * 2 ^ 24
    + slice_index block (4 * i + 1) * 2 ^ 16
    + slice_index block (4 * i + 2) * 2 ^ 8
    + slice_index block (4 * i + 3)

-- the first n words of a block
unfoldable pub words : ℕ → List ℕ → List ℕ
words zero block = []
words (suc n) block = words n block ++ (word block n ∷ [])

-- the word of the schedule that stands at n + 16, from those at n, n + 1, n + 9 and n + 14
abbrev pub next : List ℕ → ℕ → ℕ
next w n = plus (plus (plus (σ1 (slice_index w (n + 14))) (slice_index w (n + 9))) (σ0 (slice_index w (n + 1)))) (slice_index w n)

abbrev pub extended : List ℕ → ℕ → List ℕ
extended w n = w ++ (next w n ∷ [])

-- the sixteen words m of a block and n more; the whole schedule has 48 more
unfoldable pub scheduled : ℕ → List ℕ → List ℕ
scheduled zero m = m
scheduled (suc n) m = extended (scheduled n m) n

-- W: the 64 words of a block's schedule
abbrev pub schedule : List ℕ → List ℕ
schedule block = scheduled 48 (words 16 block)
