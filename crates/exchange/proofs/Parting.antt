-- What stands behind a bundle's first four bytes.
use Rattle.std.specs.Simd.{first_chunks}
use Rattle.std.proofs.Common.{◌≡◌, ℕ, zero, suc, ◌<◌, ◌≤◌, List, [], ◌∷◌, get_or, get_or-take, take, drop, ap, ◌∙◌, ap₂, arith}
use Rattle.std.proofs.lemmas.List.{get_or-drop}
use Rattle.exchange.specs.Layout.{word_at, bundle_mark, bundle_house, bundle_number, bundle_statement}
use Rattle.seal.specs.declared.statement.Statement.{Statement}

words_behind : (b : List ℕ) → ◌≡◌ {A = List ℕ}
    (word_at (drop 4 b) 0 ∷ word_at (drop 4 b) 8 ∷ word_at (drop 4 b) 16 ∷ word_at (drop 4 b) 24 ∷ [])
    (word_at b 4 ∷ word_at b 12 ∷ word_at b 20 ∷ word_at b 28 ∷ [])
words_behind b = simp get_or-drop

pub count_behind : (b : List ℕ) → get_or (drop 4 b) 32 0 ≡ get_or b 36 0
count_behind b = simp get_or-drop

-- the words of four chunks
abbrev words_of : List (List ℕ) → List ℕ
words_of chunks = word_at (get_or chunks 0 []) 0 ∷ word_at (get_or chunks 1 []) 0 ∷ word_at (get_or chunks 2 []) 0 ∷ word_at (get_or chunks 3 []) 0 ∷ []

word_of_chunk : (v : List ℕ) → word_at (take 8 v) 0 ≡ word_at v 0
word_of_chunk v =
    let byte = λ (i : ℕ) (h : i < 8). get_or-take 8 v i 0 h in
    simp (byte 0 (omega arith), byte 1 (omega arith), byte 2 (omega arith), byte 3 (omega arith), byte 4 (omega arith), byte 5 (omega arith), byte 6 (omega arith), byte 7 (omega arith))

-- the words of the first four chunks of eight bytes
chunk_words : (v : List ℕ) (n : ℕ) → 4 ≤ n → ◌≡◌ {A = List ℕ}
    (words_of (first_chunks 8 n v))
    (word_at v 0 ∷ word_at v 8 ∷ word_at v 16 ∷ word_at v 24 ∷ [])
chunk_words v (suc (suc (suc (suc n)))) h = simp (word_of_chunk, get_or-drop)
chunk_words v zero h = absurd (omega arith)
chunk_words v (suc zero) h = absurd (omega arith)
chunk_words v (suc (suc zero)) h = absurd (omega arith)
chunk_words v (suc (suc (suc zero))) h = absurd (omega arith)

-- a statement made of the parts of a bundle's front
pub statement_parted : (b rest : List ℕ) (chunks : List (List ℕ)) (n number w x y z : ℕ) → rest ≡ drop 4 b → number ≡ bundle_number b
    → chunks ≡ first_chunks 8 n rest → 4 ≤ n
    → w ≡ word_at (get_or chunks 0 []) 0 → x ≡ word_at (get_or chunks 1 []) 0 → y ≡ word_at (get_or chunks 2 []) 0 → z ≡ word_at (get_or chunks 3 []) 0
    → ◌≡◌ {A = Statement} (record { mark = bundle_mark b; house = bundle_house b; number = number; digest = record { words = w ∷ x ∷ y ∷ z ∷ [] } }) (bundle_statement b)
unfolding bundle_statement
statement_parted b rest chunks n number w x y z parted numbered chunked enough ew ex ey ez =
    let same : ◌≡◌ {A = List ℕ} (w ∷ x ∷ y ∷ z ∷ []) (words_of chunks) = four ew ex ey ez in
    let words = same ∙ ap words_of chunked ∙ chunk_words rest n enough ∙ ap (λ (v : List ℕ). word_at v 0 ∷ word_at v 8 ∷ word_at v 16 ∷ word_at v 24 ∷ []) parted ∙ words_behind b in
    ap₂ (λ (n : ℕ) (v : List ℕ). record { mark = bundle_mark b; house = bundle_house b; number = n; digest = record { words = v } }) numbered words
  where
    four : {a b c d e f g h : ℕ} → a ≡ e → b ≡ f → c ≡ g → d ≡ h → ◌≡◌ {A = List ℕ} (a ∷ b ∷ c ∷ d ∷ []) (e ∷ f ∷ g ∷ h ∷ [])
    four p q r s = cc
