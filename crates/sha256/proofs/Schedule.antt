-- Laws of the schedule, one word at a time.
use Rattle.std.proofs.Common.{◌≡◌, ℕ, zero, suc, ◌+◌, ◌-◌, ◌<◌, ◌≢◌, List, [], ◌∷◌, ◌++◌, length, get_or, take, set, sym, refl, ap, ◌∙◌, add-zero, add-suc, zero-add, add-one, arith, drop, ◌*◌, w32}
use Rattle.std.specs.Prelude.{slice_index}
use Rattle.std.specs.Simd.{first_chunks}
use Rattle.std.specs.Int.{from_be_bytes}
use Rattle.std.proofs.lemmas.List.{drop-drop, get_or-drop, take_more_set, length_push, get_or-take, get_or-set_other, get_or_append_left}
use Rattle.sha256.specs.Schedule.{word, words, next, extended, scheduled}

pub words_none : (block : List ℕ) → words 0 block ≡ []
unfolding words
words_none block = refl

pub words_more : (n : ℕ) (block : List ℕ) → words (n + 1) block ≡ words n block ++ (word block n ∷ [])
unfolding words
words_more n block = ap (λ (k : ℕ). words k block) (add-one n)

pub words_set : (w block : List ℕ) (n : ℕ) → n < length w → take n w ≡ words n block → take (n + 1) (set w n (word block n)) ≡ words (n + 1) block
words_set w block n h e = take_more_set w n (word block n) h ∙ ap (λ (v : List ℕ). v ++ (word block n ∷ [])) e ∙ sym (words_more n block)

pub scheduled_none : (m : List ℕ) → scheduled 0 m ≡ m
unfolding scheduled
scheduled_none m = refl

pub scheduled_more : (n : ℕ) (m : List ℕ) → scheduled (n + 1) m ≡ extended (scheduled n m) n
unfolding scheduled
scheduled_more n m = ap (λ (k : ℕ). scheduled k m) (add-one n)

pub scheduled_length : (n : ℕ) (m : List ℕ) → length (scheduled n m) ≡ n + length m
unfolding scheduled
scheduled_length zero m = sym (zero-add (length m))
scheduled_length (suc n) m = length_push (scheduled n m) _ ∙ omega (arith, scheduled_length n m)

-- a word of the schedule stays as later ones are made
pub scheduled_keeps : (k n i : ℕ) (m : List ℕ) → length m ≡ 16 → i < n + 16 → get_or (scheduled (n + k) m) i 0 ≡ get_or (scheduled n m) i 0
unfolding scheduled
scheduled_keeps zero n i m e h = rw add-zero
scheduled_keeps (suc k) n i m e h =
    let within : i < length (scheduled (n + k) m) = omega (arith, scheduled_length (n + k) m) in
    rw add-suc (get_or_append_left (scheduled (n + k) m) _ 0 i within ∙ scheduled_keeps k n i m e h)

-- the next word is made from words that stand already
next_of_front : (w : List ℕ) (n : ℕ) → next w n ≡ next (take (n + 16) w) n
next_of_front w n =
    let a : n + 14 < n + 16 = omega arith in
    let b : n + 9 < n + 16 = omega arith in
    let c : n + 1 < n + 16 = omega arith in
    let d : n < n + 16 = omega arith in
    simp get_or-take

-- one turn of the loop that works the schedule out
pub scheduled_set : (w m : List ℕ) (n : ℕ) → n + 16 < length w → take (n + 16) w ≡ scheduled n m → take (n + 1 + 16) (set w (n + 16) (next w n)) ≡ scheduled (n + 1) m
scheduled_set w m n h e =
    ap (λ (k : ℕ). take k (set w (n + 16) (next w n))) (omega arith)
    ∙ take_more_set w (n + 16) (next w n) h
    ∙ ap (λ (x : ℕ). take (n + 16) w ++ (x ∷ [])) (next_of_front w n)
    ∙ ap (λ (v : List ℕ). extended v n) e
    ∙ sym (scheduled_more n m)

-- the word that the round after that turn reads
pub word_kept : (w m : List ℕ) (n y : ℕ) → n < 48 → length m ≡ 16 → take (n + 16) w ≡ scheduled n m → get_or (set w (n + 16) y) n 0 ≡ get_or (scheduled 48 m) n 0
word_kept w m n y h e s =
    let other : n ≢ n + 16 = omega arith in
    let front : n < n + 16 = omega arith in
    let rest : n + (48 - n) ≡ 48 = omega arith in
    get_or-set_other w (n + 16) n y 0 other
    ∙ sym (get_or-take (n + 16) w n 0 front)
    ∙ ap (λ (v : List ℕ). get_or v n 0) s
    ∙ sym (scheduled_keeps (48 - n) n n m e front)
    ∙ ap (λ (k : ℕ). get_or (scheduled k m) n 0) rest

-- a chunk of so many numbers, by its number
pub chunk_at : (n k i : ℕ) (m : List ℕ) → i < k → get_or (first_chunks n k m) i [] ≡ take n (drop (n * i) m)
chunk_at n zero i m h = absurd (omega arith)
chunk_at n (suc k) zero m h =
    let place : 0 ≡ n * 0 = omega arith in
    ap (λ (j : ℕ). take n (drop j m)) place
chunk_at n (suc k) (suc i) m h =
    let place : n + n * i ≡ n * suc i = omega arith in
    chunk_at n k i (drop n m) (omega arith) ∙ ap (take n) (drop-drop (n * i) n m ∙ ap (λ (j : ℕ). drop j m) place)

chunk_byte : (block : List ℕ) (n i j : ℕ) → i < n → j < 4 → slice_index (get_or (first_chunks 4 n block) i []) j ≡ slice_index block (4 * i + j)
chunk_byte block n i j h small = ap (λ (v : List ℕ). slice_index v j) (chunk_at 4 n i block h) ∙ get_or-take 4 (drop (4 * i) block) j 0 small ∙ get_or-drop (4 * i) block j 0

-- a word is read from a chunk of four bytes
pub chunk_word : (block : List ℕ) (n i x : ℕ) (chunks : List (List ℕ)) → chunks ≡ first_chunks 4 n block → i < n → x ≡ from_be_bytes w32 (get_or chunks i []) → x ≡ word block i
chunk_word block n i x chunks e h read =
    let first : slice_index (get_or (first_chunks 4 n block) i []) 0 ≡ slice_index block (4 * i) = chunk_byte block n i 0 h (omega arith) ∙ ap (slice_index block) (add-zero (4 * i)) in
    let second = chunk_byte block n i 1 h (omega arith) in
    let third = chunk_byte block n i 2 h (omega arith) in
    let fourth = chunk_byte block n i 3 h (omega arith) in
    read ∙ ap (λ (v : List (List ℕ)). from_be_bytes w32 (get_or v i [])) e ∙ omega (arith, first, second, third, fourth)
