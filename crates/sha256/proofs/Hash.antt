-- Laws of the fold over blocks: one block more, and a message in two parts.
use Rattle.std.specs.Prelude.{fold}
use Rattle.std.specs.Simd.{first_chunks}
use Rattle.std.proofs.Common.{◌≡◌, ℕ, zero, suc, ◌+◌, ◌*◌, ◌%◌, ◌^◌, ◌≤◌, List, [], ◌++◌, length, take, drop, sym, refl, ap, ◌∙◌, ap₂, add-zero, add-suc, zero-add, add-one, arith, length-append, length-drop}
use Rattle.std.proofs.lemmas.List.{append_assoc, take-append-le, drop-append-le, drop-drop, drop_all, take_all, take-take, drop-take}
use Rattle.sha256.specs.declared.state.State.{State}
use Rattle.sha256.specs.Constants.{initial}
use Rattle.sha256.specs.Compression.{compressed}
use Rattle.sha256.specs.Padding.{padding, suffix, zeros, blocks, block}
use Rattle.sha256.specs.Hash.{hashed, folded, resumed, sha256}

pub hashed_none : (s : State) (m : List ℕ) → hashed 0 s m ≡ s
unfolding hashed
hashed_none s m = refl

pub hashed_more : (n : ℕ) (s : State) (m : List ℕ) → hashed (n + 1) s m ≡ compressed (hashed n s m) (block m n)
unfolding hashed
hashed_more n s m = ap (λ (k : ℕ). hashed k s m) (add-one n)

block_front : (i : ℕ) (a b : List ℕ) → 64 * i + 64 ≤ length a → block (a ++ b) i ≡ block a i
block_front i a b h =
    let start : 64 * i ≤ length a = omega arith in
    let long : 64 ≤ length (drop (64 * i) a) = simp length-drop (omega arith) in
    rw (drop-append-le, take-append-le)

-- blocks that lie in the first part do not see the second
hashed_front : (n : ℕ) (s : State) (a b : List ℕ) → 64 * n ≤ length a → hashed n s (a ++ b) ≡ hashed n s a
unfolding hashed
hashed_front zero s a b h = refl
hashed_front (suc n) s a b h = ap₂ compressed (hashed_front n s a b (omega arith)) (block_front n a b (omega arith))

hashed_split : (k n : ℕ) (s : State) (m : List ℕ) → hashed (n + k) s m ≡ hashed k (hashed n s m) (drop (64 * n) m)
unfolding hashed
hashed_split zero n s m = ap (λ (j : ℕ). hashed j s m) (add-zero n)
hashed_split (suc k) n s m =
    let place : 64 * (n + k) ≡ 64 * n + 64 * k = omega arith in
    ap (λ (j : ℕ). hashed j s m) (add-suc n k)
    ∙ ap₂ compressed (hashed_split k n s m) (ap (λ (j : ℕ). take 64 (drop j m)) place ∙ ap (take 64) (sym (drop-drop (64 * k) (64 * n) m)))

-- the whole blocks of the first part, then what it leaves before the second
pub folded_append : (s : State) (a b : List ℕ) → folded s (a ++ b) ≡ folded (folded s a) (drop (64 * blocks a) a ++ b)
folded_append s a b =
    let n = blocks a in
    let rest = drop (64 * n) a ++ b in
    let inside : 64 * n ≤ length a = omega arith in
    let count : blocks (a ++ b) ≡ n + blocks rest = simp (length-append, length-drop) (omega arith) in
    ap (λ (k : ℕ). hashed k s (a ++ b)) count
    ∙ hashed_split (blocks rest) n s (a ++ b)
    ∙ ap₂ (λ (t : State) (m : List ℕ). hashed (blocks rest) t m) (hashed_front n s a b inside) (drop-append-le (64 * n) a b inside)

-- a message of one block
pub folded_one : (s r : State) (tail m : List ℕ) → length m ≡ 64 → take 64 tail ≡ m → r ≡ compressed s (take 64 tail) → r ≡ folded s m
folded_one s r tail m long e step =
    let count : blocks m ≡ 1 = omega arith in
    let first : take 64 tail ≡ block m 0 = e ∙ sym (take_all 64 m (omega arith)) in
    let none = hashed_none s m in
    let more = hashed_more 0 s m in
    let all = ap (λ (k : ℕ). hashed k s m) count in
    cc

-- a message of two
pub folded_two : (s mid r : State) (tail m : List ℕ) → length m ≡ 128 → take 128 tail ≡ m → mid ≡ compressed s (take 64 tail) → r ≡ compressed mid (take 64 (drop 64 tail)) → r ≡ folded s m
folded_two s mid r tail m long e step again =
    let count : blocks m ≡ 2 = omega arith in
    let first : take 64 tail ≡ block m 0 = sym (take-take 64 128 tail (omega arith)) ∙ ap (take 64) e in
    let second : take 64 (drop 64 tail) ≡ block m 1 = sym (take-take 64 64 (drop 64 tail) (omega arith)) ∙ ap (take 64) (sym (drop-take 64 64 tail)) ∙ ap (λ (v : List ℕ). take 64 (drop 64 v)) e in
    let none = hashed_none s m in
    let more = hashed_more 0 s m in
    let twice = hashed_more 1 s m in
    let all = ap (λ (k : ℕ). hashed k s m) count in
    cc

-- the rest of a message, in its whole blocks and its padded end
pub resumed_by : (start mid r : State) (before bits : ℕ) (m rest : List ℕ)
    → mid ≡ folded start m → rest ≡ drop (64 * blocks m) m → bits ≡ 8 * (64 * before + length m) % 2 ^ 64
    → r ≡ folded mid (rest ++ padding (zeros (length rest)) bits) → r ≡ resumed start before m
unfolding resumed
resumed_by start mid r before bits m rest middle left total end =
    let long : length rest ≡ length m % 64 = ap length left ∙ length-drop (64 * blocks m) m ∙ omega arith in
    let same-zeros : zeros (length rest) ≡ zeros (64 * before + length m) = omega arith in
    end
    ∙ ap₂ (λ (z b : ℕ). folded mid (rest ++ padding z b)) same-zeros total
    ∙ ap₂ (λ (t : State) (v : List ℕ). folded t (v ++ suffix (64 * before + length m))) middle left
    ∙ sym (folded_append start m (suffix (64 * before + length m)))

pub sha256_resumed : (m : List ℕ) → resumed initial 0 m ≡ sha256 m
unfolding resumed sha256
sha256_resumed m = ap (λ (total : ℕ). folded initial (m ++ suffix total)) (zero-add (length m))

-- a message that begins with a block which is hashed already
pub sha256_after : (b m : List ℕ) → length b ≡ 64 → resumed (compressed initial b) 1 m ≡ sha256 (b ++ m)
unfolding resumed sha256
sha256_after b m long =
    let total : 64 * 1 + length m ≡ length (b ++ m) = simp length-append (omega arith) in
    let end = suffix (length (b ++ m)) in
    let block-hashed : compressed initial b ≡ folded initial b = folded_one initial (compressed initial b) b b long (take_all 64 b (omega arith)) (ap (compressed initial) (sym (take_all 64 b (omega arith)))) in
    let spent : drop (64 * blocks b) b ≡ [] = drop_all (64 * blocks b) b (omega arith) in
    ap₂ (λ (s : State) (n : ℕ). folded s (m ++ suffix n)) block-hashed total
    ∙ ap (λ (v : List ℕ). folded (folded initial b) (v ++ (m ++ end))) (sym spent)
    ∙ sym (folded_append initial b (m ++ end))
    ∙ ap (folded initial) (sym (append_assoc b m end))

-- the whole blocks of a message, folded one after the other
pub folded_blocks : (n : ℕ) (s : State) (m : List ℕ) → fold compressed s (first_chunks 64 n m) ≡ hashed n s m
folded_blocks zero s m = sym (hashed_none s m)
folded_blocks (suc n) s m =
    let first = hashed_more 0 s m in
    let none = hashed_none s m in
    let one : hashed 1 s m ≡ compressed s (take 64 m) = cc in
    folded_blocks n (compressed s (take 64 m)) (drop 64 m)
    ∙ ap (λ (t : State). hashed n t (drop 64 m)) (sym one)
    ∙ sym (hashed_split n 1 s m)
    ∙ ap (λ (k : ℕ). hashed k s m) (omega arith)
