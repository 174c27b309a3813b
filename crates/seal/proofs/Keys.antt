-- Keys that are made ready one by one.
use Rattle.std.proofs.Common.{◌≡◌, ℕ, zero, suc, ◌+◌, ◌*◌, ◌/◌, ◌<◌, ◌≤◌, List, [], length, get_or, ⊎_elim, sym, ap, ◌∙◌, subst, arith}
use Rattle.std.proofs.lemmas.Bool.{cases_eq}
use Rattle.std.proofs.lemmas.List.{get_or-map}
use Rattle.std.specs.Array.{IsFromFnResultFrom}
use Rattle.std.specs.Simd.{first_chunks}
use denote.Param.Members.{Mut, Called}
use Rattle.sha256.proofs.Schedule.{chunk_at}
use Rattle.hmac.specs.declared.prepared.PreparedKey.{PreparedKey}
use Rattle.seal.specs.StampKinds.{key_size, blocks_of, key_at}

-- the block of a key that was read
pub block_at : (keys : List PreparedKey) (i : ℕ) (d : PreparedKey) {k : ℕ} → i ≡ k → i < length keys → (get_or keys i d).block ≡ get_or (blocks_of keys) k []
block_at keys i d same h = let block : PreparedKey → List ℕ = λ k. k.block in sym (get_or-map block keys i d [] h) ∙ ap (λ (v : ℕ). get_or (blocks_of keys) v []) same

-- what a closure that does not change gives at each number
module _ {F B : Type 0} (g : Mut F (ℕ × Unit {0}) B) (f : F) (P : ℕ → B → Type 0) (gives : (i : ℕ) (y : B) (q : F) → Called g f (i, tt) y q → P i y × (q ≡ f)) (ys : List B) where
  pub each_given : (n i : ℕ) → IsFromFnResultFrom g f ys i n → (k : ℕ) → i ≤ k → k < i + n → (y : B) × (P k y × (get_or ys k y ≡ y))
  each_given zero i ran k low high = absurd (omega arith)
  each_given (suc n) i (q, y, written, call, rest) k low high =
      let here = gives i y q call in
      let after = subst (λ (s : F). IsFromFnResultFrom g s ys (i + 1) n) here.1 rest in
      ⊎_elim
      (λ same. subst (λ (j : ℕ). (x : B) × (P j x × (get_or ys j x ≡ x))) (sym same) (y, (here.0, written.0)))
      (λ other. each_given n (i + 1) after k (omega arith) (omega arith))
      (cases_eq k i)

-- a chunk of the keys is a key
pub key_chunk : (keys : List ℕ) (i : ℕ) → key_size * i + key_size ≤ length keys → get_or (first_chunks key_size (length keys / key_size) keys) i [] ≡ key_at keys i
key_chunk keys i whole = chunk_at key_size (length keys / key_size) i keys (omega arith)
