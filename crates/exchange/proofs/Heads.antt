-- What is read from a bundle that begins with a head.
use Rattle.std.proofs.Common.{◌≡◌, ℕ, ◌/◌, ◌%◌, ◌^◌, ◌<◌, true, List, [], ◌∷◌, ◌++◌, length, get_or, sym, refl, ap, ◌∙◌, subst, arith}
use Rattle.std.proofs.lemmas.Bool.{eq-eqb, and_from}
use Rattle.sha256.specs.Padding.{bytes8}
use Rattle.sha256.specs.Text.{bytes32, digest_of}
use Rattle.sha256.specs.declared.value.Digest.{Digest}
use Rattle.sha256.proofs.Digests.{digest_words_fit}
use Rattle.edition.specs.Numbers.{number_from}
use Rattle.seal.specs.Statements.{laid_out}
use Rattle.seal.specs.declared.statement.Statement.{Statement}
use Rattle.exchange.specs.Stations.{same_digest}
use Rattle.exchange.specs.Layout.{head_length, head_bytes, word_at, bundle_mark, bundle_house, bundle_number, bundle_digest, bundle_statement, bundle_count}

pub head_long : (x : Statement) (c : ℕ) → length (head_bytes x c) ≡ head_length
unfolding laid_out bytes32
head_long x c = refl

pub counted : (x : Statement) (c : ℕ) (rest : List ℕ) → bundle_count (head_bytes x c ++ rest) ≡ c
unfolding laid_out bytes32
counted x c rest = refl

pub marked : (x : Statement) (c : ℕ) (rest : List ℕ) → bundle_mark (head_bytes x c ++ rest) ≡ x.mark
unfolding laid_out bytes32
marked x c rest = refl

pub housed : (x : Statement) (c : ℕ) (rest : List ℕ) → bundle_house (head_bytes x c ++ rest) ≡ x.house
unfolding laid_out bytes32
housed x c rest = refl

number_back : (n : ℕ) → number_from (n / 256) (n % 256) ≡ n
number_back n = omega arith

pub numbered : (x : Statement) (c : ℕ) (rest : List ℕ) → bundle_number (head_bytes x c ++ rest) ≡ x.number
unfolding laid_out bytes32
numbered x c rest = number_back x.number

-- eight bytes are the word that they were made of
word_back : (n : ℕ) → n < 2 ^ 64 → word_at (bytes8 n) 0 ≡ n
word_back n h = omega arith

-- a digest's first four words, as a digest
abbrev four : Digest → Digest
four d = record { words = get_or d.words 0 0 ∷ get_or d.words 1 0 ∷ get_or d.words 2 0 ∷ get_or d.words 3 0 ∷ [] }

words_back : (x : Statement) (c : ℕ) (rest : List ℕ) → ((i : ℕ) → get_or x.digest.words i 0 < 2 ^ 64) → bundle_digest (head_bytes x c ++ rest) ≡ four x.digest
unfolding laid_out bytes32
words_back x c rest fit =
    let word = λ (i : ℕ). word_back (get_or x.digest.words i 0) (fit i) in
    λ t. record { words = word 0 t ∷ word 1 t ∷ word 2 t ∷ word 3 t ∷ [] }

-- the digest of pages reads back
pub digested : (p : List ℕ) (x : Statement) (c : ℕ) (rest : List ℕ) → digest_of p ≡ x.digest → bundle_digest (head_bytes x c ++ rest) ≡ x.digest
digested p x c rest e =
    words_back x c rest (λ i. subst (λ (d : Digest). get_or d.words i 0 < 2 ^ 64) e (digest_words_fit p i)) ∙ ap four (sym e) ∙ e

-- and with it the whole statement
pub stated : (p : List ℕ) (x : Statement) (c : ℕ) (rest : List ℕ) → digest_of p ≡ x.digest → bundle_statement (head_bytes x c ++ rest) ≡ x
unfolding bundle_statement
stated p x c rest e = λ t. record { mark = marked x c rest t; house = housed x c rest t; number = numbered x c rest t; digest = digested p x c rest e t }

pub same_digests : (x y : Digest) → x ≡ y → same_digest x y ≡ true
same_digests x y e =
    let word = λ (i : ℕ). eq-eqb (get_or x.words i 0) (get_or y.words i 0) (ap (λ (d : Digest). get_or d.words i 0) e) in
    and_from _ _ (and_from _ _ (and_from _ _ (word 0) (word 1)) (word 2)) (word 3)
