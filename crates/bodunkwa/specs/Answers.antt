-- What the functions for C answer, and what they leave in the memory that they are lent.
use Rattle.std.specs.Prelude.{◌≡◌, ℕ, ◌⊎◌, List, ◌++◌, length, drop, Ok, Err, Result, nat_le}
use Rattle.refusal.specs.Questions.{ask, after}
use Rattle.refusal.specs.Numbers.{number_of}
use Rattle.refusal.specs.declared.Refusal.{Refusal}
use Rattle.refusal.specs.declared.Refusal.TheVariants.{MemoryTooSmall, PagesTooLong}
use Rattle.edition.specs.Pages.{most_bytes}
use Rattle.sha256.specs.Text.{digest_of, digest_bytes}
use Rattle.hmac.specs.Hmac.{hmac_of}
use Rattle.seal.specs.Statements.{statement_length}

-- an answer as C is given it: 0, or the refusal's number
abbrev pub number : Result (Unit {0}) Refusal → ℕ
number (Ok x) = 0
number (Err e) = number_of e

-- the bytes of a digest
abbrev pub digest_size : ℕ
digest_size = 32

-- are the pages within bounds? has the memory the bytes of a digest?
abbrev pub digest_answer : List ℕ → List ℕ → Result (Unit {0}) Refusal
digest_answer pages memory = ask (nat_le (length pages) most_bytes) PagesTooLong (ask (nat_le digest_size (length memory)) MemoryTooSmall (Ok tt))

-- the digest's bytes at the front and the rest as it was
abbrev pub digest_memory : List ℕ → List ℕ → List ℕ
digest_memory pages memory = after (digest_answer pages memory) (λ _. digest_bytes (digest_of pages) ++ drop digest_size memory) memory

-- the bytes of a house's key for stamps
abbrev pub key_size : ℕ
key_size = 32

-- key and statement have their lengths, and the stamp is the statement's HMAC under the key, which has 32 bytes
abbrev pub StampChecks : List ℕ → List ℕ → List ℕ → Type 0
StampChecks key statement stamp =
    (length key ≡ key_size) × (length statement ≡ statement_length) × (stamp ≡ digest_bytes (hmac_of key statement))

-- a yes or no as C is given it: 1 where the fact holds, 0 where it does not
abbrev pub OneWhere : Type 0 → ℕ → Type 0
OneWhere P r = ((r ≡ 1) × P) ⊎ ((r ≡ 0) × (P → ⊥))
