-- What stamps mean.
use Rattle.std.specs.Prelude.{◌≡◌, ℕ, ◌*◌, ◌<◌, ◌≤◌, ◌&&◌, List, [], ◌++◌, map, length, take, drop, Ok, Result, ◌==◌, nat_lt, slice_index_or}
use Rattle.std.specs.Str.{bytes_eq}
use Rattle.hmac.specs.declared.prepared.PreparedKey.{PreparedKey}
use Rattle.hmac.specs.Hmac.{hmac_of_block}
use Rattle.hmac.specs.Key.{key_block}
use Rattle.refusal.specs.Questions.{ask}
use Rattle.refusal.specs.declared.Refusal.{Refusal}
use Rattle.refusal.specs.declared.Refusal.TheVariants.{HouseCount, SealMemory}
use Rattle.sha256.specs.Text.{digest_bytes}
use Rattle.seal.specs.declared.statement.Statement.{Statement}
use Rattle.seal.specs.declared.stamps.Stamps.{Stamps}
use Rattle.seal.specs.Houses.{house_count, shares, left_of, spent}
use Rattle.seal.specs.Meanings.{Meaning}
use Rattle.seal.specs.Statements.{statement_bytes}

-- how many bytes a key and a stamp have
abbrev pub key_size : ℕ
key_size = 32

abbrev pub stamp_size : ℕ
stamp_size = 32

-- how many seals each house begins with
abbrev pub most_stamps : ℕ
most_stamps = 65535

-- the blocks of the keys
abbrev pub blocks_of : List PreparedKey → List (List ℕ)
blocks_of keys = map (λ (k : PreparedKey). k.block) keys

-- the 32 bytes of the stamp under a house's key
abbrev pub stamp_of : List PreparedKey → ℕ → Statement → List ℕ
stamp_of keys i x = digest_bytes (hmac_of_block (slice_index_or (blocks_of keys) i []) (statement_bytes x))

-- a taken sign: the stamp in front, one seal less for the house
pub record Stamped (s : Stamps) (house : ℕ) (x : Statement) (m : List ℕ) (s' : Stamps) (m' : List ℕ) : Type 0 where
  pub had : 0 < left_of s.supply.houses s.supply.left house
  pub room : stamp_size ≤ length m
  pub same_houses : s'.supply.houses ≡ s.supply.houses
  pub same_keys : s'.keys ≡ s.keys
  pub spends : s'.supply.left ≡ spent s.supply.left house
  pub writes : m' ≡ stamp_of s.keys house x ++ drop stamp_size m

abbrev pub stamps : Meaning Stamps
stamps =
    record {
      size = stamp_size;
      houses = λ s. s.supply.houses;
      checks = λ s i x z. nat_lt i s.supply.houses && bytes_eq z (stamp_of s.keys i x);
      left = λ s i. left_of s.supply.houses s.supply.left i;
      signs = Stamped;
    }

-- is the number of houses from 1 to 16? are there 32 key bytes for each?
abbrev pub stamps_asked : ℕ → ℕ → Result (Unit {0}) Refusal
stamps_asked n bytes = ask (house_count n) HouseCount (ask (bytes == key_size * n) SealMemory (Ok tt))

-- the key of a house, from the keys of all in order
abbrev pub key_at : List ℕ → ℕ → List ℕ
key_at keys i = take key_size (drop (key_size * i) keys)

-- stamps of n houses, as they are made from their keys
pub record Keyed (s : Stamps) (n : ℕ) (keys : List ℕ) : Type 0 where
  pub of_houses : s.supply.houses ≡ n
  pub all_left : s.supply.left ≡ shares n most_stamps
  pub of_keys : (i : ℕ) → i < n → slice_index_or (blocks_of s.keys) i [] ≡ key_block (key_at keys i)
