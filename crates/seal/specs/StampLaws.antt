-- What every seal kind owes, of stamps.
use Rattle.std.specs.Prelude.{◌≡◌, ℕ, ◌+◌, ◌<◌, ◌≤◌, true, ◌&&◌, List, [], ◌++◌, length, take, drop, nat_lt, slice_index_or, refl}
use Rattle.std.proofs.Common.{ap, ap₂, ◌∙◌, lit≤}
use Rattle.std.proofs.lemmas.Slice.Eq.{bytes_eq-Decides}
use Rattle.std.proofs.lemmas.List.{take_at, drop_at}
use Rattle.std.proofs.lemmas.Bool.{and_parts, and_from, and_left, lt-ltb, le-ltb}
use Rattle.std.specs.Str.{bytes_eq}
use Rattle.hmac.specs.declared.prepared.PreparedKey.{PreparedKey}
use Rattle.hmac.specs.Hmac.{hmac_of_block}
use Rattle.sha256.proofs.Digests.{digest_bytes_length}
use Rattle.seal.specs.declared.statement.Statement.{Statement}
use Rattle.seal.specs.declared.stamps.Stamps.{Stamps}
use Rattle.seal.specs.Houses.{left_of, spent}
use Rattle.seal.specs.Meanings.{Sealed, Meant}
use Rattle.seal.specs.Statements.{statement_bytes}
use Rattle.seal.specs.StampKinds.{blocks_of, stamp_size, stamp_of, Stamped, stamps}
use Rattle.seal.specs.Fronts.{front_long}
use Rattle.seal.specs.Spending.{left_none, has_below, spent_falls, spent_others, spent_supply}

pub stamp_long : (keys : List PreparedKey) (i : ℕ) (x : Statement) → length (stamp_of keys i x) ≡ stamp_size
stamp_long keys i x = digest_bytes_length (hmac_of_block (slice_index_or (blocks_of keys) i []) (statement_bytes x))

sized : (s : Stamps) (i : ℕ) (x : Statement) (z : List ℕ) → stamps.checks s i x z ≡ true → length z ≡ stamp_size
sized s i x z checked =
    let stamp = stamp_of s.keys i x in
    let same = (and_parts (nat_lt i s.supply.houses) (bytes_eq z stamp) checked).1 in
    ap length ((bytes_eq-Decides z stamp).0 same) ∙ stamp_long s.keys i x

-- the state after a sign that is not refused
stamping : (s : Stamps) → ℕ → Stamps
stamping s i = record { supply = spent_supply s.supply i; keys = s.keys }

goes : (s : Stamps) (i : ℕ) (x : Statement) (m : List ℕ) → 0 < stamps.left s i → stamp_size ≤ length m → (s' : Stamps) × ((m' : List ℕ) × Stamped s i x m s' m')
unfolding stamping
goes s i x m had room =
    (stamping s i, (stamp_of s.keys i x ++ drop stamp_size m, record { had = had; room = room; same_houses = refl; same_keys = refl; spends = refl; writes = refl }))

module _ (s : Stamps) (i : ℕ) (x : Statement) (m : List ℕ) (s' : Stamps) (m' : List ℕ) (t : Stamped s i x m s' m') where
  -- the keys and the houses stay, and so what checks
  keeps : (k : ℕ) (y : Statement) (z : List ℕ) → stamps.checks s' k y z ≡ stamps.checks s k y z
  keeps k y z = ap₂ (λ (n : ℕ) (keys : List PreparedKey). nat_lt k n && bytes_eq z (stamp_of keys k y)) t.same_houses t.same_keys

  seals : stamps.checks s' i x (take stamp_size m') ≡ true
  seals =
      let stamp = stamp_of s.keys i x in
      let front = ap (take stamp_size) t.writes ∙ take_at stamp (drop stamp_size m) stamp_size (stamp_long s.keys i x) in
      keeps i x (take stamp_size m')
      ∙ and_from (nat_lt i s.supply.houses) (bytes_eq (take stamp_size m') stamp)
      (lt-ltb i s.supply.houses (has_below s.supply.houses s.supply.left i t.had))
      ((bytes_eq-Decides (take stamp_size m') stamp).1 front)

  -- what is left, by what was spent
  spends : (k : ℕ) → stamps.left s' k ≡ left_of s.supply.houses (spent s.supply.left i) k
  spends k = ap₂ (λ (n : ℕ) (left : List ℕ). left_of n left k) t.same_houses t.spends

  sound : Sealed stamps s i x m s' m'
  sound =
      let stamp = stamp_of s.keys i x in
      let long = stamp_long s.keys i x in
      record {
        seals = seals;
        keeps = λ k y z checked. keeps k y z ∙ checked;
        rest = ap (drop stamp_size) t.writes ∙ drop_at stamp (drop stamp_size m) stamp_size long;
        long = ap length t.writes ∙ front_long stamp m stamp_size long t.room;
        falls = ap (λ (n : ℕ). n + 1) (spends i) ∙ spent_falls s.supply.houses s.supply.left i t.had;
        others = λ k other. spends k ∙ spent_others s.supply.houses s.supply.left i k other;
        same_houses = t.same_houses;
      }

pub stamps_meant : Meant stamps
stamps_meant =
    record {
      least = lit≤ tt;
      most = lit≤ tt;
      sized = sized;
      none_left = λ s i h. left_none s.supply.houses s.supply.left i h;
      none_check = λ s i x z h. and_left (nat_lt i s.supply.houses) _ (le-ltb i s.supply.houses h);
      goes = goes;
      sound = sound;
    }
