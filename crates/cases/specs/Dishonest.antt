-- A run with a house that is not honest, in which the law's conditions hold and an honest house files.
use Rattle.std.specs.Prelude.{◌≡◌, ℕ, ◌<◌, ◌≤◌, List, [], ◌∷◌, length, Ok, Err, ◌≢◌}
use Rattle.refusal.specs.Questions.{whole}
use Rattle.refusal.specs.declared.Refusal.TheVariants.{OtherDigestNoted}
use Rattle.sha256.specs.Text.{digest_of}
use Rattle.edition.specs.Pages.{most_bytes}
use Rattle.witness.specs.All.{all_ruling}
use Rattle.witness.specs.Rules.{Ruling}
use Rattle.seal.specs.declared.register.Register.{Register}
use Rattle.seal.specs.declared.statement.Statement.{Statement}
use Rattle.seal.specs.declared.table.Table.{Table}
use Rattle.seal.specs.Registers.{Unused, register, Begun}
use Rattle.exchange.specs.Stations.{fresh_station}
use Rattle.exchange.specs.Machine.{statement_of}
use Rattle.exchange.specs.Runs.{Event, noted, signed, World, Run, Some}
use Rattle.exchange.specs.Law.{Starts, Adds, Issues, Announces, Signs, FilesFrom, Honest, Conditions, Unforged}

-- the rule of four houses, of which one may misbehave
abbrev pub four : Ruling
four = all_ruling 4 1

-- the set of houses 0, 1 and 2
abbrev pub all_but_three : ℕ
all_but_three = 7

-- the statement that number 1 of house 0 has the digest of pages p
abbrev pub states : List ℕ → Statement
states p = statement_of four 0 1 (digest_of p)

-- memory for one seal
abbrev pub seal_memory : List ℕ
seal_memory = 0 ∷ 0 ∷ []

-- the very call c is in the history
abbrev pub Called : Event → List Event → Type 0
Called c h = Some (λ b. b ≡ c) h

-- House 0 announces pages p, and the honest houses note them. House 3 signs both their digest and that of pages q. House 1 is handed both
-- in the name of house 3 for number 1, notes the one and refuses the other. The receipts of houses 0, 2 and 3 are gathered under name 0,
-- and house 1 files the issued bundle with pages p.
pub record RunWithTwoDigests (p q : List ℕ) (e : Register) : Type 0 where
  pub history : List Event
  pub world : World Register
  pub run : Run four register e fresh_station history world
  pub met : Conditions four fresh_station all_but_three history
  pub unforged : Unforged four fresh_station all_but_three register e history world run
  -- houses 0, 1 and 2 are honest, and house 3 is not
  pub honest : (i : ℕ) → i < 3 → Honest four fresh_station all_but_three i
  pub dishonest : Honest four fresh_station all_but_three 3 → ⊥
  pub announces : Some (Announces four fresh_station 0 1 p) history
  pub signs : (i : ℕ) → i < 3 → Some (Signs four fresh_station i (states p)) history
  -- house 3 signs both digests for number 1 of house 0
  pub one_seal : List ℕ
  pub signs_one : Called (signed 3 (states p) seal_memory (Ok tt) one_seal) history
  pub other_seal : List ℕ
  pub signs_other : Called (signed 3 (states q) seal_memory (Ok tt) other_seal) history
  -- for number 1 of house 3, house 1 notes the digest of p, and refuses that of q with refusal 13
  pub notes : Some (Signs four fresh_station 1 (statement_of four 3 1 (digest_of p))) history
  pub refuses : Called (noted 1 3 1 (digest_of q) seal_memory (Err (whole OtherDigestNoted)) seal_memory) history
  pub starts : Some (Starts 0 0 1 (digest_of p)) history
  pub adds_zero : Some (Adds 0 0) history
  pub adds_two : Some (Adds 0 2) history
  pub adds_three : Some (Adds 0 3) history
  pub bundle : List ℕ
  pub issues : Some (Issues 0 bundle) history
  pub files : Some (FilesFrom four fresh_station 1 0 1 bundle p) history

-- over every register of which no row is used and in which each of the four houses has two seals left, with any pages within bounds and
-- any pages of another digest
abbrev pub OneCanBeDishonest : Type 0
OneCanBeDishonest =
    (p q : List ℕ) (e : Register) → length p ≤ most_bytes → (digest_of p ≢ digest_of q) → Unused e
    → ((i : ℕ) → i < 4 → 2 ≤ register.left e i) → RunWithTwoDigests p q e

-- so over every register as it is opened with four houses or more and two seals for each
abbrev pub OneCanBeDishonestOpened : Type 0
OneCanBeDishonestOpened =
    (p q : List ℕ) (e : Register) (n each : ℕ) (table : Table) → length p ≤ most_bytes → (digest_of p ≢ digest_of q) → Begun e n each table
    → 4 ≤ n → 2 ≤ each → RunWithTwoDigests p q e
