-- A run in which the law's conditions hold and an honest house files.
use Rattle.std.specs.Prelude.{ℕ, ◌<◌, ◌≤◌, List, length}
use Rattle.sha256.specs.Text.{digest_of}
use Rattle.edition.specs.Pages.{most_bytes}
use Rattle.witness.specs.All.{all_ruling}
use Rattle.witness.specs.Rules.{Ruling}
use Rattle.seal.specs.declared.register.Register.{Register}
use Rattle.seal.specs.declared.table.Table.{Table}
use Rattle.seal.specs.Registers.{Unused, register, Begun}
use Rattle.exchange.specs.Stations.{fresh_station}
use Rattle.exchange.specs.Machine.{statement_of}
use Rattle.exchange.specs.Runs.{Event, World, Run, Some}
use Rattle.exchange.specs.Law.{Starts, Adds, Issues, Announces, Signs, FilesFrom, Honest, Conditions, Unforged}

-- the rule of one house, which does not misbehave
abbrev pub alone : Ruling
alone = all_ruling 1 0

-- the set of house 0 alone
abbrev pub only_zero : ℕ
only_zero = 1

-- house 0 announces pages p, notes them itself, gathers its receipt under name 0, and files the issued bundle
pub record RunThatFiles (p : List ℕ) (e : Register) : Type 0 where
  pub history : List Event
  pub world : World Register
  pub run : Run alone register e fresh_station history world
  pub met : Conditions alone fresh_station only_zero history
  pub unforged : Unforged alone fresh_station only_zero register e history world run
  -- house 0 is honest
  pub honest : Honest alone fresh_station only_zero 0
  pub announces : Some (Announces alone fresh_station 0 1 p) history
  pub signs : Some (Signs alone fresh_station 0 (statement_of alone 0 1 (digest_of p))) history
  pub starts : Some (Starts 0 0 1 (digest_of p)) history
  pub adds : Some (Adds 0 0) history
  pub bundle : List ℕ
  pub issues : Some (Issues 0 bundle) history
  pub files : Some (FilesFrom alone fresh_station 0 0 1 bundle p) history

-- over every register of which no row is used and in which house 0 has a seal left, with any pages within bounds
abbrev pub ConditionsCanHold : Type 0
ConditionsCanHold = (p : List ℕ) (e : Register) → length p ≤ most_bytes → Unused e → 0 < register.left e 0 → RunThatFiles p e

-- so over every register as it is opened with a house and a seal for it
abbrev pub ConditionsCanHoldOpened : Type 0
ConditionsCanHoldOpened =
    (p : List ℕ) (e : Register) (n each : ℕ) (table : Table) → length p ≤ most_bytes → Begun e n each table → 0 < n → 0 < each → RunThatFiles p e
