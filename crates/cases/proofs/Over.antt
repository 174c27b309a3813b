-- The law of a lawful rule, over each seal kind.
use Rattle.witness.specs.Rules.{Ruling, Lawful}
use Rattle.seal.specs.Registers.{register}
use Rattle.seal.specs.StampKinds.{stamps}
use Rattle.seal.specs.RegisterLaws.{register_meant}
use Rattle.seal.specs.StampLaws.{stamps_meant}
use Rattle.exchange.specs.Law.{Law}
use Rattle.cases.specs.Unused.{LawUnused}
use Rattle.exchange.proofs.Law.{the_law}
use Rattle.cases.proofs.Forging.{law_from}

-- a lawful rule over each kind
module _ {r : Ruling} (lawful : Lawful r) where
  pub over_stamps : Law r stamps
  over_stamps = the_law lawful stamps_meant

  pub over_register : Law r register
  over_register = the_law lawful register_meant

  pub over_unused : LawUnused r
  over_unused = law_from over_register
