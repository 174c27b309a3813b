-- The law for an exchange over a register of which no row is used.
use Rattle.witness.specs.Rules.{Ruling}
use Rattle.seal.specs.declared.register.Register.{Register}
use Rattle.seal.specs.Registers.{Unused, register}
use Rattle.exchange.specs.Law.{LawFrom}

-- with no condition on seals
abbrev pub LawUnused : Ruling → Type 0
LawUnused r = (e : Register) → Unused e → LawFrom r register e
