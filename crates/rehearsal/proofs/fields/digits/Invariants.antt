use Rattle.std.proofs.Common.{◌≡◌, drop}
use Rattle.rehearsal.specs.Fields.{read_on}
use Rattle.rehearsal.proofs.fields.digits.Given as goal

abbrev pub invariant-loop-byte : goal.invariant-loop-byte
invariant-loop-byte l = read_on 0 l.field ≡ read_on l.value (drop l.byte-index l.field)
