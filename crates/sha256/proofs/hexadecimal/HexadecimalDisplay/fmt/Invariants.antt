use Rattle.std.specs.Fmt.{HasWritten, IsPlainFormatter}
use Rattle.sha256.specs.Text.{hex}
use Rattle.sha256.proofs.hexadecimal.HexadecimalDisplay.fmt.Given as goal

abbrev pub invariant-loop-byte : goal.invariant-loop-byte
invariant-loop-byte g l = IsPlainFormatter l.initial.f → HasWritten g.W.Write.write_str_gives l.initial.f (hex l.yielded) l.f
