use Rattle.std.proofs.Common.{◌≡◌, ◌*◌, length, take}
use Rattle.sha256.specs.Text.{hex}
use Rattle.sha256.proofs.value.Digest.text.Given as goal

abbrev pub invariant-loop-i : goal.invariant-loop-i
invariant-loop-i l = (length l.text ≡ 64) × (take (2 * l.i) l.text ≡ hex (take l.i l.bytes))
