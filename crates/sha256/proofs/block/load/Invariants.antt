use Rattle.std.proofs.Common.{◌≡◌, length, take}
use Rattle.sha256.specs.Schedule.{words}
use Rattle.sha256.proofs.block.load.Given as goal

abbrev pub invariant-loop-i : goal.invariant-loop-i
invariant-loop-i l = (length l.w ≡ 64) × (take l.i l.w ≡ words l.i l.block)
