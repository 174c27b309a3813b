use Rattle.std.proofs.Common.{◌≡◌, ◌+◌, length}
use Rattle.sha256.specs.declared.state.State.{State}
use Rattle.sha256.specs.Compression.{rounds}
use Rattle.sha256.proofs.block.late_rounds.Given as goal

abbrev pub invariant-loop-k : goal.invariant-loop-k
invariant-loop-k l = (start : State) → l.initial.s ≡ rounds 48 start l.w → l.s ≡ rounds (48 + length l.yielded) start l.w
