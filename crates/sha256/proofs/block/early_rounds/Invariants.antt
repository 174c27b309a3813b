use Rattle.std.proofs.Common.{◌≡◌, ◌+◌, length, take}
use Rattle.sha256.specs.Schedule.{scheduled}
use Rattle.sha256.specs.Compression.{rounds}
use Rattle.sha256.proofs.block.early_rounds.Given as goal

abbrev pub invariant-loop-t : goal.invariant-loop-t
invariant-loop-t l =
    (length l.w ≡ 64)
    × (take (l.t + 16) l.w ≡ scheduled l.t (take 16 l.initial.w))
    × (l.s ≡ rounds l.t l.initial.s (scheduled 48 (take 16 l.initial.w)))
