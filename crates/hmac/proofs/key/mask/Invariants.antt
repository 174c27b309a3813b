use Rattle.std.proofs.Common.{◌≡◌}
use Rattle.hmac.proofs.Masks.{masked_until}
use Rattle.hmac.proofs.key.mask.Given as goal

abbrev pub invariant-loop-b : goal.invariant-loop-b
invariant-loop-b l = l.b-items ≡ masked_until l.pad l.b-index l.block
