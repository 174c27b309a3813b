use Rattle.std.proofs.Common.{arith}
use Rattle.hmac.proofs.Masks.{masked_none, masked_more, masked_all}
use Rattle.hmac.proofs.key.mask.Goals as goal

pub loop-b-init : goal.loop-b-init
loop-b-init c = masked_none c.args.pad c.args.block.now

pub loop-b-preserved : goal.loop-b-preserved
loop-b-preserved c = masked_more c.args.pad c.loop-b.b-index c.args.block.now c.loop-b.b-items (omega arith) c.loop-b.invariant

pub returns : goal.returns
returns c = masked_all c.args.pad c.loop-b.b-index c.args.block.now c.loop-b.b-items (omega arith) c.loop-b.invariant
