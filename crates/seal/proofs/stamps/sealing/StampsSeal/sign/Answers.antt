use Rattle.std.proofs.Common.{length, ap, ◌∙◌, arith, length-take-le}
use Rattle.seal.specs.StampLaws.{stamp_long}
use Rattle.seal.proofs.stamps.sealing.StampsSeal.sign.Goals as goal

pub copy_from_slice-requires : goal.copy_from_slice-requires
copy_from_slice-requires c =
    let room = c.in_ok-ask.ensures.taken in
    let stamp = ap length c.stamp.ensures ∙ stamp_long c.args.self.now.keys c.args.house c.args.statement in
    let front = length-take-le 32 c.args.memory.now room.1 in
    omega arith
