use Rattle.std.proofs.Common.{sym, ap, ◌∙◌}
use Rattle.sha256.specs.Schedule.{scheduled}
use Rattle.sha256.specs.Compression.{rounds}
use Rattle.sha256.proofs.Compression.{compressed_by}
use Rattle.sha256.proofs.block.compress.Goals as goal

pub returns : goal.returns
returns c =
    let early = c.early_rounds-early in
    let start = c.args.start in
    compressed_by start early.result c.late_rounds.result c.add.result early.new.w c.args.block.now
    (early.ensures.schedule ∙ ap (scheduled 48) c.load.ensures)
    (early.ensures.state ∙ ap (rounds 48 start) (sym early.ensures.schedule))
    (c.late_rounds.ensures start)
    c.add.ensures
