use Rattle.std.proofs.Common.{◌∙◌}
use Rattle.seal.specs.Statements.{statement_length, statement_bytes}
use Rattle.seal.proofs.Statements.{statement_bytes_length}
use Rattle.exchange.proofs.Receipts.{head_written}
use Rattle.exchange.proofs.layout.write_head.Goals as goal

pub returns : goal.returns
returns c =
    let x = c.args.statement in
    head_written c.args.memory.now (statement_bytes x) c.copy_from_slice.new.self c.args.count statement_length
    c.requires (statement_bytes_length x) (c.copy_from_slice.ensures.after ∙ c.bytes.ensures)
