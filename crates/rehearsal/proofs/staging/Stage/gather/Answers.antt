use Rattle.std.proofs.Common.{ap, ◌∙◌}
use Rattle.std.proofs.lemmas.Result.{err_from_is_err_and}
use Rattle.seal.specs.Registers.{entries_of}
use Rattle.rehearsal.proofs.Gathers.{rows_on, rows_stop, rows_done}
use Rattle.rehearsal.proofs.staging.Stage.gather.Goals as goal

pub returns-in_err-add_row : goal.returns-in_err-add_row
returns-in_err-add_row g c =
    let p = err_from_is_err_and c.from_residual.result c.from_residual.ensures.1 in
    rw (p.1, p.2)
    (c.loop-i.invariant
    ∙ rows_stop (g.R.Rule.ruling c.args.self.now.exchange.rule) c.args.self.now.exchange.seal c.args.statement _ (c.entries-rows.ensures ∙ ap entries_of c.seal.ensures)
    c.loop-i.i _ c.loop-i.gathering c.loop-i.memory c.in_err-add_row.field-0.0 c.loop-i-test.true c.in_err-add_row.ensures)

pub loop-i-preserved : goal.loop-i-preserved
loop-i-preserved g c =
    c.loop-i.invariant
    ∙ rows_on (g.R.Rule.ruling c.args.self.now.exchange.rule) c.args.self.now.exchange.seal c.args.statement _ (c.entries-rows.ensures ∙ ap entries_of c.seal.ensures)
    c.loop-i.i _ c.loop-i.gathering _ c.loop-i.memory _ c.loop-i-test.true c.in_ok-add_row.ensures

pub returns : goal.returns
returns g c =
    c.loop-i.invariant
    ∙ rows_done (g.R.Rule.ruling c.args.self.now.exchange.rule) c.args.self.now.exchange.seal c.args.statement _ (c.entries-rows.ensures ∙ ap entries_of c.seal.ensures)
    c.loop-i.i c.loop-i.gathering c.loop-i.memory c.loop-i-test.false
