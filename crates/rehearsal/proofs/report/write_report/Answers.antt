use Rattle.std.proofs.Common.{ℕ, List, ◌++◌, string_bytes, sym, ap, ◌∙◌, append-nil}
use Rattle.rehearsal.proofs.Steps.{lines_end, report_step}
use Rattle.rehearsal.proofs.report.write_report.Goals as goal

pub loop-line-preserved : goal.loop-line-preserved
loop-line-preserved c =
    report_step (string_bytes c.loop-line.text) _ c.args.lines.now c.loop-line.line-index _ c.loop-line-test.true c.in_ok-writeln.ensures.bytes c.loop-line.invariant

pub returns : goal.returns
returns c =
    sym (append-nil (string_bytes c.loop-line.text))
    ∙ (ap (λ (b : List ℕ). string_bytes c.loop-line.text ++ b) (sym (lines_end c.args.lines.now c.loop-line.line-index c.loop-line-test.false))
    ∙ c.loop-line.invariant)
