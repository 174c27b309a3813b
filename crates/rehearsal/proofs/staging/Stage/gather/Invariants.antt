use Rattle.std.proofs.Common.{◌≡◌, ◌-◌}
use Rattle.seal.specs.Registers.{used}
use Rattle.rehearsal.specs.Bundles.{rows_from}
use Rattle.rehearsal.proofs.staging.Stage.gather.Given as goal

abbrev pub invariant-loop-i : goal.invariant-loop-i
invariant-loop-i g l =
    rows_from (g.R.Rule.ruling l.self.exchange.rule) l.self.exchange.seal l.statement (used l.self.exchange.seal) 0 l.initial.gathering l.initial.memory
    ≡ rows_from (g.R.Rule.ruling l.self.exchange.rule) l.self.exchange.seal l.statement (used l.self.exchange.seal - l.i) l.i l.gathering l.memory
