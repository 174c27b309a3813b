use Rattle.std.proofs.Common.{◌≡◌, length, vec_items, vec_len}
use Rattle.rehearsal.specs.Playing.{Ran}
use Rattle.rehearsal.proofs.staging.Stage.run_all.Given as goal

-- the rule stays, the report's length is that of its lines, and they are the lines played so far
abbrev pub invariant-loop-event : goal.invariant-loop-event
invariant-loop-event g l =
    (l.self.exchange.rule ≡ l.initial.self.exchange.rule)
    × (vec_len l.report ≡ length (vec_items l.report))
    × Ran (g.R.Rule.ruling l.initial.self.exchange.rule)
    (record { register = l.initial.self.exchange.seal; stations = l.initial.self.stations; rest = l.initial.event-iterator.rest.now })
    (record { register = l.self.exchange.seal; stations = l.self.stations; rest = l.event-iterator.rest.now })
    (vec_items l.report)
