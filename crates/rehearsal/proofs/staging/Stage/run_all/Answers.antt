use Rattle.std.proofs.Common.{◌≡◌, ℕ, ◌+◌, [], ◌∷◌, ◌++◌, length, vec_items, vec_len, sym, ap, ◌∙◌, subst, length-append}
use Rattle.std.specs.Option.{option_map}
use Rattle.rehearsal.specs.declared.report.Line.{Line}
use Rattle.rehearsal.specs.Events.{meant}
use Rattle.rehearsal.specs.Playing.{State, PlaysOne, Ran}
use Rattle.rehearsal.proofs.Running.{ran_more}
use Rattle.rehearsal.proofs.staging.Stage.run_all.Goals as goal

pub loop-event-preserved : goal.loop-event-preserved
loop-event-preserved g c =
    let r₀ = g.R.Rule.ruling c.args.self.now.exchange.rule in
    let v : State = record { register = c.args.self.now.exchange.seal; stations = c.args.self.now.stations; rest = c.into_iter-event-iterator.result.rest.now } in
    let v' : State = record { register = c.loop-event.self.exchange.seal; stations = c.loop-event.self.stations; rest = c.loop-event.event-iterator.rest.now } in
    let v'' : State = record { register = c.run-line.new.self.exchange.seal; stations = c.run-line.new.self.stations; rest = c.next.new.self.rest.now } in
    let x = option_map meant c.in-Some.event in
    let line : Line = c.run-line.result in
    let lines = vec_items c.loop-event.report in
    let takes = c.in-Some.ensures.steps in
    let pushed : vec_items c.push.new.self ≡ lines ++ (line ∷ []) = c.in_ok-push.ensures.items in
    let longer : vec_len c.push.new.self ≡ vec_len c.loop-event.report + 1 = c.in_ok-push.ensures.len in
    let one : PlaysOne r₀ v' (record { event = x; outcome = line.outcome }) v'' =
    subst (λ q. PlaysOne (g.R.Rule.ruling q) v' (record { event = x; outcome = line.outcome }) v'') c.loop-event.invariant.0
    (record {
      more = takes.0;
      says = takes.1;
      gives = c.run-line.ensures.outcome;
      stations = c.run-line.ensures.stations;
      register = c.run-line.ensures.register;
      rest = takes.2;
    }) in
    let place : line.place ≡ length lines + 1 = c.run-line.ensures.place ∙ ap (λ (n : ℕ). n + 1) (c.len.ensures ∙ c.loop-event.invariant.1) in (
      c.run-line.ensures.rule ∙ c.loop-event.invariant.0,
      longer ∙ ap (λ (n : ℕ). n + 1) c.loop-event.invariant.1 ∙ sym (length-append lines (line ∷ [])) ∙ ap length (sym pushed),
      subst (Ran r₀ v v'') (sym pushed) (ran_more r₀ v v' v'' x line lines c.loop-event.invariant.2 one place c.run-line.ensures.call),
    )
