use Rattle.rehearsal.specs.declared.events.Asked.TheVariants.{Note}
use Rattle.rehearsal.specs.Events.{asking}
use Rattle.rehearsal.proofs.Outcomes.{note_signed}
use Rattle.rehearsal.proofs.staging.Stage.note.Goals as goal

pub returns-in_err-map_err-clause-register : goal.returns-in_err-map_err-clause-register
returns-in_err-map_err-clause-register g c =
    let rule = c.args.self.now.exchange.rule in
    note_signed (g.R.Rule.ruling rule) c.args.self.now.exchange.seal c.args.self.now.stations (asking (Note c.args.named) c.args.at c.args.text.now) c.in_ok-at.at c.notice_of-notice.result c.note.result _ _ (g.met.R.Rule.lawful rule).most c.in_ok-at.ensures.answer c.notice_of-notice.ensures c.note.ensures.answer c.note.ensures.leaves

pub returns-clause-register : goal.returns-clause-register
returns-clause-register g c =
    let rule = c.args.self.now.exchange.rule in
    note_signed (g.R.Rule.ruling rule) c.args.self.now.exchange.seal c.args.self.now.stations (asking (Note c.args.named) c.args.at c.args.text.now) c.in_ok-at.at c.notice_of-notice.result c.note.result _ _ (g.met.R.Rule.lawful rule).most c.in_ok-at.ensures.answer c.notice_of-notice.ensures c.note.ensures.answer c.note.ensures.leaves
