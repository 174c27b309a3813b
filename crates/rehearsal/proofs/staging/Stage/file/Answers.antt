use Rattle.std.proofs.Common.{refl, rules}
use Rattle.std.proofs.lemmas.Result.{err_from_is_err_and}
use Rattle.rehearsal.specs.declared.events.Asked.TheVariants.{File}
use Rattle.rehearsal.specs.Events.{asking}
use Rattle.rehearsal.proofs.Outcomes.{file_unbundled, file_unstood, file_gave}
use Rattle.rehearsal.proofs.staging.Stage.file.Goals as goal

pub returns-in_err-length : goal.returns-in_err-length
returns-in_err-length g c =
    let rule = c.args.self.now.exchange.rule in
    let few = (g.met.R.Rule.lawful rule).most in
    let r = g.R.Rule.ruling rule in
    let q = c.args.self.now.exchange.seal in
    let p = err_from_is_err_and c.from_residual-in_err-length.result c.from_residual-in_err-length.ensures.1 in
    let e = asking (File c.args.named) c.args.at c.args.text.now in
    record {
      answer = rw (p.1, p.2) (file_unbundled r q c.args.self.now.stations e c.in_ok-at.at c.notice_of.result c.in_err-length.field-0.0 few c.in_ok-at.ensures.answer c.notice_of.ensures c.in_err-length.ensures.answer);
      stations = file_unstood r q c.args.self.now.stations e c.in_ok-at.at c.notice_of.result c.in_err-length.field-0.0 few c.in_ok-at.ensures.answer c.notice_of.ensures c.in_err-length.ensures.answer;
      exchange = refl;
    }

pub returns-in_err-filing : goal.returns-in_err-filing
returns-in_err-filing g c =
    let rule = c.args.self.now.exchange.rule in
    let all = file_gave (g.R.Rule.ruling rule) c.args.self.now.exchange.seal c.args.self.now.stations (asking (File c.args.named) c.args.at c.args.text.now) c.in_ok-at.at c.notice_of.result c.in_ok-length.length c.bundle.new.memory _ c.file.result c.file.new.station (g.met.R.Rule.lawful rule).most c.in_ok-at.ensures.answer c.notice_of.ensures c.in_ok-length.ensures.answer refl c.file.ensures.answer c.file.ensures.station in
    record { answer = search rules; stations = all.stations; exchange = refl }

pub returns : goal.returns
returns g c =
    let rule = c.args.self.now.exchange.rule in
    let all = file_gave (g.R.Rule.ruling rule) c.args.self.now.exchange.seal c.args.self.now.stations (asking (File c.args.named) c.args.at c.args.text.now) c.in_ok-at.at c.notice_of.result c.in_ok-length.length c.bundle.new.memory _ c.file.result c.file.new.station (g.met.R.Rule.lawful rule).most c.in_ok-at.ensures.answer c.notice_of.ensures c.in_ok-length.ensures.answer refl c.file.ensures.answer c.file.ensures.station in
    record { answer = search rules; stations = all.stations; exchange = refl }
