use Rattle.std.proofs.Common.{vec_items, sym, subst}
use Rattle.rehearsal.specs.Playing.{Opens, Staged}
use Rattle.rehearsal.proofs.Running.{made_as, staged}
use Rattle.rehearsal.proofs.staging.play.Goals as goal

pub returns : goal.returns
returns g c =
    let stage = c.in_ok-stage.stage in
    let is = c.in_ok-stage.ensures.rule in
    let opens = subst (λ q. Opens (g.R.Rule.ruling q).houses stage.exchange.seal stage.stations) (sym is) c.in_ok-stage.ensures.opens in
    made_as _ _
    (λ v ran. subst (λ q. Staged (g.R.Rule.ruling q) c.args.events.now (vec_items v)) is
    (staged (g.R.Rule.ruling stage.exchange.rule) (g.met.R.Rule.lawful stage.exchange.rule) stage.exchange.seal _ stage.stations _ c.args.events.now (vec_items v) opens ran))
    c.run_all.result c.run_all.ensures
