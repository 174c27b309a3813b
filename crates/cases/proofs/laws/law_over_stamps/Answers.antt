use Rattle.cases.proofs.Over.{over_stamps}
use Rattle.cases.proofs.laws.law_over_stamps.Goals as goal

pub returns : goal.returns
returns g c = over_stamps (g.met.R.Rule.lawful c.args.rule.now)
