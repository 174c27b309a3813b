use Rattle.cases.proofs.Over.{over_register, over_unused}
use Rattle.cases.proofs.laws.law_over_register.Goals as goal

pub returns : goal.returns
returns g c =
    let lawful = g.met.R.Rule.lawful c.args.rule.now in
    record { law = over_register lawful; unused = over_unused lawful }
