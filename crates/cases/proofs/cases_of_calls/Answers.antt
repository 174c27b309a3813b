use Rattle.cases.proofs.Cases.{cases}
use Rattle.cases.proofs.cases_of_calls.Goals as goal

pub returns : goal.returns
returns g c = cases _ c.cases_of_rules.ensures
