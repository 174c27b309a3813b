use Rattle.cases.proofs.Example.{conditions_can_hold, conditions_can_hold_opened}
use Rattle.cases.proofs.a_run_that_files.Goals as goal

pub returns : goal.returns
returns c = record { unused = conditions_can_hold; opened = conditions_can_hold_opened }
