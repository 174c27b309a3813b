use Rattle.cases.proofs.Dishonest.{one_can_be_dishonest, one_can_be_dishonest_opened}
use Rattle.cases.proofs.a_run_with_a_dishonest_house.Goals as goal

pub returns : goal.returns
returns c = record { unused = one_can_be_dishonest; opened = one_can_be_dishonest_opened }
