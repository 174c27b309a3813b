use Rattle.std.proofs.Common.{vec_items}
use Rattle.rehearsal.specs.declared.opening.Mark.TheVariants.{All, Rotating}
use Rattle.rehearsal.specs.Openings.{begin}
use Rattle.rehearsal.proofs.Running.{made_as, rule_lines}
use Rattle.rehearsal.proofs.played.Goals as goal

pub returns-in-All : goal.returns-in-All
returns-in-All c =
    made_as _ _ (λ v. rule_lines (begin c.args.opening) c.capped-houses.result c.capped-faults.result c.capped-houses.ensures c.capped-faults.ensures All (λ x. x.houses.count) (λ x. x.houses.faults) c.open.result (vec_items v) c.in-All.is c.open.ensures)
    c.staged.result c.staged.ensures

pub returns-in-Rotating : goal.returns-in-Rotating
returns-in-Rotating c =
    made_as _ _ (λ v. rule_lines (begin c.args.opening) c.capped-houses.result c.capped-faults.result c.capped-houses.ensures c.capped-faults.ensures Rotating (λ x. x.houses.count) (λ x. x.houses.faults) c.open-in-Rotating.result (vec_items v) c.in-Rotating.is c.open-in-Rotating.ensures)
    c.staged-in-Rotating.result c.staged-in-Rotating.ensures
