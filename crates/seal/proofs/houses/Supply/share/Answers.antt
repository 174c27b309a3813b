use Rattle.seal.proofs.Shares.{filled}
use Rattle.seal.proofs.houses.Supply.share.Goals as goal

pub returns-clause-left : goal.returns-clause-left
returns-clause-left c = simp (c.fill.ensures.after (λ y e. e), c.from.ensures) (filled c.args.houses c.args.each c.requires)
