use Rattle.std.proofs.Common.{rules, arith, ◌∙◌, refl}
use Rattle.std.proofs.lemmas.Iterator.{YieldsList-from_range}
use Rattle.std.proofs.lemmas.Iterator.Consumers.{fold_from_yields_List}
use Rattle.measure.specs.Chains.{chained, first}
use Rattle.measure.proofs.Chains.{folded}
use Rattle.measure.proofs.chain.Goals as goal

pub returns : goal.returns
returns c =
    let n = c.args.turns in
    let block = c.args.key.now.block in
    fold_from_yields_List _ (λ a x. chained 1 block a) _ _ c.fold.ensures.ran (YieldsList-from_range 0 n n refl (omega arith)) (λ a x b q k. search rules) ∙ folded n 0 block first
