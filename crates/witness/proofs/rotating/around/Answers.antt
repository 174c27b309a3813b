use Rattle.std.proofs.Common.{rules, ◌+◌, ◌≡◌, ℕ, refl, ◌∙◌}
use Rattle.std.proofs.iter.Yields.{Range-gives, nat_range_steps}
use Rattle.std.proofs.lemmas.Fn.{fold_over}
use Rattle.std.proofs.lemmas.List.Sums.{fold-append}
use Rattle.std.specs.declared.ops.Range.{Range}
use Rattle.std.specs.List.{fold, range_with_len}
use Rattle.std.proofs.Math.Nat.{sub-zero}
use Rattle.witness.specs.Circle.{joined, circle_joined}
use Rattle.witness.proofs.rotating.around.Goals as goal

pub returns : goal.returns
returns c =
    let n = c.args.houses.now.count in
    let first = c.args.house + c.args.number in
    let range : Range ℕ = record { start = 0; end = c.args.many } in
    fold_over nat_range_steps (λ x. x) _ (λ ys a. a ≡ fold (joined n first) 0 ys) _
    (λ ys a x b f' j k. let more = fold-append (joined n first) 0 ys in search rules)
    range (range_with_len 0 c.args.many) 0 _ (simp sub-zero at (Range-gives range)) refl c.fold.ensures.ran
    ∙ circle_joined n first c.args.houses.now.least c.args.houses.now.most c.args.many
