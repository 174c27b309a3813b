use Rattle.std.proofs.Common.{sym, refl, ◌∙◌, eqb-true, eq-eqb}
use Rattle.hmac.proofs.Differences.{gathered}
use Rattle.hmac.proofs.compare.same_bytes.Goals as goal

pub returns : goal.returns
returns c =
    let diff = c.difference.result in
    let all = c.difference.ensures in
    let told = gathered 0 c.args.a.now c.args.b.now c.requires in
    (λ e. (told.0 (sym all ∙ eqb-true diff 0 e)).1, λ e. eq-eqb diff 0 (all ∙ told.1 refl e))
