use Rattle.std.proofs.Common.{◌≡◌, ◌*◌, ◌/◌, ◌≤◌, rules, sum, ap, ◌∙◌, arith}
use Rattle.std.proofs.Math.Nat.{mul-div-le}
use Rattle.seal.specs.Rows.{most_rows}
use Rattle.seal.proofs.Shares.{shares_sum}
use Rattle.seal.proofs.register.opening.supply_of.Goals as goal

pub returns-clause-room : goal.returns-clause-room
returns-clause-room c =
    let n = c.args.houses in
    let rows = c.args.rows in
    let all : sum c.share.result.left ≡ n * (rows / n) = ap sum c.share.ensures.left ∙ shares_sum n (rows / c.from-2.result) ∙ ap (λ v. n * (rows / v)) c.from-2.ensures in
    let part = mul-div-le rows n in
    let fits : rows ≤ most_rows = search rules in
    (omega arith, omega arith)
