use Rattle.std.proofs.Common.{ℕ, ◌∙◌, ◌*◌, ◌≤◌, sym, ap, subst, subst₂}
use Rattle.seal.specs.declared.register.Register.{Register}
use Rattle.rehearsal.specs.Playing.{Opens}
use Rattle.rehearsal.proofs.Opened.{opens_with}
use Rattle.rehearsal.proofs.staging.Stage.open.Goals as goal

pub returns : goal.returns
returns g c =
    let law = g.met.R.Rule.lawful c.args.rule in
    let n = c.houses-houses.result in
    let least : 1 ≤ n = subst (λ (x : ℕ). 1 ≤ x) (sym c.houses-houses.ensures) law.least in
    let most : n ≤ 16 = subst (λ (x : ℕ). x ≤ 16) (sym c.houses-houses.ensures) law.most in
    record {
      rule = ap (λ x. x.rule) c.open.ensures.value;
      opens =
          subst₂ (λ (x : ℕ) (s : Register). Opens x s c.fresh_stations.result) c.houses-houses.ensures (sym (ap (λ x. x.seal) c.open.ensures.value))
          (opens_with n c.in_ok-table.table c.new-2.result c.fresh_stations.result least most (c.in_ok-table.ensures ∙ ap (λ (x : ℕ). 64 * x) c.from.ensures) c.new-2.ensures c.fresh_stations.ensures);
    }
