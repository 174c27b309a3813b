use Rattle.std.proofs.Common.{◌≡◌, ℕ, ◌≤◌, ap, ap₂, sym, ◌∙◌, true, false, eqb, ltb, List, length, Err, rules}
use Rattle.std.proofs.lemmas.Result.{err_from_is_err_and}
use Rattle.std.proofs.lemmas.Bool.{le-leb}
use Rattle.refusal.specs.Questions.{whole}
use Rattle.sha256.specs.Text.{digest_of}
use Rattle.seal.specs.declared.statement.Statement.{Statement}
use Rattle.exchange.specs.Stations.{same_digest}
use Rattle.exchange.specs.Layout.{head_length, receipt_at, bundle_digest, bundle_count, bundle_statement}
use Rattle.exchange.proofs.Questions.{asked, denied}
use Rattle.exchange.proofs.Parts.{other_number, other_length}
use Rattle.exchange.proofs.opening.Exchange.parted.Goals as goal

pub returns-in_err-is_next : goal.returns-in_err-is_next
unfolding bundle_statement
returns-in_err-is_next g c =
    let r = g.R.Rule.ruling c.args.self.now.rule in
    let k = g.S.Seal.meaning in
    let b : List ℕ = c.args.bundle.now in
    let long : head_length ≤ length b = search rules in
    let read : c.in_ok-head.head.statement ≡ bundle_statement b = search rules in
    let house = ap (λ (y : Statement). y.house) read in
    let member = sym c.has.ensures ∙ (asked _ _ _ _ (sym c.in_ok-unless.ensures)).0 in
    let marked = ap₂ eqb (sym (ap (λ (y : Statement). y.mark) read)) (sym c.mark.ensures) ∙ (asked _ _ _ _ (sym c.in_ok-unless-2.ensures)).0 in
    let housed = ap (λ (h : ℕ). ltb h r.houses) (sym house) ∙ sym c.has-2.ensures ∙ (asked _ _ _ _ (sym c.in_ok-unless-3.ensures)).0 in
    let refused = other_number r k c.args.station.now b c.args.pages.now member (asked _ _ _ _ (sym c.in_ok-admit.ensures)).0 (le-leb _ _ long) marked housed
    _ _ _ (c.from.ensures ∙ house) (ap (λ (y : Statement). y.number) read) (sym c.in_err-is_next.ensures) in
    let exit = err_from_is_err_and c.from_residual-in_err-is_next.result c.from_residual-in_err-is_next.ensures.1 in
    rw (exit.1, exit.2) refused

pub returns-in_err-unless-5 : goal.returns-in_err-unless-5
unfolding bundle_statement
returns-in_err-unless-5 g c =
    let r = g.R.Rule.ruling c.args.self.now.rule in
    let k = g.S.Seal.meaning in
    let b : List ℕ = c.args.bundle.now in
    let p : List ℕ = c.args.pages.now in
    let long : head_length ≤ length b = search rules in
    let read : c.in_ok-head.head.statement ≡ bundle_statement b = search rules in
    let count : c.in_ok-head.head.count ≡ bundle_count b = search rules in
    let house = ap (λ (y : Statement). y.house) read in
    let member = sym c.has.ensures ∙ (asked _ _ _ _ (sym c.in_ok-unless.ensures)).0 in
    let marked = ap₂ eqb (sym (ap (λ (y : Statement). y.mark) read)) (sym c.mark.ensures) ∙ (asked _ _ _ _ (sym c.in_ok-unless-2.ensures)).0 in
    let housed = ap (λ (h : ℕ). ltb h r.houses) (sym house) ∙ sym c.has-2.ensures ∙ (asked _ _ _ _ (sym c.in_ok-unless-3.ensures)).0 in
    let equal : c.eq.result ≡ same_digest c.in_ok-head.head.statement.digest c.digest.result = search rules in
    let same : same_digest (bundle_digest b) (digest_of p) ≡ true =
    ap₂ same_digest (sym (ap (λ (y : Statement). y.digest) read)) (sym c.digest.ensures) ∙ sym equal ∙ (asked _ _ _ _ (sym c.in_ok-unless-4.ensures)).0 in
    let no = denied _ _ _ _ (sym c.in_err-unless-5.ensures) in
    let other : eqb (length b) (receipt_at k.size (bundle_count b)) ≡ false =
    ap (λ (n : ℕ). eqb (length b) n) (sym (c.receipt_at-length.ensures ∙ ap₂ receipt_at (c.LEN.ensures ∙ sym g.met.S.Seal.sized) (c.from-2.ensures ∙ count))) ∙ no.0 in
    let refused = other_length r k c.args.station.now b p member (asked _ _ _ _ (sym c.in_ok-admit.ensures)).0 (le-leb _ _ long) marked housed
    _ _ _ (c.from.ensures ∙ house) (ap (λ (y : Statement). y.number) read) (sym c.in_ok-is_next.ensures) same other in
    let exit = err_from_is_err_and c.from_residual-in_err-unless-5.result c.from_residual-in_err-unless-5.ensures.1 in
    rw (exit.1, exit.2) (refused ∙ ap (λ e. Err (whole e)) (sym no.1))
