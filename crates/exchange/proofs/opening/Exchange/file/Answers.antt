use Rattle.std.proofs.Common.{ℕ, ◌+◌, List, Err, sym, ap, ap₂, ◌∙◌, arith}
use Rattle.std.proofs.lemmas.Result.{err_from_is_err_and}
use Rattle.std.proofs.lemmas.Bool.{eqb-true, ltb-true}
use Rattle.refusal.specs.Questions.{whole}
use Rattle.refusal.specs.declared.Refusal.TheVariants.{NotAccepted}
use Rattle.seal.specs.declared.statement.Statement.{Statement}
use Rattle.exchange.specs.declared.station.Station.{Station}
use Rattle.exchange.specs.declared.station.Row.{Row}
use Rattle.exchange.specs.Stations.{row_of, with_row, filed_row}
use Rattle.exchange.specs.Layout.{receipt_at, bundle_statement}
use Rattle.exchange.proofs.Files.{questions_answered, file_read, station_kept, station_filed}
use Rattle.exchange.proofs.Questions.{asked, denied, yes_to, no_to}
use Rattle.exchange.proofs.opening.Exchange.file.Goals as goal

pub signers-requires : goal.signers-requires
signers-requires g c =
    let parts = c.in_ok-head.ensures in
    let yes-all = questions_answered (g.R.Rule.ruling c.args.self.now.rule) g.S.Seal.meaning c.args.station.now c.args.bundle.now c.args.pages.now parts.0 in
    (parts.1, eqb-true _ _ yes-all.sized ∙ ap (receipt_at g.S.Seal.meaning.size) (sym parts.2))

pub returns-in_err-unless : goal.returns-in_err-unless
returns-in_err-unless g c =
    let r = g.R.Rule.ruling c.args.self.now.rule in
    let k = g.S.Seal.meaning in
    let s = c.args.self.now.seal in
    let x : Station = c.args.station.now in
    let b : List ℕ = c.args.bundle.now in
    let p : List ℕ = c.args.pages.now in
    let y = c.in_ok-head.head.statement in
    let parts = c.in_ok-head.ensures in
    let read = file_read r k s x b p y c.in_ok-head.head.count c.in_ok-signers.signers parts.0 parts.1 parts.2 (sym c.signers.ensures ∙ c.in_ok-signers.was) in
    let no = denied _ _ _ _ (sym c.in_err-unless.ensures) in
    let refused = read ∙ no_to (r.accepts y.house y.number c.in_ok-signers.signers) (whole NotAccepted) _ (sym c.accepted.ensures ∙ no.0) in
    let exit = err_from_is_err_and c.from_residual-in_err-unless.result c.from_residual-in_err-unless.ensures.1 in
    record { answer = exit.1 ∙ ap Err (exit.2 ∙ ap whole no.1) ∙ sym refused; station = sym (station_kept r k s x b p (whole NotAccepted) refused) }

pub bounds-station-from : goal.bounds-station-from
unfolding bundle_statement
bounds-station-from g c =
    let parts = c.in_ok-head.ensures in
    let yes-all = questions_answered (g.R.Rule.ruling c.args.self.now.rule) g.S.Seal.meaning c.args.station.now c.args.bundle.now c.args.pages.now parts.0 in
    let below = ltb-true _ _ yes-all.housed in
    let most = (g.met.R.Rule.lawful c.args.self.now.rule).most in
    omega (arith, below, most, c.from.ensures, ap (λ (y : Statement). y.house) parts.1)

pub file-requires : goal.file-requires
unfolding bundle_statement
file-requires g c =
    let parts = c.in_ok-head.ensures in
    let x : Station = c.args.station.now in
    let yes-all = questions_answered (g.R.Rule.ruling c.args.self.now.rule) g.S.Seal.meaning x c.args.bundle.now c.args.pages.now parts.0 in
    ap (λ (y : Statement). y.number) parts.1 ∙ eqb-true _ _ yes-all.due.next ∙ ap (λ (y : Statement). (row_of x y.house).last + 1) (sym parts.1)
    ∙ ap (λ (house : ℕ). (row_of x house).last + 1) (sym c.from.ensures)

pub returns : goal.returns
unfolding bundle_statement
returns g c =
    let r = g.R.Rule.ruling c.args.self.now.rule in
    let k = g.S.Seal.meaning in
    let s = c.args.self.now.seal in
    let x : Station = c.args.station.now in
    let b : List ℕ = c.args.bundle.now in
    let p : List ℕ = c.args.pages.now in
    let y = c.in_ok-head.head.statement in
    let parts = c.in_ok-head.ensures in
    let read = file_read r k s x b p y c.in_ok-head.head.count c.in_ok-signers.signers parts.0 parts.1 parts.2 (sym c.signers.ensures ∙ c.in_ok-signers.was) in
    let taken = read ∙ yes_to (r.accepts y.house y.number c.in_ok-signers.signers) (whole NotAccepted) _ (sym c.accepted.ensures ∙ (asked _ _ _ _ (sym c.in_ok-unless.ensures)).0) in
    record {
      answer = sym taken;
      station = ap₂ (λ (house : ℕ) (row : Row). with_row x house row) c.from.ensures (c.file.ensures ∙ ap (λ (house : ℕ). filed_row (row_of x house)) c.from.ensures)
          ∙ ap (λ (z : Statement). with_row x z.house (filed_row (row_of x z.house))) parts.1
          ∙ sym (station_filed r k s x b p _ taken);
    }
