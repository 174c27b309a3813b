-- Along every call, whatever checked still checks.
use Rattle.std.proofs.Common.{◌≡◌, ℕ, List, Ok, Err, Result, sym, subst}
use Rattle.witness.specs.Rules.{Ruling}
use Rattle.seal.specs.Meanings.{Meaning, Meant, Signing}
use Rattle.seal.specs.declared.statement.Statement.{Statement}
use Rattle.exchange.specs.Machine.{statement_of}
use Rattle.exchange.specs.Runs.{Event, announced, noted, started, added, closed, issued, filed, signed, World, Step}
use Rattle.exchange.proofs.Walking.{Grows}

module _ {S : Type 0} (k : Meaning S) where
  pub same_grows : (s : S) → Grows k s s
  same_grows s i x z e = e

  module _ (meant : Meant k) where
    pub sign_grows : {E : Type 0} (y : Result (Unit {0}) E) (i : ℕ) (x : Statement) (s : S) (m : List ℕ) (s' : S) (m' : List ℕ)
        → Signing k y i x s m s' m' → Grows k s s'
    sign_grows (Ok t) i x s m s' m' signs = (meant.sound s i x m s' m' signs).keeps
    sign_grows (Err e) i x s m s' m' same = subst (λ (v : S). Grows k s v) (sym same.0) (same_grows s)

    -- from one world to another with this seal state
    seal_grows : (w w' : World S) (v : World S) → w' ≡ v → Grows k w.seal v.seal → Grows k w.seal w'.seal
    seal_grows w w' v left grows = subst (λ (u : World S). Grows k w.seal u.seal) (sym left) grows

    pub step_grows : (r : Ruling) (w : World S) (c : Event) (w' : World S) → Step r k w c w' → Grows k w.seal w'.seal
    step_grows r w (announced a p y) w' step = seal_grows w w' _ step.1 (same_grows w.seal)
    step_grows r w (noted a j n d m y m') w' step =
        seal_grows w w' _ step.3 (sign_grows y (w.stations a).house (statement_of r j n d) w.seal m step.0 m' step.2)
    step_grows r w (started g j n d y) w' step = seal_grows w w' _ step.2 (same_grows w.seal)
    step_grows r w (added g i z m y m') w' step = seal_grows w w' _ step.4 (same_grows w.seal)
    step_grows r w (closed g y) w' step = seal_grows w w' _ step.3 (same_grows w.seal)
    step_grows r w (issued g m y m') w' step = seal_grows w w' _ step.4 (same_grows w.seal)
    step_grows r w (filed a b p y) w' step = seal_grows w w' _ step.1 (same_grows w.seal)
    step_grows r w (signed i x m y m') w' step = seal_grows w w' _ step.3 (sign_grows y i x w.seal m step.0 m' step.2)
