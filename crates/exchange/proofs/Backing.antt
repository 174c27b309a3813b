-- A filed edition is backed: an accepted set of houses, of which every honest one has signed its digest.
use Rattle.std.proofs.Common.{◌≡◌, ℕ, Bool, true, ◌&&◌, eqb, List, [], ◌∷◌, length, get_or, Ok, Err, sym, refl, ap, ◌∙◌, subst, ap₂, subst₂, inl, inr}
use mathlib.Core.Path.{subst₃}
use Rattle.std.proofs.lemmas.Bool.{and_parts, eqb-true}
use Rattle.bits.specs.Bits.{has}
use Rattle.sha256.specs.declared.value.Digest.{Digest}
use Rattle.sha256.specs.Text.{digest_of}
use Rattle.sha256.proofs.Digests.{same_words}
use Rattle.witness.specs.Rules.{Ruling}
use Rattle.seal.specs.Meanings.{Meaning}
use Rattle.exchange.specs.declared.station.Station.{Station}
use Rattle.exchange.specs.declared.filing.Filing.{Filing}
use Rattle.exchange.specs.Stations.{same_digest}
use Rattle.exchange.specs.Layout.{bundle_mark, bundle_house, bundle_number, bundle_digest, bundle_statement}
use Rattle.exchange.specs.Machine.{statement_of, file_answer}
use Rattle.exchange.specs.Runs.{Event, announced, noted, started, added, closed, issued, filed, signed, World, Step, Run, Some}
use Rattle.exchange.specs.Law.{Signs, Files, Honest, UnforgedNow, Unforged}
use Rattle.exchange.proofs.Files.{Fit, Due, file_taken, filed_as}
use Rattle.exchange.proofs.Stations.{Signed}
use Rattle.exchange.proofs.Walks.{signer_receipted, receipt_whole}

-- digests of four words that are tested to be the same are the same
pub digests_same : (x y : Digest) → length x.words ≡ 4 → length y.words ≡ 4 → same_digest x y ≡ true → x ≡ y
digests_same x y four other e =
    let word : ℕ → Digest → ℕ = λ i d. get_or d.words i 0 in
    let same : ℕ → Bool = λ i. eqb (word i x) (word i y) in
    let last = and_parts (same 0 && same 1 && same 2) (same 3) e in
    let third = and_parts (same 0 && same 1) (same 2) last.0 in
    let second = and_parts (same 0) (same 1) third.0 in
    ap (λ (ws : List ℕ). record { words = ws }) (same_words x.words y.words four other
    (eqb-true _ _ second.0) (eqb-true _ _ second.1) (eqb-true _ _ third.1) (eqb-true _ _ last.1))

module _ {S : Type 0} (r : Ruling) (k : Meaning S) (s : S) (x : Station) (b p : List ℕ) where
  -- what the bundle of a taken file states
  bundle_states : Fit r k s b → Due r k x b p → bundle_statement b ≡ statement_of r (bundle_house b) (bundle_number b) (digest_of p)
  unfolding bundle_statement
  bundle_states fit due =
      ap₂ (λ (mark : ℕ) (d : Digest). record { mark = mark; house = bundle_house b; number = bundle_number b; digest = d })
      (eqb-true (bundle_mark b) r.mark fit.marked) (digests_same (bundle_digest b) (digest_of p) refl refl due.same)

module _ (r : Ruling) (first : ℕ → Station) (honest : ℕ) where
  -- an accepted set for number n of house j, of which every honest house has signed digest d
  pub record Backed (j n : ℕ) (d : Digest) (h : List Event) : Type 0 where
    pub signers : ℕ
    pub accepted : r.accepts j n signers ≡ true
    pub signed : (z : ℕ) → Honest r first honest z → has signers z ≡ 1 → Signed r first z j n d h

  backed_later : (j n : ℕ) (d : Digest) (c : Event) (h : List Event) → Backed j n d h → Backed j n d (c ∷ h)
  backed_later j n d c h x = record { signers = x.signers; accepted = x.accepted; signed = λ z z-honest z-in. inr (x.signed z z-honest z-in) }

  module _ {S : Type 0} (k : Meaning S) where
    file_backed : (a : ℕ) (b p : List ℕ) (f : Filing) (h : List Event) (w : World S) → file_answer r k w.seal (w.stations a) b p ≡ Ok f
        → UnforgedNow r first honest k w h (filed a b p (Ok f)) → Backed (bundle_house b) (bundle_number b) (digest_of p) h
    file_backed a b p f h w taken unforged =
        let file = file_taken r k w.seal (w.stations a) b p f taken in
        record {
          signers = file.fit.signers;
          accepted = file.fit.accepted;
          signed = λ z z-honest z-in.
              let receipt = signer_receipted r k w.seal b file.fit z z-in in
              let whole = receipt_whole r k w.seal b file.fit receipt.place receipt.before in
              let signs = unforged receipt.place receipt.before whole (subst (Honest r first honest) (sym receipt.house) z-honest) receipt.checks in
              subst₂ (λ y x. Some (Signs r first y x) h) receipt.house (bundle_states r k w.seal (w.stations a) b p file.fit file.due) signs;
        }

    -- what house i files is backed when it is filed
    pub backed_now : (i j n : ℕ) (p : List ℕ) (c : Event) (h : List Event) (w w' : World S) → Step r k w c w' → UnforgedNow r first honest k w h c
        → Files r first i j n p c → Backed j n (digest_of p) h
    backed_now i j n p (announced a q y) h w w' step unforged files = absurd files.1
    backed_now i j n p (noted a j' n' d m y m') h w w' step unforged files = absurd files.1
    backed_now i j n p (started g j' n' d y) h w w' step unforged files = absurd files.1
    backed_now i j n p (added g i' z m y m') h w w' step unforged files = absurd files.1
    backed_now i j n p (closed g y) h w w' step unforged files = absurd files.1
    backed_now i j n p (issued g m y m') h w w' step unforged files = absurd files.1
    backed_now i j n p (filed a b q (Ok f)) h w w' step unforged files =
        let is = filed_as r k w.seal (w.stations a) b q f (sym step.0) in
        subst₃ (λ x y z. Backed x y (digest_of z) h) (sym is.0 ∙ files.1.1) (sym is.1 ∙ files.1.2) files.1.4
        (file_backed a b q f h w (sym step.0) unforged)
    backed_now i j n p (filed a b q (Err e)) h w w' step unforged files = absurd files.1
    backed_now i j n p (signed i' x m y m') h w w' step unforged files = absurd files.1

    pub backed : (i j n : ℕ) (p : List ℕ) (e : S) (h : List Event) (w : World S) (run : Run r k e first h w) → Unforged r first honest k e h w run
        → Some (Files r first i j n p) h → Backed j n (digest_of p) h
    backed i j n p e [] w run unforged none = absurd none
    backed i j n p e (c ∷ h) w run unforged (inl now) =
        backed_later j n (digest_of p) c h (backed_now i j n p c h run.0 w run.1.1 unforged.0 now)
    backed i j n p e (c ∷ h) w run unforged (inr before) =
        backed_later j n (digest_of p) c h (backed i j n p e h run.0 run.1.0 unforged.1 before)
