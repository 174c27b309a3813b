-- What the head of an issued bundle says, and where an event's station is.
use Rattle.std.proofs.Common.{◌≡◌, ℕ, zero, suc, ◌+◌, ◌*◌, ◌<◌, Bool, true, false, cond, ltb, leb, List, ◌++◌, length, take, drop, Some, None, Ok, Err, Option, Result, sym, ap, ◌∙◌, arith, ltb-true}
use lib.Count.{ones}
use lib.Seq.{paste, take-append-add}
use Rattle.std.proofs.lemmas.List.{take_all}
use Rattle.refusal.specs.Questions.{after, whole}
use Rattle.refusal.specs.declared.Refusal.TheVariants.{StationHouse, NoSuchHouse, NumberPast, NotAccepted, MemoryTooSmall}
use Rattle.refusal.specs.declared.Refused.{Refused}
use Rattle.sha256.specs.declared.value.Digest.{Digest}
use Rattle.witness.specs.Rules.{Ruling}
use Rattle.seal.specs.declared.entry.Entry.{Entry}
use Rattle.seal.specs.declared.register.Register.{Register}
use Rattle.seal.specs.declared.statement.Statement.{Statement}
use Rattle.seal.specs.Registers.{register, row_at, used}
use Rattle.seal.specs.Rows.{row_bytes, same_statement}
use Rattle.exchange.specs.declared.gathering.Gathering.{Gathering}
use Rattle.exchange.specs.declared.gathering.Closed.{Closed}
use Rattle.exchange.specs.Layout.{head_length, head_bytes, receipt_at, receipt_length, bundle_house, bundle_number}
use Rattle.exchange.specs.Machine.{statement_of, gathering_statement, with_house, start_answer, add_answer, close_answer, issue_answer, issue_memory}
use Rattle.exchange.proofs.Heads.{head_long, housed, numbered}
use Rattle.exchange.proofs.Questions.{refused_not_taken, asked, went_on}
use Rattle.rehearsal.specs.Bundles.{added, row_step, rows_from, untold, kept, bundle_of}
use Rattle.rehearsal.specs.Calls.{station_place}

-- an event's station is that of a house below n
pub placed_at : (n x at : ℕ) → station_place n x ≡ Ok at → (at ≡ x) × (x < n)
placed_at n x at e =
    let q = asked (ltb x n) StationHouse (Ok x) at e in
    let p = q.1 in
    (cc, ltb-true x n q.0)

-- a gathering for the same house and number
abbrev Alike : Gathering → Gathering → Type 0
Alike g g' = (g'.notice.house ≡ g.notice.house) × (g'.notice.number ≡ g.notice.number)

-- receipts leave the house and the number
add_alike : (a : Result (Unit {0}) Refused) (g : Gathering) (i : ℕ) (m : List ℕ) (y : Gathering × List ℕ)
    → added a (after a (λ _. with_house g i) g) m ≡ Ok y → Alike g y.0
add_alike (Ok t) g i m y e =
    let same : y.0 ≡ with_house g i = cc in
    (ap (λ (x : Gathering). x.notice.house) same, ap (λ (x : Gathering). x.notice.number) same)
add_alike (Err x) g i m y e = absurd (refused_not_taken x y e)

same_alike : (g : Gathering) (m : List ℕ) (y : Gathering × List ℕ) → ◌≡◌ {A = Result (Gathering × List ℕ) Refused} (Ok (g, m)) (Ok y) → Alike g y.0
same_alike g m y e =
    let same : y.0 ≡ g = cc in
    (ap (λ (x : Gathering). x.notice.house) same, ap (λ (x : Gathering). x.notice.number) same)

either_alike : (b : Bool) (g : Gathering) (m : List ℕ) (x : Result (Gathering × List ℕ) Refused) (y : Gathering × List ℕ)
    → (x ≡ Ok y → Alike g y.0) → cond b x (Ok (g, m)) ≡ Ok y → Alike g y.0
either_alike true g m x y taken e = taken e
either_alike false g m x y taken e = same_alike g m y e

module _ (r : Ruling) (q : Register) (x : Statement) where
  row_alike : (i : ℕ) (o : Option Entry) (g : Gathering) (m : List ℕ) (y : Gathering × List ℕ) → row_step r q x i o g m ≡ Ok y → Alike g y.0
  row_alike i None g m y e = same_alike g m y e
  row_alike i (Some p) g m y e =
      either_alike (same_statement p.statement x) g m _ y (add_alike (add_answer r register q g p.house (row_bytes i) (length m)) g p.house _ y) e

  rows_alike : (n i : ℕ) (g : Gathering) (m : List ℕ) (y : Gathering × List ℕ) → rows_from r q x n i g m ≡ Ok y → Alike g y.0
  unfolding rows_from
  rows_alike zero i g m y e = same_alike g m y e
  rows_alike (suc n) i g m y e =
      let on = went_on (row_step r q x i (row_at q i) g m) (λ y. rows_from r q x n (i + 1) y.0 y.1) y e in
      let one = row_alike i (row_at q i) g m on.0 on.1.0 in
      let rest = rows_alike n (i + 1) on.0.0 on.0.1 y on.1.1 in
      (rest.0 ∙ one.0, rest.1 ∙ one.1)

told_taken : {A : Type 0} (a : Result A Refused) (x : A) → untold a ≡ Ok x → a ≡ Ok x
told_taken (Ok y) x e = cc
told_taken (Err y) x e = absurd (refused_not_taken y.refusal x e)

kept_taken : {A B : Type 0} (a : Result A (Refused × B)) (x : A) → kept a ≡ Ok x → a ≡ Ok x
kept_taken (Ok y) x e = cc
kept_taken (Err y) x e = absurd (refused_not_taken y.0.refusal x e)

start_alike : (r : Ruling) (j k : ℕ) (d : Digest) (g : Gathering) → start_answer r j k d ≡ Ok g → (g.notice.house ≡ j) × (g.notice.number ≡ k)
start_alike r j k d g e =
    let q1 = asked (ltb j r.houses) (whole NoSuchHouse) _ g e in
    let q2 = asked (leb 1 k) (whole NumberPast) _ g q1.1 in
    let is : g ≡ record { notice = record { house = j; number = k; digest = d }; gathered = 0 } = let p = q2.1 in cc in
    (ap (λ (x : Gathering). x.notice.house) is, ap (λ (x : Gathering). x.notice.number) is)

close_alike : (r : Ruling) (g : Gathering) (c : Closed) → close_answer r g ≡ Ok c → c.whole ≡ g
close_alike r g c e =
    let q = asked (r.accepts g.notice.house g.notice.number g.gathered) (whole NotAccepted, g) _ c e in
    ap (λ (x : Closed). x.whole) (let p = q.1 in let same : c ≡ record { whole = g } = cc in same)

-- the bundle begins with its head
issue_headed : (r : Ruling) (c : Closed) (m : List ℕ) (n : ℕ) → issue_answer register c (length m) ≡ Ok n
    → (rest : List ℕ) × (take n (issue_memory r register c m) ≡ head_bytes (gathering_statement r c.whole) (ones c.whole.gathered) ++ rest)
issue_headed r c m n e =
    let count = ones c.whole.gathered in
    let head = head_bytes (gathering_statement r c.whole) count in
    let q = asked (leb (receipt_at 2 count) (length m)) (whole MemoryTooSmall, c) _ n e in
    let size : n ≡ head_length + count * receipt_length 2 = let p = q.1 in cc in
    let long : length head ≡ head_length = head_long (gathering_statement r c.whole) count in
    let all = take_all head_length head (omega (arith, long)) in
    let left : issue_memory r register c m ≡ head ++ drop head_length m = ap (λ (a : Result ℕ (Refused × Closed)). after a (λ _. paste m 0 head head_length) m) e ∙ ap (λ (x : List ℕ). x ++ drop head_length m) all in (
      take (count * receipt_length 2) (drop head_length m),
      ap (λ (x : List ℕ). take n x) left
          ∙ ap (λ (k : ℕ). take k (head ++ drop head_length m)) (size ∙ ap (λ (k : ℕ). k + count * receipt_length 2) (sym long))
          ∙ take-append-add head (drop head_length m) (count * receipt_length 2),
    )

-- the bundle of a house's number is of that house and number
pub bundle_alike : (r : Ruling) (q : Register) (j k : ℕ) (d : Digest) (m : List ℕ) (y : ℕ × List ℕ) → bundle_of r q j k d m ≡ Ok y
    → (bundle_house (take y.0 y.1) ≡ j) × (bundle_number (take y.0 y.1) ≡ k)
bundle_alike r q j k d m y e =
    let a = went_on (untold (start_answer r j k d)) _ y e in
    let g = a.0 in
    let b = went_on (untold (rows_from r q (statement_of r j k d) (used q) 0 g m)) _ y a.1.1 in
    let z = b.0 in
    let c = went_on (kept (close_answer r z.0)) _ y b.1.1 in
    let closed = c.0 in
    let i = went_on (kept (issue_answer register closed (length z.1))) _ y c.1.1 in
    let n = i.0 in
    let started = start_alike r j k d g (told_taken _ g a.1.0) in
    let gathered = rows_alike r q (statement_of r j k d) (used q) 0 g m z (told_taken _ z b.1.0) in
    let whole = close_alike r z.0 closed (kept_taken _ closed c.1.0) in
    let headed = issue_headed r closed z.1 n (kept_taken _ n i.1.0) in
    let is : y ≡ (n, issue_memory r register closed z.1) = let p = i.1.1 in cc in
    let read : take y.0 y.1 ≡ head_bytes (gathering_statement r closed.whole) (ones closed.whole.gathered) ++ headed.0 = ap (λ (x : ℕ × List ℕ). take x.0 x.1) is ∙ headed.1 in (
      ap bundle_house read ∙ housed (gathering_statement r closed.whole) (ones closed.whole.gathered) headed.0 ∙ ap (λ (x : Gathering). x.notice.house) whole ∙ gathered.0 ∙ started.0,
      ap bundle_number read ∙ numbered (gathering_statement r closed.whole) (ones closed.whole.gathered) headed.0 ∙ ap (λ (x : Gathering). x.notice.number) whole ∙ gathered.1 ∙ started.1,
    )
