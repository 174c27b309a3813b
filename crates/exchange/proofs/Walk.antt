-- Laws of the walk over a bundle's receipts, one receipt at a time.
use Rattle.std.proofs.Common.{◌≡◌, ℕ, suc, ◌+◌, ◌-◌, ◌*◌, ◌^◌, ◌<◌, ◌≤◌, true, not, ltb, List, ◌++◌, length, get_or, get_or-take, take, drop, length-drop, Ok, Err, Result, sym, refl, ap, ◌∙◌, ap₂, subst, ⊎_elim, mul-le-mul_right, arith}
use Rattle.std.proofs.Math.Seq.{take-append_seam, drop-append_seam}
use Rattle.std.proofs.lemmas.List.{get_or-drop, take_rest, drop-take, drop-drop}
use Rattle.std.proofs.lemmas.Bool.{cases_lt}
use lib.Bits.{bit_or}
use Rattle.refusal.specs.declared.Refused.{Refused}
use Rattle.refusal.specs.declared.Refusal.TheVariants.{NoSuchHouse, NotNamed, ReceiptRepeated, SealFails}
use Rattle.witness.specs.Rules.{Ruling}
use Rattle.seal.specs.declared.statement.Statement.{Statement}
use Rattle.seal.specs.Meanings.{Meaning}
use Rattle.exchange.specs.Layout.{receipt_at, receipt_house, receipt_seal, bundle_statement}
use Rattle.exchange.proofs.Questions.{asked, yes_to}
use Rattle.refusal.specs.Questions.{at_receipt}
use Rattle.exchange.specs.Machine.{member, go_on, receipt_answer, walk}

-- the receipts before a place lie before the receipts' end
pub place_within : (size i n : ℕ) → i < n → receipt_at size (i + 1) ≤ receipt_at size n
place_within size i n h = omega (arith, mul-le-mul_right {m = i + 1} {n = n} (1 + size) (omega arith))

right_distrib : (a b c : ℕ) → (a + b) * c ≡ a * c + b * c
right_distrib a b c = omega arith

module _ {S : Type 0} (r : Ruling) (k : Meaning S) where
  -- a receipt for statement x, after those of the houses in `met`
  pub record Counts (s : S) (x : Statement) (met house : ℕ) (seal : List ℕ) : Type 0 where
    pub inside : ltb house r.houses ≡ true
    pub named : member (r.named x.house x.number) house ≡ true
    pub new : not (member met house) ≡ true
    pub checks : k.checks s house x seal ≡ true

  pub counts_taken : (s : S) (x : Statement) (place met house : ℕ) (seal : List ℕ) → Counts s x met house seal
      → receipt_answer r k s x place house seal met ≡ Ok (bit_or met (2 ^ house))
  counts_taken s x place met house seal c =
      yes_to (ltb house r.houses) (at_receipt NoSuchHouse place) _ c.inside
      ∙ yes_to (member (r.named x.house x.number) house) (at_receipt NotNamed place) _ c.named
      ∙ yes_to (not (member met house)) (at_receipt ReceiptRepeated place) _ c.new
      ∙ yes_to (k.checks s house x seal) (at_receipt SealFails place) _ c.checks

  pub taken_counts : (s : S) (x : Statement) (place met house all : ℕ) (seal : List ℕ) → receipt_answer r k s x place house seal met ≡ Ok all
      → Counts s x met house seal × (bit_or met (2 ^ house) ≡ all)
  taken_counts s x place met house all seal taken =
      let q1 = asked (ltb house r.houses) (at_receipt NoSuchHouse place) _ all taken in
      let q2 = asked (member (r.named x.house x.number) house) (at_receipt NotNamed place) _ all q1.1 in
      let q3 = asked (not (member met house)) (at_receipt ReceiptRepeated place) _ all q2.1 in
      let q4 = asked (k.checks s house x seal) (at_receipt SealFails place) _ all q3.1 in
      let last = q4.1 in
      (record { inside = q1.0; named = q2.0; new = q3.0; checks = q4.0 }, cc)

module _ {S : Type 0} (r : Ruling) (k : Meaning S) (s : S) (b : List ℕ) where
  abbrev pub this : ℕ → ℕ → Result ℕ Refused
  this i met = receipt_answer r k s (bundle_statement b) (i + 1) (receipt_house k.size b i) (receipt_seal k.size b i) met

  pub walk_more : (n i met : ℕ) → walk r k s b (suc n) i met ≡ go_on (this i met) (λ all. walk r k s b n (i + 1) all)
  unfolding walk
  walk_more n i met = refl

  pub walk_none : (i met : ℕ) → walk r k s b 0 i met ≡ Ok met
  unfolding walk
  walk_none i met = refl

  -- a turn of the loop: what is left gives what the whole gives
  pub walk_on : (n i met all : ℕ) → i < n → walk r k s b n 0 0 ≡ walk r k s b (n - i) i met → this i met ≡ Ok all → walk r k s b n 0 0 ≡ walk r k s b (n - (i + 1)) (i + 1) all
  walk_on n i met all h left taken =
      let one_more : n - i ≡ suc (n - (i + 1)) = omega arith in
      left ∙ ap (λ (m : ℕ). walk r k s b m i met) one_more ∙ walk_more (n - (i + 1)) i met
      ∙ ap (λ (y : Result ℕ Refused). go_on y (λ x. walk r k s b (n - (i + 1)) (i + 1) x)) taken

  -- the turn that a fault ends
  pub walk_stops : (n i met : ℕ) (e : Refused) → i < n → walk r k s b n 0 0 ≡ walk r k s b (n - i) i met → this i met ≡ Err e → walk r k s b n 0 0 ≡ Err e
  walk_stops n i met e h left refused =
      let one_more : n - i ≡ suc (n - (i + 1)) = omega arith in
      left ∙ ap (λ (m : ℕ). walk r k s b m i met) one_more ∙ walk_more (n - (i + 1)) i met
      ∙ ap (λ (y : Result ℕ Refused). go_on y (λ x. walk r k s b (n - (i + 1)) (i + 1) x)) refused

  -- the receipt before what is left of a bundle, and what is left after it
  next_receipt : (i : ℕ) (left v rest : List ℕ) → left ≡ drop (receipt_at k.size i) b → left ≡ v ++ rest → length v ≡ 1 + k.size
      → (get_or v 0 0 ≡ receipt_house k.size b i) × (take (length v - 1) (drop 1 v) ≡ receipt_seal k.size b i) × (rest ≡ drop (receipt_at k.size (i + 1)) b)
  next_receipt i left v rest from parts long =
      let at = receipt_at k.size i in
      let whole : v ++ rest ≡ drop at b = sym parts ∙ from in
      let front : v ≡ take (1 + k.size) (drop at b) = sym (take-append_seam v rest) ∙ ap₂ (λ (n : ℕ) (l : List ℕ). take n l) long whole in
      let front_of : at + 0 ≡ at = omega arith in
      let after : at + (1 + k.size) ≡ receipt_at k.size (i + 1) = omega (arith, right_distrib i 1 (1 + k.size)) in (
        ap (λ (l : List ℕ). get_or l 0 0) front ∙ get_or-take (1 + k.size) (drop at b) 0 0 (omega arith) ∙ get_or-drop at b 0 0 ∙ ap (λ (n : ℕ). get_or b n 0) front_of,
        take_rest v 1 ∙ ap (λ (l : List ℕ). drop 1 l) front ∙ drop-take 1 k.size (drop at b) ∙ ap (λ (l : List ℕ). take k.size l) (drop-drop 1 at b),
        sym (drop-append_seam v rest) ∙ ap₂ (λ (n : ℕ) (l : List ℕ). drop n l) long whole ∙ drop-drop (1 + k.size) at b ∙ ap (λ (n : ℕ). drop n b) after,
      )

  -- what is read there is what this turn asks about
  pub this_from : (x : Statement) (j i met : ℕ) (left v rest : List ℕ) → x ≡ bundle_statement b → j ≡ i → left ≡ drop (receipt_at k.size i) b → left ≡ v ++ rest → length v ≡ 1 + k.size
      → receipt_answer r k s x (j + 1) (get_or v 0 0) (take (length v - 1) (drop 1 v)) met ≡ this i met
  this_from x j i met left v rest ex ej from parts long =
      let receipt = next_receipt i left v rest from parts long in
      ap₂ (λ (y : Statement) (n : ℕ). receipt_answer r k s y (n + 1) (get_or v 0 0) (take (length v - 1) (drop 1 v)) met) ex ej
      ∙ ap₂ (λ (h : ℕ) (z : List ℕ). receipt_answer r k s (bundle_statement b) (i + 1) h z met) receipt.0 receipt.1

  pub left_after : (i : ℕ) (left v rest : List ℕ) → left ≡ drop (receipt_at k.size i) b → left ≡ v ++ rest → length v ≡ 1 + k.size → rest ≡ drop (receipt_at k.size (i + 1)) b
  left_after i left v rest from parts long = (next_receipt i left v rest from parts long).2

  -- where no receipt is left, all are taken
  pub none_left : (n i : ℕ) (left : List ℕ) → length b ≡ receipt_at k.size n → left ≡ drop (receipt_at k.size i) b → length left < 1 + k.size → n - i ≡ 0
  none_left n i left sized from short =
      let few : length (drop (receipt_at k.size i) b) < 1 + k.size = subst (λ (l : List ℕ). length l < 1 + k.size) from short in
      ⊎_elim (λ inside. absurd (omega (arith, few, sized, length-drop (receipt_at k.size i) b, place_within k.size i n inside, right_distrib i 1 (1 + k.size)))) (λ past. omega arith) (cases_lt i n)
