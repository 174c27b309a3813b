-- A bundle made of a gathering: its receipts read back, and it fits.
use Rattle.std.proofs.Common.{◌≡◌, ℕ, ◌+◌, ◌*◌, ◌<◌, ◌≤◌, true, List, ◌++◌, length, sym, refl, ap, ◌∙◌, subst₂, zero-mul, arith}
use lib.Count.{ones}
use Rattle.std.proofs.lemmas.List.{length-append}
use Rattle.std.proofs.lemmas.Bool.{eq-eqb, le-leb, lt-ltb}
use Rattle.sha256.specs.Text.{digest_of}
use Rattle.witness.specs.Rules.{Ruling}
use Rattle.witness.specs.CountingLemmas.{ones_none}
use Rattle.seal.specs.Meanings.{Meaning, Meant}
use Rattle.seal.specs.declared.statement.Statement.{Statement}
use Rattle.exchange.specs.declared.gathering.Gathering.{Gathering}
use Rattle.exchange.specs.Layout.{head_length, head_bytes, receipt_at, receipt_length, bundle_mark, bundle_house, bundle_count}
use Rattle.exchange.specs.Machine.{gathering_statement}
use Rattle.exchange.specs.Law.{Receipt, receipts_from, receipts_in}
use Rattle.exchange.proofs.Files.{Fit}
use Rattle.exchange.proofs.Heads.{head_long, counted, marked, housed, numbered, stated}
use Rattle.exchange.proofs.Memory.{flat, Sized, flat_length, reads_flat}
use Rattle.exchange.proofs.Walking.{Gathers, gathers_ones, gathers_sized, gathers_walk}

-- the bundle of a gathering with these receipts
abbrev pub made_of : Ruling → Gathering → List Receipt → List ℕ
made_of r x xs = head_bytes (gathering_statement r x) (ones x.gathered) ++ flat xs

module _ {S : Type 0} (r : Ruling) (k : Meaning S) (meant : Meant k) (s : S) (x : Gathering) (xs : List Receipt) (gathers : Gathers r k s (gathering_statement r x) 0 xs x.gathered) where
  as_many : ones x.gathered ≡ length xs
  as_many = omega (arith, gathers_ones r k s (gathering_statement r x) 0 xs x.gathered gathers, ones_none)

  sized : Sized k.size xs
  sized = gathers_sized r k meant s (gathering_statement r x) 0 xs x.gathered gathers

  made_long : length (made_of r x xs) ≡ receipt_at k.size (ones x.gathered)
  made_long =
      let head = head_bytes (gathering_statement r x) (ones x.gathered) in
      let each = ap (λ (n : ℕ). n * receipt_length k.size) as_many in
      omega (arith, length-append head (flat xs), head_long (gathering_statement r x) (ones x.gathered), flat_length k.size xs sized, each)

  pub made_reads : receipts_in k.size (made_of r x xs) ≡ xs
  made_reads =
      let st = gathering_statement r x in
      let c = ones x.gathered in
      let long : length (head_bytes st c) ≡ receipt_at k.size 0 = omega (arith, head_long st c, zero-mul (1 + k.size)) in
      ap (λ (n : ℕ). receipts_from k.size (made_of r x xs) n 0) (counted st c (flat xs) ∙ as_many)
      ∙ reads_flat k.size 0 (made_of r x xs) (head_bytes st c) xs sized long refl

  pub made_fits : (p : List ℕ) → digest_of p ≡ x.notice.digest → x.notice.house < r.houses → r.accepts x.notice.house x.notice.number x.gathered ≡ true → Fit r k s (made_of r x xs)
  made_fits p same inside accepted =
      let st = gathering_statement r x in
      let c = ones x.gathered in
      let b = made_of r x xs in
      let long : head_length ≤ length b = omega (arith, made_long) in
      let house : bundle_house b < r.houses = omega (arith, housed st c (flat xs)) in
      record {
        long = le-leb head_length (length b) long;
        marked = eq-eqb (bundle_mark b) r.mark (marked st c (flat xs));
        housed = lt-ltb (bundle_house b) r.houses house;
        sized = eq-eqb (length b) (receipt_at k.size (bundle_count b)) (made_long ∙ ap (receipt_at k.size) (sym (counted st c (flat xs))));
        signers = x.gathered;
        walked = gathers_walk r k s b (bundle_count b) 0 0 x.gathered
            (subst₂ (λ (y : Statement) (zs : List Receipt). Gathers r k s y 0 zs x.gathered) (sym (stated p st c (flat xs) same)) (sym made_reads) gathers);
        accepted = subst₂ (λ (j n : ℕ). r.accepts j n x.gathered ≡ true) (sym (housed st c (flat xs))) (sym (numbered st c (flat xs))) accepted;
      }
