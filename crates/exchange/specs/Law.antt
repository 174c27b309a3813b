-- The law over all runs: agreement, order and honesty, progress.
use Rattle.std.specs.Prelude.{◌≡◌, ℕ, zero, suc, ◌+◌, ◌<◌, ◌≤◌, true, cond, ◌&&◌, List, [], ◌∷◌, ◌++◌, length, take, Ok, Err, MatchBool, Result, ◌==◌}
use Rattle.bits.specs.Bits.{has}
use Rattle.refusal.specs.declared.Refused.{Refused}
use Rattle.sha256.specs.declared.value.Digest.{Digest}
use Rattle.sha256.specs.Text.{digest_of}
use Rattle.edition.specs.Pages.{most_bytes}
use Rattle.witness.specs.Rules.{Ruling}
use Rattle.witness.specs.Consequences.{Trusted}
use Rattle.seal.specs.declared.statement.Statement.{Statement}
use Rattle.seal.specs.Meanings.{Meaning}
use Rattle.exchange.specs.declared.station.Station.{Station}
use Rattle.exchange.specs.declared.gathering.Gathering.{Gathering}
use Rattle.exchange.specs.declared.gathering.Closed.{Closed}
use Rattle.exchange.specs.declared.filing.Filing.{Filing}
use Rattle.exchange.specs.Stations.{fresh_station}
use Rattle.exchange.specs.Layout.{receipt_at, receipt_house, receipt_seal, bundle_statement, bundle_digest, bundle_count}
use Rattle.exchange.specs.Machine.{statement_of, gathering_statement}
use Rattle.exchange.specs.Runs.{Event, announced, noted, started, added, closed, issued, filed, signed, World, open_with, Step, Run, Some, Each}

-- a call that was taken
abbrev pub Taken : {A E : Type 0} → Result A E → Type 0
Taken (Ok x) = Unit {0}
Taken (Err e) = ⊥

-- n, .., 3, 2, 1
unfoldable pub countdown : ℕ → List ℕ
countdown zero = []
countdown (suc n) = suc n ∷ countdown n

-- pages p are handed in
abbrev pub Hands : List ℕ → Event → Type 0
Hands p (announced a q y) = q ≡ p
Hands p (noted a j k d m y m') = ⊥
Hands p (started g j k d y) = ⊥
Hands p (added g i z m y m') = ⊥
Hands p (closed g y) = ⊥
Hands p (issued g m y m') = ⊥
Hands p (filed a b q y) = q ≡ p
Hands p (signed i x m y m') = ⊥

-- gathering g is started for house j, number k and digest d
abbrev pub Starts : ℕ → ℕ → ℕ → Digest → Event → Type 0
Starts g j k d (announced a p y) = ⊥
Starts g j k d (noted a j' k' d' m y m') = ⊥
Starts g j k d (started g' j' k' d' y) = (g' ≡ g) × (j' ≡ j) × (k' ≡ k) × (d' ≡ d) × Taken y
Starts g j k d (added g' i z m y m') = ⊥
Starts g j k d (closed g' y) = ⊥
Starts g j k d (issued g' m y m') = ⊥
Starts g j k d (filed a b p y) = ⊥
Starts g j k d (signed i x m y m') = ⊥

-- an add of house i to gathering g is taken
abbrev pub Adds : ℕ → ℕ → Event → Type 0
Adds g i (announced a p y) = ⊥
Adds g i (noted a j k d m y m') = ⊥
Adds g i (started g' j k d y) = ⊥
Adds g i (added g' i' z m y m') = (g' ≡ g) × (i' ≡ i) × Taken y
Adds g i (closed g' y) = ⊥
Adds g i (issued g' m y m') = ⊥
Adds g i (filed a b p y) = ⊥
Adds g i (signed i' x m y m') = ⊥

-- the bundle of gathering g is b: the memory's first bytes after its issue, as many as issue answered
abbrev pub Issues : ℕ → List ℕ → Event → Type 0
Issues g b (announced a p y) = ⊥
Issues g b (noted a j k d m y m') = ⊥
Issues g b (started g' j k d y) = ⊥
Issues g b (added g' i z m y m') = ⊥
Issues g b (closed g' y) = ⊥
Issues g b (issued g' m (Ok n) m') = (g' ≡ g) × (take n m' ≡ b)
Issues g b (issued g' m (Err e) m') = ⊥
Issues g b (filed a b' p y) = ⊥
Issues g b (signed i x m y m') = ⊥

-- a house and its seal
pub record Receipt : Type 0 where
  pub house : ℕ
  pub seal : List ℕ

-- the receipts that the taken adds of gathering g brought, in their order
abbrev pub brought : ℕ → List Event → List Receipt
brought g [] = []
brought g (announced a p y ∷ h) = brought g h
brought g (noted a j k d m y m' ∷ h) = brought g h
brought g (started g' j k d y ∷ h) = brought g h
brought g (added g' i z m (Ok t) m' ∷ h) = cond (g' == g) (brought g h ++ (record { house = i; seal = z } ∷ [])) (brought g h)
brought g (added g' i z m (Err e) m' ∷ h) = brought g h
brought g (closed g' y ∷ h) = brought g h
brought g (issued g' m y m' ∷ h) = brought g h
brought g (filed a b p y ∷ h) = brought g h
brought g (signed i x m y m' ∷ h) = brought g h

-- the receipts that stand in a bundle, n of them from place i on
unfoldable pub receipts_from : ℕ → List ℕ → ℕ → ℕ → List Receipt
receipts_from size b zero i = []
receipts_from size b (suc n) i = record { house = receipt_house size b i; seal = receipt_seal size b i } ∷ receipts_from size b n (i + 1)

abbrev pub receipts_in : ℕ → List ℕ → List Receipt
receipts_in size b = receipts_from size b (bundle_count b) 0

-- each call of gathering g was given the memory that its call before left, and the last left m
abbrev pub Fed : ℕ → List ℕ → List Event → Type 0
Fed g m [] = Unit {0}
Fed g m (announced a p y ∷ h) = Fed g m h
Fed g m (noted a j k d n y n' ∷ h) = Fed g m h
Fed g m (started g' j k d y ∷ h) = Fed g m h
Fed g m (added g' i z n y n' ∷ h) = MatchBool (g' == g) ((n' ≡ m) × Fed g n h) (Fed g m h)
Fed g m (closed g' y ∷ h) = Fed g m h
Fed g m (issued g' n y n' ∷ h) = MatchBool (g' == g) ((n' ≡ m) × Fed g n h) (Fed g m h)
Fed g m (filed a b p y ∷ h) = Fed g m h
Fed g m (signed i x n y n' ∷ h) = Fed g m h

-- over a rule, the stations at the opening, and the set of the honest houses
module _ (r : Ruling) (first : ℕ → Station) where
  -- house j announces pages p under number k
  abbrev pub Announces : ℕ → ℕ → List ℕ → Event → Type 0
  Announces j k p (announced a q (Ok y)) = ((first a).house ≡ j) × (y.0 ≡ k) × (q ≡ p)
  Announces j k p (announced a q (Err e)) = ⊥
  Announces j k p (noted a j' k' d m y m') = ⊥
  Announces j k p (started g j' k' d y) = ⊥
  Announces j k p (added g i z m y m') = ⊥
  Announces j k p (closed g y) = ⊥
  Announces j k p (issued g m y m') = ⊥
  Announces j k p (filed a b q y) = ⊥
  Announces j k p (signed i x m y m') = ⊥

  -- an announce of house j answers number k and digest d
  abbrev pub Answers : ℕ → ℕ → Digest → Event → Type 0
  Answers j k d (announced a q (Ok y)) = ((first a).house ≡ j) × (y.0 ≡ k) × (y.1 ≡ d)
  Answers j k d (announced a q (Err e)) = ⊥
  Answers j k d (noted a j' k' d' m y m') = ⊥
  Answers j k d (started g j' k' d' y) = ⊥
  Answers j k d (added g i z m y m') = ⊥
  Answers j k d (closed g y) = ⊥
  Answers j k d (issued g m y m') = ⊥
  Answers j k d (filed a b q y) = ⊥
  Answers j k d (signed i x m y m') = ⊥

  -- a note of house i signs statement x
  abbrev pub Signs : ℕ → Statement → Event → Type 0
  Signs i x (announced a q y) = ⊥
  Signs i x (noted a j k d m y m') = ((first a).house ≡ i) × (statement_of r j k d ≡ x) × Taken y
  Signs i x (started g j k d y) = ⊥
  Signs i x (added g i' z m y m') = ⊥
  Signs i x (closed g y) = ⊥
  Signs i x (issued g m y m') = ⊥
  Signs i x (filed a b q y) = ⊥
  Signs i x (signed i' x' m y m') = ⊥

  -- house i files bundle b and pages p for house j and number k
  abbrev pub FilesFrom : ℕ → ℕ → ℕ → List ℕ → List ℕ → Event → Type 0
  FilesFrom i j k b p (announced a q y) = ⊥
  FilesFrom i j k b p (noted a j' k' d m y m') = ⊥
  FilesFrom i j k b p (started g j' k' d y) = ⊥
  FilesFrom i j k b p (added g i' z m y m') = ⊥
  FilesFrom i j k b p (closed g y) = ⊥
  FilesFrom i j k b p (issued g m y m') = ⊥
  FilesFrom i j k b p (filed a b' q (Ok f)) = ((first a).house ≡ i) × (f.house ≡ j) × (f.number ≡ k) × (b' ≡ b) × (q ≡ p)
  FilesFrom i j k b p (filed a b' q (Err e)) = ⊥
  FilesFrom i j k b p (signed i' x m y m') = ⊥

  -- house i files pages p for house j and number k
  abbrev pub Files : ℕ → ℕ → ℕ → List ℕ → Event → Type 0
  Files i j k p c = (b : List ℕ) × FilesFrom i j k b p c

  -- the numbers that house i has filed of house j, the newest first
  abbrev pub numbers : ℕ → ℕ → List Event → List ℕ
  numbers i j [] = []
  numbers i j (announced a q y ∷ h) = numbers i j h
  numbers i j (noted a j' k d m y m' ∷ h) = numbers i j h
  numbers i j (started g j' k d y ∷ h) = numbers i j h
  numbers i j (added g i' z m y m' ∷ h) = numbers i j h
  numbers i j (closed g y ∷ h) = numbers i j h
  numbers i j (issued g m y m' ∷ h) = numbers i j h
  numbers i j (filed a b p (Ok f) ∷ h) = cond ((first a).house == i && f.house == j) (f.number ∷ numbers i j h) (numbers i j h)
  numbers i j (filed a b p (Err e) ∷ h) = numbers i j h
  numbers i j (signed i' x m y m' ∷ h) = numbers i j h

  module _ (honest : ℕ) where
    abbrev pub Honest : ℕ → Type 0
    Honest i = (i < r.houses) × (has honest i ≡ 1)

    -- every honest house has one station, fresh at the opening
    abbrev pub OneStation : Type 0
    OneStation = (i : ℕ) → Honest i → (a : ℕ) × ((first a ≡ fresh_station i) × ((b : ℕ) → (first b).house ≡ i → b ≡ a))

    -- a notice in an honest house's name, handed to an honest house, carries what that house's announce answered;
    -- sign is called directly for no honest house
    abbrev pub Fair : List Event → Event → Type 0
    Fair h (announced a q y) = Unit {0}
    Fair h (noted a j k d m y m') = Honest (first a).house → Honest j → Some (Answers j k d) h
    Fair h (started g j k d y) = Unit {0}
    Fair h (added g i z m y m') = Unit {0}
    Fair h (closed g y) = Unit {0}
    Fair h (issued g m y m') = Unit {0}
    Fair h (filed a b q y) = Unit {0}
    Fair h (signed i x m y m') = Honest i → ⊥

    -- no direct sign for an honest house is taken
    abbrev pub ByNote : List Event → Event → Type 0
    ByNote h (announced a q y) = Unit {0}
    ByNote h (noted a j k d m y m') = Unit {0}
    ByNote h (started g j k d y) = Unit {0}
    ByNote h (added g i z m y m') = Unit {0}
    ByNote h (closed g y) = Unit {0}
    ByNote h (issued g m y m') = Unit {0}
    ByNote h (filed a b q y) = Unit {0}
    ByNote h (signed i x m (Ok t) m') = Honest i → ⊥
    ByNote h (signed i x m (Err e) m') = Unit {0}

    -- the conditions on the history alone
    pub record Conditions (h : List Event) : Type 0 where
      -- at most t of the n houses are not honest
      pub trusted : Trusted r honest
      -- every honest house has one station, fresh at the opening
      pub one_station : (i : ℕ) → Honest i → (a : ℕ) × ((first a ≡ fresh_station i) × ((b : ℕ) → (first b).house ≡ i → b ≡ a))
      -- no two different pages handed in share a digest
      pub apart : (p q : List ℕ) → Some (Hands p) h → Some (Hands q) h → digest_of p ≡ digest_of q → p ≡ q
      pub fair : Each Fair h

    module _ {S : Type 0} (k : Meaning S) where
      -- a seal that checks for an honest house is one of a statement that its note signed earlier
      abbrev pub SignedBefore : World S → List Event → ℕ → Statement → List ℕ → Type 0
      SignedBefore w h i x z = Honest i → k.checks w.seal i x z ≡ true → Some (Signs i x) h

      -- so with the seals handed to one call, upon the seals as they are at that call
      abbrev pub UnforgedNow : World S → List Event → Event → Type 0
      UnforgedNow w h (announced a q y) = Unit {0}
      UnforgedNow w h (noted a j n d m y m') = Unit {0}
      UnforgedNow w h (started g j n d y) = Unit {0}
      UnforgedNow w h (added g i z m y m') = (x : Gathering) → w.gatherings g ≡ open_with x → SignedBefore w h i (gathering_statement r x) z
      UnforgedNow w h (closed g y) = Unit {0}
      UnforgedNow w h (issued g m y m') = Unit {0}
      UnforgedNow w h (filed a b q y) =
          (i : ℕ) → i < bundle_count b → receipt_at k.size (i + 1) ≤ length b
          → SignedBefore w h (receipt_house k.size b i) (bundle_statement b) (receipt_seal k.size b i)
      UnforgedNow w h (signed i x m y m') = Unit {0}

      -- no seal handed to add or file is forged
      abbrev pub Unforged : (e : S) (h : List Event) (w : World S) → Run r k e first h w → Type 0
      Unforged e [] w run = Unit {0}
      Unforged e (c ∷ h) w run = UnforgedNow run.0 h c × Unforged e h run.0 run.1.0

      -- what holds after the history h, which led to the world w
      pub record Holds (h : List Event) (w : World S) : Type 0 where
        -- (a) no two honest houses have filed different pages for the same house and number
        pub agreement : (i i' j n : ℕ) (p q : List ℕ) → Honest i → Honest i' → Some (Files i j n p) h → Some (Files i' j n q) h → p ≡ q
        -- (b) the numbers that an honest house has filed of any house are 1, 2, 3 and so on
        pub order : (i j : ℕ) → Honest i → numbers i j h ≡ countdown (length (numbers i j h))
        -- (b) of an honest house an honest one has filed only pages that it had announced, earlier, under that number
        pub honesty : (i j n : ℕ) (p : List ℕ) → Honest i → Honest j → Each (λ before c. Files i j n p c → Some (Announces j n p) before) h
        -- (c) a gathering that holds the receipt of every honest witness closes
        pub closes : (g j n : ℕ) (d : Digest) → Some (Starts g j n d) h
            → ((i : ℕ) → Honest i → has (r.named j n) i ≡ 1 → Some (Adds g i) h)
            → (y : Result Closed (Refused × Gathering)) (w' : World S) → Step r k w (closed g y) w' → Taken y
        -- (c) an honest house that stands one number below files the bundle of an issued gathering, with pages of its digest
        pub issued_files : (g j n a : ℕ) (d : Digest) (m b p : List ℕ) → Some (Starts g j n d) h → Some (Issues g b) h → Fed g m h
            → Honest (first a).house → length (numbers (first a).house j h) + 1 ≡ n → digest_of p ≡ d → length p ≤ most_bytes
            → (y : Result Filing Refused) (w' : World S) → Step r k w (filed a b p y) w' → Taken y
        -- (c) and any bundle that an honest house has filed
        pub filed_files : (i j n a : ℕ) (b p q : List ℕ) → Honest i → Some (FilesFrom i j n b q) h
            → Honest (first a).house → length (numbers (first a).house j h) + 1 ≡ n → digest_of p ≡ bundle_digest b → length p ≤ most_bytes
            → (y : Result Filing Refused) (w' : World S) → Step r k w (filed a b p y) w' → Taken y
        -- an issued bundle reads back as the receipts that its gathering's adds took, in their order
        pub reads_back : (g : ℕ) (m b : List ℕ) → Some (Issues g b) h → Fed g m h → receipts_in k.size b ≡ brought g h

-- An issued bundle reads back as the receipts that its gathering's adds took, in their order: in every run, under no condition.
abbrev pub ReadsBack : {S : Type 0} → Ruling → Meaning S → Type 0
ReadsBack {S} r k =
    (first : ℕ → Station) (e : S) (h : List Event) (w : World S) → Run r k e first h w
    → (g : ℕ) (m b : List ℕ) → Some (Issues g b) h → Fed g m h → receipts_in k.size b ≡ brought g h

-- A house with one station, fresh at the opening, files the numbers 1, 2, 3 and so on of any house: in every run, under no other condition.
abbrev pub InOrder : {S : Type 0} → Ruling → Meaning S → Type 0
InOrder {S} r k =
    (first : ℕ → Station) (e : S) (h : List Event) (w : World S) → Run r k e first h w
    → (i a : ℕ) → first a ≡ fresh_station i → ((b : ℕ) → (first b).house ≡ i → b ≡ a)
    → (j : ℕ) → numbers r first i j h ≡ countdown (length (numbers r first i j h))

-- Filings of one house and number have one digest, whatever notices carry and whichever pages share a digest: in every run with at
-- most t houses that are not honest, one fresh station for each honest house, and no forged seal.
abbrev pub OneDigest : {S : Type 0} → Ruling → Meaning S → Type 0
OneDigest {S} r k =
    (honest : ℕ) (first : ℕ → Station) (e : S) (h : List Event) (w : World S) (run : Run r k e first h w)
    → Trusted r honest → OneStation r first honest → Unforged r first honest k e h w run
    → (i i' j n : ℕ) (p q : List ℕ) → Some (Files r first i j n p) h → Some (Files r first i' j n q) h → digest_of p ≡ digest_of q

-- For every set of honest houses, all stations and every state of the seal kind at the opening, and every list of calls: under the
-- conditions, what is promised holds after it.
abbrev pub Law : {S : Type 0} → Ruling → Meaning S → Type 0
Law {S} r k =
    (honest : ℕ) (first : ℕ → Station) (e : S) (h : List Event) (w : World S) (run : Run r k e first h w)
    → Conditions r first honest h → Unforged r first honest k e h w run → Holds r first honest k h w

-- the same of a seal kind of which it is shown that no seal is forged, from a state e at the opening
abbrev pub LawFrom : {S : Type 0} → Ruling → Meaning S → S → Type 0
LawFrom {S} r k e =
    (honest : ℕ) (first : ℕ → Station) (h : List Event) (w : World S) (run : Run r k e first h w)
    → Conditions r first honest h → Holds r first honest k h w
