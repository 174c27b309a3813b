-- The machine: for each call its questions in their order, its answer, and what it leaves.
use Rattle.std.specs.Prelude.{ℕ, zero, suc, ◌+◌, ◌^◌, Bool, not, List, length, Ok, Err, Result, ◌==◌, bit_or, count_ones, nat_le, nat_lt}
use Rattle.std.proofs.Math.Seq.{paste}
use Rattle.bits.specs.Bits.{has}
use Rattle.refusal.specs.Questions.{ask, after, whole, at_receipt}
use Rattle.refusal.specs.declared.Refused.{Refused}
use Rattle.refusal.specs.declared.Refusal.{Refusal}
use Rattle.refusal.specs.declared.Refusal.TheVariants.{StationHouse, NumbersUsedUp, WindowFull, PagesTooLong, NoSuchHouse, NumberPast, NumberAhead, NotNamed, AlreadyNoted, OtherDigestNoted, MemoryTooSmall, ReceiptRepeated, SealLength, SealFails, NotAccepted, BundleTooShort, OtherRule, OtherPages, BundleLength}
use Rattle.sha256.specs.declared.value.Digest.{Digest}
use Rattle.sha256.specs.Text.{digest_of}
use Rattle.edition.specs.Numbers.{last_number}
use Rattle.edition.specs.Pages.{most_bytes}
use Rattle.witness.specs.Rules.{Ruling}
use Rattle.seal.specs.declared.statement.Statement.{Statement}
use Rattle.seal.specs.Meanings.{Meaning, sign_answer}
use Rattle.exchange.specs.declared.station.Station.{Station}
use Rattle.exchange.specs.declared.gathering.Gathering.{Gathering}
use Rattle.exchange.specs.declared.gathering.Closed.{Closed}
use Rattle.exchange.specs.declared.filing.Filing.{Filing}
use Rattle.exchange.specs.Stations.{row_of, slot_of, is_empty, same_digest, free_of_other, noted_row, filed_row, with_row}
use Rattle.exchange.specs.Layout.{head_length, head_bytes, receipt_length, receipt_at, receipt_bytes, bundle_mark, bundle_house, bundle_number, bundle_digest, bundle_statement, bundle_count, receipt_house, receipt_seal}

-- whether house i is in a set
abbrev pub member : ℕ → ℕ → Bool
member set i = (has set i) == 1

-- how far a house may be ahead of what is filed of it
abbrev pub window : ℕ
window = 4

-- the statement that a house's number has a digest, under a rule
abbrev pub statement_of : Ruling → ℕ → ℕ → Digest → Statement
statement_of r j k d = record { mark = r.mark; house = j; number = k; digest = d }

-- what follows a yes to all, from what they answered
abbrev pub go_on : {A B E : Type 0} → Result A E → (A → Result B E) → Result B E
go_on (Ok x) next = next x
go_on (Err e) next = Err e

-- a refusal of the seal kind falls on no receipt
abbrev pub placed : {A : Type 0} → Result A Refusal → Result A Refused
placed (Ok x) = Ok x
placed (Err e) = Err (whole e)

-- announce: the answer is the number and the digest
abbrev pub announce_answer : Ruling → Station → List ℕ → Result (ℕ × Digest) Refused
announce_answer r s pages =
    ask (nat_lt s.house r.houses) (whole StationHouse)
    (ask (nat_lt s.announced last_number) (whole NumbersUsedUp)
    (ask (nat_lt s.announced ((row_of s s.house).last + window)) (whole WindowFull)
    (ask (nat_le (length pages) most_bytes) (whole PagesTooLong)
    (Ok (s.announced + 1, digest_of pages)))))

abbrev pub announce_station : Ruling → Station → List ℕ → Station
announce_station r s pages =
    after (announce_answer r s pages) (λ _. record { house = s.house; announced = s.announced + 1; rows = s.rows }) s

-- note: the questions before those of sign
abbrev pub note_questions : Ruling → Station → ℕ → ℕ → Digest → Result (Unit {0}) Refused
note_questions r s j k d =
    ask (nat_lt s.house r.houses) (whole StationHouse)
    (ask (nat_lt j r.houses) (whole NoSuchHouse)
    (ask (nat_lt (row_of s j).last k) (whole NumberPast)
    (ask (nat_le k ((row_of s j).last + window)) (whole NumberAhead)
    (ask (member (r.named j k) s.house) (whole NotNamed)
    (ask (free_of_other (slot_of (row_of s j) k) d) (whole OtherDigestNoted)
    (ask (is_empty (slot_of (row_of s j) k)) (whole AlreadyNoted)
    (Ok tt)))))))

-- then has the house a seal left, and the memory room for it?
abbrev pub note_answer : {S : Type 0} → Ruling → Meaning S → S → Station → ℕ → ℕ → Digest → ℕ → Result (Unit {0}) Refused
note_answer r kind seal s j k d room = go_on (note_questions r s j k d) (λ _. placed (sign_answer kind seal s.house room))

-- the slot of the number takes the digest
abbrev pub note_station : {S : Type 0} → Ruling → Meaning S → S → Station → ℕ → ℕ → Digest → ℕ → Station
note_station r kind seal s j k d room = after (note_answer r kind seal s j k d room) (λ _. with_row s j (noted_row (row_of s j) k d)) s

-- start
abbrev pub start_answer : Ruling → ℕ → ℕ → Digest → Result Gathering Refused
start_answer r j k d =
    ask (nat_lt j r.houses) (whole NoSuchHouse)
    (ask (nat_le 1 k) (whole NumberPast)
    (Ok (record { notice = record { house = j; number = k; digest = d }; gathered = 0 })))

abbrev pub gathering_statement : Ruling → Gathering → Statement
gathering_statement r g = statement_of r g.notice.house g.notice.number g.notice.digest

-- add
abbrev pub add_answer : {S : Type 0} → Ruling → Meaning S → S → Gathering → ℕ → List ℕ → ℕ → Result (Unit {0}) Refused
add_answer r kind s g i seal room =
    ask (nat_lt i r.houses) (whole NoSuchHouse)
    (ask (member (r.named g.notice.house g.notice.number) i) (whole NotNamed)
    (ask (not (member g.gathered i)) (whole ReceiptRepeated)
    (ask (length seal == kind.size) (whole SealLength)
    (ask (kind.checks s i (gathering_statement r g) seal) (whole SealFails)
    (ask (nat_le (receipt_at kind.size (count_ones g.gathered + 1)) room) (whole MemoryTooSmall)
    (Ok tt))))))

-- the house is gathered
abbrev pub with_house : Gathering → ℕ → Gathering
with_house g i = record { notice = g.notice; gathered = bit_or g.gathered (2 ^ i) }

abbrev pub add_gathering : {S : Type 0} → Ruling → Meaning S → S → Gathering → ℕ → List ℕ → ℕ → Gathering
add_gathering r kind s g i seal room = after (add_answer r kind s g i seal room) (λ _. with_house g i) g

-- the receipt is written after the earlier ones
abbrev pub add_memory : {S : Type 0} → Ruling → Meaning S → S → Gathering → ℕ → List ℕ → List ℕ → List ℕ
add_memory r kind s g i seal m =
    after (add_answer r kind s g i seal (length m))
    (λ _. paste m (receipt_at kind.size (count_ones g.gathered)) (receipt_bytes i seal) (receipt_length kind.size)) m

-- close: a refusal hands the gathering back
abbrev pub close_answer : Ruling → Gathering → Result Closed (Refused × Gathering)
close_answer r g = ask (r.accepts g.notice.house g.notice.number g.gathered) (whole NotAccepted, g) (Ok (record { whole = g }))

-- issue: a refusal hands the closed gathering back
abbrev pub issue_answer : {S : Type 0} → Meaning S → Closed → ℕ → Result ℕ (Refused × Closed)
issue_answer kind c room =
    ask (nat_le (receipt_at kind.size (count_ones c.whole.gathered)) room) (whole MemoryTooSmall, c)
    (Ok (receipt_at kind.size (count_ones c.whole.gathered)))

-- the head is written
abbrev pub issue_memory : {S : Type 0} → Ruling → Meaning S → Closed → List ℕ → List ℕ
issue_memory r kind c m =
    after (issue_answer kind c (length m))
    (λ _. paste m 0 (head_bytes (gathering_statement r c.whole) (count_ones c.whole.gathered)) head_length) m

-- one receipt at a place of a bundle with statement x, after those of the houses in `met`: the set with its house
abbrev pub receipt_answer : {S : Type 0} → Ruling → Meaning S → S → Statement → ℕ → ℕ → List ℕ → ℕ → Result ℕ Refused
receipt_answer r kind s x place house seal met =
    ask (nat_lt house r.houses) (at_receipt NoSuchHouse place)
    (ask (member (r.named x.house x.number) house) (at_receipt NotNamed place)
    (ask (not (member met house)) (at_receipt ReceiptRepeated place)
    (ask (kind.checks s house x seal) (at_receipt SealFails place)
    (Ok (bit_or met (2 ^ house))))))

-- the receipts of a bundle from place i on, counted from 0, n of them, after those of the houses in `met`
unfoldable pub walk : {S : Type 0} → Ruling → Meaning S → S → List ℕ → ℕ → ℕ → ℕ → Result ℕ Refused
walk r kind s b zero i met = Ok met
walk r kind s b (suc n) i met =
    go_on (receipt_answer r kind s (bundle_statement b) (i + 1) (receipt_house kind.size b i) (receipt_seal kind.size b i) met)
    (λ all. walk r kind s b n (i + 1) all)

-- file: the questions before the receipts
unfoldable pub file_questions : {S : Type 0} → Ruling → Meaning S → Station → List ℕ → List ℕ → Result (Unit {0}) Refused
file_questions r kind s b pages =
    ask (nat_lt s.house r.houses) (whole StationHouse)
    (ask (nat_le (length pages) most_bytes) (whole PagesTooLong)
    (ask (nat_le head_length (length b)) (whole BundleTooShort)
    (ask (bundle_mark b == r.mark) (whole OtherRule)
    (ask (nat_lt (bundle_house b) r.houses) (whole NoSuchHouse)
    (ask (nat_lt (row_of s (bundle_house b)).last (bundle_number b)) (whole NumberPast)
    (ask (bundle_number b == (row_of s (bundle_house b)).last + 1) (whole NumberAhead)
    (ask (same_digest (bundle_digest b) (digest_of pages)) (whole OtherPages)
    (ask (length b == receipt_at kind.size (bundle_count b)) (whole BundleLength)
    (Ok tt)))))))))

-- then the receipts in their order, and last whether their houses are accepted
abbrev pub file_answer : {S : Type 0} → Ruling → Meaning S → S → Station → List ℕ → List ℕ → Result Filing Refused
file_answer r kind seal s b pages =
    go_on (file_questions r kind s b pages)
    (λ _. go_on (walk r kind seal b (bundle_count b) 0 0)
    (λ signers. ask (r.accepts (bundle_house b) (bundle_number b) signers) (whole NotAccepted)
    (Ok (record { station = s.house; house = bundle_house b; number = bundle_number b; digest = bundle_digest b; signers = signers }))))

-- the number is filed in the row of its house
abbrev pub file_station : {S : Type 0} → Ruling → Meaning S → S → Station → List ℕ → List ℕ → Station
file_station r kind seal s b pages =
    after (file_answer r kind seal s b pages) (λ _. with_row s (bundle_house b) (filed_row (row_of s (bundle_house b)))) s
