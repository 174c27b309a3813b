use Rattle.std.proofs.Common.{◌≡◌, ℕ, ◌+◌, ◌-◌, length, refl, ap, ◌∙◌, arith}
use Rattle.std.proofs.lemmas.Slice.{put_mid-paste}
use Rattle.sha256.specs.Padding.{nulls, zeros}
use Rattle.sha256.proofs.Padding.{padded_end}
use Rattle.sha256.proofs.tail.pad.Goals as goal
use Rattle.sha256.proofs.tail.pad.Goals.{then-rest-lt-ROOM, else-rest-lt-ROOM}

pub returns : goal.returns
returns c =
    let rest = c.args.rest.now in
    let n = length rest in
    let at = c.if-rest-lt-ROOM.length_at in
    let place : at ≡ n + 1 + zeros n = elim c.if-rest-lt-ROOM.branch [ then-rest-lt-ROOM w ↦ omega (arith, w.length_at-is) | else-rest-lt-ROOM w ↦ omega (arith, w.length_at-is) ] in
    let last = c.to_be_bytes.result in
    let eight : length last ≡ at + 8 - at = ap length c.to_be_bytes.ensures ∙ omega arith in
    let first = put_mid-paste 0 n (nulls 128) c.copy_from_slice.new.self rest n c.copy_from_slice.ensures.after refl refl in
    let second = put_mid-paste at (at + 8 - at) _ c.copy_from_slice-2.new.self last (length last) c.copy_from_slice-2.ensures.after eight refl in
    let whole = λ (k : ℕ) (all : k ≡ at + 8). padded_end rest _ _ last c.args.bits n at k refl (omega arith) place all first c.to_be_bytes.ensures second in
    record { one = λ h. whole 64 (omega arith); two = λ h. whole 128 (omega arith) }
