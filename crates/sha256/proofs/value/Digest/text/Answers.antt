use Rattle.std.proofs.Common.{◌≡◌, ℕ, ◌+◌, ◌*◌, ◌<◌, length, take, sym, refl, ap, ◌∙◌, subst, arith}
use Rattle.std.proofs.lemmas.List.{length-set, take_all}
use Rattle.sha256.specs.Text.{hex}
use Rattle.sha256.proofs.Digests.{digest_bytes_length}
use Rattle.sha256.proofs.Text.{hex_none, hex_more}
use Rattle.sha256.proofs.value.Digest.text.Goals as goal

pub loop-i-init : goal.loop-i-init
loop-i-init c = (refl, sym hex_none)

pub loop-i-preserved : goal.loop-i-preserved
loop-i-preserved c =
    let i = c.loop-i.i in
    let text = c.loop-i.text in
    let bytes = c.bytes-bytes.result in
    let long : length bytes ≡ 32 = ap length c.bytes-bytes.ensures ∙ digest_bytes_length c.args.self in
    let room : 2 * i + 1 < length text = omega arith in
    let within : i < length bytes = omega arith in (
      length-set _ _ _ ∙ length-set _ _ _ ∙ c.loop-i.invariant.0,
      hex_more text bytes i c.digit.result c.digit-in-loop-i.result room within c.loop-i.invariant.1 c.digit.ensures c.digit-in-loop-i.ensures,
    )

pub returns : goal.returns
returns c =
    let text = c.loop-i.text in
    let bytes = c.bytes-bytes.result in
    let long : length bytes ≡ 32 = ap length c.bytes-bytes.ensures ∙ digest_bytes_length c.args.self in
    let all : c.loop-i.i ≡ 32 = omega arith in
    sym (take_all 64 text (omega arith))
    ∙ subst (λ (n : ℕ). take (2 * n) text ≡ hex (take n bytes)) all c.loop-i.invariant.1
    ∙ ap hex (take_all 32 bytes (omega arith) ∙ c.bytes-bytes.ensures)
