use Rattle.std.proofs.Common.{◌≡◌, ℕ, ◌*◌, ◌/◌, length, drop, ap, ◌∙◌, arith}
use Rattle.std.specs.Prelude.{fold}
use Rattle.sha256.specs.Compression.{compressed}
use Rattle.sha256.proofs.Hash.{resumed_by, folded_blocks}
use Rattle.sha256.proofs.message.resume.Goals as goal

pub returns : goal.returns
returns c =
    let m = c.args.rest.now in
    let start = c.args.start in
    let place : length m / 64 * 64 ≡ 64 * (length m / 64) = omega arith in
    resumed_by start c.absorb-s.result c.end.result c.args.before _ m _
    (c.absorb-s.ensures ∙ ap (fold compressed start) c.as_chunks.ensures.front ∙ folded_blocks (length m / 64) start m)
    (c.as_chunks.ensures.back ∙ ap (λ (k : ℕ). drop k m) place)
    (omega arith)
    c.end.ensures
