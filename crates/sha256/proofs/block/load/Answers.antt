use Rattle.std.proofs.Common.{◌≡◌, ℕ, ◌+◌, ◌/◌, ◌<◌, length, take, set, sym, ap, ◌∙◌, arith}
use Rattle.std.proofs.lemmas.List.{length-set}
use Rattle.sha256.specs.Schedule.{word}
use Rattle.sha256.proofs.Schedule.{words_none, words_set, chunk_word}
use Rattle.sha256.proofs.block.load.Goals as goal

pub loop-i-init : goal.loop-i-init
loop-i-init c = (c.told-w, sym (words_none c.args.block.now))

pub loop-i-preserved : goal.loop-i-preserved
loop-i-preserved c =
    let i = c.loop-i.i in
    let w = c.loop-i.w in
    let block = c.args.block.now in
    let within : i < length w = omega arith in
    let few : i < length block / 4 = omega arith in
    let read : c.from_be_bytes.result ≡ word block i = chunk_word block (length block / 4) i _ _ c.as_chunks.ensures.front few c.from_be_bytes.ensures in (
      length-set w i _ ∙ c.loop-i.invariant.0,
      ap (λ (x : ℕ). take (i + 1) (set w i x)) read ∙ words_set w block i within c.loop-i.invariant.1,
    )
