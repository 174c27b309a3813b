use Rattle.std.proofs.Common.{◌≡◌, ℕ, ◌+◌, ◌<◌, List, length, get_or, take, sym, ap, ◌∙◌, subst, arith}
use Rattle.std.proofs.lemmas.List.{length-take-le, take_all}
use Rattle.sha256.specs.Constants.{constants}
use Rattle.sha256.specs.Schedule.{scheduled}
use Rattle.sha256.specs.Compression.{rounds}
use Rattle.sha256.proofs.Schedule.{scheduled_none, scheduled_set, word_kept}
use Rattle.sha256.proofs.Compression.{rounds_none, round_again}
use Rattle.sha256.proofs.block.early_rounds.Goals as goal

pub loop-t-init : goal.loop-t-init
loop-t-init c = (c.told-w, sym (scheduled_none (take 16 c.args.w.now)), sym (rounds_none c.args.start _))

pub loop-t-preserved : goal.loop-t-preserved
unfolding constants
loop-t-preserved c =
    let t = c.loop-t.t in
    let w = c.loop-t.w in
    let m = take 16 c.args.w.now in
    let few : t < 48 = omega arith in
    let within : t + 16 < length w = omega arith in
    let sixteen : length m ≡ 16 = length-take-le 16 c.args.w.now (omega arith) in (
      c.ahead.array_long,
      ap (take (t + 1 + 16)) c.ahead.ensures ∙ scheduled_set w m t within c.loop-t.invariant.1,
      round_again t _ c.loop-t.s c.args.start c.step-s.result (scheduled 48 m) c.loop-t.invariant.2
          (ap (λ (v : List ℕ). get_or v t 0) c.ahead.ensures ∙ word_kept w m t _ few sixteen c.loop-t.invariant.1)
          c.step-s.ensures,
    )

pub returns : goal.returns
returns c =
    let m = take 16 c.args.w.now in
    let w = c.loop-t.w in
    let all : c.loop-t.t ≡ 48 = omega arith in
    record {
      schedule = sym (take_all 64 w (omega arith)) ∙ subst (λ (n : ℕ). take (n + 16) w ≡ scheduled n m) all c.loop-t.invariant.1;
      state = subst (λ (n : ℕ). c.loop-t.s ≡ rounds n c.args.start (scheduled 48 m)) all c.loop-t.invariant.2;
    }
