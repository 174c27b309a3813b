use Rattle.std.proofs.Common.{rules, ◌≡◌, ℕ, ◌+◌, [], ◌∷◌, ◌++◌, length, get_or, drop, take, ◌-◌, ap, ◌∙◌, arith, length-append, length-drop}
use Rattle.std.proofs.lemmas.Slice.Zip.{zip_turn, zip_end}
use Rattle.std.proofs.lemmas.List.{get_or-drop, take_rest}
use Rattle.sha256.specs.Constants.{constants}
use Rattle.sha256.specs.Compression.{round, rounds}
use Rattle.sha256.proofs.Compression.{round_again}
use Rattle.sha256.proofs.block.late_rounds.Goals as goal

pub loop-k-preserved : goal.loop-k-preserved
unfolding constants
loop-k-preserved c = λ start first.
    let w = c.args.w.now in
    let xs = c.loop-k.yielded in
    let n = 48 + length xs in
    let second : c.into_iter-k-iterator.result.b.rest.now ≡ take (length w - 48) (drop 48 w) = search rules in
    let turn = zip_turn (drop 48 constants) (drop 48 w) xs c.into_iter-k-iterator.result c.loop-k.k-iterator c.next.new.self c.next.result
    (search rules) (second ∙ take_rest w 48) c.loop-k.yielded_by (c.in-Some.k, c.in-Some.word) c.in-Some.is c.next.ensures.steps in
    let constant : c.in-Some.k.now ≡ get_or constants n 0 = turn.2 0 ∙ get_or-drop 48 constants (length xs) 0 in
    let word = turn.3 0 ∙ get_or-drop 48 w (length xs) 0 in
    let one : n + 1 ≡ 48 + length (xs ++ ((c.in-Some.k, c.in-Some.word) ∷ [])) = omega (arith, length-append xs ((c.in-Some.k, c.in-Some.word) ∷ [])) in
    round_again n c.in-Some.word.now c.loop-k.s start c.step-s.result w (c.loop-k.invariant start first) word (c.step-s.ensures ∙ ap (λ (k : ℕ). round c.loop-k.s k c.in-Some.word.now) constant)
    ∙ ap (λ (k : ℕ). rounds k start w) one

pub returns : goal.returns
unfolding constants
returns c = λ start first.
    let w = c.args.w.now in
    let second : c.into_iter-k-iterator.result.b.rest.now ≡ take (length w - 48) (drop 48 w) = search rules in
    let all = zip_end (drop 48 constants) (drop 48 w) c.loop-k.yielded c.into_iter-k-iterator.result c.loop-k.k-iterator c.next.new.self c.next.result
    (search rules) (second ∙ take_rest w 48) c.loop-k.yielded_by c.in-None.is c.next.ensures.steps in
    let count : 48 + length c.loop-k.yielded ≡ 64 = omega (arith, all, length-drop 48 w) in
    c.loop-k.invariant start first ∙ ap (λ (k : ℕ). rounds k start w) count
