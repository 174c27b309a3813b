use Rattle.std.proofs.Common.{◌≡◌, ℕ, ◌/◌, ◌++◌, List, [], length, get_or, ap, ◌∙◌, arith, length-append}
use Rattle.std.specs.Simd.{first_chunks}
use Rattle.sha256.specs.Compression.{compressed}
use Rattle.sha256.specs.Padding.{padding, zeros}
use Rattle.sha256.proofs.Padding.{padding_length}
use Rattle.sha256.proofs.Hash.{folded_one, folded_two}
use Rattle.sha256.proofs.tail.end.Goals as goal

pub returns-then-rest-lt-ROOM : goal.returns-then-rest-lt-ROOM
returns-then-rest-lt-ROOM c =
    let rest = c.args.rest.now in
    let end = padding (zeros (length rest)) c.args.bits in
    let long : length (rest ++ end) ≡ 64 = length-append rest end ∙ omega (arith, padding_length (zeros (length rest)) c.args.bits) in
    let tail = c.pad-tail.result in
    let two : length tail / 64 ≡ 2 = omega arith in
    let front : c.as_chunks.result.0.now ≡ first_chunks 64 2 tail = c.as_chunks.ensures.front ∙ ap (λ (n : ℕ). first_chunks 64 n tail) two in
    folded_one c.args.s c.compress-first.result c.pad-tail.result (rest ++ end) long (c.pad-tail.ensures.one c.if-rest-lt-ROOM.true)
    (c.compress-first.ensures ∙ ap (λ (v : List (List ℕ)). compressed c.args.s (get_or v 0 [])) front)

pub returns-else-rest-lt-ROOM : goal.returns-else-rest-lt-ROOM
returns-else-rest-lt-ROOM c =
    let rest = c.args.rest.now in
    let end = padding (zeros (length rest)) c.args.bits in
    let long : length (rest ++ end) ≡ 128 = length-append rest end ∙ omega (arith, padding_length (zeros (length rest)) c.args.bits) in
    let tail = c.pad-tail.result in
    let two : length tail / 64 ≡ 2 = omega arith in
    let front : c.as_chunks.result.0.now ≡ first_chunks 64 2 tail = c.as_chunks.ensures.front ∙ ap (λ (n : ℕ). first_chunks 64 n tail) two in
    folded_two c.args.s c.compress-first.result c.compress.result c.pad-tail.result (rest ++ end) long (c.pad-tail.ensures.two c.if-rest-lt-ROOM.false)
    (c.compress-first.ensures ∙ ap (λ (v : List (List ℕ)). compressed c.args.s (get_or v 0 [])) front)
    (c.compress.ensures ∙ ap (λ (v : List (List ℕ)). compressed c.compress-first.result (get_or v 1 [])) front)
