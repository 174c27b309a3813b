use Rattle.std.proofs.Common.{◌≡◌, ℕ, ◌<◌, List, [], length, get_or, zero-le, sym, ap, ◌∙◌, refl, rules, arith}
use Rattle.hmac.specs.declared.prepared.PreparedKey.{PreparedKey}
use Rattle.hmac.specs.Key.{key_block}
use Rattle.seal.proofs.Keys.{each_given, block_at, key_chunk}
use Rattle.seal.proofs.stamps.opening.prepare.Goals as goal

pub returns : goal.returns
returns c = λ i within whole.
    let keys : List (List ℕ) = c.as_chunks.result.0.now in
    let made : List PreparedKey = c.from_fn.result in
    let here =
    each_given _ _ (λ (k : ℕ) (y : PreparedKey). y.block ≡ key_block (get_or keys k [])) (λ k y q call. search rules) made 16 0 c.from_fn.ensures.items.each i zero-le within in
    let long : i < length made = omega (arith, c.from_fn.ensures.items.long) in
    sym (block_at made i here.0 refl long)
    ∙ ap (λ (y : PreparedKey). y.block) here.1.1
    ∙ here.1.0
    ∙ ap key_block (ap (λ (v : List (List ℕ)). get_or v i []) c.as_chunks.ensures.front ∙ key_chunk c.args.keys.now i whole)
