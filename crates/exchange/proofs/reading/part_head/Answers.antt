use Rattle.std.proofs.Common.{ℕ, List, get_or, ap, ◌∙◌, arith}
use Rattle.std.proofs.lemmas.List.{take_rest}
use Rattle.exchange.proofs.Parting.{statement_parted, count_behind}
use Rattle.exchange.proofs.reading.part_head.Goals as goal

pub returns : goal.returns
returns c =
    let b = c.args.bundle.now in (
      omega (arith, c.in_ok-count.ensures.lookup.3.0),
      statement_parted b _ _ _ _ _ _ _ _ (take_rest b 4) c.from_be_bytes.ensures c.as_chunks.ensures.front (omega (arith, c.in-len4-up-words.len_at_least, c.as_chunks.ensures.front_len))
          c.word.ensures c.word-2.ensures c.word-3.ensures c.word-4.ensures,
      c.in_ok-count.ensures.lookup.3.1 0 ∙ ap (λ (v : List ℕ). get_or v 32 0) (take_rest b 4) ∙ count_behind b,
    )
