use Rattle.std.proofs.Common.{ℕ, List, ap, ◌∙◌, ap₂, arith}
use Rattle.hmac.specs.Hmac.{hmac_of_block}
use Rattle.sha256.specs.Text.{digest_bytes}
use Rattle.std.proofs.lemmas.Slice.Eq.{bytes_eq-Decides}
use Rattle.std.proofs.lemmas.Bool.Decides.{same_from_decides}
use Rattle.std.specs.Str.{bytes_eq}
use Rattle.seal.proofs.Keys.{block_at}
use Rattle.seal.proofs.stamps.Stamps.stamped.Goals as goal

pub returns : goal.returns
returns c =
    let seal : List ℕ = c.args.seal.now in
    let block = block_at c.args.self.now.keys c.from.result c.index-self-from.result c.from.ensures (omega arith) in
    same_from_decides c.checks.result (bytes_eq seal _) c.checks.ensures (bytes_eq-Decides seal _)
    ∙ ap (λ (v : List ℕ). bytes_eq seal v) (ap digest_bytes (ap₂ hmac_of_block block c.bytes.ensures))
