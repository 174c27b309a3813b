-- A hash that goes on from a prepared state is the hash of the masked block and the rest.
use Rattle.std.proofs.Common.{◌≡◌, ℕ, List, ◌++◌, length, ap, ◌∙◌}
use Rattle.sha256.specs.declared.state.State.{State}
use Rattle.sha256.specs.declared.value.Digest.{Digest}
use Rattle.sha256.specs.Constants.{initial}
use Rattle.sha256.specs.Compression.{compressed}
use Rattle.sha256.specs.Hash.{resumed, paired}
use Rattle.sha256.specs.Text.{digest_of, digest_bytes}
use Rattle.sha256.proofs.Hash.{sha256_after}
use Rattle.hmac.specs.declared.prepared.PreparedKey.{PreparedKey}
use Rattle.hmac.specs.Key.{ipad, opad, masked}
use Rattle.hmac.specs.Hmac.{hmac_of_block}
use Rattle.hmac.proofs.Masks.{masked_length}

-- the digest that finishing gives
abbrev finished : State → List ℕ → Digest
finished s rest = record { words = paired (resumed s 1 rest) }

continued : (pad : ℕ) (block rest : List ℕ) (s : State) (d : Digest)
    → length block ≡ 64 → s ≡ compressed initial (masked pad block) → d ≡ finished s rest → d ≡ digest_of (masked pad block ++ rest)
continued pad block rest s d long prepared done =
    done
    ∙ ap (λ (t : State). finished t rest) prepared
    ∙ ap (λ (t : State). record { words = paired t }) (sha256_after (masked pad block) rest (masked_length pad block ∙ long))

pub stamped : (key : PreparedKey) (message bytes : List ℕ) (inside r : Digest)
    → length key.block ≡ 64 → inside ≡ finished key.inner message → bytes ≡ digest_bytes inside → r ≡ finished key.outer bytes
    → r ≡ hmac_of_block key.block message
unfolding hmac_of_block
stamped key message bytes inside r long hashed written done =
    continued opad key.block bytes key.outer r long key.outside done
    ∙ ap (λ (v : List ℕ). digest_of (masked opad key.block ++ v)) (written ∙ ap digest_bytes (continued ipad key.block message key.inner inside long key.inside hashed))
