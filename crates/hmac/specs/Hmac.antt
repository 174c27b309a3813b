-- HMAC with SHA-256 (FIPS 198-1, 4: steps 4 to 9).
use Rattle.std.specs.Prelude.{ℕ, List, ◌++◌}
use Rattle.sha256.specs.declared.value.Digest.{Digest}
use Rattle.sha256.specs.Text.{digest_of, digest_bytes}
use Rattle.hmac.specs.Key.{key_block, ipad, opad, masked}

-- H((K0 ⊕ opad) ‖ H((K0 ⊕ ipad) ‖ message)), from K0 and the message
unfoldable pub hmac_of_block : List ℕ → List ℕ → Digest
hmac_of_block block message = digest_of (masked opad block ++ digest_bytes (digest_of (masked ipad block ++ message)))

-- HMAC of a key of any length and a message
abbrev pub hmac_of : List ℕ → List ℕ → Digest
hmac_of key message = hmac_of_block (key_block key) message
