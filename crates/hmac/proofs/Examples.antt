-- The test cases, by computation.
use Rattle.std.proofs.Common.{refl}
use Rattle.sha256.specs.Functions.{maj}
use Rattle.sha256.specs.Constants.{constants}
use Rattle.sha256.specs.Schedule.{words, scheduled}
use Rattle.sha256.specs.Compression.{rounds, compressed}
use Rattle.sha256.specs.Padding.{padding}
use Rattle.sha256.specs.Hash.{hashed, sha256}
use Rattle.sha256.specs.Text.{bytes32, hex}
use Rattle.hmac.specs.Key.{key_block, masked}
use Rattle.hmac.specs.Hmac.{hmac_of_block}
use Rattle.hmac.specs.Examples.{Examples}

pub examples : Examples
unfolding maj constants words scheduled rounds compressed padding hashed sha256 bytes32 hex key_block masked hmac_of_block
examples = record { case_1 = refl; case_2 = refl; case_6 = refl }
