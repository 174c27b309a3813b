-- The published examples, by computation.
use Rattle.std.proofs.Common.{refl}
use Rattle.sha256.specs.Functions.{maj}
use Rattle.sha256.specs.Constants.{constants}
use Rattle.sha256.specs.Schedule.{words, scheduled}
use Rattle.sha256.specs.Compression.{rounds, compressed}
use Rattle.sha256.specs.Padding.{padding}
use Rattle.sha256.specs.Hash.{hashed, sha256}
use Rattle.sha256.specs.Text.{bytes32, hex}
use Rattle.sha256.specs.Examples.{Examples}

pub examples : Examples
unfolding maj constants words scheduled rounds compressed padding hashed sha256 bytes32 hex
examples = record { empty = refl; abc = refl; two_blocks = refl }
