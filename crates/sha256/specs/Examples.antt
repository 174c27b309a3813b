-- The published examples of SHA-256, read off the definitions.
use Rattle.std.specs.Prelude.{◌≡◌, codes}
use Rattle.sha256.specs.Text.{digest_of, digest_text}

pub record Examples : Type 0 where
  pub empty : digest_text (digest_of (codes "")) ≡ codes "e3b0c44298fc1c149afbf4c8996fb92427ae41e4649b934ca495991b7852b855"
  pub abc : digest_text (digest_of (codes "abc")) ≡ codes "ba7816bf8f01cfea414140de5dae2223b00361a396177a9cb410ff61f20015ad"
  pub two_blocks :
      digest_text (digest_of (codes "abcdbcdecdefdefgefghfghighijhijkijkljklmklmnlmnomnopnopq"))
      ≡ codes "248d6a61d20638b8e5c026930c3e6039a33ce45964ff2167f6ecedd419db06c1"
