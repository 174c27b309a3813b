-- Test cases of RFC 4231, read off the definitions.
use Rattle.std.specs.Prelude.{◌≡◌, replicate, codes}
use Rattle.sha256.specs.Text.{digest_text}
use Rattle.hmac.specs.Hmac.{hmac_of}

pub record Examples : Type 0 where
  pub case_1 : digest_text (hmac_of (replicate 20 0x0b) (codes "Hi There")) ≡ codes "b0344c61d8db38535ca8afceaf0bf12b881dc200c9833da726e9376c2e32cff7"
  pub case_2 : digest_text (hmac_of (codes "Jefe") (codes "what do ya want for nothing?")) ≡ codes "5bdcc146bf60754e6a042426089575c75a003f089d2739839dec58b964ec3843"
  pub case_6 :
      digest_text (hmac_of (replicate 131 0xaa) (codes "Test Using Larger Than Block-Size Key - Hash Key First"))
      ≡ codes "60e431591ee0b67f0d8a26aacbf5b77f8e0bc6213728c5140546040f0ee37f54"
