use Rattle.std.proofs.Common.{◌≡◌, codes, refl, arith}
use Rattle.std.proofs.lemmas.Slice.Eq.{text_from_reads}
use Rattle.rehearsal.proofs.events.CallTryFromRefSliceU8.try_from.Goals as goal

-- the bytes that an arm has tested, as one text
pub returns-in-announce : goal.returns-in-announce
returns-in-announce c =
    let is : c.args.word.now ≡ codes "announce" =
    text_from_reads _ _ (omega arith) (omega arith, (omega arith, (omega arith, (omega arith, (omega arith, (omega arith, (omega arith, (omega arith, tt)))))))) in
    rw is refl
