-- The worked cases.
use Rattle.std.proofs.Common.{refl, arith}
use Rattle.witness.specs.Cases.{RuleCases}
use Rattle.seal.specs.Meanings.{Meaning}
use Rattle.cases.specs.Cases.{Cases}
use Rattle.cases.proofs.Notes.{past, ahead}
use Rattle.cases.proofs.Bare.{bare_refused}

pub cases : {S : Type 0} (k : Meaning S) → RuleCases → Cases k
cases k rules =
    record {
      of_rules = rules;
      two_after_two = λ r s x j d room own member last. past r k s x j 2 d room own member (omega arith);
      past_is_refusal_nine = refl;
      seven_after_two = λ r s x j d room own member last. ahead r k s x j 7 d room own member (omega arith);
      ahead_is_refusal_ten = refl;
      no_receipts = λ r law s x j p own member within. bare_refused r k x j _ p own member refl within law s;
      not_accepted_is_refusal_nineteen = refl;
    }
