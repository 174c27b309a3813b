-- The worked cases, by computation.
use Rattle.std.proofs.Common.{refl}
use lib.Count.{ones}
use Rattle.witness.specs.Rotating.{circle}
use Rattle.witness.specs.Cases.{RuleCases}

pub cases : RuleCases
unfolding circle ones
cases =
    record {
      all_of_four_with_one_needs_three = refl;
      all_of_seven_with_one_needs_five = refl;
      all_of_one_needs_one = refl;
      rotating_of_one_needs_one = refl;
      seven_with_two_opens = refl;
      six_with_two_is_refused = refl;
      it_is_refusal_two = refl;
      house_five_number_three_names = refl;
      there_three_named_are_accepted = refl;
      there_two_named_are_not = refl;
      house_six_last_number_names = refl;
    }
