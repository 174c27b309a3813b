-- Worked cases of the two rules, read off the definitions that the code meets.
use Rattle.std.specs.Prelude.{◌≡◌, true, false, [], ◌∷◌, Ok, Err}
use Rattle.refusal.specs.declared.Refusal.TheVariants.{TooManyFaults}
use Rattle.refusal.specs.Numbers.{number_of}
use Rattle.witness.specs.Sets.{set_of}
use Rattle.witness.specs.Opening.{opened}
use Rattle.witness.specs.All.{all_need}
use Rattle.witness.specs.Rotating.{rotating_need, rotating_ruling}

-- what the rules need, what can be opened, and what Rotating answers for seven houses of which one may misbehave
pub record RuleCases : Type 0 where
  pub all_of_four_with_one_needs_three : all_need 4 1 ≡ 3
  pub all_of_seven_with_one_needs_five : all_need 7 1 ≡ 5
  pub all_of_one_needs_one : all_need 1 0 ≡ 1
  pub rotating_of_one_needs_one : rotating_need 0 ≡ 1
  pub seven_with_two_opens : opened 7 2 ≡ Ok tt
  pub six_with_two_is_refused : opened 6 2 ≡ Err TooManyFaults
  pub it_is_refusal_two : number_of TooManyFaults ≡ 2
  pub house_five_number_three_names : (rotating_ruling 7 1).named 5 3 ≡ set_of (1 ∷ 2 ∷ 3 ∷ 4 ∷ [])
  pub there_three_named_are_accepted : (rotating_ruling 7 1).accepts 5 3 (set_of (1 ∷ 2 ∷ 3 ∷ [])) ≡ true
  pub there_two_named_are_not : (rotating_ruling 7 1).accepts 5 3 (set_of (1 ∷ 2 ∷ 5 ∷ [])) ≡ false
  pub house_six_last_number_names : (rotating_ruling 7 1).named 6 65535 ≡ set_of (0 ∷ 1 ∷ 2 ∷ 3 ∷ [])
