-- What is written of a refusal with its place.
use Rattle.std.specs.Prelude.{ℕ, List, [], ◌++◌, codes, decimal, Option, Some, None}
use Rattle.std.specs.declared.num.NonZeroU8.{NonZeroU8}
use Rattle.refusal.specs.declared.Refused.{Refused}
use Rattle.refusal.specs.Numbers.{number_of}

-- the bytes that name the receipt at a place, and none where there is no place
abbrev pub place_text : Option NonZeroU8 → List ℕ
place_text None = []
place_text (Some place) = codes " at receipt " ++ decimal place.value

-- the bytes that say the refusal's number and its place
abbrev pub refused_text : Refused → List ℕ
refused_text x = codes "refused " ++ (decimal (number_of x.refusal) ++ place_text x.place)
