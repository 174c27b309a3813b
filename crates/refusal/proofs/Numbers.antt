-- No two refusals have one number.
use Rattle.std.proofs.Common.{◌≡◌, ℕ, ◌-◌, List, [], ◌∷◌, get_or, sym, refl, ap, ◌∙◌}
use Rattle.refusal.specs.declared.Refusal.{Refusal}
use Rattle.refusal.specs.declared.Refusal.TheVariants.{HouseCount, TooManyFaults, SealMemory, StationHouse, NumbersUsedUp, WindowFull, PagesTooLong, NoSuchHouse, NumberPast, NumberAhead, NotNamed, AlreadyNoted, OtherDigestNoted, NoSealLeft, MemoryTooSmall, ReceiptRepeated, SealLength, SealFails, NotAccepted, BundleTooShort, OtherRule, OtherPages, BundleLength, BadLine}
use Rattle.refusal.specs.Numbers.{number_of, KnownByNumber}

-- all of them, in the order of their numbers
abbrev refusals : List Refusal
refusals =
    HouseCount ∷ TooManyFaults ∷ SealMemory ∷ StationHouse ∷ NumbersUsedUp ∷ WindowFull ∷
    PagesTooLong ∷ NoSuchHouse ∷ NumberPast ∷ NumberAhead ∷ NotNamed ∷ AlreadyNoted ∷
    OtherDigestNoted ∷ NoSealLeft ∷ MemoryTooSmall ∷ ReceiptRepeated ∷ SealLength ∷ SealFails
    ∷ NotAccepted ∷ BundleTooShort ∷ OtherRule ∷ OtherPages ∷ BundleLength ∷ BadLine ∷ []

-- the refusal that has a number from 1 to 24
abbrev of_number : ℕ → Refusal
of_number n = get_or refusals (n - 1) HouseCount

-- the number leads back to its refusal
back : (x : Refusal) → of_number (number_of x) ≡ x
back HouseCount = refl
back TooManyFaults = refl
back SealMemory = refl
back StationHouse = refl
back NumbersUsedUp = refl
back WindowFull = refl
back PagesTooLong = refl
back NoSuchHouse = refl
back NumberPast = refl
back NumberAhead = refl
back NotNamed = refl
back AlreadyNoted = refl
back OtherDigestNoted = refl
back NoSealLeft = refl
back MemoryTooSmall = refl
back ReceiptRepeated = refl
back SealLength = refl
back SealFails = refl
back NotAccepted = refl
back BundleTooShort = refl
back OtherRule = refl
back OtherPages = refl
back BundleLength = refl
back BadLine = refl

-- refusals of one number are one
pub same_number : KnownByNumber
same_number x y e = sym (back x) ∙ ap of_number e ∙ back y
