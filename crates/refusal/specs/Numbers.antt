-- The number of each refusal, and that no two have the same.
use Rattle.std.specs.Prelude.{◌≡◌, ℕ}
use Rattle.refusal.specs.declared.Refusal.{Refusal}
use Rattle.refusal.specs.declared.Refusal.TheVariants.{HouseCount, TooManyFaults, SealMemory, StationHouse, NumbersUsedUp, WindowFull, PagesTooLong, NoSuchHouse, NumberPast, NumberAhead, NotNamed, AlreadyNoted, OtherDigestNoted, NoSealLeft, MemoryTooSmall, ReceiptRepeated, SealLength, SealFails, NotAccepted, BundleTooShort, OtherRule, OtherPages, BundleLength, BadLine}

-- the number by which a refusal is known outside the program
abbrev pub number_of : Refusal → ℕ
number_of HouseCount = 1
number_of TooManyFaults = 2
number_of SealMemory = 3
number_of StationHouse = 4
number_of NumbersUsedUp = 5
number_of WindowFull = 6
number_of PagesTooLong = 7
number_of NoSuchHouse = 8
number_of NumberPast = 9
number_of NumberAhead = 10
number_of NotNamed = 11
number_of AlreadyNoted = 12
number_of OtherDigestNoted = 13
number_of NoSealLeft = 14
number_of MemoryTooSmall = 15
number_of ReceiptRepeated = 16
number_of SealLength = 17
number_of SealFails = 18
number_of NotAccepted = 19
number_of BundleTooShort = 20
number_of OtherRule = 21
number_of OtherPages = 22
number_of BundleLength = 23
number_of BadLine = 24

-- a refusal is known by its number
abbrev pub KnownByNumber : Type 0
KnownByNumber = (x y : Refusal) → number_of x ≡ number_of y → x ≡ y
