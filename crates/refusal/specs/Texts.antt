-- The sentence of each refusal.
use Rattle.std.specs.Prelude.{ℕ, List, codes}
use Rattle.refusal.specs.declared.Refusal.{Refusal}
use Rattle.refusal.specs.declared.Refusal.TheVariants.{HouseCount, TooManyFaults, SealMemory, StationHouse, NumbersUsedUp, WindowFull, PagesTooLong, NoSuchHouse, NumberPast, NumberAhead, NotNamed, AlreadyNoted, OtherDigestNoted, NoSealLeft, MemoryTooSmall, ReceiptRepeated, SealLength, SealFails, NotAccepted, BundleTooShort, OtherRule, OtherPages, BundleLength, BadLine}

-- the bytes of the sentence that says what is wrong
abbrev pub text_of : Refusal → List ℕ
text_of HouseCount = codes "the number of houses is not from 1 to 16"
text_of TooManyFaults = codes "the houses are not more than three times the tolerated faults"
text_of SealMemory = codes "the register's rows or key bytes do not fit the number of houses"
text_of StationHouse = codes "the station's house is not one of the houses"
text_of NumbersUsedUp = codes "the house has announced its last number"
text_of WindowFull = codes "four announced editions of the house are not filed yet"
text_of PagesTooLong = codes "the pages are longer than 16,777,216 bytes"
text_of NoSuchHouse = codes "there is no such house"
text_of NumberPast = codes "the number is 0 or is filed already"
text_of NumberAhead = codes "the number is too far ahead of the last one filed"
text_of NotNamed = codes "the house is not named as a witness"
text_of AlreadyNoted = codes "this digest is noted already"
text_of OtherDigestNoted = codes "another digest is noted for this house and number"
text_of NoSealLeft = codes "the house has no seal left"
text_of MemoryTooSmall = codes "the memory is too small for what is to be written"
text_of ReceiptRepeated = codes "the house's receipt is there already"
text_of SealLength = codes "the seal does not have the right length"
text_of SealFails = codes "the seal does not check"
text_of NotAccepted = codes "the rule does not accept the set of houses"
text_of BundleTooShort = codes "the bundle is shorter than its head"
text_of OtherRule = codes "the bundle's mark is another rule's"
text_of OtherPages = codes "the bundle's digest is not that of the pages"
text_of BundleLength = codes "the bundle's length does not fit its number of receipts"
text_of BadLine = codes "the input line does not have the right form"
