-- What is the number of each reason?
use Rattle.std.specs.Prelude.{ℕ}
use Rattle.tcap_ber.specs.declared.fault.Reason.{Reason}
use Rattle.tcap_ber.specs.declared.fault.Reason.TheVariants.{Cut, LengthForm, TooLong, TagForm, Overrun, BadInteger, BadObjectId, UnexpectedTag, Missing, Trailing, EmptyComponents, BadVersion, DialogueSyntax, BadSize, BadTransactionId, Indefinite, CodeTooWide, TooDeep}

-- the number that output lines print for a reason
abbrev pub number_of : Reason → ℕ
number_of Cut = 1
number_of LengthForm = 2
number_of TooLong = 3
number_of TagForm = 4
number_of Overrun = 5
number_of BadInteger = 6
number_of BadObjectId = 7
number_of UnexpectedTag = 8
number_of Missing = 9
number_of Trailing = 10
number_of EmptyComponents = 11
number_of BadVersion = 12
number_of DialogueSyntax = 13
number_of BadSize = 14
number_of BadTransactionId = 15
number_of Indefinite = 16
number_of CodeTooWide = 17
number_of TooDeep = 18
