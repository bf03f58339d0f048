-- The number of each refusal.
use Rattle.std.specs.Prelude.{ℕ}
use Rattle.refusal.specs.declared.Refusal.{Refusal}
use Rattle.refusal.specs.declared.Refusal.TheVariants.{Full, NoKind, NoGroup, NoPart, NoRule, NoState, PartUnsettled, AlreadySettled, NotSettled, NoPlaybook, NoRoom, NoChoice, NoLimit}

abbrev pub number_of : Refusal → ℕ
number_of Full = 1
number_of NoKind = 2
number_of NoGroup = 3
number_of NoPart = 4
number_of NoRule = 5
number_of NoState = 6
number_of PartUnsettled = 7
number_of AlreadySettled = 8
number_of NotSettled = 9
number_of NoPlaybook = 10
number_of NoRoom = 11
number_of NoChoice = 12
number_of NoLimit = 13
