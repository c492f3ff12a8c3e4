-- The numbers of the refusals.
use Rattle.std.specs.Prelude.{ℕ}
use Rattle.panel.specs.declared.refusals.Refusal.{Refusal}

-- In the order in which the rules number them; another has its own.
abbrev pub number_of : Refusal → ℕ
number_of Refusal.RamTooLong = 1
number_of Refusal.BadJournal = 2
number_of Refusal.BadState = 3
number_of Refusal.Halted = 4
number_of Refusal.NotReady = 5
number_of Refusal.NoRegister = 6
number_of Refusal.NotRam = 7
number_of Refusal.NoRecord = 8
number_of Refusal.BadRecord = 9
number_of Refusal.Reason2 = 10
number_of Refusal.NoRoom = 11
number_of Refusal.BadLine = 12
number_of Refusal.BadMnemonic = 13
number_of Refusal.BadOperand = 14
number_of (Refusal.Other n) = n
