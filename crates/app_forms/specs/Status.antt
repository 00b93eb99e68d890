-- How a run ends.
use Rattle.std.specs.Prelude.{ℕ}
use Rattle.app_forms.specs.declared.status.Status.{Status}
use Rattle.app_forms.specs.declared.status.Status.TheVariants.{Done, Usage, Absent, ReadFault, TextTooLong, TextFault, Cycle, WeightBound, TooLarge, WriteFault, NoMemory, Rejected, UnknownAgent, NoPure, NotOneAgent, RoundsSpent, UnknownNode, UnknownState, BelowDecision, Impossible, UnknownRow, NoOthers}

-- the code of each status
abbrev pub code_of : Status → ℕ
code_of Done = 0
code_of Usage = 1
code_of Absent = 2
code_of ReadFault = 3
code_of TextTooLong = 4
code_of TextFault = 5
code_of Cycle = 6
code_of WeightBound = 7
code_of TooLarge = 8
code_of WriteFault = 9
code_of NoMemory = 10
code_of Rejected = 11
code_of UnknownAgent = 12
code_of NoPure = 14
code_of NotOneAgent = 15
code_of RoundsSpent = 16
code_of UnknownNode = 17
code_of UnknownState = 18
code_of BelowDecision = 19
code_of Impossible = 20
code_of UnknownRow = 21
code_of NoOthers = 22
