-- The files of the system.
use Rattle.std.specs.declared.io.ErrorKind.{ErrorKind}
use Rattle.std.specs.declared.io.ErrorKind.TheVariants as kinds
use Rattle.maid_io.specs.declared.devices.Opened.{Opened}
use Rattle.maid_io.specs.declared.devices.Opened.TheVariants.{Absent, Failed, NoMemory}

-- the answer to a start whose opening was refused
abbrev pub refusal_of : ErrorKind → Opened
refusal_of kinds.NotFound = Absent
refusal_of kinds.OutOfMemory = NoMemory
refusal_of _ = Failed
