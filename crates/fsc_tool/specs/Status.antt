-- How a run ends: its number and its line.
use Rattle.std.specs.Prelude.{ℕ, List, [], ◌++◌, codes}
use Rattle.std.specs.Fmt.{decimal}
use Rattle.fsc_tool.specs.declared.status.Status.{Status}
use Rattle.fsc_tool.specs.declared.status.Status.TheVariants.{Done, Usage, BadLine, ReadFault}
use Rattle.fsc_tool.specs.declared.status.Status.TheVariants.{WriteFault, SeedFault, TooLong, NoMemory, Refused}

-- the exit status of the program
abbrev pub status_number : Status → ℕ
status_number Done = 0
status_number (Refused place) = 1
status_number Usage = 2
status_number (BadLine line) = 3
status_number ReadFault = 4
status_number WriteFault = 5
status_number SeedFault = 6
status_number TooLong = 7
status_number NoMemory = 8

-- the line on standard error, without its line feed; a run that is done has none
abbrev pub status_text : Status → List ℕ
status_text Done = []
status_text (Refused place) = codes "fsc: refused at " ++ decimal place
status_text Usage = codes "fsc: usage"
status_text (BadLine line) = codes "fsc: bad line " ++ decimal line
status_text ReadFault = codes "fsc: read fault"
status_text WriteFault = codes "fsc: write fault"
status_text SeedFault = codes "fsc: seed fault"
status_text TooLong = codes "fsc: input too long"
status_text NoMemory = codes "fsc: no memory"
