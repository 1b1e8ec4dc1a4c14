-- The statuses of runs whose input could not be read.
use Rattle.fsc_outside.specs.declared.input.InputFault.{InputFault}
use Rattle.fsc_outside.specs.declared.input.InputFault.TheVariants as input
use Rattle.script_lang.specs.declared.reader.ScriptFault.{ScriptFault}
use Rattle.script_lang.specs.declared.reader.ScriptFault.TheVariants as script
use Rattle.image_lines.specs.declared.fault.ImageFault.{ImageFault}
use Rattle.image_lines.specs.declared.fault.ImageFault.TheVariants as image
use Rattle.fsc_tool.specs.declared.status.Status.{Status}
use Rattle.fsc_tool.specs.declared.status.Status.TheVariants.{BadLine, ReadFault, TooLong, NoMemory}

-- each fault of reading has a status of its own
abbrev pub input_status : InputFault → Status
input_status input.ReadFault = ReadFault
input_status input.TooLong = TooLong
input_status input.NoMemory = NoMemory

-- and each fault of the script
abbrev pub script_status : ScriptFault → Status
script_status (script.BadLine line) = BadLine line
script_status script.NoMemory = NoMemory

-- and each fault of an image
abbrev pub image_status : ImageFault → Status
image_status (image.BadLine line) = BadLine line
image_status image.NoMemory = NoMemory
