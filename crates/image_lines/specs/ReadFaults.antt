-- What a fault of reading an image reports: no memory, or the line at which reading failed.
use Rattle.std.specs.Prelude.{ℕ, ◌≡◌, Option, Some, Result, Err}
use Rattle.image_lines.specs.declared.fault.ImageFault.{ImageFault}
use Rattle.image_lines.specs.declared.fault.ImageFault.TheVariants.{BadLine, NoMemory}
use Rattle.image_lines.specs.Image.{Image}

-- a fault is no memory, or the line that was found
abbrev pub IsFault : ImageFault → Option ℕ → Type 0
IsFault NoMemory found = Unit {0}
IsFault (BadLine line) found = found ≡ Some line

-- a fault is no memory, or the line at which reading failed
abbrev pub IsReadFault : ImageFault → Result Image ℕ → Type 0
IsReadFault NoMemory read = Unit {0}
IsReadFault (BadLine line) read = read ≡ Err line
