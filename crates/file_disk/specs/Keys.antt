-- What a file's contents are encrypted with, from what is passed to the calls.
use Rattle.std.specs.Prelude.{Option, None, Some}
use Rattle.std.specs.declared.boxed.Box.{Box}
use Rattle.std.specs.Global.{Global}
use Rattle.data_crypt.specs.Blocks.{Seal}
use Rattle.file_disk.specs.declared.key.ContentsKey.{ContentsKey}

abbrev pub key_seal : ContentsKey → Seal
key_seal key = record { key = key.bytes; start = key.start; unit = key.unit }

-- nothing, if a file is under no policy
abbrev pub seal_of : Option ContentsKey → Option Seal
seal_of None = None
seal_of (Some key) = Some (key_seal key)

-- the same for the key of a pending read, in a box
abbrev pub pending_seal : Option (Box ContentsKey Global) → Option Seal
pending_seal None = None
pending_seal (Some key) = Some (key_seal key.value)
