-- A way to read names whose key was wiped.
use Rattle.std.specs.Prelude.{replicate}
use Rattle.mount_names.specs.declared.reading.Reading.{Reading}
use Rattle.mount_names.specs.declared.reading.Reading.TheVariants.{Plain, Keyed, Locked}

-- with 32 zeros in place of the key, if there is one
abbrev pub wiped : Reading → Reading
wiped Plain = Plain
wiped (Keyed cipher) = Keyed (record { key = replicate 32 0; start = cipher.start })
wiped Locked = Locked
