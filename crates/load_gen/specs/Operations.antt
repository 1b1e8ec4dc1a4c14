-- The command that a number chooses.
use Rattle.std.specs.Prelude.{ℕ, ◌*◌, ◌/◌, ◌%◌, ◌==◌, None, if◌then◌else◌}
use Rattle.load_gen.specs.Words.{key, raw_key, directory, file, moved_file}
use Rattle.script_lang.specs.declared.verb.Verb.{Verb}
use Rattle.script_lang.specs.declared.verb.Verb.TheVariants as verb

-- caller c's command of a kind from 0 to 9, on file k and the place 1000 k
abbrev pub operation_of : ℕ → ℕ → ℕ → Verb
operation_of c k kind =
    if kind == 0 then verb.Create (file c k)
    else if kind == 1 then verb.Fill 0 (1000 * k) 4096 k
    else if kind == 2 then verb.Read 0 (1000 * k) 4096
    else if kind == 3 then verb.List (directory c) None
    else if kind == 4 then verb.Stat (file c k)
    else if kind == 5 then verb.KeyStatus (raw_key c)
    else if kind == 6 then verb.AddKey (key c)
    else if kind == 7 then verb.RemoveKey (raw_key c)
    else if kind == 8 then verb.Rename (file c k) (moved_file c k)
    else verb.Unlink (moved_file c k)

-- the command that the value r chooses for caller c: the last digit is the kind, and the digits before it
-- decide the file
abbrev pub operation : ℕ → ℕ → Verb
operation c r = operation_of c (r / 10 % 8) (r % 10)
