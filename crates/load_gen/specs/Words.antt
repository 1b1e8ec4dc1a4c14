-- The arguments of a caller's generated commands.
use Rattle.std.specs.Prelude.{ℕ, ◌+◌, ◌%◌, ◌==◌, List, [], ◌∷◌, ◌++◌, replicate, codes, if◌then◌else◌}
use Rattle.script_words.specs.declared.path.ScriptPart.{ScriptPart}
use Rattle.script_words.specs.declared.path.ScriptPart.TheVariants.{Given}
use Rattle.script_words.specs.declared.key_words.KeyRef.{KeyRef}
use Rattle.script_words.specs.declared.key_words.KeyRef.TheVariants.{Raw}

-- the byte of a caller's key: in digits, `11` if the caller's number is even, and `22` if it is odd
abbrev pub key_byte : ℕ → ℕ
key_byte c = if c % 2 == 0 then 17 else 34

-- the key: 64 times that byte, so 128 times the digit `1` or the digit `2`
unfoldable pub key : ℕ → List ℕ
key c = replicate 64 (key_byte c)

abbrev pub raw_key : ℕ → KeyRef
raw_key c = Raw (key c)

-- a name: letters and a digit
abbrev pub name : List ℕ → ℕ → ScriptPart
name letters digit = Given (letters ++ (48 + digit) ∷ [])

-- the directory `/dC` of caller C
abbrev pub directory : ℕ → List ScriptPart
directory c = name (codes "d") c ∷ []

-- its file `/dC/fK`
abbrev pub file : ℕ → ℕ → List ScriptPart
file c k = name (codes "d") c ∷ name (codes "f") k ∷ []

-- the name `/dC/gK` to which the file is moved
abbrev pub moved_file : ℕ → ℕ → List ScriptPart
moved_file c k = name (codes "d") c ∷ name (codes "g") k ∷ []
