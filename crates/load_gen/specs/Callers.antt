-- One caller of a generated script.
use Rattle.std.specs.Prelude.{ℕ, zero, suc, ◌+◌, ◌*◌, ◌%◌, List, [], ◌∷◌, ◌++◌, None}
use Rattle.policy_ctx.specs.declared.policy.Pad.TheVariants.{P32}
use Rattle.load_gen.specs.Numbers.{next, upper_31_bits}
use Rattle.load_gen.specs.Words.{key, raw_key, directory, file}
use Rattle.load_gen.specs.Operations.{operation}
use Rattle.script_lang.specs.declared.commands.Command.{Command}
use Rattle.script_lang.specs.declared.commands.Section.{Section}
use Rattle.script_lang.specs.declared.verb.Verb.{Verb}
use Rattle.script_lang.specs.declared.verb.Verb.TheVariants as verb

-- the first commands of a caller, for an encrypted directory with an open file
abbrev pub first_verbs : ℕ → List Verb
first_verbs c =
    verb.AddKey (key c)
    ∷ verb.Mkdir (directory c)
    ∷ verb.SetPolicy (directory c) (raw_key c) (record { pad = P32; unit = None })
    ∷ verb.Create (file c 0)
    ∷ verb.Open (file c 0)
    ∷ []

-- `count` pseudorandom commands, if x is the last number before them: each is chosen by a number of its
-- own
unfoldable pub operations : ℕ → ℕ → ℕ → List Verb
operations zero c x = []
operations (suc count) c x = operation c (upper_31_bits (next x)) ∷ operations count c (next x)

-- the last commands of a caller
abbrev pub last_verbs : ℕ → List Verb
last_verbs c = verb.Close 0 ∷ verb.RemoveKey (raw_key c) ∷ []

-- all commands of a caller
unfoldable pub verbs : ℕ → ℕ → List Verb
verbs c x = first_verbs c ++ (operations 200 c x ++ last_verbs c)

-- commands in consecutive lines, of which the first has the number n
abbrev pub in_lines : ℕ → List Verb → List Command
in_lines n [] = []
in_lines n (verb ∷ more) = record { line = n; verb = verb } ∷ in_lines (n + 1) more

-- caller c, whose user is one of four, if x is the last number before it. The caller's own line and its
-- commands are 208 lines
abbrev pub section : ℕ → ℕ → Section
section c x = record { uid = 1000 + c % 4; commands = in_lines (208 * c + 2) (verbs c x) }
