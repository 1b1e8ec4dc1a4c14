-- Groups of commands, by the words that are written after each name.
use Rattle.std.specs.Prelude.{⊤}
use Rattle.script_lang.specs.declared.verb.Verb.{Verb}
use Rattle.script_lang.specs.declared.verb.Verb.TheVariants as verb

-- a command with a path, and further words after it
abbrev pub BeginsWithPath : Verb → Type 0
BeginsWithPath (verb.SetPolicy path key settings) = ⊤
BeginsWithPath (verb.SetPolicyBytes path policy) = ⊤
BeginsWithPath (verb.Symlink path target) = ⊤
BeginsWithPath (verb.Rename old_path new_path) = ⊤
BeginsWithPath (verb.List path start) = ⊤
BeginsWithPath (verb.Encrypt path policy settings) = ⊤
BeginsWithPath other = ⊥

-- one with several numbers, or with a record and a number
abbrev pub HasNumbers : Verb → Type 0
HasNumbers (verb.Read handle offset len) = ⊤
HasNumbers (verb.Write handle offset bytes) = ⊤
HasNumbers (verb.Fill handle offset len byte) = ⊤
HasNumbers (verb.MetaPut name expected bytes) = ⊤
HasNumbers other = ⊥

-- one with a label, and further words after it
abbrev pub BeginsWithLabel : Verb → Type 0
BeginsWithLabel (verb.Protector protector secret) = ⊤
BeginsWithLabel (verb.ProtectorChange protector secret new) = ⊤
BeginsWithLabel (verb.PolicyNew policy protector secret options) = ⊤
BeginsWithLabel (verb.PolicyAdd policy protector secret added added_secret) = ⊤
BeginsWithLabel (verb.PolicyDrop policy protector) = ⊤
BeginsWithLabel (verb.Unlock policy protector secret) = ⊤
BeginsWithLabel other = ⊥
