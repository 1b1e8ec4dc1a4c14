-- The table of commands: the words after each name, and the verb that they spell.
use Rattle.std.specs.Prelude.{ℕ, List, Option}
use Rattle.std.specs.Option.{option_and_then}
use Rattle.short_bytes.specs.Label.{label_of}
use Rattle.script_words.specs.Keys.{hex_of_size, key_ref_of}
use Rattle.script_words.specs.Numbers.{number_of}
use Rattle.script_words.specs.Records.{record_of}
use Rattle.script_words.specs.Path.{path_of}
use Rattle.script_lang.specs.Forms.{Form, says, only, whole}
use Rattle.script_lang.specs.Names.{name_of}
use Rattle.script_lang.specs.Verbs.{set_policy, set_policy_bytes, symlink, rename, list}
use Rattle.script_lang.specs.NumberVerbs.{read, write, fill, meta_put_form}
use Rattle.script_lang.specs.Sessions.{protector, protector_change, policy_new, policy_add, policy_drop}
use Rattle.script_lang.specs.Sessions.{unlock, encrypt}
use Rattle.script_lang.specs.declared.limits.TheConstants.{MAX_ADDED_BYTES}
use Rattle.script_lang.specs.declared.names.CommandName.{CommandName}
use Rattle.script_lang.specs.declared.names.CommandName.TheVariants as name
use Rattle.script_lang.specs.declared.verb.Verb.{Verb}
use Rattle.script_lang.specs.declared.verb.Verb.TheVariants as verb

-- the words that a command takes
abbrev pub form_of : CommandName → Form Verb
form_of name.AddKey = only verb.AddKey (hex_of_size 1 MAX_ADDED_BYTES)
form_of name.RemoveKey = only verb.RemoveKey key_ref_of
form_of name.RemoveKeyAll = only verb.RemoveKeyAll key_ref_of
form_of name.KeyStatus = only verb.KeyStatus key_ref_of
form_of name.SetPolicy = set_policy
form_of name.SetPolicyBytes = set_policy_bytes
form_of name.GetPolicy = only verb.GetPolicy path_of
form_of name.Mkdir = only verb.Mkdir path_of
form_of name.Create = only verb.Create path_of
form_of name.Symlink = symlink
form_of name.ReadLink = only verb.ReadLink path_of
form_of name.Unlink = only verb.Unlink path_of
form_of name.Rmdir = only verb.Rmdir path_of
form_of name.Rename = rename
form_of name.List = list
form_of name.Stat = only verb.Stat path_of
form_of name.Open = only verb.Open path_of
form_of name.Close = only verb.Close number_of
form_of name.Read = read
form_of name.Write = write
form_of name.Fill = fill
form_of name.DropCaches = says verb.DropCaches
form_of name.MetaGet = only verb.MetaGet record_of
form_of name.MetaPut = meta_put_form
form_of name.Protector = protector
form_of name.ProtectorChange = protector_change
form_of name.ProtectorLink = only verb.ProtectorLink label_of
form_of name.PolicyNew = policy_new
form_of name.PolicyAdd = policy_add
form_of name.PolicyDrop = policy_drop
form_of name.Unlock = unlock
form_of name.Lock = only verb.Lock label_of
form_of name.Status = only verb.Status label_of
form_of name.Encrypt = encrypt
form_of name.Migrate = only verb.Migrate label_of
form_of name.Pause = says verb.Pause

-- the command of a name and the words after it
unfoldable pub command_named : CommandName → List (List ℕ) → Option Verb
command_named name words = whole (form_of name) words

-- the command of a word and the words after it, if the word is a name
abbrev pub verb_of : List ℕ → List (List ℕ) → Option Verb
verb_of first words = option_and_then (λ name. command_named name words) (name_of first)
