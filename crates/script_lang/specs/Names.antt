-- The names of commands.
use Rattle.std.specs.Prelude.{ℕ, Bool, List, codes, Option}
use Rattle.std.specs.List.{find}
use Rattle.std.specs.Str.{bytes_eq}
use Rattle.script_lang.specs.declared.names.CommandName.{CommandName}
use Rattle.script_lang.specs.declared.names.CommandName.TheVariants as name
use Rattle.script_lang.specs.declared.names.TheConstants.{ALL_NAMES}

-- the word of a name
abbrev pub name_text : CommandName → List ℕ
name_text name.AddKey = codes "add-key"
name_text name.RemoveKey = codes "remove-key"
name_text name.RemoveKeyAll = codes "remove-key-all"
name_text name.KeyStatus = codes "key-status"
name_text name.SetPolicy = codes "set-policy"
name_text name.SetPolicyBytes = codes "set-policy-bytes"
name_text name.GetPolicy = codes "get-policy"
name_text name.Mkdir = codes "mkdir"
name_text name.Create = codes "create"
name_text name.Symlink = codes "symlink"
name_text name.ReadLink = codes "readlink"
name_text name.Unlink = codes "unlink"
name_text name.Rmdir = codes "rmdir"
name_text name.Rename = codes "rename"
name_text name.List = codes "list"
name_text name.Stat = codes "stat"
name_text name.Open = codes "open"
name_text name.Close = codes "close"
name_text name.Read = codes "read"
name_text name.Write = codes "write"
name_text name.Fill = codes "fill"
name_text name.DropCaches = codes "drop-caches"
name_text name.MetaGet = codes "meta-get"
name_text name.MetaPut = codes "meta-put"
name_text name.Protector = codes "protector"
name_text name.ProtectorChange = codes "protector-change"
name_text name.ProtectorLink = codes "protector-link"
name_text name.PolicyNew = codes "policy-new"
name_text name.PolicyAdd = codes "policy-add"
name_text name.PolicyDrop = codes "policy-drop"
name_text name.Unlock = codes "unlock"
name_text name.Lock = codes "lock"
name_text name.Status = codes "status"
name_text name.Encrypt = codes "encrypt"
name_text name.Migrate = codes "migrate"
name_text name.Pause = codes "pause"

-- whether the word is the name
abbrev pub is_written : List ℕ → CommandName → Bool
is_written word name = bytes_eq (name_text name) word

-- the name that a word is, if it is one
abbrev pub name_of : List ℕ → Option CommandName
name_of word = find (is_written word) ALL_NAMES
