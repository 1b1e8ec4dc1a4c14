-- Each name is read back from its word, which begins no comment and is no caller's line.
use Rattle.std.proofs.Common.{◌≡◌, ℕ, ◌==◌, ◌&&◌, Bool, true, not, List, length, codes, Some, refl}
use Rattle.std.specs.Prelude.{nat_le, nat_lt, slice_index}
use Rattle.std.specs.List.{list_all}
use Rattle.std.specs.Str.{bytes_eq}
use Rattle.script_lang.specs.Names.{name_text, name_of}
use Rattle.script_lang.specs.declared.names.CommandName.{CommandName}
use Rattle.script_lang.specs.declared.names.CommandName.TheVariants as name

-- what holds of the word of a name
abbrev pub is_name_word : List ℕ → Bool
is_name_word word =
    not (bytes_eq word (codes "caller")) && (list_all (λ b. nat_le 33 b) word && (not (slice_index word 0 == 35) && nat_lt 0 (length word)))

pub name_text-good : (name : CommandName) → is_name_word (name_text name) ≡ true
name_text-good name.AddKey = refl
name_text-good name.RemoveKey = refl
name_text-good name.RemoveKeyAll = refl
name_text-good name.KeyStatus = refl
name_text-good name.SetPolicy = refl
name_text-good name.SetPolicyBytes = refl
name_text-good name.GetPolicy = refl
name_text-good name.Mkdir = refl
name_text-good name.Create = refl
name_text-good name.Symlink = refl
name_text-good name.ReadLink = refl
name_text-good name.Unlink = refl
name_text-good name.Rmdir = refl
name_text-good name.Rename = refl
name_text-good name.List = refl
name_text-good name.Stat = refl
name_text-good name.Open = refl
name_text-good name.Close = refl
name_text-good name.Read = refl
name_text-good name.Write = refl
name_text-good name.Fill = refl
name_text-good name.DropCaches = refl
name_text-good name.MetaGet = refl
name_text-good name.MetaPut = refl
name_text-good name.Protector = refl
name_text-good name.ProtectorChange = refl
name_text-good name.ProtectorLink = refl
name_text-good name.PolicyNew = refl
name_text-good name.PolicyAdd = refl
name_text-good name.PolicyDrop = refl
name_text-good name.Unlock = refl
name_text-good name.Lock = refl
name_text-good name.Status = refl
name_text-good name.Encrypt = refl
name_text-good name.Migrate = refl
name_text-good name.Pause = refl

pub name_of-text : (name : CommandName) → name_of (name_text name) ≡ Some name
name_of-text name.AddKey = refl
name_of-text name.RemoveKey = refl
name_of-text name.RemoveKeyAll = refl
name_of-text name.KeyStatus = refl
name_of-text name.SetPolicy = refl
name_of-text name.SetPolicyBytes = refl
name_of-text name.GetPolicy = refl
name_of-text name.Mkdir = refl
name_of-text name.Create = refl
name_of-text name.Symlink = refl
name_of-text name.ReadLink = refl
name_of-text name.Unlink = refl
name_of-text name.Rmdir = refl
name_of-text name.Rename = refl
name_of-text name.List = refl
name_of-text name.Stat = refl
name_of-text name.Open = refl
name_of-text name.Close = refl
name_of-text name.Read = refl
name_of-text name.Write = refl
name_of-text name.Fill = refl
name_of-text name.DropCaches = refl
name_of-text name.MetaGet = refl
name_of-text name.MetaPut = refl
name_of-text name.Protector = refl
name_of-text name.ProtectorChange = refl
name_of-text name.ProtectorLink = refl
name_of-text name.PolicyNew = refl
name_of-text name.PolicyAdd = refl
name_of-text name.PolicyDrop = refl
name_of-text name.Unlock = refl
name_of-text name.Lock = refl
name_of-text name.Status = refl
name_of-text name.Encrypt = refl
name_of-text name.Migrate = refl
name_of-text name.Pause = refl
