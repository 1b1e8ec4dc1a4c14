-- The kinds that the words after a command's name must be of, one by one.
use Rattle.std.specs.Prelude.{List, [], ◌∷◌}
use Rattle.script_lang.specs.declared.names.CommandName.{CommandName}
use Rattle.script_lang.specs.declared.names.CommandName.TheVariants as name
use Rattle.script_faults.specs.declared.word_kinds.WordKind.{WordKind}
use Rattle.script_faults.specs.declared.word_kinds.WordKind.TheVariants as kind

-- the kinds that the words after a name must be of, optional ones too
abbrev pub kinds_of : CommandName → List WordKind
kinds_of name.AddKey = kind.AddedBytes ∷ []
kinds_of name.RemoveKey = kind.Key ∷ []
kinds_of name.RemoveKeyAll = kind.Key ∷ []
kinds_of name.KeyStatus = kind.Key ∷ []
kinds_of name.SetPolicy = kind.Path ∷ kind.Key ∷ kind.Pad ∷ kind.Unit ∷ []
kinds_of name.SetPolicyBytes = kind.Path ∷ kind.PolicyBytes ∷ []
kinds_of name.GetPolicy = kind.Path ∷ []
kinds_of name.Mkdir = kind.Path ∷ []
kinds_of name.Create = kind.Path ∷ []
kinds_of name.Symlink = kind.Path ∷ kind.Target ∷ []
kinds_of name.ReadLink = kind.Path ∷ []
kinds_of name.Unlink = kind.Path ∷ []
kinds_of name.Rmdir = kind.Path ∷ []
kinds_of name.Rename = kind.Path ∷ kind.Path ∷ []
kinds_of name.List = kind.Path ∷ kind.Number ∷ []
kinds_of name.Stat = kind.Path ∷ []
kinds_of name.Open = kind.Path ∷ []
kinds_of name.Close = kind.Number ∷ []
kinds_of name.Read = kind.Number ∷ kind.Number ∷ kind.Number ∷ []
kinds_of name.Write = kind.Number ∷ kind.Number ∷ kind.WrittenBytes ∷ []
kinds_of name.Fill = kind.Number ∷ kind.Number ∷ kind.FilledLength ∷ kind.Byte ∷ []
kinds_of name.DropCaches = []
kinds_of name.MetaGet = kind.Record ∷ []
kinds_of name.MetaPut = kind.Record ∷ kind.Number ∷ kind.PutBytes ∷ []
kinds_of name.Protector = kind.Label ∷ kind.NewSecret ∷ []
kinds_of name.ProtectorChange = kind.Label ∷ kind.Secret ∷ kind.NewSecret ∷ []
kinds_of name.ProtectorLink = kind.Label ∷ []
kinds_of name.PolicyNew = kind.Label ∷ kind.Label ∷ kind.Secret ∷ kind.Pad ∷ kind.Unit ∷ []
kinds_of name.PolicyAdd = kind.Label ∷ kind.Label ∷ kind.Secret ∷ kind.Label ∷ kind.Secret ∷ []
kinds_of name.PolicyDrop = kind.Label ∷ kind.Label ∷ []
kinds_of name.Unlock = kind.Label ∷ kind.Label ∷ kind.Secret ∷ []
kinds_of name.Lock = kind.Label ∷ []
kinds_of name.Status = kind.Label ∷ []
kinds_of name.Encrypt = kind.Path ∷ kind.Label ∷ kind.Pad ∷ kind.Unit ∷ []
kinds_of name.Migrate = kind.Label ∷ []
kinds_of name.Pause = []
