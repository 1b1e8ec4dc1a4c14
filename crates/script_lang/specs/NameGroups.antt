-- Groups of names, by the words that each takes after it.
use Rattle.std.specs.Prelude.{⊤}
use Rattle.script_lang.specs.declared.names.CommandName.{CommandName}
use Rattle.script_lang.specs.declared.names.CommandName.TheVariants as name

-- a name that takes a key, and nothing else
abbrev pub TakesKey : CommandName → Type 0
TakesKey name.RemoveKey = ⊤
TakesKey name.RemoveKeyAll = ⊤
TakesKey name.KeyStatus = ⊤
TakesKey other = ⊥

-- one that takes a path, and nothing else
abbrev pub TakesPath : CommandName → Type 0
TakesPath name.GetPolicy = ⊤
TakesPath name.Mkdir = ⊤
TakesPath name.Create = ⊤
TakesPath name.ReadLink = ⊤
TakesPath name.Unlink = ⊤
TakesPath name.Rmdir = ⊤
TakesPath name.Stat = ⊤
TakesPath name.Open = ⊤
TakesPath other = ⊥

-- one that takes a label, and nothing else
abbrev pub TakesLabel : CommandName → Type 0
TakesLabel name.ProtectorLink = ⊤
TakesLabel name.Lock = ⊤
TakesLabel name.Status = ⊤
TakesLabel name.Migrate = ⊤
TakesLabel other = ⊥

-- one that takes several words, which are one call
abbrev pub TakesCallWords : CommandName → Type 0
TakesCallWords name.SetPolicy = ⊤
TakesCallWords name.SetPolicyBytes = ⊤
TakesCallWords name.Symlink = ⊤
TakesCallWords name.Rename = ⊤
TakesCallWords name.List = ⊤
TakesCallWords name.Read = ⊤
TakesCallWords name.Write = ⊤
TakesCallWords name.Fill = ⊤
TakesCallWords name.MetaPut = ⊤
TakesCallWords other = ⊥

-- one that takes several words, which are the work of a session
abbrev pub TakesSessionWords : CommandName → Type 0
TakesSessionWords name.Protector = ⊤
TakesSessionWords name.ProtectorChange = ⊤
TakesSessionWords name.PolicyNew = ⊤
TakesSessionWords name.PolicyAdd = ⊤
TakesSessionWords name.PolicyDrop = ⊤
TakesSessionWords name.Unlock = ⊤
TakesSessionWords name.Encrypt = ⊤
TakesSessionWords other = ⊥
