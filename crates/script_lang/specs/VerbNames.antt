-- The name of the command that a verb is.
use Rattle.script_lang.specs.declared.names.CommandName.{CommandName}
use Rattle.script_lang.specs.declared.names.CommandName.TheVariants as name
use Rattle.script_lang.specs.declared.verb.Verb.{Verb}
use Rattle.script_lang.specs.declared.verb.Verb.TheVariants as verb

-- the name of a command
abbrev pub name_in : Verb → CommandName
name_in (verb.AddKey _) = name.AddKey
name_in (verb.RemoveKey _) = name.RemoveKey
name_in (verb.RemoveKeyAll _) = name.RemoveKeyAll
name_in (verb.KeyStatus _) = name.KeyStatus
name_in (verb.SetPolicy _ _ _) = name.SetPolicy
name_in (verb.SetPolicyBytes _ _) = name.SetPolicyBytes
name_in (verb.GetPolicy _) = name.GetPolicy
name_in (verb.Mkdir _) = name.Mkdir
name_in (verb.Create _) = name.Create
name_in (verb.Symlink _ _) = name.Symlink
name_in (verb.ReadLink _) = name.ReadLink
name_in (verb.Unlink _) = name.Unlink
name_in (verb.Rmdir _) = name.Rmdir
name_in (verb.Rename _ _) = name.Rename
name_in (verb.List _ _) = name.List
name_in (verb.Stat _) = name.Stat
name_in (verb.Open _) = name.Open
name_in (verb.Close _) = name.Close
name_in (verb.Read _ _ _) = name.Read
name_in (verb.Write _ _ _) = name.Write
name_in (verb.Fill _ _ _ _) = name.Fill
name_in verb.DropCaches = name.DropCaches
name_in (verb.MetaGet _) = name.MetaGet
name_in (verb.MetaPut _ _ _) = name.MetaPut
name_in (verb.Protector _ _) = name.Protector
name_in (verb.ProtectorChange _ _ _) = name.ProtectorChange
name_in (verb.ProtectorLink _) = name.ProtectorLink
name_in (verb.PolicyNew _ _ _ _) = name.PolicyNew
name_in (verb.PolicyAdd _ _ _ _ _) = name.PolicyAdd
name_in (verb.PolicyDrop _ _) = name.PolicyDrop
name_in (verb.Unlock _ _ _) = name.Unlock
name_in (verb.Lock _) = name.Lock
name_in (verb.Status _) = name.Status
name_in (verb.Encrypt _ _ _) = name.Encrypt
name_in (verb.Migrate _) = name.Migrate
name_in verb.Pause = name.Pause
