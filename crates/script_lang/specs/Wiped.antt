-- A command whose secrets were wiped: as many zeros are in their place.
use Rattle.std.specs.Prelude.{ℕ, List, length, replicate}
use Rattle.script_words.specs.declared.key_words.KeyRef.{KeyRef}
use Rattle.script_words.specs.declared.key_words.KeyRef.TheVariants as key
use Rattle.script_words.specs.declared.secrets.Secret.{Secret}
use Rattle.script_words.specs.declared.secrets.Secret.TheVariants as old
use Rattle.script_words.specs.declared.secrets.NewSecret.{NewSecret}
use Rattle.script_words.specs.declared.secrets.NewSecret.TheVariants as new
use Rattle.script_lang.specs.declared.verb.Verb.{Verb}
use Rattle.script_lang.specs.declared.verb.Verb.TheVariants as verb

abbrev pub zeros : List ℕ → List ℕ
zeros bytes = replicate (length bytes) 0

abbrev pub wiped_key : KeyRef → KeyRef
wiped_key (key.Id id) = key.Id id
wiped_key (key.Raw raw) = key.Raw (zeros raw)

abbrev pub wiped_secret : Secret → Secret
wiped_secret (old.Raw key) = old.Raw (replicate 32 0)
wiped_secret (old.Pass passphrase) = old.Pass (zeros passphrase)

abbrev pub wiped_new_secret : NewSecret → NewSecret
wiped_new_secret (new.Raw key) = new.Raw (replicate 32 0)
wiped_new_secret (new.Pass costs passphrase) = new.Pass costs (zeros passphrase)

-- keys, secrets, a symlink's target, and bytes that are written or stored
abbrev pub wiped_verb : Verb → Verb
wiped_verb (verb.AddKey bytes) = verb.AddKey (zeros bytes)
wiped_verb (verb.RemoveKey key) = verb.RemoveKey (wiped_key key)
wiped_verb (verb.RemoveKeyAll key) = verb.RemoveKeyAll (wiped_key key)
wiped_verb (verb.KeyStatus key) = verb.KeyStatus (wiped_key key)
wiped_verb (verb.SetPolicy path key settings) = verb.SetPolicy path (wiped_key key) settings
wiped_verb (verb.Symlink path target) = verb.Symlink path (zeros target)
wiped_verb (verb.Write handle offset bytes) = verb.Write handle offset (zeros bytes)
wiped_verb (verb.MetaPut record_name expected bytes) = verb.MetaPut record_name expected (zeros bytes)
wiped_verb (verb.Protector protector secret) = verb.Protector protector (wiped_new_secret secret)
wiped_verb (verb.ProtectorChange protector secret new_secret) =
    verb.ProtectorChange protector (wiped_secret secret) (wiped_new_secret new_secret)
wiped_verb (verb.PolicyNew policy protector secret options) =
    verb.PolicyNew policy protector (wiped_secret secret) options
wiped_verb (verb.PolicyAdd policy protector secret added added_secret) =
    verb.PolicyAdd policy protector (wiped_secret secret) added (wiped_secret added_secret)
wiped_verb (verb.Unlock policy protector secret) = verb.Unlock policy protector (wiped_secret secret)
wiped_verb (verb.SetPolicyBytes path policy) = verb.SetPolicyBytes path policy
wiped_verb (verb.GetPolicy path) = verb.GetPolicy path
wiped_verb (verb.Mkdir path) = verb.Mkdir path
wiped_verb (verb.Create path) = verb.Create path
wiped_verb (verb.ReadLink path) = verb.ReadLink path
wiped_verb (verb.Unlink path) = verb.Unlink path
wiped_verb (verb.Rmdir path) = verb.Rmdir path
wiped_verb (verb.Rename old_path new_path) = verb.Rename old_path new_path
wiped_verb (verb.List path start) = verb.List path start
wiped_verb (verb.Stat path) = verb.Stat path
wiped_verb (verb.Open path) = verb.Open path
wiped_verb (verb.Close handle) = verb.Close handle
wiped_verb (verb.Read handle offset len) = verb.Read handle offset len
wiped_verb (verb.Fill handle offset len byte) = verb.Fill handle offset len byte
wiped_verb verb.DropCaches = verb.DropCaches
wiped_verb (verb.MetaGet record_name) = verb.MetaGet record_name
wiped_verb (verb.ProtectorLink protector) = verb.ProtectorLink protector
wiped_verb (verb.PolicyDrop policy protector) = verb.PolicyDrop policy protector
wiped_verb (verb.Lock policy) = verb.Lock policy
wiped_verb (verb.Status policy) = verb.Status policy
wiped_verb (verb.Encrypt path policy settings) = verb.Encrypt path policy settings
wiped_verb (verb.Migrate policy) = verb.Migrate policy
wiped_verb verb.Pause = verb.Pause
