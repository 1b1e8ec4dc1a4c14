-- What the words of a command can ask for.
use Rattle.std.specs.Prelude.{◌≡◌, ◌≤◌, ⊤, IsTrue, IfSome, length}
use Rattle.hex.specs.Hex.{IsBytes}
use Rattle.short_bytes.specs.Label.{IsLabel}
use Rattle.script_words.specs.Word.{IsWord, may_be_target}
use Rattle.script_words.specs.Path.{IsPath}
use Rattle.script_words.specs.Keys.{IsKey, AreFewBytes}
use Rattle.script_words.specs.Numbers.{IsNumber}
use Rattle.script_words.specs.Records.{IsRecord}
use Rattle.script_words.specs.Secrets.{IsSecret}
use Rattle.script_words.specs.NewSecrets.{IsNewSecret}
use Rattle.script_lang.specs.declared.limits.TheConstants.{MAX_ADDED_BYTES, MAX_WRITTEN_BYTES}
use Rattle.script_lang.specs.declared.limits.TheConstants.{MAX_FILLED_BYTES, MAX_PUT_BYTES, POLICY_BYTES}
use Rattle.script_lang.specs.declared.verb.Verb.{Verb}
use Rattle.script_lang.specs.declared.verb.Verb.TheVariants as verb

-- whatever the command, a key to be added has 1 to 128 bytes, a write at most 4,096, what is filled at
-- most 65,536, a record at most 9,000. A number is below 2^32
abbrev pub IsAskable : Verb → Type 0
IsAskable (verb.AddKey bytes) = (1 ≤ length bytes) × ((length bytes ≤ MAX_ADDED_BYTES) × IsBytes bytes)
IsAskable (verb.RemoveKey key) = IsKey key
IsAskable (verb.RemoveKeyAll key) = IsKey key
IsAskable (verb.KeyStatus key) = IsKey key
IsAskable (verb.SetPolicy path key settings) = IsPath path × IsKey key
IsAskable (verb.SetPolicyBytes path policy) = IsPath path × ((length policy ≡ POLICY_BYTES) × IsBytes policy)
IsAskable (verb.GetPolicy path) = IsPath path
IsAskable (verb.Mkdir path) = IsPath path
IsAskable (verb.Create path) = IsPath path
IsAskable (verb.Symlink path target) = IsPath path × (IsWord target × IsTrue (may_be_target target))
IsAskable (verb.ReadLink path) = IsPath path
IsAskable (verb.Unlink path) = IsPath path
IsAskable (verb.Rmdir path) = IsPath path
IsAskable (verb.Rename old_path new_path) = IsPath old_path × IsPath new_path
IsAskable (verb.List path start) = IsPath path × IfSome start IsNumber
IsAskable (verb.Stat path) = IsPath path
IsAskable (verb.Open path) = IsPath path
IsAskable (verb.Close handle) = IsNumber handle
IsAskable (verb.Read handle offset len) = IsNumber handle × (IsNumber offset × IsNumber len)
IsAskable (verb.Write handle offset bytes) =
    IsNumber handle × (IsNumber offset × AreFewBytes bytes MAX_WRITTEN_BYTES)
IsAskable (verb.Fill handle offset len byte) =
    IsNumber handle × (IsNumber offset × ((len ≤ MAX_FILLED_BYTES) × (byte ≤ 255)))
IsAskable verb.DropCaches = ⊤
IsAskable (verb.MetaGet name) = IsRecord name
IsAskable (verb.MetaPut name expected bytes) =
    IsRecord name × (IsNumber expected × AreFewBytes bytes MAX_PUT_BYTES)
IsAskable (verb.Protector protector secret) = IsLabel protector × IsNewSecret secret
IsAskable (verb.ProtectorChange protector secret new) =
    IsLabel protector × (IsSecret secret × IsNewSecret new)
IsAskable (verb.ProtectorLink protector) = IsLabel protector
IsAskable (verb.PolicyNew policy protector secret options) =
    IsLabel policy × (IsLabel protector × IsSecret secret)
IsAskable (verb.PolicyAdd policy protector secret added added_secret) =
    IsLabel policy × (IsLabel protector × (IsSecret secret × (IsLabel added × IsSecret added_secret)))
IsAskable (verb.PolicyDrop policy protector) = IsLabel policy × IsLabel protector
IsAskable (verb.Unlock policy protector secret) = IsLabel policy × (IsLabel protector × IsSecret secret)
IsAskable (verb.Lock policy) = IsLabel policy
IsAskable (verb.Status policy) = IsLabel policy
IsAskable (verb.Encrypt path policy settings) = IsPath path × IsLabel policy
IsAskable (verb.Migrate policy) = IsLabel policy
IsAskable verb.Pause = ⊤
