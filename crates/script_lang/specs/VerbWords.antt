-- The words in which a command is written after its name.
use Rattle.std.specs.Prelude.{ℕ, List, [], ◌∷◌}
use Rattle.hex.specs.Hex.{encode_lower}
use Rattle.text_words.specs.Numbers.{decimal_of}
use Rattle.script_words.specs.Keys.{key_ref_text, hex_or_none_text}
use Rattle.script_words.specs.Records.{record_name}
use Rattle.script_words.specs.Secrets.{secret_text}
use Rattle.script_words.specs.NewSecrets.{new_secret_text}
use Rattle.script_words.specs.Word.{word_text}
use Rattle.script_words.specs.PathText.{path_text}
use Rattle.script_lang.specs.declared.verb.Verb.{Verb}
use Rattle.script_lang.specs.declared.verb.Verb.TheVariants as verb
use Rattle.script_lang.specs.SettingWords.{words_of_number, words_of_settings, words_of_optional_settings}
use Rattle.script_lang.specs.SettingWords.{words_of_options}

-- the words after the name
abbrev pub verb_words : Verb → List (List ℕ)
verb_words (verb.AddKey bytes) = encode_lower bytes ∷ []
verb_words (verb.RemoveKey key) = key_ref_text key ∷ []
verb_words (verb.RemoveKeyAll key) = key_ref_text key ∷ []
verb_words (verb.KeyStatus key) = key_ref_text key ∷ []
verb_words (verb.SetPolicy path key settings) = path_text path ∷ key_ref_text key ∷ words_of_settings settings
verb_words (verb.SetPolicyBytes path policy) = path_text path ∷ encode_lower policy ∷ []
verb_words (verb.GetPolicy path) = path_text path ∷ []
verb_words (verb.Mkdir path) = path_text path ∷ []
verb_words (verb.Create path) = path_text path ∷ []
verb_words (verb.Symlink path target) = path_text path ∷ word_text target ∷ []
verb_words (verb.ReadLink path) = path_text path ∷ []
verb_words (verb.Unlink path) = path_text path ∷ []
verb_words (verb.Rmdir path) = path_text path ∷ []
verb_words (verb.Rename old_path new_path) = path_text old_path ∷ path_text new_path ∷ []
verb_words (verb.List path start) = path_text path ∷ words_of_number start
verb_words (verb.Stat path) = path_text path ∷ []
verb_words (verb.Open path) = path_text path ∷ []
verb_words (verb.Close handle) = decimal_of handle ∷ []
verb_words (verb.Read handle offset len) = decimal_of handle ∷ decimal_of offset ∷ decimal_of len ∷ []
verb_words (verb.Write handle offset bytes) =
    decimal_of handle ∷ decimal_of offset ∷ hex_or_none_text bytes ∷ []
verb_words (verb.Fill handle offset len byte) =
    decimal_of handle ∷ decimal_of offset ∷ decimal_of len ∷ decimal_of byte ∷ []
verb_words verb.DropCaches = []
verb_words (verb.MetaGet name) = record_name name ∷ []
verb_words (verb.MetaPut name expected bytes) =
    record_name name ∷ decimal_of expected ∷ hex_or_none_text bytes ∷ []
verb_words (verb.Protector protector secret) = protector ∷ new_secret_text secret ∷ []
verb_words (verb.ProtectorChange protector secret new) =
    protector ∷ secret_text secret ∷ new_secret_text new ∷ []
verb_words (verb.ProtectorLink protector) = protector ∷ []
verb_words (verb.PolicyNew policy protector secret options) =
    policy ∷ protector ∷ secret_text secret ∷ words_of_options options
verb_words (verb.PolicyAdd policy protector secret added added_secret) =
    policy ∷ protector ∷ secret_text secret ∷ added ∷ secret_text added_secret ∷ []
verb_words (verb.PolicyDrop policy protector) = policy ∷ protector ∷ []
verb_words (verb.Unlock policy protector secret) = policy ∷ protector ∷ secret_text secret ∷ []
verb_words (verb.Lock policy) = policy ∷ []
verb_words (verb.Status policy) = policy ∷ []
verb_words (verb.Encrypt path policy settings) = path_text path ∷ policy ∷ words_of_optional_settings settings
verb_words (verb.Migrate policy) = policy ∷ []
verb_words verb.Pause = []
