-- The session commands: the words that each name takes.
use Rattle.std.specs.Prelude.{ℕ, List}
use Rattle.short_bytes.specs.Label.{label_of}
use Rattle.script_words.specs.Secrets.{secret_of}
use Rattle.script_words.specs.NewSecrets.{new_secret_of}
use Rattle.script_words.specs.Path.{path_of}
use Rattle.script_lang.specs.Forms.{Form, ◌>>=◌, says, word, optional}
use Rattle.script_lang.specs.SettingForms.{settings, options}
use Rattle.script_lang.specs.declared.verb.Verb.{Verb}
use Rattle.script_lang.specs.declared.verb.Verb.TheVariants as verb

abbrev pub protector : Form Verb
protector = do
  protector ← word label_of
  secret ← word new_secret_of
  says (verb.Protector protector secret)

abbrev pub protector_change : Form Verb
protector_change = do
  protector ← word label_of
  secret ← word secret_of
  new_secret ← word new_secret_of
  says (verb.ProtectorChange protector secret new_secret)

abbrev pub policy_new : Form Verb
policy_new = do
  policy ← word label_of
  protector ← word label_of
  secret ← word secret_of
  options ← optional options
  says (verb.PolicyNew policy protector secret options)

-- the words after the policy and its protector
abbrev pub policy_add_form : List ℕ → List ℕ → Form Verb
policy_add_form policy protector = do
  secret ← word secret_of
  added ← word label_of
  added_secret ← word secret_of
  says (verb.PolicyAdd policy protector secret added added_secret)

abbrev pub policy_add : Form Verb
policy_add = do
  policy ← word label_of
  protector ← word label_of
  policy_add_form policy protector

abbrev pub policy_drop : Form Verb
policy_drop = do
  policy ← word label_of
  protector ← word label_of
  says (verb.PolicyDrop policy protector)

abbrev pub unlock : Form Verb
unlock = do
  policy ← word label_of
  protector ← word label_of
  secret ← word secret_of
  says (verb.Unlock policy protector secret)

abbrev pub encrypt : Form Verb
encrypt = do
  path ← word path_of
  policy ← word label_of
  settings ← optional settings
  says (verb.Encrypt path policy settings)
