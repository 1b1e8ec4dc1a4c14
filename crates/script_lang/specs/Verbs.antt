-- The single calls of a path and further words: the words that each name takes.
use Rattle.text_words.specs.Digits.{hex_bytes_of_length}
use Rattle.script_words.specs.Keys.{key_ref_of}
use Rattle.script_words.specs.Numbers.{number_of}
use Rattle.script_words.specs.Word.{target_bytes}
use Rattle.script_words.specs.Path.{path_of}
use Rattle.script_lang.specs.Forms.{Form, ◌>>=◌, says, word, optional}
use Rattle.script_lang.specs.declared.limits.TheConstants.{POLICY_BYTES}
use Rattle.script_lang.specs.declared.verb.Verb.{Verb}
use Rattle.script_lang.specs.declared.verb.Verb.TheVariants as verb
use Rattle.script_lang.specs.SettingForms.{settings}

abbrev pub set_policy : Form Verb
set_policy = do
  path ← word path_of
  key ← word key_ref_of
  settings ← settings
  says (verb.SetPolicy path key settings)

abbrev pub set_policy_bytes : Form Verb
set_policy_bytes = do
  path ← word path_of
  policy ← word (hex_bytes_of_length POLICY_BYTES)
  says (verb.SetPolicyBytes path policy)

abbrev pub symlink : Form Verb
symlink = do
  path ← word path_of
  target ← word target_bytes
  says (verb.Symlink path target)

abbrev pub rename : Form Verb
rename = do
  old_path ← word path_of
  new_path ← word path_of
  says (verb.Rename old_path new_path)

abbrev pub list : Form Verb
list = do
  path ← word path_of
  start ← optional (word number_of)
  says (verb.List path start)
