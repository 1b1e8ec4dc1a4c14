-- The single calls of several numbers, or of a record and a number: the words that each name takes.
use Rattle.script_words.specs.Keys.{hex_or_none}
use Rattle.script_words.specs.Numbers.{number_of, number_up_to}
use Rattle.script_words.specs.Records.{record_of}
use Rattle.script_lang.specs.Forms.{Form, ◌>>=◌, says, word}
use Rattle.script_lang.specs.declared.limits.TheConstants.{MAX_WRITTEN_BYTES, MAX_FILLED_BYTES}
use Rattle.script_lang.specs.declared.limits.TheConstants.{MAX_PUT_BYTES}
use Rattle.script_lang.specs.declared.verb.Verb.{Verb}
use Rattle.script_lang.specs.declared.verb.Verb.TheVariants as verb

abbrev pub read : Form Verb
read = do
  handle ← word number_of
  offset ← word number_of
  len ← word number_of
  says (verb.Read handle offset len)

abbrev pub write : Form Verb
write = do
  handle ← word number_of
  offset ← word number_of
  bytes ← word (hex_or_none MAX_WRITTEN_BYTES)
  says (verb.Write handle offset bytes)

abbrev pub fill : Form Verb
fill = do
  handle ← word number_of
  offset ← word number_of
  len ← word (number_up_to MAX_FILLED_BYTES)
  byte ← word (number_up_to 255)
  says (verb.Fill handle offset len byte)

abbrev pub meta_put_form : Form Verb
meta_put_form = do
  record_put ← word record_of
  expected ← word number_of
  bytes ← word (hex_or_none MAX_PUT_BYTES)
  says (verb.MetaPut record_put expected bytes)
