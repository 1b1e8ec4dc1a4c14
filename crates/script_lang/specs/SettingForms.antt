-- The words for the settings of directories: a padding and a unit.
use Rattle.script_words.specs.Numbers.{pad_of, unit_of}
use Rattle.script_lang.specs.Forms.{Form, ◌>>=◌, says, word, optional}
use Rattle.script_lang.specs.declared.verb.Settings.{Settings}
use Rattle.script_lang.specs.declared.verb.Options.{Options}

-- a padding, and a unit if one is given
abbrev pub settings : Form Settings
settings = do
  pad ← word pad_of
  unit ← optional (word unit_of)
  says (record { pad = pad; unit = unit })

-- a padding and a unit
abbrev pub options : Form Options
options = do
  pad ← word pad_of
  unit ← word unit_of
  says (record { pad = pad; unit = unit })
