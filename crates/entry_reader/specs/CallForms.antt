-- What is made of the words of a call: its name, and those after it.
use Rattle.std.specs.Prelude.{Option, Some, None}
use Rattle.mount_model.specs.declared.call.Op.{Op}
use Rattle.script_lang.specs.Names.{name_of}
use Rattle.script_lang.specs.declared.names.CommandName.{CommandName}
use Rattle.entry_reader.specs.Forms.{Form, accept_end, ◌>>=◌, word}
use Rattle.entry_reader.specs.NamedCalls.{form_of_call}

-- after its name, if that is one
abbrev pub call_after_name : Option CommandName → Form (Option Op)
call_after_name None = accept_end None
call_after_name (Some name) = form_of_call name

-- a call, with its name
abbrev pub call_form : Form (Option Op)
call_form = word name_of >>= call_after_name
