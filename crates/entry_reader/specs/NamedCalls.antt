-- What is made of the words after the name of a call. Raw keys, which no line contains, are zeros.
use Rattle.std.specs.Prelude.{ℕ, List, Option, Some, None}
use Rattle.mount_limits.specs.declared.TheConstants.{MAX_RAW_BYTES}
use Rattle.mount_model.specs.declared.call.Op.{Op}
use Rattle.mount_model.specs.declared.call.Op.TheVariants as op
use Rattle.percent_encoding.specs.Percent.{percent_decode}
use Rattle.script_lang.specs.declared.names.CommandName.{CommandName}
use Rattle.script_lang.specs.declared.names.CommandName.TheVariants as name
use Rattle.entry_reader.specs.Forms.{Form, accept_end, ◌>>=◌, only}
use Rattle.entry_reader.specs.Fields.{zeros_in, id_in, path_in}
use Rattle.entry_reader.specs.PathForms.{set_policy, mkdir, create, symlink, rename, list}
use Rattle.entry_reader.specs.DataForms.{close, read_call_form, write, meta_put_form}

-- the form, which makes something
abbrev pub some : Form Op → Form (Option Op)
some form = form >>= λ made. accept_end (Some made)

-- one word of which a call is made
abbrev pub one : {A : Type 0} → (A → Op) → (List ℕ → A) → Form (Option Op)
one make read_call_form = some (only make read_call_form)

-- the call of a name, if a call has it
abbrev pub form_of_call : CommandName → Form (Option Op)
form_of_call name.AddKey = one op.AddKey (zeros_in MAX_RAW_BYTES)
form_of_call name.RemoveKey = one op.RemoveKey id_in
form_of_call name.RemoveKeyAll = one op.RemoveKeyAll id_in
form_of_call name.KeyStatus = one op.KeyStatus id_in
form_of_call name.SetPolicy = some set_policy
form_of_call name.GetPolicy = one op.GetPolicy path_in
form_of_call name.Mkdir = some mkdir
form_of_call name.Create = some create
form_of_call name.Symlink = some symlink
form_of_call name.ReadLink = one op.ReadLink path_in
form_of_call name.Unlink = one op.Unlink path_in
form_of_call name.Rmdir = one op.Rmdir path_in
form_of_call name.Rename = some rename
form_of_call name.List = some list
form_of_call name.Stat = one op.Stat path_in
form_of_call name.Open = one op.OpenNode path_in
form_of_call name.Close = some close
form_of_call name.Read = some read_call_form
form_of_call name.Write = some write
form_of_call name.DropCaches = accept_end (Some op.DropCaches)
form_of_call name.MetaGet = one op.MetaLoad percent_decode
form_of_call name.MetaPut = some meta_put_form
form_of_call name.SetPolicyBytes = accept_end None
form_of_call name.Fill = accept_end None
form_of_call name.Protector = accept_end None
form_of_call name.ProtectorChange = accept_end None
form_of_call name.ProtectorLink = accept_end None
form_of_call name.PolicyNew = accept_end None
form_of_call name.PolicyAdd = accept_end None
form_of_call name.PolicyDrop = accept_end None
form_of_call name.Unlock = accept_end None
form_of_call name.Lock = accept_end None
form_of_call name.Status = accept_end None
form_of_call name.Encrypt = accept_end None
form_of_call name.Migrate = accept_end None
form_of_call name.Pause = accept_end None
