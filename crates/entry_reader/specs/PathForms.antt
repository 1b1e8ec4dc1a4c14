-- What is made of the words of a call on a path, if it has several or carries a nonce. Nonces, which no
-- line contains, are zeros.
use Rattle.std.specs.Prelude.{ℕ, List, replicate}
use Rattle.mount_model.specs.declared.call.Op.{Op}
use Rattle.mount_model.specs.declared.call.Op.TheVariants as op
use Rattle.percent_encoding.specs.Percent.{percent_decode}
use Rattle.entry_reader.specs.Forms.{Form, accept_end, ◌>>=◌, word, only}
use Rattle.entry_reader.specs.Fields.{number_in, policy_in, path_in}

abbrev pub no_nonce : List ℕ
no_nonce = replicate 16 0

abbrev pub set_policy : Form Op
set_policy = do
  path ← word path_in
  policy ← word policy_in
  accept_end (op.SetPolicy path policy no_nonce)

abbrev pub mkdir : Form Op
mkdir = only (λ path. op.Mkdir path no_nonce) path_in

abbrev pub create : Form Op
create = only (λ path. op.Create path no_nonce) path_in

abbrev pub symlink : Form Op
symlink = do
  path ← word path_in
  target ← word percent_decode
  accept_end (op.Symlink path target no_nonce)

abbrev pub rename : Form Op
rename = do
  old_path ← word path_in
  new_path ← word path_in
  accept_end (op.Rename old_path new_path)

abbrev pub list : Form Op
list = do
  path ← word path_in
  start ← word number_in
  accept_end (op.List path start)
