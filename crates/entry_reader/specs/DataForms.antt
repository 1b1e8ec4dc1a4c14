-- What is made of the words of a call on an open file, and of one that stores a record. Written bytes,
-- which no line contains, are zeros.
use Rattle.mount_limits.specs.declared.TheConstants.{MAX_WRITE_BYTES, MAX_CARRIED_BYTES}
use Rattle.mount_model.specs.declared.call.Op.{Op}
use Rattle.mount_model.specs.declared.call.Op.TheVariants as op
use Rattle.percent_encoding.specs.Percent.{percent_decode}
use Rattle.entry_reader.specs.Forms.{Form, accept_end, ◌>>=◌, word, only}
use Rattle.entry_reader.specs.Fields.{number_in, zeros_in}

abbrev pub close : Form Op
close = only op.Close number_in

abbrev pub read_call_form : Form Op
read_call_form = do
  handle ← word number_in
  offset ← word number_in
  len ← word number_in
  accept_end (op.Read handle offset len)

abbrev pub write : Form Op
write = do
  handle ← word number_in
  offset ← word number_in
  bytes ← word (zeros_in MAX_WRITE_BYTES)
  accept_end (op.Write handle offset bytes)

abbrev pub meta_put_form : Form Op
meta_put_form = do
  name ← word percent_decode
  expected ← word number_in
  bytes ← word (zeros_in MAX_CARRIED_BYTES)
  accept_end (op.MetaStore name expected bytes)
