-- The text of a call. Raw keys, nonces and written bytes are never shown: of a key and of written bytes
-- only the number is.
use Rattle.std.specs.Prelude.{ℕ, List, ◌++◌, length, codes}
use Rattle.hex.specs.Hex.{encode_lower}
use Rattle.text_words.specs.Numbers.{decimal_of}
use Rattle.script_words.specs.Word.{word_text}
use Rattle.mount_model.specs.declared.call.Op.{Op}
use Rattle.mount_model.specs.declared.call.Op.TheVariants as op
use Rattle.reply_text.specs.Names.{path_text, record_text}

-- a handle, an offset and a number of bytes
abbrev pub span_text : ℕ → ℕ → ℕ → List ℕ
span_text handle offset count =
    decimal_of handle ++ (codes " " ++ (decimal_of offset ++ (codes " " ++ decimal_of count)))

-- a record, its expected version, and the number of bytes that it gets
abbrev pub store_text : List ℕ → ℕ → ℕ → List ℕ
store_text name expected count =
    record_text name ++ (codes " " ++ (decimal_of expected ++ (codes " " ++ decimal_of count)))

-- the name of the call, and its arguments
abbrev pub call_text : Op → List ℕ
call_text (op.AddKey raw) = codes "add-key " ++ decimal_of (length raw)
call_text (op.RemoveKey id) = codes "remove-key " ++ encode_lower id.0
call_text (op.RemoveKeyAll id) = codes "remove-key-all " ++ encode_lower id.0
call_text (op.KeyStatus id) = codes "key-status " ++ encode_lower id.0
call_text (op.SetPolicy path policy nonce) =
    codes "set-policy " ++ (path_text path ++ (codes " " ++ encode_lower policy))
call_text (op.GetPolicy path) = codes "get-policy " ++ path_text path
call_text (op.Mkdir path nonce) = codes "mkdir " ++ path_text path
call_text (op.Create path nonce) = codes "create " ++ path_text path
call_text (op.Symlink path target nonce) =
    codes "symlink " ++ (path_text path ++ (codes " " ++ word_text target))
call_text (op.ReadLink path) = codes "readlink " ++ path_text path
call_text (op.Unlink path) = codes "unlink " ++ path_text path
call_text (op.Rmdir path) = codes "rmdir " ++ path_text path
call_text (op.Rename old_path new_path) =
    codes "rename " ++ (path_text old_path ++ (codes " " ++ path_text new_path))
call_text (op.List path start) = codes "list " ++ (path_text path ++ (codes " " ++ decimal_of start))
call_text (op.Stat path) = codes "stat " ++ path_text path
call_text (op.OpenNode path) = codes "open " ++ path_text path
call_text (op.Read handle offset len) = codes "read " ++ span_text handle offset len
call_text (op.Write handle offset bytes) = codes "write " ++ span_text handle offset (length bytes)
call_text (op.Close handle) = codes "close " ++ decimal_of handle
call_text op.DropCaches = codes "drop-caches"
call_text (op.MetaLoad name) = codes "meta-get " ++ record_text name
call_text (op.MetaStore name expected bytes) = codes "meta-put " ++ store_text name expected (length bytes)
