-- The bytes of calls and replies: no `=` is in a call, and no line feed in either.
use Rattle.std.proofs.Common.{◌≡◌, ℕ, ◌<◌, ◌≤◌, ◌^◌, ◌==◌, ◌&&◌, Bool, true, not, List, [], ◌∷◌, ◌++◌, length, codes, refl, leb-true, arith}
use Rattle.std.specs.Prelude.{nat_le}
use Rattle.std.specs.List.{All, list_all}
use Rattle.std.proofs.lemmas.Bool.{and_parts}
use Rattle.std.proofs.lemmas.List.Elements.{All-nil, All-append, All-weaker}
use Rattle.std.proofs.lemmas.List.Sums.{AllPass-from_list_all}
use Rattle.script_words.specs.Word.{word_text}
use Rattle.text_words.specs.Numbers.{decimal_of}
use Rattle.mount_model.specs.declared.call.Op.{Op}
use Rattle.mount_model.specs.declared.call.Op.TheVariants as op
use Rattle.mount_model.specs.declared.reply.Refusal.{Refusal}
use Rattle.mount_model.specs.declared.reply.Refusal.TheVariants.{NoKey, Access, Quota, Inval, Exists, NotFound, NotDir, IsDir, NotEmpty, XDev, NoData, BadHandle, NameTooLong, TooBig, NoSpace, NoKeyClash, Changed, NoMemory}
use Rattle.mount_model.specs.declared.reply.Reply.{Reply}
use Rattle.mount_model.specs.declared.reply.Reply.TheVariants as reply
use Rattle.reply_text.specs.Words.{bit, flag_text, state_text, kind_text, refusal_text}
use Rattle.reply_text.specs.Names.{path_text, record_text, names_text}
use Rattle.reply_text.specs.Calls.{span_text, store_text, call_text}
use Rattle.reply_text.specs.Replies.{reply_text}
use Rattle.reply_text.specs.CallRange.{CallIsInRange}
use Rattle.reply_text.specs.Ranges.{RefusalIsInRange, ReplyIsInRange}
use Rattle.reply_text.proofs.FieldLemmas.{IsFieldByte, IsCallByte, IsLineByte, bit-small, IsField-decimal, IsField-digits, IsField-word, IsField-record, IsField-bytes, IsField-path}
use Rattle.reply_text.proofs.ReplyLemmas.{IsField-state, IsField-kind}

-- ---- of a call

abbrev pub call_test : ℕ → Bool
call_test b = nat_le 32 b && not (b == 61)

call_byte : (b : ℕ) → call_test b ≡ true → IsCallByte b
call_byte b h = let parts = and_parts (nat_le 32 b) (not (b == 61)) h in (leb-true 32 b parts.0, λ e. absurd (other b e parts.1))
  where
    other : (b : ℕ) → b ≡ 61 → not (b == 61) ≡ true → ⊥
    other b e h = absurd (cc (rw e at h))

pub call_literal : (word : List ℕ) → list_all call_test word ≡ true → All IsCallByte word
call_literal word h k d within = call_byte _ (AllPass-from_list_all call_test word h k d within)

-- a field
asked : (xs : List ℕ) → All IsFieldByte xs → All IsCallByte xs
asked = All-weaker IsFieldByte IsCallByte weaker
  where
    weaker : (b : ℕ) → IsFieldByte b → IsCallByte b
    weaker b h = let high : 33 ≤ b = h.0 in (omega arith, h.1)

-- a word, and more
ask : (word rest : List ℕ) → list_all call_test word ≡ true → All IsCallByte rest → All IsCallByte (word ++ rest)
ask word rest h more = All-append IsCallByte word rest (call_literal word h) more

-- a field, and more
and_more : (xs rest : List ℕ) → All IsFieldByte xs → All IsCallByte rest → All IsCallByte (xs ++ rest)
and_more xs rest field more = All-append IsCallByte xs rest (asked xs field) more

number : (n : ℕ) → n < 2 ^ 64 → All IsCallByte (decimal_of n)
number n small = asked (decimal_of n) (IsField-decimal n small)

small_number : (n : ℕ) → n < 2 ^ 32 → All IsFieldByte (decimal_of n)
small_number n small = IsField-decimal n (omega arith)

path : (parts : List (List ℕ)) → All IsCallByte (path_text parts)
path parts = asked (path_text parts) (IsField-path parts)

span : (handle offset count : ℕ) → handle < 2 ^ 32 → offset < 2 ^ 32 → count < 2 ^ 64 → All IsCallByte (span_text handle offset count)
span handle offset count h o c =
    and_more (decimal_of handle) _ (small_number handle h) (ask (codes " ") _ refl (and_more (decimal_of offset) _ (small_number offset o) (ask (codes " ") _ refl (number count c))))

store : (name : List ℕ) (expected count : ℕ) → expected < 2 ^ 32 → count < 2 ^ 64 → All IsCallByte (store_text name expected count)
store name expected count e c =
    and_more (record_text name) _ (IsField-record name) (ask (codes " ") _ refl (and_more (decimal_of expected) _ (small_number expected e) (ask (codes " ") _ refl (number count c))))

pub IsCall-call_text : (asks : Op) → CallIsInRange asks → All IsCallByte (call_text asks)
IsCall-call_text (op.AddKey raw) h = ask (codes "add-key ") _ refl (number (length raw) h)
IsCall-call_text (op.RemoveKey id) h = ask (codes "remove-key ") _ refl (asked _ (IsField-digits id.0 h))
IsCall-call_text (op.RemoveKeyAll id) h = ask (codes "remove-key-all ") _ refl (asked _ (IsField-digits id.0 h))
IsCall-call_text (op.KeyStatus id) h = ask (codes "key-status ") _ refl (asked _ (IsField-digits id.0 h))
IsCall-call_text (op.SetPolicy parts policy nonce) h =
    ask (codes "set-policy ") _ refl (and_more (path_text parts) _ (IsField-path parts) (ask (codes " ") _ refl (asked _ (IsField-digits policy h))))
IsCall-call_text (op.GetPolicy parts) h = ask (codes "get-policy ") _ refl (path parts)
IsCall-call_text (op.Mkdir parts nonce) h = ask (codes "mkdir ") _ refl (path parts)
IsCall-call_text (op.Create parts nonce) h = ask (codes "create ") _ refl (path parts)
IsCall-call_text (op.Symlink parts target nonce) h =
    ask (codes "symlink ") _ refl (and_more (path_text parts) _ (IsField-path parts) (ask (codes " ") _ refl (asked _ (IsField-word target))))
IsCall-call_text (op.ReadLink parts) h = ask (codes "readlink ") _ refl (path parts)
IsCall-call_text (op.Unlink parts) h = ask (codes "unlink ") _ refl (path parts)
IsCall-call_text (op.Rmdir parts) h = ask (codes "rmdir ") _ refl (path parts)
IsCall-call_text (op.Rename old_path new_path) h =
    ask (codes "rename ") _ refl (and_more (path_text old_path) _ (IsField-path old_path) (ask (codes " ") _ refl (path new_path)))
IsCall-call_text (op.List parts start) h =
    ask (codes "list ") _ refl (and_more (path_text parts) _ (IsField-path parts) (ask (codes " ") _ refl (asked _ (small_number start h))))
IsCall-call_text (op.Stat parts) h = ask (codes "stat ") _ refl (path parts)
IsCall-call_text (op.OpenNode parts) h = ask (codes "open ") _ refl (path parts)
IsCall-call_text (op.Read handle offset len) h = ask (codes "read ") _ refl (span handle offset len h.0 h.1 (wide len h.2))
  where
    wide : (n : ℕ) → n < 2 ^ 32 → n < 2 ^ 64
    wide n small = omega arith
IsCall-call_text (op.Write handle offset bytes) h = ask (codes "write ") _ refl (span handle offset (length bytes) h.0 h.1 h.2)
IsCall-call_text (op.Close handle) h = ask (codes "close ") _ refl (asked _ (small_number handle h))
IsCall-call_text op.DropCaches h = call_literal (codes "drop-caches") refl
IsCall-call_text (op.MetaLoad name) h = ask (codes "meta-get ") _ refl (asked _ (IsField-record name))
IsCall-call_text (op.MetaStore name expected bytes) h = ask (codes "meta-put ") _ refl (store name expected (length bytes) h.0 h.1)

-- ---- of a reply

line_byte : (b : ℕ) → nat_le 32 b ≡ true → IsLineByte b
line_byte b h = leb-true 32 b h

pub line_literal : (word : List ℕ) → list_all (λ b. nat_le 32 b) word ≡ true → All IsLineByte word
line_literal word h k d within = line_byte _ (AllPass-from_list_all (λ b. nat_le 32 b) word h k d within)

pub line_call : (xs : List ℕ) → All IsCallByte xs → All IsLineByte xs
line_call xs h k d within = (h k d within).0

-- a field of a line
pub lined : (xs : List ℕ) → All IsFieldByte xs → All IsLineByte xs
lined xs h = line_call xs (asked xs h)

-- a word, and more
pub line : (word rest : List ℕ) → list_all (λ b. nat_le 32 b) word ≡ true → All IsLineByte rest → All IsLineByte (word ++ rest)
line word rest h more = All-append IsLineByte word rest (line_literal word h) more

-- a field, and more
pub lined_more : (xs rest : List ℕ) → All IsFieldByte xs → All IsLineByte rest → All IsLineByte (xs ++ rest)
lined_more xs rest field more = All-append IsLineByte xs rest (lined xs field) more

flag : (name : List ℕ) (value : Bool) → list_all (λ b. nat_le 32 b) name ≡ true → All IsLineByte (flag_text name value)
flag name value h = line name (decimal_of (bit value)) h (lined _ (IsField-decimal (bit value) (bit-small value)))

flag_more : (name : List ℕ) (value : Bool) (rest : List ℕ) → list_all (λ b. nat_le 32 b) name ≡ true → All IsLineByte rest → All IsLineByte (flag_text name value ++ rest)
flag_more name value rest h more = All-append IsLineByte (flag_text name value) rest (flag name value h) more

names_line : (names : List (List ℕ)) → All IsLineByte (names_text names)
names_line [] = All-nil IsLineByte
names_line (name ∷ names) = line (codes " ") _ refl (lined_more (word_text name) (names_text names) (IsField-word name) (names_line names))

refusal_line : (refusal : Refusal) → RefusalIsInRange refusal → All IsLineByte (refusal_text refusal)
refusal_line (Changed version) h = line (codes "changed ") _ refl (lined _ (small_number version h))
refusal_line NoKey h = line_literal (codes "no-key") refl
refusal_line Access h = line_literal (codes "access") refl
refusal_line Quota h = line_literal (codes "quota") refl
refusal_line Inval h = line_literal (codes "inval") refl
refusal_line Exists h = line_literal (codes "exists") refl
refusal_line NotFound h = line_literal (codes "not-found") refl
refusal_line NotDir h = line_literal (codes "not-dir") refl
refusal_line IsDir h = line_literal (codes "is-dir") refl
refusal_line NotEmpty h = line_literal (codes "not-empty") refl
refusal_line XDev h = line_literal (codes "x-dev") refl
refusal_line NoData h = line_literal (codes "no-data") refl
refusal_line BadHandle h = line_literal (codes "bad-handle") refl
refusal_line NameTooLong h = line_literal (codes "name-too-long") refl
refusal_line TooBig h = line_literal (codes "too-big") refl
refusal_line NoSpace h = line_literal (codes "no-space") refl
refusal_line NoKeyClash h = line_literal (codes "no-key-clash") refl
refusal_line NoMemory h = line_literal (codes "no-memory") refl

pub IsLine-reply_text : (answer : Reply) → ReplyIsInRange answer → All IsLineByte (reply_text answer)
IsLine-reply_text (reply.Added id) h = line (codes "added ") _ refl (lined _ (IsField-digits id.0 h))
IsLine-reply_text (reply.Removed others busy) h = flag_more (codes "removed others=") others _ refl (flag (codes " busy=") busy refl)
IsLine-reply_text (reply.Status state by_self users) h =
    line (codes "status ") _ refl (lined_more (state_text state) _ (IsField-state state) (flag_more (codes " self=") by_self _ refl (line (codes " users=") _ refl (lined _ (small_number users h)))))
IsLine-reply_text reply.Done h = line_literal (codes "ok") refl
IsLine-reply_text (reply.PolicyIs policy) h = line (codes "policy ") _ refl (lined _ (IsField-digits policy h))
IsLine-reply_text (reply.Names names more) h =
    line (codes "names ") _ refl (lined_more (decimal_of (length names)) _ (IsField-decimal (length names) h.0) (flag_more (codes " more=") more _ refl (names_line names)))
IsLine-reply_text (reply.Stat kind node size encrypted keyed) h =
    line (codes "stat ") _ refl (lined_more (kind_text kind) _ (IsField-kind kind) (line (codes " ") _ refl (lined_more (decimal_of node) _ (small_number node h.0) (line (codes " ") _ refl (lined_more (decimal_of size) _ (small_number size h.1) (flag_more (codes " enc=") encrypted _ refl (flag (codes " key=") keyed refl)))))))
IsLine-reply_text (reply.Opened n) h = line (codes "handle ") _ refl (lined _ (small_number n h))
IsLine-reply_text (reply.Content bytes) h = line (codes "data ") _ refl (lined _ (IsField-bytes bytes h))
IsLine-reply_text (reply.Target bytes) h = line (codes "target ") _ refl (lined _ (IsField-word bytes))
IsLine-reply_text (reply.Held version bytes) h =
    line (codes "record ") _ refl (lined_more (decimal_of version) _ (small_number version h.0) (line (codes " ") _ refl (lined _ (IsField-bytes bytes h.1))))
IsLine-reply_text (reply.Stored version) h = line (codes "stored ") _ refl (lined _ (small_number version h))
IsLine-reply_text (reply.Refused refusal) h = line (codes "refused ") _ refl (refusal_line refusal h)
