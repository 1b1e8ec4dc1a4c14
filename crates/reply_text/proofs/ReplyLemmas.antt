-- The text of a reply determines the reply.
use Rattle.std.proofs.Common.{◌≡◌, ℕ, ◌+◌, ◌*◌, ◌<◌, ◌^◌, Bool, List, length, drop, codes, refl, ap, sym, ◌∙◌, arith}
use Rattle.std.specs.Prelude.{if◌then◌else◌, slice_index}
use Rattle.std.specs.List.{All}
use Rattle.std.specs.Str.{bytes_eq}
use Rattle.std.specs.Str.Parse.{digits_value}
use Rattle.std.proofs.lemmas.Fmt.{decimal_injective}
use Rattle.std.proofs.lemmas.List.{append_cancel_left}
use Rattle.text_words.specs.Numbers.{decimal_of}
use Rattle.text_words.proofs.NumberLemmas.{IsDecimal-decimal_of}
use Rattle.mount_model.specs.declared.reply.KeyState.{KeyState}
use Rattle.mount_model.specs.declared.reply.KeyState.TheVariants.{Absent, Present, Incomplete}
use Rattle.mount_model.specs.declared.reply.NodeKind.{NodeKind}
use Rattle.mount_model.specs.declared.reply.NodeKind.TheVariants.{Dir, File, Link}
use Rattle.mount_model.specs.declared.reply.Refusal.{Refusal}
use Rattle.mount_model.specs.declared.reply.Refusal.TheVariants.{NoKey, Access, Quota, Inval, Exists, NotFound, NotDir, IsDir, NotEmpty, XDev, NoData, BadHandle, NameTooLong, TooBig, NoSpace, NoKeyClash, Changed, NoMemory}
use Rattle.mount_model.specs.declared.reply.Reply.{Reply}
use Rattle.mount_model.specs.declared.reply.Reply.TheVariants as reply
use Rattle.reply_text.specs.Words.{state_text, kind_text, refusal_text}
use Rattle.reply_text.specs.Names.{names_text}
use Rattle.reply_text.specs.Replies.{reply_text}
use Rattle.reply_text.specs.Ranges.{RefusalIsInRange, ReplyIsInRange}
use Rattle.reply_text.proofs.FieldLemmas.{IsFieldByte, no_space, parted, field_literal, number_field, flag_field, last_flag, digits-injective, bytes_text-injective, word_text-injective, names_text-injective, names_end}

-- ---- words

pub IsField-state : (state : KeyState) → All IsFieldByte (state_text state)
IsField-state Absent = field_literal (codes "absent") refl
IsField-state Present = field_literal (codes "present") refl
IsField-state Incomplete = field_literal (codes "incomplete") refl

state_told : List ℕ → KeyState
state_told text =
    if bytes_eq text (codes "absent") then Absent else if bytes_eq text (codes "present") then Present else Incomplete

state_told-text : (state : KeyState) → state_told (state_text state) ≡ state
unfolding state_told
state_told-text Absent = refl
state_told-text Present = refl
state_told-text Incomplete = refl

state_text-injective : (a b : KeyState) → state_text a ≡ state_text b → a ≡ b
state_text-injective a b e = sym (state_told-text a) ∙ ap state_told e ∙ state_told-text b

pub IsField-kind : (kind : NodeKind) → All IsFieldByte (kind_text kind)
IsField-kind Dir = field_literal (codes "dir") refl
IsField-kind File = field_literal (codes "file") refl
IsField-kind Link = field_literal (codes "link") refl

kind_of_word : List ℕ → NodeKind
kind_of_word text = if bytes_eq text (codes "dir") then Dir else if bytes_eq text (codes "file") then File else Link

kind_of_word-text : (kind : NodeKind) → kind_of_word (kind_text kind) ≡ kind
unfolding kind_of_word
kind_of_word-text Dir = refl
kind_of_word-text File = refl
kind_of_word-text Link = refl

kind_text-injective : (a b : NodeKind) → kind_text a ≡ kind_text b → a ≡ b
kind_text-injective a b e = sym (kind_of_word-text a) ∙ ap kind_of_word e ∙ kind_of_word-text b

-- the refusal of a text; one that begins with `c` has a version
refusal_told : List ℕ → Refusal
refusal_told text =
    if bytes_eq text (codes "no-key") then NoKey
    else if bytes_eq text (codes "access") then Access
    else if bytes_eq text (codes "quota") then Quota
    else if bytes_eq text (codes "inval") then Inval
    else if bytes_eq text (codes "exists") then Exists
    else if bytes_eq text (codes "not-found") then NotFound
    else if bytes_eq text (codes "not-dir") then NotDir
    else if bytes_eq text (codes "is-dir") then IsDir
    else if bytes_eq text (codes "not-empty") then NotEmpty
    else if bytes_eq text (codes "x-dev") then XDev
    else if bytes_eq text (codes "no-data") then NoData
    else if bytes_eq text (codes "bad-handle") then BadHandle
    else if bytes_eq text (codes "name-too-long") then NameTooLong
    else if bytes_eq text (codes "too-big") then TooBig
    else if bytes_eq text (codes "no-space") then NoSpace
    else if bytes_eq text (codes "no-key-clash") then NoKeyClash
    else if bytes_eq text (codes "no-memory") then NoMemory
    else Changed (digits_value 10 (drop 8 text))

refusal_told-text : (refusal : Refusal) → RefusalIsInRange refusal → refusal_told (refusal_text refusal) ≡ refusal
unfolding refusal_told
refusal_told-text NoKey h = refl
refusal_told-text Access h = refl
refusal_told-text Quota h = refl
refusal_told-text Inval h = refl
refusal_told-text Exists h = refl
refusal_told-text NotFound h = refl
refusal_told-text NotDir h = refl
refusal_told-text IsDir h = refl
refusal_told-text NotEmpty h = refl
refusal_told-text XDev h = refl
refusal_told-text NoData h = refl
refusal_told-text BadHandle h = refl
refusal_told-text NameTooLong h = refl
refusal_told-text TooBig h = refl
refusal_told-text NoSpace h = refl
refusal_told-text NoKeyClash h = refl
refusal_told-text (Changed version) h = ap Changed (IsDecimal-decimal_of version (omega arith)).value
refusal_told-text NoMemory h = refl

refusal_text-injective : (a b : Refusal) → RefusalIsInRange a → RefusalIsInRange b → refusal_text a ≡ refusal_text b → a ≡ b
refusal_text-injective a b ha hb e = sym (refusal_told-text a ha) ∙ ap refusal_told e ∙ refusal_told-text b hb

-- ---- replies

-- the third and the fifth byte of a text: no two words of replies have the same
mark : List ℕ → ℕ
mark text = 256 * slice_index text 2 + slice_index text 4

status_same : (s t : KeyState) (v w : Bool) (m n : ℕ) → m < 2 ^ 32 → n < 2 ^ 32
    → reply_text (reply.Status s v m) ≡ reply_text (reply.Status t w n) → reply.Status s v m ≡ reply.Status t w n
status_same s t v w m n hm hn e =
    let states = parted IsFieldByte (state_text s) (state_text t) _ _ (IsField-state s) (IsField-state t) no_space no_space (append_cancel_left (codes "status ") _ _ e) in
    let flags = flag_field (codes " self=") v w _ _ no_space no_space states.1 in
    let users : m ≡ n = decimal_injective m n (omega arith) (omega arith) (append_cancel_left (codes " users=") _ _ flags.1) in
    let state : s ≡ t = state_text-injective s t states.0 in
    let own : v ≡ w = flags.0 in
    cc

removed_same : (v w p q : Bool) → reply_text (reply.Removed v p) ≡ reply_text (reply.Removed w q) → reply.Removed v p ≡ reply.Removed w q
removed_same v w p q e =
    let flags = flag_field (codes "removed others=") v w _ _ no_space no_space e in
    let others : v ≡ w = flags.0 in
    let busy : p ≡ q = last_flag (codes " busy=") p q flags.1 in
    cc

listing_same : (a b : List (List ℕ)) (v w : Bool) → ReplyIsInRange (reply.Names a v) → ReplyIsInRange (reply.Names b w)
    → reply_text (reply.Names a v) ≡ reply_text (reply.Names b w) → reply.Names a v ≡ reply.Names b w
listing_same a b v w ha hb e =
    let counts = number_field (length a) (length b) _ _ ha.0 hb.0 no_space no_space (append_cancel_left (codes "names ") _ _ e) in
    let flags = flag_field (codes " more=") v w (names_text a) (names_text b) (names_end a) (names_end b) counts.1 in
    let names : a ≡ b = names_text-injective a b ha.1 hb.1 flags.1 in
    let more : v ≡ w = flags.0 in
    cc

stat_same : (k l : NodeKind) (m n s t : ℕ) (v w p q : Bool) → ReplyIsInRange (reply.Stat k m s v p) → ReplyIsInRange (reply.Stat l n t w q)
    → reply_text (reply.Stat k m s v p) ≡ reply_text (reply.Stat l n t w q) → reply.Stat k m s v p ≡ reply.Stat l n t w q
stat_same k l m n s t v w p q ha hb e =
    let kinds = parted IsFieldByte (kind_text k) (kind_text l) _ _ (IsField-kind k) (IsField-kind l) no_space no_space (append_cancel_left (codes "stat ") _ _ e) in
    let ms : m < 2 ^ 32 = ha.0 in
    let ns : n < 2 ^ 32 = hb.0 in
    let ss : s < 2 ^ 32 = ha.1 in
    let ts : t < 2 ^ 32 = hb.1 in
    let nodes = number_field m n _ _ (omega arith) (omega arith) no_space no_space (append_cancel_left (codes " ") _ _ kinds.1) in
    let sizes = number_field s t _ _ (omega arith) (omega arith) no_space no_space (append_cancel_left (codes " ") _ _ nodes.1) in
    let flags = flag_field (codes " enc=") v w _ _ no_space no_space sizes.1 in
    let kind : k ≡ l = kind_text-injective k l kinds.0 in
    let node : m ≡ n = nodes.0 in
    let size : s ≡ t = sizes.0 in
    let encrypted : v ≡ w = flags.0 in
    let keyed : p ≡ q = last_flag (codes " key=") p q flags.1 in
    cc

held_same : (m n : ℕ) (a b : List ℕ) → ReplyIsInRange (reply.Held m a) → ReplyIsInRange (reply.Held n b)
    → reply_text (reply.Held m a) ≡ reply_text (reply.Held n b) → reply.Held m a ≡ reply.Held n b
held_same m n a b ha hb e =
    let ms : m < 2 ^ 32 = ha.0 in
    let ns : n < 2 ^ 32 = hb.0 in
    let versions = number_field m n _ _ (omega arith) (omega arith) no_space no_space (append_cancel_left (codes "record ") _ _ e) in
    let version : m ≡ n = versions.0 in
    let bytes : a ≡ b = bytes_text-injective a b ha.1 hb.1 (append_cancel_left (codes " ") _ _ versions.1) in
    cc

number_same : (m n : ℕ) → m < 2 ^ 32 → n < 2 ^ 32 → decimal_of m ≡ decimal_of n → m ≡ n
number_same m n hm hn = decimal_injective m n (omega arith) (omega arith)

pub reply_text-injective : (a b : Reply) → ReplyIsInRange a → ReplyIsInRange b → reply_text a ≡ reply_text b → a ≡ b
unfolding mark
reply_text-injective (reply.Added id) (reply.Added other) ha hb e =
    ap (λ bytes. reply.Added (record { 0 = bytes })) (digits-injective id.0 other.0 ha hb (append_cancel_left (codes "added ") _ _ e))
reply_text-injective (reply.Removed v p) (reply.Removed w q) ha hb e = removed_same v w p q e
reply_text-injective (reply.Status s v m) (reply.Status t w n) ha hb e = status_same s t v w m n ha hb e
reply_text-injective reply.Done reply.Done ha hb e = refl
reply_text-injective (reply.PolicyIs policy) (reply.PolicyIs other) ha hb e =
    ap reply.PolicyIs (digits-injective policy other ha hb (append_cancel_left (codes "policy ") _ _ e))
reply_text-injective (reply.Names a v) (reply.Names b w) ha hb e = listing_same a b v w ha hb e
reply_text-injective (reply.Stat k m s v p) (reply.Stat l n t w q) ha hb e = stat_same k l m n s t v w p q ha hb e
reply_text-injective (reply.Opened m) (reply.Opened n) ha hb e =
    ap reply.Opened (number_same m n ha hb (append_cancel_left (codes "handle ") _ _ e))
reply_text-injective (reply.Content a) (reply.Content b) ha hb e =
    ap reply.Content (bytes_text-injective a b ha hb (append_cancel_left (codes "data ") _ _ e))
reply_text-injective (reply.Target a) (reply.Target b) ha hb e =
    ap reply.Target (word_text-injective a b ha hb (append_cancel_left (codes "target ") _ _ e))
reply_text-injective (reply.Held m a) (reply.Held n b) ha hb e = held_same m n a b ha hb e
reply_text-injective (reply.Stored m) (reply.Stored n) ha hb e =
    ap reply.Stored (number_same m n ha hb (append_cancel_left (codes "stored ") _ _ e))
reply_text-injective (reply.Refused a) (reply.Refused b) ha hb e =
    ap reply.Refused (refusal_text-injective a b ha hb (append_cancel_left (codes "refused ") _ _ e))
reply_text-injective a b ha hb e = absurd (let marks = ap mark e in omega (arith, marks))
