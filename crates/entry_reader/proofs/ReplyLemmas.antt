-- The words of a reply are read as the reply.
use Rattle.std.proofs.Common.{◌≡◌, ℕ, ◌<◌, ◌+◌, ◌-◌, ◌==◌, ◌^◌, Bool, true, false, List, [], ◌∷◌, ◌++◌, length, map, codes, Some, Option, refl, ap, ap₂, ◌∙◌, arith, leb-true, append-nil, length-append}
use Rattle.std.specs.Prelude.{nat_le, slice_get}
use Rattle.std.specs.Option.{option_map_or}
use Rattle.std.proofs.Math.Seq.{get_or-append_seam}
use Rattle.std.proofs.lemmas.Option.{slice_get-get_or}
use Rattle.std.specs.Fmt.{digits}
use Rattle.std.specs.List.{All, list_all}
use Rattle.std.proofs.lemmas.List.Elements.{All-nil, All-cons, All-append}
use Rattle.std.proofs.lemmas.List.Sums.{AllPass-from_list_all}
use Rattle.hex.specs.Hex.{encode_lower}
use Rattle.text_words.specs.Numbers.{decimal_of}
use Rattle.policy_ctx.specs.declared.policy.KeyId.{KeyId}
use Rattle.mount_model.specs.declared.reply.KeyState.{KeyState}
use Rattle.mount_model.specs.declared.reply.KeyState.TheVariants.{Absent, Present, Incomplete}
use Rattle.mount_model.specs.declared.reply.NodeKind.{NodeKind}
use Rattle.mount_model.specs.declared.reply.NodeKind.TheVariants.{Dir, File, Link}
use Rattle.mount_model.specs.declared.reply.Refusal.{Refusal}
use Rattle.mount_model.specs.declared.reply.Refusal.TheVariants.{NoKey, Access, Quota, Inval, Exists, NotFound, NotDir, IsDir, NotEmpty, XDev, NoData, BadHandle, NameTooLong, TooBig, NoSpace, NoKeyClash, Changed, NoMemory}
use Rattle.mount_model.specs.declared.reply.Reply.{Reply}
use Rattle.mount_model.specs.declared.reply.Reply.TheVariants as reply
use Rattle.script_words.specs.Word.{word_text}
use Rattle.reply_text.specs.Words.{bit, flag_text, state_text, kind_text, refusal_name, refusal_text}
use Rattle.reply_text.specs.Names.{bytes_text, names_text}
use Rattle.reply_text.specs.Replies.{reply_text}
use Rattle.reply_text.specs.Ranges.{RefusalIsInRange, ReplyIsInRange}
use Rattle.reply_text.proofs.FieldLemmas.{bit-small, IsField-word, IsField-bytes}
use Rattle.reply_text.proofs.ReplyLemmas.{IsField-state, IsField-kind}
use Rattle.entry_reader.specs.Fields.{number_in, flag_in, users_in}
use Rattle.entry_reader.specs.Names.{name_text, name_of, state_in, kind_in}
use Rattle.entry_reader.specs.ReplyForms.{refused_form, form_of_reply, reply_after_name, reply_form}
use Rattle.entry_reader.specs.Typed.{ReplyIsTyped}
use Rattle.entry_reader.specs.declared.names.ReplyName.{ReplyName}
use Rattle.entry_reader.specs.declared.names.ReplyName.TheVariants as name
use Rattle.entry_reader.proofs.WordLemmas.{IsWordByte, IsWord, field_is_word, spaced, number_word, small_word, digits_word, one}
use Rattle.entry_reader.proofs.BackLemmas.{number_back, id_back, policy_back, bytes_back, word_back, words_back}

-- ---- names

name_of-text : (n : ReplyName) → name_of (name_text n) ≡ Some n
name_of-text name.Added = refl
name_of-text name.Removed = refl
name_of-text name.Status = refl
name_of-text name.Done = refl
name_of-text name.Policy = refl
name_of-text name.Names = refl
name_of-text name.Stat = refl
name_of-text name.Handle = refl
name_of-text name.Data = refl
name_of-text name.Target = refl
name_of-text name.Record = refl
name_of-text name.Stored = refl
name_of-text name.Refused = refl

-- the first word of a reply, and the others
abbrev pub reply_name : Reply → ReplyName
reply_name (reply.Added id) = name.Added
reply_name (reply.Removed others busy) = name.Removed
reply_name (reply.Status state by_self users) = name.Status
reply_name reply.Done = name.Done
reply_name (reply.PolicyIs policy) = name.Policy
reply_name (reply.Names names more) = name.Names
reply_name (reply.Stat kind node size encrypted keyed) = name.Stat
reply_name (reply.Opened number) = name.Handle
reply_name (reply.Content bytes) = name.Data
reply_name (reply.Target bytes) = name.Target
reply_name (reply.Held version bytes) = name.Record
reply_name (reply.Stored version) = name.Stored
reply_name (reply.Refused refusal) = name.Refused

abbrev pub refusal_words : Refusal → List (List ℕ)
refusal_words (Changed version) = codes "changed" ∷ decimal_of version ∷ []
refusal_words other = refusal_name other ∷ []

abbrev flag_word : List ℕ → Bool → List ℕ
flag_word name value = flag_text name value

abbrev pub reply_words : Reply → List (List ℕ)
reply_words (reply.Added id) = encode_lower id.0 ∷ []
reply_words (reply.Removed others busy) = flag_word (codes "others=") others ∷ flag_word (codes "busy=") busy ∷ []
reply_words (reply.Status state by_self users) =
    state_text state ∷ flag_word (codes "self=") by_self ∷ (codes "users=" ++ decimal_of users) ∷ []
reply_words reply.Done = []
reply_words (reply.PolicyIs policy) = encode_lower policy ∷ []
reply_words (reply.Names names more) = decimal_of (length names) ∷ flag_word (codes "more=") more ∷ map word_text names
reply_words (reply.Stat kind node size encrypted keyed) =
    kind_text kind ∷ decimal_of node ∷ decimal_of size ∷ flag_word (codes "enc=") encrypted ∷ flag_word (codes "key=") keyed ∷ []
reply_words (reply.Opened number) = decimal_of number ∷ []
reply_words (reply.Content bytes) = bytes_text bytes ∷ []
reply_words (reply.Target bytes) = word_text bytes ∷ []
reply_words (reply.Held version bytes) = decimal_of version ∷ bytes_text bytes ∷ []
reply_words (reply.Stored version) = decimal_of version ∷ []
reply_words (reply.Refused refusal) = refusal_words refusal

-- ---- a reply's text is its words

names-spaced : (text : List ℕ) (names : List (List ℕ)) → text ++ names_text names ≡ spaced text (map word_text names)
names-spaced text [] = append-nil text
names-spaced text (name ∷ names) = ap (λ (t : List ℕ). text ++ (32 ∷ t)) (names-spaced (word_text name) names)

refusal-spaced : (refusal : Refusal) → codes "refused " ++ refusal_text refusal ≡ spaced (codes "refused") (refusal_words refusal)
refusal-spaced (Changed version) = refl
refusal-spaced NoKey = refl
refusal-spaced Access = refl
refusal-spaced Quota = refl
refusal-spaced Inval = refl
refusal-spaced Exists = refl
refusal-spaced NotFound = refl
refusal-spaced NotDir = refl
refusal-spaced IsDir = refl
refusal-spaced NotEmpty = refl
refusal-spaced XDev = refl
refusal-spaced NoData = refl
refusal-spaced BadHandle = refl
refusal-spaced NameTooLong = refl
refusal-spaced TooBig = refl
refusal-spaced NoSpace = refl
refusal-spaced NoKeyClash = refl
refusal-spaced NoMemory = refl

pub reply_text-words : (r : Reply) → reply_text r ≡ spaced (name_text (reply_name r)) (reply_words r)
reply_text-words (reply.Added id) = refl
reply_text-words (reply.Removed others busy) = refl
reply_text-words (reply.Status state by_self users) = refl
reply_text-words reply.Done = refl
reply_text-words (reply.PolicyIs policy) = refl
reply_text-words (reply.Names names more) =
    ap (λ (t : List ℕ). codes "names " ++ (decimal_of (length names) ++ (32 ∷ t))) (names-spaced (flag_word (codes "more=") more) names)
reply_text-words (reply.Stat kind node size encrypted keyed) = refl
reply_text-words (reply.Opened number) = refl
reply_text-words (reply.Content bytes) = refl
reply_text-words (reply.Target bytes) = refl
reply_text-words (reply.Held version bytes) = refl
reply_text-words (reply.Stored version) = refl
reply_text-words (reply.Refused refusal) = refusal-spaced refusal

-- ---- of which bytes the words are

literal : (word : List ℕ) → list_all (λ b. nat_le 33 b) word ≡ true → IsWord word
literal word h k d within = leb-true 33 _ (AllPass-from_list_all (λ b. nat_le 33 b) word h k d within)

flag_is_word : (name : List ℕ) (value : Bool) → IsWord name → IsWord (flag_word name value)
flag_is_word name value h = All-append IsWordByte name (decimal_of (bit value)) h (number_word (bit value) (bit-small value))

and_more : (a : List ℕ) (more : List (List ℕ)) → IsWord a → All IsWord more → All IsWord (a ∷ more)
and_more a more ha hm = All-cons IsWord a more ha hm

names_words : (names : List (List ℕ)) → All IsWord (map word_text names)
names_words [] = All-nil IsWord
names_words (name ∷ names) = and_more (word_text name) (map word_text names) (field_is_word (word_text name) (IsField-word name)) (names_words names)

refusal_is_words : (refusal : Refusal) → RefusalIsInRange refusal → All IsWord (refusal_words refusal)
refusal_is_words (Changed version) h = and_more (codes "changed") (decimal_of version ∷ []) (literal (codes "changed") refl) (one _ (small_word version h))
refusal_is_words NoKey h = one _ (literal (codes "no-key") refl)
refusal_is_words Access h = one _ (literal (codes "access") refl)
refusal_is_words Quota h = one _ (literal (codes "quota") refl)
refusal_is_words Inval h = one _ (literal (codes "inval") refl)
refusal_is_words Exists h = one _ (literal (codes "exists") refl)
refusal_is_words NotFound h = one _ (literal (codes "not-found") refl)
refusal_is_words NotDir h = one _ (literal (codes "not-dir") refl)
refusal_is_words IsDir h = one _ (literal (codes "is-dir") refl)
refusal_is_words NotEmpty h = one _ (literal (codes "not-empty") refl)
refusal_is_words XDev h = one _ (literal (codes "x-dev") refl)
refusal_is_words NoData h = one _ (literal (codes "no-data") refl)
refusal_is_words BadHandle h = one _ (literal (codes "bad-handle") refl)
refusal_is_words NameTooLong h = one _ (literal (codes "name-too-long") refl)
refusal_is_words TooBig h = one _ (literal (codes "too-big") refl)
refusal_is_words NoSpace h = one _ (literal (codes "no-space") refl)
refusal_is_words NoKeyClash h = one _ (literal (codes "no-key-clash") refl)
refusal_is_words NoMemory h = one _ (literal (codes "no-memory") refl)

pub reply_name-word : (r : Reply) → IsWord (name_text (reply_name r))
reply_name-word (reply.Added id) = literal (codes "added") refl
reply_name-word (reply.Removed others busy) = literal (codes "removed") refl
reply_name-word (reply.Status state by_self users) = literal (codes "status") refl
reply_name-word reply.Done = literal (codes "ok") refl
reply_name-word (reply.PolicyIs policy) = literal (codes "policy") refl
reply_name-word (reply.Names names more) = literal (codes "names") refl
reply_name-word (reply.Stat kind node size encrypted keyed) = literal (codes "stat") refl
reply_name-word (reply.Opened number) = literal (codes "handle") refl
reply_name-word (reply.Content bytes) = literal (codes "data") refl
reply_name-word (reply.Target bytes) = literal (codes "target") refl
reply_name-word (reply.Held version bytes) = literal (codes "record") refl
reply_name-word (reply.Stored version) = literal (codes "stored") refl
reply_name-word (reply.Refused refusal) = literal (codes "refused") refl

flag_one : (name : List ℕ) (value : Bool) → list_all (λ b. nat_le 33 b) name ≡ true → IsWord (flag_word name value)
flag_one name value h = flag_is_word name value (literal name h)

pub reply_words-words : (r : Reply) → ReplyIsInRange r → All IsWord (reply_words r)
reply_words-words (reply.Added id) h = one (encode_lower id.0) (digits_word id.0 h)
reply_words-words (reply.Removed others busy) h =
    and_more (flag_word (codes "others=") others) (flag_word (codes "busy=") busy ∷ []) (flag_one (codes "others=") others refl)
    (one (flag_word (codes "busy=") busy) (flag_one (codes "busy=") busy refl))
reply_words-words (reply.Status state by_self users) h =
    and_more (state_text state) (flag_word (codes "self=") by_self ∷ (codes "users=" ++ decimal_of users) ∷ []) (field_is_word (state_text state) (IsField-state state))
    (and_more (flag_word (codes "self=") by_self) ((codes "users=" ++ decimal_of users) ∷ []) (flag_one (codes "self=") by_self refl)
    (one (codes "users=" ++ decimal_of users) (All-append IsWordByte (codes "users=") (decimal_of users) (literal (codes "users=") refl) (small_word users h))))
reply_words-words reply.Done h = All-nil IsWord
reply_words-words (reply.PolicyIs policy) h = one (encode_lower policy) (digits_word policy h)
reply_words-words (reply.Names names more) h =
    and_more (decimal_of (length names)) (flag_word (codes "more=") more ∷ map word_text names) (number_word (length names) h.0)
    (and_more (flag_word (codes "more=") more) (map word_text names) (flag_one (codes "more=") more refl) (names_words names))
reply_words-words (reply.Stat kind node size encrypted keyed) h =
    let last : All IsWord (flag_word (codes "key=") keyed ∷ []) = one (flag_word (codes "key=") keyed) (flag_one (codes "key=") keyed refl) in
    let flags : All IsWord (flag_word (codes "enc=") encrypted ∷ flag_word (codes "key=") keyed ∷ []) =
    and_more (flag_word (codes "enc=") encrypted) (flag_word (codes "key=") keyed ∷ []) (flag_one (codes "enc=") encrypted refl) last in
    let sizes : All IsWord (decimal_of size ∷ flag_word (codes "enc=") encrypted ∷ flag_word (codes "key=") keyed ∷ []) =
    and_more (decimal_of size) (flag_word (codes "enc=") encrypted ∷ flag_word (codes "key=") keyed ∷ []) (small_word size h.1) flags in
    and_more (kind_text kind) (decimal_of node ∷ decimal_of size ∷ flag_word (codes "enc=") encrypted ∷ flag_word (codes "key=") keyed ∷ []) (field_is_word (kind_text kind) (IsField-kind kind))
    (and_more (decimal_of node) (decimal_of size ∷ flag_word (codes "enc=") encrypted ∷ flag_word (codes "key=") keyed ∷ []) (small_word node h.0) sizes)
reply_words-words (reply.Opened n) h = one (decimal_of n) (small_word n h)
reply_words-words (reply.Content bytes) h = one (bytes_text bytes) (field_is_word (bytes_text bytes) (IsField-bytes bytes h))
reply_words-words (reply.Target bytes) h = one (word_text bytes) (field_is_word (word_text bytes) (IsField-word bytes))
reply_words-words (reply.Held version bytes) h =
    and_more (decimal_of version) (bytes_text bytes ∷ []) (small_word version h.0) (one (bytes_text bytes) (field_is_word (bytes_text bytes) (IsField-bytes bytes h.1)))
reply_words-words (reply.Stored version) h = one (decimal_of version) (small_word version h)
reply_words-words (reply.Refused refusal) h = refusal_is_words refusal h

-- ---- what is read

abbrev made_of : Reply → Reply × List (List ℕ)
made_of r = (r, [])

state_back : (state : KeyState) → state_in (state_text state) ≡ state
state_back Absent = refl
state_back Present = refl
state_back Incomplete = refl

kind_back : (kind : NodeKind) → kind_in (kind_text kind) ≡ kind
kind_back Dir = refl
kind_back File = refl
kind_back Link = refl

-- the byte after a text
last_is : (text : List ℕ) (b : ℕ) → slice_get (text ++ b ∷ []) (length (text ++ b ∷ []) - 1) ≡ Some b
last_is text b =
    let long : length (text ++ b ∷ []) ≡ length text + 1 = length-append text (b ∷ []) in
    let place : length (text ++ b ∷ []) - 1 ≡ length text = omega (arith, long) in
    rw place (slice_get-get_or (text ++ b ∷ []) (length text) 0 (omega (arith, long)) ∙ ap Some (get_or-append_seam text b [] 0))

flag_back : (name : List ℕ) (v : Bool) → flag_in (flag_word name v) ≡ v
unfolding digits
flag_back name true = ap (λ (o : Option ℕ). option_map_or (λ b. b == 49) o false) (last_is name 49)
flag_back name false = ap (λ (o : Option ℕ). option_map_or (λ b. b == 49) o false) (last_is name 48)

users_back : (n : ℕ) → n < 2 ^ 32 → users_in (codes "users=" ++ decimal_of n) ≡ n
users_back n small = number_back n small

refused_read : (refusal : Refusal) → RefusalIsInRange refusal → refused_form (refusal_words refusal) ≡ made_of (reply.Refused refusal)
refused_read (Changed version) h = ap (λ (n : ℕ). made_of (reply.Refused (Changed n))) (number_back version h)
refused_read NoKey h = refl
refused_read Access h = refl
refused_read Quota h = refl
refused_read Inval h = refl
refused_read Exists h = refl
refused_read NotFound h = refl
refused_read NotDir h = refl
refused_read IsDir h = refl
refused_read NotEmpty h = refl
refused_read XDev h = refl
refused_read NoData h = refl
refused_read BadHandle h = refl
refused_read NameTooLong h = refl
refused_read TooBig h = refl
refused_read NoSpace h = refl
refused_read NoKeyClash h = refl
refused_read NoMemory h = refl

named : (r : Reply) → ReplyIsInRange r → ReplyIsTyped r → form_of_reply (reply_name r) (reply_words r) ≡ made_of r
named (reply.Added id) h t = ap (λ (i : KeyId). made_of (reply.Added i)) (id_back id t h)
named (reply.Removed others busy) h t = ap₂ (λ (o b : Bool). made_of (reply.Removed o b)) (flag_back (codes "others=") others) (flag_back (codes "busy=") busy)
named (reply.Status state by_self users) h t =
    ap₂ (λ (s : KeyState) (v : Bool). made_of (reply.Status s v (users_in (codes "users=" ++ decimal_of users)))) (state_back state) (flag_back (codes "self=") by_self)
    ∙ ap (λ (n : ℕ). made_of (reply.Status state by_self n)) (users_back users h)
named reply.Done h t = refl
named (reply.PolicyIs policy) h t = ap (λ (p : List ℕ). made_of (reply.PolicyIs p)) (policy_back policy t h)
named (reply.Names names more) h t =
    ap₂ (λ (l : List (List ℕ)) (v : Bool). made_of (reply.Names l v)) (words_back names h.1) (flag_back (codes "more=") more)
named (reply.Stat kind node size encrypted keyed) h t =
    ap₂ (λ (k : NodeKind) (n : ℕ). made_of (reply.Stat k n (number_in (decimal_of size)) (flag_in (flag_word (codes "enc=") encrypted)) (flag_in (flag_word (codes "key=") keyed))))
    (kind_back kind) (number_back node h.0)
    ∙ ap₂ (λ (n : ℕ) (v : Bool). made_of (reply.Stat kind node n v (flag_in (flag_word (codes "key=") keyed)))) (number_back size h.1) (flag_back (codes "enc=") encrypted)
    ∙ ap (λ (v : Bool). made_of (reply.Stat kind node size encrypted v)) (flag_back (codes "key=") keyed)
named (reply.Opened n) h t = ap (λ (m : ℕ). made_of (reply.Opened m)) (number_back n h)
named (reply.Content bytes) h t = ap (λ (b : List ℕ). made_of (reply.Content b)) (bytes_back bytes h)
named (reply.Target bytes) h t = ap (λ (b : List ℕ). made_of (reply.Target b)) (word_back bytes h)
named (reply.Held version bytes) h t = ap₂ (λ (n : ℕ) (b : List ℕ). made_of (reply.Held n b)) (number_back version h.0) (bytes_back bytes h.1)
named (reply.Stored version) h t = ap (λ (n : ℕ). made_of (reply.Stored n)) (number_back version h)
named (reply.Refused refusal) h t = refused_read refusal h

pub reply_read : (r : Reply) → ReplyIsInRange r → ReplyIsTyped r → reply_form (name_text (reply_name r) ∷ reply_words r) ≡ made_of r
reply_read r h t = ap (λ (n : Option ReplyName). reply_after_name n (reply_words r)) (name_of-text (reply_name r)) ∙ named r h t
