-- The words of a call are read as the call, apart from what no line contains.
use Rattle.std.proofs.Common.{◌≡◌, ℕ, zero, suc, ◌<◌, ◌≤◌, ◌^◌, List, [], ◌∷◌, ◌++◌, length, replicate, codes, Some, Option, refl, ap, ap₂, sym, ◌∙◌, subst, arith}
use Rattle.std.specs.Prelude.{slice_index}
use Rattle.std.specs.List.{All}
use Rattle.std.proofs.lemmas.List.Elements.{All-nil, All-cons}
use Rattle.hex.specs.Hex.{IsBytes, encode_lower}
use Rattle.text_words.specs.Numbers.{decimal_of}
use Rattle.policy_ctx.specs.declared.policy.KeyId.{KeyId}
use Rattle.mount_limits.specs.declared.TheConstants.{MAX_RAW_BYTES, MAX_WRITE_BYTES, MAX_CARRIED_BYTES}
use Rattle.mount_model.specs.declared.call.Op.{Op}
use Rattle.mount_model.specs.declared.call.Op.TheVariants as op
use Rattle.mount_model.specs.Carried.{IsPath}
use Rattle.mount_model.specs.Fits.{OpFits}
use Rattle.script_words.specs.Word.{word_text}
use Rattle.script_lang.specs.Names.{name_text}
use Rattle.script_lang.specs.declared.names.CommandName.{CommandName}
use Rattle.script_lang.specs.declared.names.CommandName.TheVariants as name
use Rattle.script_lang.proofs.NameLaws.{name_of-text}
use Rattle.reply_text.specs.Names.{path_text, record_text}
use Rattle.reply_text.specs.Calls.{call_text, span_text, store_text}
use Rattle.reply_text.specs.CallRange.{CallIsInRange}
use Rattle.reply_text.proofs.FieldLemmas.{field_literal, IsField-word, IsField-record, IsField-path}
use Rattle.entry_reader.specs.Fields.{number_in, zeros_in, id_in, path_in}
use Rattle.entry_reader.specs.CallForms.{call_after_name, call_form}
use Rattle.entry_reader.specs.NamedCalls.{form_of_call}
use Rattle.entry_reader.specs.PathForms.{no_nonce}
use Rattle.entry_reader.specs.Typed.{CallIsTyped}
use Rattle.entry_reader.proofs.WordLemmas.{IsWord, field_is_word, spaced, number_word, small_word, digits_word, one}
use Rattle.entry_reader.proofs.BackLemmas.{number_back, zeros_back, zeros_counted, id_back, policy_back, word_back, record_back, path_back}

-- the name of a call, and the words after it
abbrev pub call_name : Op → CommandName
call_name (op.AddKey raw) = name.AddKey
call_name (op.RemoveKey id) = name.RemoveKey
call_name (op.RemoveKeyAll id) = name.RemoveKeyAll
call_name (op.KeyStatus id) = name.KeyStatus
call_name (op.SetPolicy path policy nonce) = name.SetPolicy
call_name (op.GetPolicy path) = name.GetPolicy
call_name (op.Mkdir path nonce) = name.Mkdir
call_name (op.Create path nonce) = name.Create
call_name (op.Symlink path target nonce) = name.Symlink
call_name (op.ReadLink path) = name.ReadLink
call_name (op.Unlink path) = name.Unlink
call_name (op.Rmdir path) = name.Rmdir
call_name (op.Rename old_path new_path) = name.Rename
call_name (op.List path start) = name.List
call_name (op.Stat path) = name.Stat
call_name (op.OpenNode path) = name.Open
call_name (op.Read handle offset len) = name.Read
call_name (op.Write handle offset bytes) = name.Write
call_name (op.Close handle) = name.Close
call_name op.DropCaches = name.DropCaches
call_name (op.MetaLoad label) = name.MetaGet
call_name (op.MetaStore label expected bytes) = name.MetaPut

abbrev pub call_words : Op → List (List ℕ)
call_words (op.AddKey raw) = decimal_of (length raw) ∷ []
call_words (op.RemoveKey id) = encode_lower id.0 ∷ []
call_words (op.RemoveKeyAll id) = encode_lower id.0 ∷ []
call_words (op.KeyStatus id) = encode_lower id.0 ∷ []
call_words (op.SetPolicy path policy nonce) = path_text path ∷ encode_lower policy ∷ []
call_words (op.GetPolicy path) = path_text path ∷ []
call_words (op.Mkdir path nonce) = path_text path ∷ []
call_words (op.Create path nonce) = path_text path ∷ []
call_words (op.Symlink path target nonce) = path_text path ∷ word_text target ∷ []
call_words (op.ReadLink path) = path_text path ∷ []
call_words (op.Unlink path) = path_text path ∷ []
call_words (op.Rmdir path) = path_text path ∷ []
call_words (op.Rename old_path new_path) = path_text old_path ∷ path_text new_path ∷ []
call_words (op.List path start) = path_text path ∷ decimal_of start ∷ []
call_words (op.Stat path) = path_text path ∷ []
call_words (op.OpenNode path) = path_text path ∷ []
call_words (op.Read handle offset len) = decimal_of handle ∷ decimal_of offset ∷ decimal_of len ∷ []
call_words (op.Write handle offset bytes) = decimal_of handle ∷ decimal_of offset ∷ decimal_of (length bytes) ∷ []
call_words (op.Close handle) = decimal_of handle ∷ []
call_words op.DropCaches = []
call_words (op.MetaLoad label) = record_text label ∷ []
call_words (op.MetaStore label expected bytes) = record_text label ∷ decimal_of expected ∷ decimal_of (length bytes) ∷ []

-- a call's text is its words
pub call_text-words : (o : Op) → call_text o ≡ spaced (name_text (call_name o)) (call_words o)
call_text-words (op.AddKey raw) = refl
call_text-words (op.RemoveKey id) = refl
call_text-words (op.RemoveKeyAll id) = refl
call_text-words (op.KeyStatus id) = refl
call_text-words (op.SetPolicy path policy nonce) = refl
call_text-words (op.GetPolicy path) = refl
call_text-words (op.Mkdir path nonce) = refl
call_text-words (op.Create path nonce) = refl
call_text-words (op.Symlink path target nonce) = refl
call_text-words (op.ReadLink path) = refl
call_text-words (op.Unlink path) = refl
call_text-words (op.Rmdir path) = refl
call_text-words (op.Rename old_path new_path) = refl
call_text-words (op.List path start) = refl
call_text-words (op.Stat path) = refl
call_text-words (op.OpenNode path) = refl
call_text-words (op.Read handle offset len) = refl
call_text-words (op.Write handle offset bytes) = refl
call_text-words (op.Close handle) = refl
call_text-words op.DropCaches = refl
call_text-words (op.MetaLoad label) = refl
call_text-words (op.MetaStore label expected bytes) = refl

-- ---- of which bytes the words are

path_word : (path : List (List ℕ)) → IsWord (path_text path)
path_word path = field_is_word (path_text path) (IsField-path path)

two : (a b : List ℕ) → IsWord a → IsWord b → All IsWord (a ∷ b ∷ [])
two a b ha hb = All-cons IsWord a (b ∷ []) ha (one b hb)

three : (a b c : List ℕ) → IsWord a → IsWord b → IsWord c → All IsWord (a ∷ b ∷ c ∷ [])
three a b c ha hb hc = All-cons IsWord a (b ∷ c ∷ []) ha (two b c hb hc)

pub call_name-word : (o : Op) → IsWord (name_text (call_name o))
call_name-word (op.AddKey raw) = field_is_word (codes "add-key") (field_literal (codes "add-key") refl)
call_name-word (op.RemoveKey id) = field_is_word (codes "remove-key") (field_literal (codes "remove-key") refl)
call_name-word (op.RemoveKeyAll id) = field_is_word (codes "remove-key-all") (field_literal (codes "remove-key-all") refl)
call_name-word (op.KeyStatus id) = field_is_word (codes "key-status") (field_literal (codes "key-status") refl)
call_name-word (op.SetPolicy path policy nonce) = field_is_word (codes "set-policy") (field_literal (codes "set-policy") refl)
call_name-word (op.GetPolicy path) = field_is_word (codes "get-policy") (field_literal (codes "get-policy") refl)
call_name-word (op.Mkdir path nonce) = field_is_word (codes "mkdir") (field_literal (codes "mkdir") refl)
call_name-word (op.Create path nonce) = field_is_word (codes "create") (field_literal (codes "create") refl)
call_name-word (op.Symlink path target nonce) = field_is_word (codes "symlink") (field_literal (codes "symlink") refl)
call_name-word (op.ReadLink path) = field_is_word (codes "readlink") (field_literal (codes "readlink") refl)
call_name-word (op.Unlink path) = field_is_word (codes "unlink") (field_literal (codes "unlink") refl)
call_name-word (op.Rmdir path) = field_is_word (codes "rmdir") (field_literal (codes "rmdir") refl)
call_name-word (op.Rename old_path new_path) = field_is_word (codes "rename") (field_literal (codes "rename") refl)
call_name-word (op.List path start) = field_is_word (codes "list") (field_literal (codes "list") refl)
call_name-word (op.Stat path) = field_is_word (codes "stat") (field_literal (codes "stat") refl)
call_name-word (op.OpenNode path) = field_is_word (codes "open") (field_literal (codes "open") refl)
call_name-word (op.Read handle offset len) = field_is_word (codes "read") (field_literal (codes "read") refl)
call_name-word (op.Write handle offset bytes) = field_is_word (codes "write") (field_literal (codes "write") refl)
call_name-word (op.Close handle) = field_is_word (codes "close") (field_literal (codes "close") refl)
call_name-word op.DropCaches = field_is_word (codes "drop-caches") (field_literal (codes "drop-caches") refl)
call_name-word (op.MetaLoad label) = field_is_word (codes "meta-get") (field_literal (codes "meta-get") refl)
call_name-word (op.MetaStore label expected bytes) = field_is_word (codes "meta-put") (field_literal (codes "meta-put") refl)

pub call_words-words : (o : Op) → CallIsInRange o → All IsWord (call_words o)
call_words-words (op.AddKey raw) h = one _ (number_word (length raw) h)
call_words-words (op.RemoveKey id) h = one _ (digits_word id.0 h)
call_words-words (op.RemoveKeyAll id) h = one _ (digits_word id.0 h)
call_words-words (op.KeyStatus id) h = one _ (digits_word id.0 h)
call_words-words (op.SetPolicy path policy nonce) h = two _ _ (path_word path) (digits_word policy h)
call_words-words (op.GetPolicy path) h = one _ (path_word path)
call_words-words (op.Mkdir path nonce) h = one _ (path_word path)
call_words-words (op.Create path nonce) h = one _ (path_word path)
call_words-words (op.Symlink path target nonce) h = two _ _ (path_word path) (field_is_word (word_text target) (IsField-word target))
call_words-words (op.ReadLink path) h = one _ (path_word path)
call_words-words (op.Unlink path) h = one _ (path_word path)
call_words-words (op.Rmdir path) h = one _ (path_word path)
call_words-words (op.Rename old_path new_path) h = two _ _ (path_word old_path) (path_word new_path)
call_words-words (op.List path start) h = two _ _ (path_word path) (small_word start h)
call_words-words (op.Stat path) h = one _ (path_word path)
call_words-words (op.OpenNode path) h = one _ (path_word path)
call_words-words (op.Read handle offset len) h = three _ _ _ (small_word handle h.0) (small_word offset h.1) (small_word len h.2)
call_words-words (op.Write handle offset bytes) h = three _ _ _ (small_word handle h.0) (small_word offset h.1) (number_word (length bytes) h.2)
call_words-words (op.Close handle) h = one _ (small_word handle h)
call_words-words op.DropCaches h = All-nil IsWord
call_words-words (op.MetaLoad label) h = one _ (field_is_word (record_text label) (IsField-record label))
call_words-words (op.MetaStore label expected bytes) h =
    three _ _ _ (field_is_word (record_text label) (IsField-record label)) (small_word expected h.0) (number_word (length bytes) h.1)

-- ---- what is read

-- what follows a call is left after its words; the call made of them fits, and has the call's text
pub record CallRead (o : Op) (rest : List (List ℕ)) : Type 0 where
  pub made : Op
  pub reads : call_form (name_text (call_name o) ∷ (call_words o ++ rest)) ≡ (Some made, rest)
  pub fits : OpFits made
  pub same : call_text made ≡ call_text o

abbrev made_of : Op → List (List ℕ) → Option Op × List (List ℕ)
made_of o rest = (Some o, rest)

-- by its name
named : (o made : Op) (rest : List (List ℕ)) → form_of_call (call_name o) (call_words o ++ rest) ≡ made_of made rest
    → call_form (name_text (call_name o) ∷ (call_words o ++ rest)) ≡ made_of made rest
named o made rest reads = ap (λ (n : Option CommandName). call_after_name n (call_words o ++ rest)) (name_of-text (call_name o)) ∙ reads

-- a call of a path alone
of_path : (make : List (List ℕ) → Op) (o : Op) (path : List (List ℕ)) (rest : List (List ℕ)) → IsPath path
    → form_of_call (call_name o) (call_words o ++ rest) ≡ made_of (make (path_in (path_text path))) rest
    → OpFits (make path) → call_text (make path) ≡ call_text o → CallRead o rest
of_path make o path rest is reads fits same = record {
  made = make path;
  reads = named o (make path) rest (reads ∙ ap (λ (p : List (List ℕ)). made_of (make p) rest) (path_back path is));
  fits = fits;
  same = same;
}

-- a call of an identifier alone
of_id : (make : KeyId → Op) (o : Op) (id : KeyId) (rest : List (List ℕ)) → length id.0 ≡ 16 → IsBytes id.0
    → form_of_call (call_name o) (call_words o ++ rest) ≡ made_of (make (id_in (encode_lower id.0))) rest
    → OpFits (make id) → call_text (make id) ≡ call_text o → CallRead o rest
of_id make o id rest size bytes reads fits same = record {
  made = make id;
  reads = named o (make id) rest (reads ∙ ap (λ (i : KeyId). made_of (make i) rest) (id_back id size bytes));
  fits = fits;
  same = same;
}

zeros_are_bytes : (n : ℕ) → IsBytes (replicate n 0)
zeros_are_bytes n i = below n i
  where
    below : (n i : ℕ) → slice_index (replicate n 0) i < 256
    below zero i = omega arith
    below (suc n) zero = omega arith
    below (suc n) (suc i) = below n i

-- as many zeros as there were bytes, in range
zeros_fit : (most : ℕ) (bytes : List ℕ) → most < 2 ^ 32 → length bytes ≤ most
    → (length (zeros_in most (decimal_of (length bytes))) ≡ length bytes) × IsBytes (zeros_in most (decimal_of (length bytes)))
zeros_fit most bytes small few = (
  zeros_counted most (length bytes) few (omega (arith, small, few)),
  subst IsBytes (sym (zeros_back most (length bytes) few (omega (arith, small, few)))) (zeros_are_bytes (length bytes)),
)

-- a symlink, and what has three words
symlink_read : (path : List (List ℕ)) (target nonce : List ℕ) (rest : List (List ℕ)) → OpFits (op.Symlink path target nonce) → CallRead (op.Symlink path target nonce) rest
symlink_read path target nonce rest h = record {
  made = op.Symlink path target no_nonce;
  reads = named (op.Symlink path target nonce) (op.Symlink path target no_nonce) rest
      (ap₂ (λ (p : List (List ℕ)) (t : List ℕ). made_of (op.Symlink p t no_nonce) rest) (path_back path h.0) (word_back target h.1.bytes));
  fits = h;
  same = refl;
}

read_read : (handle offset len : ℕ) (rest : List (List ℕ)) → CallIsInRange (op.Read handle offset len) → CallRead (op.Read handle offset len) rest
read_read handle offset len rest r = record {
  made = op.Read handle offset len;
  reads = named (op.Read handle offset len) (op.Read handle offset len) rest
      (ap₂ (λ (a b : ℕ). made_of (op.Read a b (number_in (decimal_of len))) rest) (number_back handle r.0) (number_back offset r.1)
      ∙ ap (λ (n : ℕ). made_of (op.Read handle offset n) rest) (number_back len r.2));
  fits = tt;
  same = refl;
}

write_read : (handle offset : ℕ) (bytes : List ℕ) (rest : List (List ℕ)) → CallIsInRange (op.Write handle offset bytes) → OpFits (op.Write handle offset bytes)
    → CallRead (op.Write handle offset bytes) rest
write_read handle offset bytes rest r h =
    let zeros = zeros_fit MAX_WRITE_BYTES bytes (omega arith) h.1 in
    let made : List ℕ = zeros_in MAX_WRITE_BYTES (decimal_of (length bytes)) in
    let counted : length made ≡ length bytes = zeros.0 in
    let few : length bytes ≤ MAX_WRITE_BYTES = h.1 in
    record {
      made = op.Write handle offset made;
      reads = named (op.Write handle offset bytes) (op.Write handle offset made) rest
          (ap₂ (λ (a b : ℕ). made_of (op.Write a b made) rest) (number_back handle r.0) (number_back offset r.1));
      fits = (zeros.1, omega (arith, counted, few));
      same = ap (λ (n : ℕ). codes "write " ++ span_text handle offset n) counted;
    }

store_read : (label : List ℕ) (expected : ℕ) (bytes : List ℕ) (rest : List (List ℕ)) → CallIsInRange (op.MetaStore label expected bytes) → IsBytes label
    → OpFits (op.MetaStore label expected bytes) → CallRead (op.MetaStore label expected bytes) rest
store_read label expected bytes rest r t h =
    let zeros = zeros_fit MAX_CARRIED_BYTES bytes (omega arith) h.1 in
    let made : List ℕ = zeros_in MAX_CARRIED_BYTES (decimal_of (length bytes)) in
    let counted : length made ≡ length bytes = zeros.0 in
    let few : length bytes ≤ MAX_CARRIED_BYTES = h.1 in
    record {
      made = op.MetaStore label expected made;
      reads = named (op.MetaStore label expected bytes) (op.MetaStore label expected made) rest
          (ap₂ (λ (l : List ℕ) (n : ℕ). made_of (op.MetaStore l n made) rest) (record_back label t) (number_back expected r.0));
      fits = (h.0, omega (arith, counted, few));
      same = ap (λ (n : ℕ). codes "meta-put " ++ store_text label expected n) counted;
    }

key_read : (raw : List ℕ) (rest : List (List ℕ)) → OpFits (op.AddKey raw) → CallRead (op.AddKey raw) rest
key_read raw rest h =
    let made : List ℕ = zeros_in MAX_RAW_BYTES (decimal_of (length raw)) in
    let counted : length made ≡ length raw = (zeros_fit MAX_RAW_BYTES raw (omega arith) h.1).0 in
    let some : 1 ≤ length raw = h.0 in
    let few : length raw ≤ MAX_RAW_BYTES = h.1 in
    record {
      made = op.AddKey made;
      reads = named (op.AddKey raw) (op.AddKey made) rest refl;
      fits = (omega (arith, counted, some), omega (arith, counted, few));
      same = ap (λ (n : ℕ). codes "add-key " ++ decimal_of n) counted;
    }

set_policy_read : (path : List (List ℕ)) (policy nonce : List ℕ) (rest : List (List ℕ)) → IsBytes policy → length policy ≡ 24 → IsPath path
    → CallRead (op.SetPolicy path policy nonce) rest
set_policy_read path policy nonce rest r t h = record {
  made = op.SetPolicy path policy no_nonce;
  reads = named (op.SetPolicy path policy nonce) (op.SetPolicy path policy no_nonce) rest
      (ap₂ (λ (p : List (List ℕ)) (b : List ℕ). made_of (op.SetPolicy p b no_nonce) rest) (path_back path h) (policy_back policy t r));
  fits = h;
  same = refl;
}

rename_read : (a b : List (List ℕ)) (rest : List (List ℕ)) → OpFits (op.Rename a b) → CallRead (op.Rename a b) rest
rename_read a b rest h = record {
  made = op.Rename a b;
  reads = named (op.Rename a b) (op.Rename a b) rest
      (ap₂ (λ (p q : List (List ℕ)). made_of (op.Rename p q) rest) (path_back a h.0) (path_back b h.1));
  fits = h;
  same = refl;
}

list_read : (path : List (List ℕ)) (start : ℕ) (rest : List (List ℕ)) → start < 2 ^ 32 → IsPath path → CallRead (op.List path start) rest
list_read path start rest r h = record {
  made = op.List path start;
  reads = named (op.List path start) (op.List path start) rest
      (ap₂ (λ (p : List (List ℕ)) (n : ℕ). made_of (op.List p n) rest) (path_back path h) (number_back start r));
  fits = h;
  same = refl;
}

close_read : (handle : ℕ) (rest : List (List ℕ)) → handle < 2 ^ 32 → CallRead (op.Close handle) rest
close_read handle rest r = record {
  made = op.Close handle;
  reads = named (op.Close handle) (op.Close handle) rest (ap (λ (n : ℕ). made_of (op.Close n) rest) (number_back handle r));
  fits = tt;
  same = refl;
}

load_read : (label : List ℕ) (rest : List (List ℕ)) → IsBytes label → OpFits (op.MetaLoad label) → CallRead (op.MetaLoad label) rest
load_read label rest t h = record {
  made = op.MetaLoad label;
  reads = named (op.MetaLoad label) (op.MetaLoad label) rest (ap (λ (l : List ℕ). made_of (op.MetaLoad l) rest) (record_back label t));
  fits = h;
  same = refl;
}

pub call_read : (o : Op) (rest : List (List ℕ)) → CallIsInRange o → CallIsTyped o → OpFits o → CallRead o rest
call_read (op.AddKey raw) rest r t h = key_read raw rest h
call_read (op.RemoveKey id) rest r t h = of_id op.RemoveKey (op.RemoveKey id) id rest t r refl tt refl
call_read (op.RemoveKeyAll id) rest r t h = of_id op.RemoveKeyAll (op.RemoveKeyAll id) id rest t r refl tt refl
call_read (op.KeyStatus id) rest r t h = of_id op.KeyStatus (op.KeyStatus id) id rest t r refl tt refl
call_read (op.SetPolicy path policy nonce) rest r t h = set_policy_read path policy nonce rest r t h
call_read (op.GetPolicy path) rest r t h = of_path op.GetPolicy (op.GetPolicy path) path rest h refl h refl
call_read (op.Mkdir path nonce) rest r t h = of_path (λ p. op.Mkdir p no_nonce) (op.Mkdir path nonce) path rest h refl h refl
call_read (op.Create path nonce) rest r t h = of_path (λ p. op.Create p no_nonce) (op.Create path nonce) path rest h refl h refl
call_read (op.Symlink path target nonce) rest r t h = symlink_read path target nonce rest h
call_read (op.ReadLink path) rest r t h = of_path op.ReadLink (op.ReadLink path) path rest h refl h refl
call_read (op.Unlink path) rest r t h = of_path op.Unlink (op.Unlink path) path rest h refl h refl
call_read (op.Rmdir path) rest r t h = of_path op.Rmdir (op.Rmdir path) path rest h refl h refl
call_read (op.Rename old_path new_path) rest r t h = rename_read old_path new_path rest h
call_read (op.List path start) rest r t h = list_read path start rest r h
call_read (op.Stat path) rest r t h = of_path op.Stat (op.Stat path) path rest h refl h refl
call_read (op.OpenNode path) rest r t h = of_path op.OpenNode (op.OpenNode path) path rest h refl h refl
call_read (op.Read handle offset len) rest r t h = read_read handle offset len rest r
call_read (op.Write handle offset bytes) rest r t h = write_read handle offset bytes rest r h
call_read (op.Close handle) rest r t h = close_read handle rest r
call_read op.DropCaches rest r t h = record { made = op.DropCaches; reads = named op.DropCaches op.DropCaches rest refl; fits = tt; same = refl }
call_read (op.MetaLoad label) rest r t h = load_read label rest t h
call_read (op.MetaStore label expected bytes) rest r t h = store_read label expected bytes rest r t h
