-- The words that a form of the grammar takes are of the kinds of its name, one by one.
use Rattle.std.proofs.Common.{◌≡◌, ℕ, suc, ◌==◌, true, false, List, [], ◌∷◌, ◌++◌, length, Option, Some, None, refl, sym, ap, ◌∙◌, arith, append-nil}
use Rattle.std.specs.Prelude.{IfSome, is_some, if◌then◌else◌}
use Rattle.std.specs.Option.{option_map, option_and_then, unwrap_or}
use Rattle.std.proofs.lemmas.Bool.{and_parts, false≢true}
use Rattle.std.proofs.lemmas.Bool.Decides.{nat_tests}
use Rattle.text_words.specs.Digits.{hex_bytes_of_length}
use Rattle.short_bytes.specs.Label.{label_of}
use Rattle.script_words.specs.Keys.{hex_of_size, hex_or_none, key_ref_of}
use Rattle.script_words.specs.Numbers.{number_of, number_up_to, pad_of, unit_of}
use Rattle.script_words.specs.Records.{record_of}
use Rattle.script_words.specs.Secrets.{secret_of}
use Rattle.script_words.specs.NewSecrets.{new_secret_of}
use Rattle.script_words.specs.Word.{target_bytes}
use Rattle.script_words.specs.Path.{path_of}
use Rattle.script_lang.specs.Forms.{Form, word, says, optional, if_no_word_left}
use Rattle.script_lang.specs.SettingForms.{settings, options}
use Rattle.script_lang.specs.Commands.{form_of, command_named}
use Rattle.script_lang.specs.declared.limits.TheConstants.{MAX_ADDED_BYTES, MAX_WRITTEN_BYTES, MAX_FILLED_BYTES, MAX_PUT_BYTES, POLICY_BYTES}
use Rattle.script_lang.specs.declared.names.CommandName.{CommandName}
use Rattle.script_lang.specs.declared.names.CommandName.TheVariants as name
use Rattle.script_faults.specs.WordKinds.{kinds_of}
use Rattle.script_faults.specs.WordTests.{is_one, are_of}
use Rattle.script_faults.specs.declared.word_kinds.WordKind.{WordKind}
use Rattle.script_faults.specs.declared.word_kinds.WordKind.TheVariants as kind

one_more : (n : ℕ) → (suc n == 0) ≡ false
one_more n = grind (arith, nat_tests)

-- ---- what is read is of these kinds, if the rest is of those after them

abbrev Took : {A : Type 0} → List WordKind → List (List ℕ) → Option (A × List (List ℕ)) → Type 0
Took kinds words read = IfSome read (λ x. (more : List WordKind) → are_of x.1 more ≡ true → are_of words (kinds ++ more) ≡ true)

took_word : {A B : Type 0} (wanted : WordKind) (read : List ℕ → Option A) (next : A × List (List ℕ) → Option (B × List (List ℕ))) (kinds : List WordKind)
    → ((w : List ℕ) → is_some (read w) ≡ is_one wanted w) → ((a : A) (rest : List (List ℕ)) → Took kinds rest (next (a, rest)))
    → (words : List (List ℕ)) → Took (wanted ∷ kinds) words (option_and_then next (word read words))
took_word wanted read next kinds same after [] = tt
took_word {A = A} {B = B} wanted read next kinds same after (w ∷ words) = by_read (read w) refl
  where
    by_rest : (o : Option (B × List (List ℕ))) → is_one wanted w ≡ true → Took kinds words o → Took (wanted ∷ kinds) (w ∷ words) o
    by_rest None one h = tt
    by_rest (Some x) one h = λ more fits. rw one (h more fits)

    by_read : (o : Option A) → read w ≡ o → Took (wanted ∷ kinds) (w ∷ words) (option_and_then next (option_map (λ a. (a, words)) o))
    by_read None e = tt
    by_read (Some a) e = by_rest (next (a, words)) (sym (same w) ∙ ap is_some e) (after a words)

took_one : {A : Type 0} (wanted : WordKind) (read : List ℕ → Option A) → ((w : List ℕ) → is_some (read w) ≡ is_one wanted w)
    → (words : List (List ℕ)) → Took (wanted ∷ []) words (word read words)
took_one wanted read same [] = tt
took_one {A = A} wanted read same (w ∷ words) = by_read (read w) refl
  where
    by_read : (o : Option A) → read w ≡ o → Took (wanted ∷ []) (w ∷ words) (option_map (λ a. (a, words)) o)
    by_read None e = tt
    by_read (Some a) e = λ more fits. rw (sym (same w) ∙ ap is_some e) fits

took_then : {A B : Type 0} (next : A × List (List ℕ) → Option (B × List (List ℕ))) (kinds : List WordKind) (words : List (List ℕ)) (read : Option (A × List (List ℕ)))
    → Took kinds words read → ((a : A) (rest : List (List ℕ)) → Took [] rest (next (a, rest))) → Took kinds words (option_and_then next read)
took_then next kinds words None took last = tt
took_then {B = B} next kinds words (Some x) took last = by_last (next x) (last x.0 x.1)
  where
    by_last : (o : Option (B × List (List ℕ))) → Took [] x.1 o → Took kinds words o
    by_last None h = tt
    by_last (Some y) h = λ more fits. took more (h more fits)

took_optional : {A : Type 0} (form : Form A) (kinds : List WordKind) (words : List (List ℕ)) → Took kinds words (form words) → Took kinds words (optional form words)
took_optional form kinds [] took = λ more fits. refl
took_optional {A = A} form kinds (w ∷ words) took =
    rw (one_more (length words)) (took_then (λ x. says (Some x.0) x.1) kinds (w ∷ words) (form (w ∷ words)) took (λ a rest. λ more fits. fits))

-- ---- words of all these kinds are read, and leave the rest

-- the rest after words of these kinds, if they are there
abbrev taken : List WordKind → List (List ℕ) → Option (List (List ℕ))
taken [] words = Some words
taken (wanted ∷ kinds) [] = None
taken (wanted ∷ kinds) (w ∷ words) = if is_one wanted w then taken kinds words else None

abbrev Gave : {A : Type 0} → List WordKind → List (List ℕ) → Option (A × List (List ℕ)) → Type 0
Gave kinds words read = (left : List (List ℕ)) → taken kinds words ≡ Some left → option_map (λ x. x.1) read ≡ Some left

gave_word : {A B : Type 0} (wanted : WordKind) (read : List ℕ → Option A) (next : A × List (List ℕ) → Option (B × List (List ℕ))) (kinds : List WordKind)
    → ((w : List ℕ) → is_some (read w) ≡ is_one wanted w) → ((a : A) (rest : List (List ℕ)) → Gave kinds rest (next (a, rest)))
    → (words : List (List ℕ)) → Gave (wanted ∷ kinds) words (option_and_then next (word read words))
gave_word wanted read next kinds same after [] left h = absurd (false≢true (ap is_some h))
gave_word {A = A} wanted read next kinds same after (w ∷ words) left h = by_read (read w) refl
  where
    by_read : (o : Option A) → read w ≡ o → option_map (λ x. x.1) (option_and_then next (option_map (λ a. (a, words)) o)) ≡ Some left
    by_read None e = absurd (false≢true (ap is_some (rw (sym (same w) ∙ ap is_some e) at h)))
    by_read (Some a) e = after a words left (rw (sym (same w) ∙ ap is_some e) at h)

gave_one : {A : Type 0} (wanted : WordKind) (read : List ℕ → Option A) → ((w : List ℕ) → is_some (read w) ≡ is_one wanted w)
    → (words : List (List ℕ)) → Gave (wanted ∷ []) words (word read words)
gave_one wanted read same [] left h = absurd (false≢true (ap is_some h))
gave_one {A = A} wanted read same (w ∷ words) left h = by_read (read w) refl
  where
    by_read : (o : Option A) → read w ≡ o → option_map (λ (x : A × List (List ℕ)). x.1) (option_map (λ a. (a, words)) o) ≡ Some left
    by_read None e = absurd (false≢true (ap is_some (rw (sym (same w) ∙ ap is_some e) at h)))
    by_read (Some a) e = rw (sym (same w) ∙ ap is_some e) at h

gave_then : {A B : Type 0} (next : A × List (List ℕ) → Option (B × List (List ℕ))) (kinds : List WordKind) (words : List (List ℕ)) (read : Option (A × List (List ℕ)))
    → Gave kinds words read → ((a : A) (rest : List (List ℕ)) → Gave [] rest (next (a, rest))) → Gave kinds words (option_and_then next read)
gave_then next kinds words None gave last left h = absurd (false≢true (ap is_some (gave left h)))
gave_then next kinds words (Some x) gave last left h = last x.0 x.1 left (gave left h)

gave_optional : {A : Type 0} (form : Form A) (wanted : WordKind) (kinds : List WordKind) (words : List (List ℕ))
    → Gave (wanted ∷ kinds) words (form words) → Gave (wanted ∷ kinds) words (optional form words)
gave_optional form wanted kinds [] gave left h = absurd (false≢true (ap is_some h))
gave_optional {A = A} form wanted kinds (w ∷ words) gave left h =
    rw (one_more (length words)) (gave_then (λ x. says (Some x.0) x.1) (wanted ∷ kinds) (w ∷ words) (form (w ∷ words)) gave (λ a rest. λ left h. h) left h)

-- ---- both

abbrev Told : {A : Type 0} → List WordKind → List (List ℕ) → Option (A × List (List ℕ)) → Type 0
Told kinds words read = Took kinds words read × Gave kinds words read

-- no further word
ends : (rest : List (List ℕ)) → Told {A = ℕ} [] rest (Some (0, rest))
ends rest = (λ more fits. fits, λ left h. h)

told_word : {A B : Type 0} (wanted : WordKind) (read : List ℕ → Option A) (next : A × List (List ℕ) → Option (B × List (List ℕ))) (kinds : List WordKind)
    → ((w : List ℕ) → is_some (read w) ≡ is_one wanted w) → ((a : A) (rest : List (List ℕ)) → Told kinds rest (next (a, rest)))
    → (words : List (List ℕ)) → Told (wanted ∷ kinds) words (option_and_then next (word read words))
told_word wanted read next kinds same after words =
    (took_word wanted read next kinds same (λ a rest. (after a rest).0) words, gave_word wanted read next kinds same (λ a rest. (after a rest).1) words)

told_one : {A : Type 0} (wanted : WordKind) (read : List ℕ → Option A) → ((w : List ℕ) → is_some (read w) ≡ is_one wanted w)
    → (words : List (List ℕ)) → Told (wanted ∷ []) words (word read words)
told_one wanted read same words = (took_one wanted read same words, gave_one wanted read same words)

told_then : {A B : Type 0} (next : A × List (List ℕ) → Option (B × List (List ℕ))) (kinds : List WordKind) (words : List (List ℕ)) (read : Option (A × List (List ℕ)))
    → Told kinds words read → ((a : A) (rest : List (List ℕ)) → Told [] rest (next (a, rest))) → Told kinds words (option_and_then next read)
told_then next kinds words read both last =
    (took_then next kinds words read both.0 (λ a rest. (last a rest).0), gave_then next kinds words read both.1 (λ a rest. (last a rest).1))

told_optional : {A : Type 0} (form : Form A) (wanted : WordKind) (kinds : List WordKind) (words : List (List ℕ))
    → Told (wanted ∷ kinds) words (form words) → Told (wanted ∷ kinds) words (optional form words)
told_optional form wanted kinds words both = (took_optional form (wanted ∷ kinds) words both.0, gave_optional form wanted kinds words both.1)

told_number : (words : List (List ℕ)) → Told (kind.Number ∷ []) words (optional (word number_of) words)
told_number words = told_optional (word number_of) kind.Number [] words (told_one kind.Number number_of (λ w. refl) words)

told_settings : (words : List (List ℕ)) → Told (kind.Pad ∷ kind.Unit ∷ []) words (settings words)
told_settings words = told_word kind.Pad pad_of _ (kind.Unit ∷ []) (λ w. refl) (λ pad rest. told_then _ (kind.Unit ∷ []) rest _ (told_optional (word unit_of) kind.Unit [] rest (told_one kind.Unit unit_of (λ w. refl) rest)) (λ unit rest. ends rest)) words

told_said_settings : (words : List (List ℕ)) → Told (kind.Pad ∷ kind.Unit ∷ []) words (optional settings words)
told_said_settings words = told_optional settings kind.Pad (kind.Unit ∷ []) words (told_settings words)

told_said_options : (words : List (List ℕ)) → Told (kind.Pad ∷ kind.Unit ∷ []) words (optional options words)
told_said_options words = told_optional options kind.Pad (kind.Unit ∷ []) words
    (told_word kind.Pad pad_of _ (kind.Unit ∷ []) (λ w. refl) (λ pad rest. told_word kind.Unit unit_of _ [] (λ w. refl) (λ unit rest. ends rest) rest) words)

-- the kinds that the words after a name must be of
form_of-told : (name : CommandName) (words : List (List ℕ)) → Told (kinds_of name) words (form_of name words)
form_of-told name.AddKey words = told_word kind.AddedBytes (hex_of_size 1 MAX_ADDED_BYTES) _ [] (λ w. refl) (λ a rest. ends rest) words
form_of-told name.RemoveKey words = told_word kind.Key key_ref_of _ [] (λ w. refl) (λ a rest. ends rest) words
form_of-told name.RemoveKeyAll words = told_word kind.Key key_ref_of _ [] (λ w. refl) (λ a rest. ends rest) words
form_of-told name.KeyStatus words = told_word kind.Key key_ref_of _ [] (λ w. refl) (λ a rest. ends rest) words
form_of-told name.SetPolicy words = told_word kind.Path path_of _ (kind.Key ∷ kind.Pad ∷ kind.Unit ∷ []) (λ w. refl) (λ a rest. told_word kind.Key key_ref_of _ (kind.Pad ∷ kind.Unit ∷ []) (λ w. refl) (λ a rest. told_then _ (kind.Pad ∷ kind.Unit ∷ []) rest _ (told_settings rest) (λ a rest. ends rest)) rest) words
form_of-told name.SetPolicyBytes words = told_word kind.Path path_of _ (kind.PolicyBytes ∷ []) (λ w. refl) (λ a rest. told_word kind.PolicyBytes (hex_bytes_of_length POLICY_BYTES) _ [] (λ w. refl) (λ a rest. ends rest) rest) words
form_of-told name.GetPolicy words = told_word kind.Path path_of _ [] (λ w. refl) (λ a rest. ends rest) words
form_of-told name.Mkdir words = told_word kind.Path path_of _ [] (λ w. refl) (λ a rest. ends rest) words
form_of-told name.Create words = told_word kind.Path path_of _ [] (λ w. refl) (λ a rest. ends rest) words
form_of-told name.Symlink words = told_word kind.Path path_of _ (kind.Target ∷ []) (λ w. refl) (λ a rest. told_word kind.Target target_bytes _ [] (λ w. refl) (λ a rest. ends rest) rest) words
form_of-told name.ReadLink words = told_word kind.Path path_of _ [] (λ w. refl) (λ a rest. ends rest) words
form_of-told name.Unlink words = told_word kind.Path path_of _ [] (λ w. refl) (λ a rest. ends rest) words
form_of-told name.Rmdir words = told_word kind.Path path_of _ [] (λ w. refl) (λ a rest. ends rest) words
form_of-told name.Rename words = told_word kind.Path path_of _ (kind.Path ∷ []) (λ w. refl) (λ a rest. told_word kind.Path path_of _ [] (λ w. refl) (λ a rest. ends rest) rest) words
form_of-told name.List words = told_word kind.Path path_of _ (kind.Number ∷ []) (λ w. refl) (λ a rest. told_then _ (kind.Number ∷ []) rest _ (told_number rest) (λ a rest. ends rest)) words
form_of-told name.Stat words = told_word kind.Path path_of _ [] (λ w. refl) (λ a rest. ends rest) words
form_of-told name.Open words = told_word kind.Path path_of _ [] (λ w. refl) (λ a rest. ends rest) words
form_of-told name.Close words = told_word kind.Number number_of _ [] (λ w. refl) (λ a rest. ends rest) words
form_of-told name.Read words = told_word kind.Number number_of _ (kind.Number ∷ kind.Number ∷ []) (λ w. refl) (λ a rest. told_word kind.Number number_of _ (kind.Number ∷ []) (λ w. refl) (λ a rest. told_word kind.Number number_of _ [] (λ w. refl) (λ a rest. ends rest) rest) rest) words
form_of-told name.Write words = told_word kind.Number number_of _ (kind.Number ∷ kind.WrittenBytes ∷ []) (λ w. refl) (λ a rest. told_word kind.Number number_of _ (kind.WrittenBytes ∷ []) (λ w. refl) (λ a rest. told_word kind.WrittenBytes (hex_or_none MAX_WRITTEN_BYTES) _ [] (λ w. refl) (λ a rest. ends rest) rest) rest) words
form_of-told name.Fill words = told_word kind.Number number_of _ (kind.Number ∷ kind.FilledLength ∷ kind.Byte ∷ []) (λ w. refl) (λ a rest. told_word kind.Number number_of _ (kind.FilledLength ∷ kind.Byte ∷ []) (λ w. refl) (λ a rest. told_word kind.FilledLength (number_up_to MAX_FILLED_BYTES) _ (kind.Byte ∷ []) (λ w. refl) (λ a rest. told_word kind.Byte (number_up_to 255) _ [] (λ w. refl) (λ a rest. ends rest) rest) rest) rest) words
form_of-told name.DropCaches words = ends words
form_of-told name.MetaGet words = told_word kind.Record record_of _ [] (λ w. refl) (λ a rest. ends rest) words
form_of-told name.MetaPut words = told_word kind.Record record_of _ (kind.Number ∷ kind.PutBytes ∷ []) (λ w. refl) (λ a rest. told_word kind.Number number_of _ (kind.PutBytes ∷ []) (λ w. refl) (λ a rest. told_word kind.PutBytes (hex_or_none MAX_PUT_BYTES) _ [] (λ w. refl) (λ a rest. ends rest) rest) rest) words
form_of-told name.Protector words = told_word kind.Label label_of _ (kind.NewSecret ∷ []) (λ w. refl) (λ a rest. told_word kind.NewSecret new_secret_of _ [] (λ w. refl) (λ a rest. ends rest) rest) words
form_of-told name.ProtectorChange words = told_word kind.Label label_of _ (kind.Secret ∷ kind.NewSecret ∷ []) (λ w. refl) (λ a rest. told_word kind.Secret secret_of _ (kind.NewSecret ∷ []) (λ w. refl) (λ a rest. told_word kind.NewSecret new_secret_of _ [] (λ w. refl) (λ a rest. ends rest) rest) rest) words
form_of-told name.ProtectorLink words = told_word kind.Label label_of _ [] (λ w. refl) (λ a rest. ends rest) words
form_of-told name.PolicyNew words = told_word kind.Label label_of _ (kind.Label ∷ kind.Secret ∷ kind.Pad ∷ kind.Unit ∷ []) (λ w. refl) (λ a rest. told_word kind.Label label_of _ (kind.Secret ∷ kind.Pad ∷ kind.Unit ∷ []) (λ w. refl) (λ a rest. told_word kind.Secret secret_of _ (kind.Pad ∷ kind.Unit ∷ []) (λ w. refl) (λ a rest. told_then _ (kind.Pad ∷ kind.Unit ∷ []) rest _ (told_said_options rest) (λ a rest. ends rest)) rest) rest) words
form_of-told name.PolicyAdd words = told_word kind.Label label_of _ (kind.Label ∷ kind.Secret ∷ kind.Label ∷ kind.Secret ∷ []) (λ w. refl) (λ a rest. told_word kind.Label label_of _ (kind.Secret ∷ kind.Label ∷ kind.Secret ∷ []) (λ w. refl) (λ a rest. told_word kind.Secret secret_of _ (kind.Label ∷ kind.Secret ∷ []) (λ w. refl) (λ a rest. told_word kind.Label label_of _ (kind.Secret ∷ []) (λ w. refl) (λ a rest. told_word kind.Secret secret_of _ [] (λ w. refl) (λ a rest. ends rest) rest) rest) rest) rest) words
form_of-told name.PolicyDrop words = told_word kind.Label label_of _ (kind.Label ∷ []) (λ w. refl) (λ a rest. told_word kind.Label label_of _ [] (λ w. refl) (λ a rest. ends rest) rest) words
form_of-told name.Unlock words = told_word kind.Label label_of _ (kind.Label ∷ kind.Secret ∷ []) (λ w. refl) (λ a rest. told_word kind.Label label_of _ (kind.Secret ∷ []) (λ w. refl) (λ a rest. told_word kind.Secret secret_of _ [] (λ w. refl) (λ a rest. ends rest) rest) rest) words
form_of-told name.Lock words = told_word kind.Label label_of _ [] (λ w. refl) (λ a rest. ends rest) words
form_of-told name.Status words = told_word kind.Label label_of _ [] (λ w. refl) (λ a rest. ends rest) words
form_of-told name.Encrypt words = told_word kind.Path path_of _ (kind.Label ∷ kind.Pad ∷ kind.Unit ∷ []) (λ w. refl) (λ a rest. told_word kind.Label label_of _ (kind.Pad ∷ kind.Unit ∷ []) (λ w. refl) (λ a rest. told_then _ (kind.Pad ∷ kind.Unit ∷ []) rest _ (told_said_settings rest) (λ a rest. ends rest)) rest) words
form_of-told name.Migrate words = told_word kind.Label label_of _ [] (λ w. refl) (λ a rest. ends rest) words
form_of-told name.Pause words = ends words

-- ---- whole commands

of_read : {A : Type 0} (kinds : List WordKind) (words : List (List ℕ)) (read : Option (A × List (List ℕ))) → Took kinds words read
    → is_some (option_and_then if_no_word_left read) ≡ true → are_of words kinds ≡ true
of_read kinds words None took some = absurd (false≢true some)
of_read {A = A} kinds words (Some x) took some = by_left x.0 x.1 took some
  where
    by_left : (a : A) (left : List (List ℕ)) → Took kinds words (Some (a, left)) → is_some (if_no_word_left (a, left)) ≡ true → are_of words kinds ≡ true
    by_left a [] took some =
        let fits : are_of words (kinds ++ []) ≡ true = took [] refl in
        rw (append-nil kinds) at fits
    by_left a (w ∷ left) took some = absurd (false≢true (rw (one_more (length left)) at some))

pub words_of_commands : (name : CommandName) (words : List (List ℕ)) → is_some (command_named name words) ≡ true → are_of words (kinds_of name) ≡ true
unfolding command_named
words_of_commands name words some = of_read (kinds_of name) words (form_of name words) (form_of-told name words).0 some

all_taken : (kinds : List WordKind) (words : List (List ℕ)) → length words ≡ length kinds → are_of words kinds ≡ true → taken kinds words ≡ Some []
all_taken [] [] same fits = refl
all_taken [] (w ∷ words) same fits = absurd (omega arith)
all_taken (wanted ∷ kinds) [] same fits = absurd (omega arith)
all_taken (wanted ∷ kinds) (w ∷ words) same fits =
    let parts = and_parts (is_one wanted w) (are_of words kinds) fits in
    rw parts.0 (all_taken kinds words (omega arith) parts.1)

whole_read : {A : Type 0} (read : Option (A × List (List ℕ))) → option_map (λ x. x.1) read ≡ Some [] → is_some (option_and_then if_no_word_left read) ≡ true
whole_read None none = absurd (false≢true (ap is_some none))
whole_read {A = A} (Some x) none = by_left x.0 x.1 (ap (λ o. unwrap_or o []) none)
  where
    by_left : (a : A) (left : List (List ℕ)) → left ≡ [] → is_some (if_no_word_left (a, left)) ≡ true
    by_left a left none = rw none refl

pub commands_of_words : (name : CommandName) (words : List (List ℕ)) → length words ≡ length (kinds_of name) → are_of words (kinds_of name) ≡ true
    → is_some (command_named name words) ≡ true
unfolding command_named
commands_of_words name words many fits = whole_read (form_of name words) ((form_of-told name words).1 [] (all_taken (kinds_of name) words many fits))
