-- What the words of a command spell can be asked for.
use Rattle.std.proofs.Common.{◌≡◌, ℕ, ◌≤◌, ◌==◌, List, [], ◌∷◌, length, Option, Some, None}
use Rattle.std.specs.Prelude.{IfSome, IsTrue}
use Rattle.hex.specs.Hex.{IsBytes}
use Rattle.text_words.specs.Digits.{hex_bytes_of_length}
use Rattle.short_bytes.specs.Label.{IsLabel, label_of}
use Rattle.script_words.specs.Keys.{hex_of_size, hex_or_none, key_ref_of, IsKey, AreFewBytes}
use Rattle.script_words.specs.Numbers.{number_of, number_up_to, IsNumber}
use Rattle.script_words.specs.Records.{record_of, IsRecord}
use Rattle.script_words.specs.Secrets.{secret_of, IsSecret}
use Rattle.script_words.specs.NewSecrets.{new_secret_of, IsNewSecret}
use Rattle.script_words.specs.Word.{IsWord, may_be_target, target_bytes}
use Rattle.script_words.specs.Path.{IsPath, path_of}
use Rattle.script_lang.specs.Forms.{Form, word, only, optional, if_no_word_left, whole}
use Rattle.script_lang.specs.SettingForms.{settings, options}
use Rattle.script_lang.specs.Commands.{form_of, command_named}
use Rattle.script_lang.specs.CommandTasks.{IsAskable}
use Rattle.script_lang.specs.declared.limits.TheConstants.{MAX_ADDED_BYTES, MAX_WRITTEN_BYTES, MAX_FILLED_BYTES, MAX_PUT_BYTES, POLICY_BYTES}
use Rattle.script_lang.specs.declared.names.CommandName.{CommandName}
use Rattle.script_lang.specs.declared.names.CommandName.TheVariants as name
use Rattle.script_words.proofs.WordSpells.{chosen_some, mapped_some, then_some, number_of-small, number_up_to-le, hex_of_size-bytes, hex_or_none-few, hex_bytes_of_length-bytes, key_ref_of-key, label_of-label, record_of-record, path_of-path, target_bytes-target, secret_of-secret, anything, new_secret_of-secret}

-- ---- what several words spell

-- the word at the front
pub word_some : {A : Type 0} (P : A → Type 0) (read : List ℕ → Option A) → ((w : List ℕ) → IfSome (read w) P) → (words : List (List ℕ))
    → IfSome (word read words) (λ x. P x.0)
word_some P read h [] = tt
word_some P read h (w ∷ words) = mapped_some (λ x. P x.0) (λ a. (a, words)) (read w) (h w)

only_some : {A B : Type 0} (Q : A → Type 0) (P : B → Type 0) (make : A → B) (read : List ℕ → Option A) → ((w : List ℕ) → IfSome (read w) Q)
    → ((a : A) → Q a → P (make a)) → (words : List (List ℕ)) → IfSome (only make read words) (λ x. P x.0)
only_some Q P make read h made words =
    then_some (λ x. Q x.0) (λ x. P x.0) _ (word read words) (word_some Q read h words) (λ x hx. made x.0 hx)

optional_some : {A : Type 0} (P : A → Type 0) (form : Form A) → ((words : List (List ℕ)) → IfSome (form words) (λ x. P x.0))
    → (words : List (List ℕ)) → IfSome (optional form words) (λ x. IfSome x.0 P)
optional_some P form h words =
    chosen_some (λ x. IfSome x.0 P) (length words == 0) (Some (None, words)) _ tt
    (then_some (λ x. P x.0) (λ x. IfSome x.0 P) _ (form words) (h words) (λ x hx. hx))

if_read-some : {A : Type 0} (P : A → Type 0) (x : A × List (List ℕ)) → P x.0 → IfSome (if_no_word_left x) P
if_read-some P x h = chosen_some P (length x.1 == 0) (Some x.0) None h tt

-- what the words after a name spell
form_of-askable : (name : CommandName) (words : List (List ℕ)) → IfSome (form_of name words) (λ x. IsAskable x.0)
form_of-askable name.AddKey words = only_some (λ (bytes : List ℕ). (1 ≤ length bytes) × ((length bytes ≤ MAX_ADDED_BYTES) × IsBytes bytes)) IsAskable _ (hex_of_size 1 MAX_ADDED_BYTES) (hex_of_size-bytes 1 MAX_ADDED_BYTES) (λ a h. h) words
form_of-askable name.RemoveKey words = only_some IsKey IsAskable _ key_ref_of key_ref_of-key (λ a h. h) words
form_of-askable name.RemoveKeyAll words = only_some IsKey IsAskable _ key_ref_of key_ref_of-key (λ a h. h) words
form_of-askable name.KeyStatus words = only_some IsKey IsAskable _ key_ref_of key_ref_of-key (λ a h. h) words
form_of-askable name.SetPolicy words =
    then_some (λ x. IsPath x.0) (λ x. IsAskable x.0) _ (word path_of words) (word_some IsPath path_of path_of-path words) (λ x0 h0.
    then_some (λ x. IsKey x.0) (λ x. IsAskable x.0) _ (word key_ref_of x0.1) (word_some IsKey key_ref_of key_ref_of-key x0.1) (λ x1 h1.
    then_some (λ _. Unit {0}) (λ x. IsAskable x.0) _ (settings x1.1) (anything _) (λ x2 _.
    (h0, h1))))
form_of-askable name.SetPolicyBytes words =
    then_some (λ x. IsPath x.0) (λ x. IsAskable x.0) _ (word path_of words) (word_some IsPath path_of path_of-path words) (λ x0 h0.
    then_some (λ x. (λ (bytes : List ℕ). (length bytes ≡ POLICY_BYTES) × IsBytes bytes) x.0) (λ x. IsAskable x.0) _ (word (hex_bytes_of_length POLICY_BYTES) x0.1) (word_some (λ (bytes : List ℕ). (length bytes ≡ POLICY_BYTES) × IsBytes bytes) (hex_bytes_of_length POLICY_BYTES) (hex_bytes_of_length-bytes POLICY_BYTES) x0.1) (λ x1 h1.
    (h0, h1)))
form_of-askable name.GetPolicy words = only_some IsPath IsAskable _ path_of path_of-path (λ a h. h) words
form_of-askable name.Mkdir words = only_some IsPath IsAskable _ path_of path_of-path (λ a h. h) words
form_of-askable name.Create words = only_some IsPath IsAskable _ path_of path_of-path (λ a h. h) words
form_of-askable name.Symlink words =
    then_some (λ x. IsPath x.0) (λ x. IsAskable x.0) _ (word path_of words) (word_some IsPath path_of path_of-path words) (λ x0 h0.
    then_some (λ x. (λ (target : List ℕ). IsWord target × IsTrue (may_be_target target)) x.0) (λ x. IsAskable x.0) _ (word target_bytes x0.1) (word_some (λ (target : List ℕ). IsWord target × IsTrue (may_be_target target)) target_bytes target_bytes-target x0.1) (λ x1 h1.
    (h0, h1)))
form_of-askable name.ReadLink words = only_some IsPath IsAskable _ path_of path_of-path (λ a h. h) words
form_of-askable name.Unlink words = only_some IsPath IsAskable _ path_of path_of-path (λ a h. h) words
form_of-askable name.Rmdir words = only_some IsPath IsAskable _ path_of path_of-path (λ a h. h) words
form_of-askable name.Rename words =
    then_some (λ x. IsPath x.0) (λ x. IsAskable x.0) _ (word path_of words) (word_some IsPath path_of path_of-path words) (λ x0 h0.
    then_some (λ x. IsPath x.0) (λ x. IsAskable x.0) _ (word path_of x0.1) (word_some IsPath path_of path_of-path x0.1) (λ x1 h1.
    (h0, h1)))
form_of-askable name.List words =
    then_some (λ x. IsPath x.0) (λ x. IsAskable x.0) _ (word path_of words) (word_some IsPath path_of path_of-path words) (λ x0 h0.
    then_some (λ x. IfSome x.0 IsNumber) (λ x. IsAskable x.0) _ (optional (word number_of) x0.1) (optional_some IsNumber (word number_of) (word_some IsNumber number_of number_of-small) x0.1) (λ x1 h1.
    (h0, h1)))
form_of-askable name.Stat words = only_some IsPath IsAskable _ path_of path_of-path (λ a h. h) words
form_of-askable name.Open words = only_some IsPath IsAskable _ path_of path_of-path (λ a h. h) words
form_of-askable name.Close words = only_some IsNumber IsAskable _ number_of number_of-small (λ a h. h) words
form_of-askable name.Read words =
    then_some (λ x. IsNumber x.0) (λ x. IsAskable x.0) _ (word number_of words) (word_some IsNumber number_of number_of-small words) (λ x0 h0.
    then_some (λ x. IsNumber x.0) (λ x. IsAskable x.0) _ (word number_of x0.1) (word_some IsNumber number_of number_of-small x0.1) (λ x1 h1.
    then_some (λ x. IsNumber x.0) (λ x. IsAskable x.0) _ (word number_of x1.1) (word_some IsNumber number_of number_of-small x1.1) (λ x2 h2.
    (h0, (h1, h2)))))
form_of-askable name.Write words =
    then_some (λ x. IsNumber x.0) (λ x. IsAskable x.0) _ (word number_of words) (word_some IsNumber number_of number_of-small words) (λ x0 h0.
    then_some (λ x. IsNumber x.0) (λ x. IsAskable x.0) _ (word number_of x0.1) (word_some IsNumber number_of number_of-small x0.1) (λ x1 h1.
    then_some (λ x. (λ (bytes : List ℕ). AreFewBytes bytes MAX_WRITTEN_BYTES) x.0) (λ x. IsAskable x.0) _ (word (hex_or_none MAX_WRITTEN_BYTES) x1.1) (word_some (λ (bytes : List ℕ). AreFewBytes bytes MAX_WRITTEN_BYTES) (hex_or_none MAX_WRITTEN_BYTES) (hex_or_none-few MAX_WRITTEN_BYTES) x1.1) (λ x2 h2.
    (h0, (h1, h2)))))
form_of-askable name.Fill words =
    then_some (λ x. IsNumber x.0) (λ x. IsAskable x.0) _ (word number_of words) (word_some IsNumber number_of number_of-small words) (λ x0 h0.
    then_some (λ x. IsNumber x.0) (λ x. IsAskable x.0) _ (word number_of x0.1) (word_some IsNumber number_of number_of-small x0.1) (λ x1 h1.
    then_some (λ x. (λ (n : ℕ). n ≤ MAX_FILLED_BYTES) x.0) (λ x. IsAskable x.0) _ (word (number_up_to MAX_FILLED_BYTES) x1.1) (word_some (λ (n : ℕ). n ≤ MAX_FILLED_BYTES) (number_up_to MAX_FILLED_BYTES) (number_up_to-le MAX_FILLED_BYTES) x1.1) (λ x2 h2.
    then_some (λ x. (λ (n : ℕ). n ≤ 255) x.0) (λ x. IsAskable x.0) _ (word (number_up_to 255) x2.1) (word_some (λ (n : ℕ). n ≤ 255) (number_up_to 255) (number_up_to-le 255) x2.1) (λ x3 h3.
    (h0, (h1, (h2, h3)))))))
form_of-askable name.DropCaches words = tt
form_of-askable name.MetaGet words = only_some IsRecord IsAskable _ record_of record_of-record (λ a h. h) words
form_of-askable name.MetaPut words =
    then_some (λ x. IsRecord x.0) (λ x. IsAskable x.0) _ (word record_of words) (word_some IsRecord record_of record_of-record words) (λ x0 h0.
    then_some (λ x. IsNumber x.0) (λ x. IsAskable x.0) _ (word number_of x0.1) (word_some IsNumber number_of number_of-small x0.1) (λ x1 h1.
    then_some (λ x. (λ (bytes : List ℕ). AreFewBytes bytes MAX_PUT_BYTES) x.0) (λ x. IsAskable x.0) _ (word (hex_or_none MAX_PUT_BYTES) x1.1) (word_some (λ (bytes : List ℕ). AreFewBytes bytes MAX_PUT_BYTES) (hex_or_none MAX_PUT_BYTES) (hex_or_none-few MAX_PUT_BYTES) x1.1) (λ x2 h2.
    (h0, (h1, h2)))))
form_of-askable name.Protector words =
    then_some (λ x. IsLabel x.0) (λ x. IsAskable x.0) _ (word label_of words) (word_some IsLabel label_of label_of-label words) (λ x0 h0.
    then_some (λ x. IsNewSecret x.0) (λ x. IsAskable x.0) _ (word new_secret_of x0.1) (word_some IsNewSecret new_secret_of new_secret_of-secret x0.1) (λ x1 h1.
    (h0, h1)))
form_of-askable name.ProtectorChange words =
    then_some (λ x. IsLabel x.0) (λ x. IsAskable x.0) _ (word label_of words) (word_some IsLabel label_of label_of-label words) (λ x0 h0.
    then_some (λ x. IsSecret x.0) (λ x. IsAskable x.0) _ (word secret_of x0.1) (word_some IsSecret secret_of secret_of-secret x0.1) (λ x1 h1.
    then_some (λ x. IsNewSecret x.0) (λ x. IsAskable x.0) _ (word new_secret_of x1.1) (word_some IsNewSecret new_secret_of new_secret_of-secret x1.1) (λ x2 h2.
    (h0, (h1, h2)))))
form_of-askable name.ProtectorLink words = only_some IsLabel IsAskable _ label_of label_of-label (λ a h. h) words
form_of-askable name.PolicyNew words =
    then_some (λ x. IsLabel x.0) (λ x. IsAskable x.0) _ (word label_of words) (word_some IsLabel label_of label_of-label words) (λ x0 h0.
    then_some (λ x. IsLabel x.0) (λ x. IsAskable x.0) _ (word label_of x0.1) (word_some IsLabel label_of label_of-label x0.1) (λ x1 h1.
    then_some (λ x. IsSecret x.0) (λ x. IsAskable x.0) _ (word secret_of x1.1) (word_some IsSecret secret_of secret_of-secret x1.1) (λ x2 h2.
    then_some (λ _. Unit {0}) (λ x. IsAskable x.0) _ (optional options x2.1) (anything _) (λ x3 _.
    (h0, (h1, h2))))))
form_of-askable name.PolicyAdd words =
    then_some (λ x. IsLabel x.0) (λ x. IsAskable x.0) _ (word label_of words) (word_some IsLabel label_of label_of-label words) (λ x0 h0.
    then_some (λ x. IsLabel x.0) (λ x. IsAskable x.0) _ (word label_of x0.1) (word_some IsLabel label_of label_of-label x0.1) (λ x1 h1.
    then_some (λ x. IsSecret x.0) (λ x. IsAskable x.0) _ (word secret_of x1.1) (word_some IsSecret secret_of secret_of-secret x1.1) (λ x2 h2.
    then_some (λ x. IsLabel x.0) (λ x. IsAskable x.0) _ (word label_of x2.1) (word_some IsLabel label_of label_of-label x2.1) (λ x3 h3.
    then_some (λ x. IsSecret x.0) (λ x. IsAskable x.0) _ (word secret_of x3.1) (word_some IsSecret secret_of secret_of-secret x3.1) (λ x4 h4.
    (h0, (h1, (h2, (h3, h4)))))))))
form_of-askable name.PolicyDrop words =
    then_some (λ x. IsLabel x.0) (λ x. IsAskable x.0) _ (word label_of words) (word_some IsLabel label_of label_of-label words) (λ x0 h0.
    then_some (λ x. IsLabel x.0) (λ x. IsAskable x.0) _ (word label_of x0.1) (word_some IsLabel label_of label_of-label x0.1) (λ x1 h1.
    (h0, h1)))
form_of-askable name.Unlock words =
    then_some (λ x. IsLabel x.0) (λ x. IsAskable x.0) _ (word label_of words) (word_some IsLabel label_of label_of-label words) (λ x0 h0.
    then_some (λ x. IsLabel x.0) (λ x. IsAskable x.0) _ (word label_of x0.1) (word_some IsLabel label_of label_of-label x0.1) (λ x1 h1.
    then_some (λ x. IsSecret x.0) (λ x. IsAskable x.0) _ (word secret_of x1.1) (word_some IsSecret secret_of secret_of-secret x1.1) (λ x2 h2.
    (h0, (h1, h2)))))
form_of-askable name.Lock words = only_some IsLabel IsAskable _ label_of label_of-label (λ a h. h) words
form_of-askable name.Status words = only_some IsLabel IsAskable _ label_of label_of-label (λ a h. h) words
form_of-askable name.Encrypt words =
    then_some (λ x. IsPath x.0) (λ x. IsAskable x.0) _ (word path_of words) (word_some IsPath path_of path_of-path words) (λ x0 h0.
    then_some (λ x. IsLabel x.0) (λ x. IsAskable x.0) _ (word label_of x0.1) (word_some IsLabel label_of label_of-label x0.1) (λ x1 h1.
    then_some (λ _. Unit {0}) (λ x. IsAskable x.0) _ (optional settings x1.1) (anything _) (λ x2 _.
    (h0, h1))))
form_of-askable name.Migrate words = only_some IsLabel IsAskable _ label_of label_of-label (λ a h. h) words
form_of-askable name.Pause words = tt

pub command_named-askable : (name : CommandName) (words : List (List ℕ)) → IfSome (command_named name words) IsAskable
unfolding command_named
command_named-askable name words =
    then_some (λ x. IsAskable x.0) IsAskable if_no_word_left (form_of name words) (form_of-askable name words) (λ x h. if_read-some IsAskable x h)

-- the number of a caller's user
pub uid-small : (words : List (List ℕ)) → IfSome (whole (word number_of) words) IsNumber
uid-small words =
    then_some (λ x. IsNumber x.0) IsNumber if_no_word_left (word number_of words) (word_some IsNumber number_of number_of-small words) (λ x h. if_read-some IsNumber x h)
