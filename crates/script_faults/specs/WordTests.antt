-- Whether words are of a kind, each read as the grammar reads it.
use Rattle.std.specs.Prelude.{ℕ, Bool, true, false, ◌&&◌, is_some, List, [], ◌∷◌}
use Rattle.text_words.specs.Digits.{hex_bytes_of_length}
use Rattle.short_bytes.specs.Label.{label_of}
use Rattle.script_words.specs.Keys.{hex_of_size, hex_or_none, key_ref_of}
use Rattle.script_words.specs.Numbers.{number_of, number_up_to, pad_of, unit_of}
use Rattle.script_words.specs.Records.{record_of}
use Rattle.script_words.specs.Secrets.{secret_of}
use Rattle.script_words.specs.NewSecrets.{new_secret_of}
use Rattle.script_words.specs.Word.{target_bytes}
use Rattle.script_words.specs.Path.{path_of}
use Rattle.script_lang.specs.declared.limits.TheConstants.{MAX_ADDED_BYTES, MAX_WRITTEN_BYTES}
use Rattle.script_lang.specs.declared.limits.TheConstants.{MAX_FILLED_BYTES, MAX_PUT_BYTES, POLICY_BYTES}
use Rattle.script_faults.specs.declared.word_kinds.WordKind.{WordKind}
use Rattle.script_faults.specs.declared.word_kinds.WordKind.TheVariants as kind

-- whether the word is one of this kind
abbrev pub is_one : WordKind → List ℕ → Bool
is_one kind.Number word = is_some (number_of word)
is_one kind.FilledLength word = is_some (number_up_to MAX_FILLED_BYTES word)
is_one kind.Byte word = is_some (number_up_to 255 word)
is_one kind.Pad word = is_some (pad_of word)
is_one kind.Unit word = is_some (unit_of word)
is_one kind.Key word = is_some (key_ref_of word)
is_one kind.Label word = is_some (label_of word)
is_one kind.Record word = is_some (record_of word)
is_one kind.PolicyBytes word = is_some (hex_bytes_of_length POLICY_BYTES word)
is_one kind.Path word = is_some (path_of word)
is_one kind.Target word = is_some (target_bytes word)
is_one kind.AddedBytes word = is_some (hex_of_size 1 MAX_ADDED_BYTES word)
is_one kind.WrittenBytes word = is_some (hex_or_none MAX_WRITTEN_BYTES word)
is_one kind.PutBytes word = is_some (hex_or_none MAX_PUT_BYTES word)
is_one kind.Secret word = is_some (secret_of word)
is_one kind.NewSecret word = is_some (new_secret_of word)

-- whether each word is of the kind at its place, and there is a kind for each
abbrev pub are_of : List (List ℕ) → List WordKind → Bool
are_of [] kinds = true
are_of (word ∷ words) [] = false
are_of (word ∷ words) (kind ∷ kinds) = is_one kind word && are_of words kinds
