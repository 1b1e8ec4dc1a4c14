-- What a reader with a raw key, or without one, sees of a node of an image.
use Rattle.std.specs.Prelude.{ℕ, List, [], ◌∷◌, Option, None, Some, if◌then◌else◌}
use Rattle.sha2.specs.Sha256.{sha256}
use Rattle.policy_ctx.specs.Context.{id_in}
use Rattle.policy_ctx.specs.KeyIds.{same_id}
use Rattle.fsc_keys.specs.Keys.{key_id_of}
use Rattle.name_crypt.specs.NoKeyText.{nokey_text_of}
use Rattle.data_crypt.specs.Blocks.{read_contents}
use Rattle.script_words.specs.Word.{word_text}
use Rattle.tree_listing.specs.DrawnKeys.{seal_in, name_under}

-- how a node is seen:
-- - as it is stored, if it is under no policy;
-- - not at all, if the reader doesn't have the key of its policy;
-- - else by keys derived from the raw key, by the bytes of the node's context
pub data Sight : Type 0 where
  Plain : Sight
  Locked : Sight
  Under : List ℕ → List ℕ → Sight

-- of a node with this context, with a raw key or without one
abbrev pub sight_under : Option (List ℕ) → List ℕ → Sight
sight_under None context = Locked
sight_under (Some raw) context = if same_id (key_id_of raw) (id_in context) then Under raw context else Locked

abbrev pub sight_of : Option (List ℕ) → Option (List ℕ) → Sight
sight_of raw None = Plain
sight_of raw (Some context) = sight_under raw context

-- the word of the decrypted stored name, or its no-key text if that name is empty
abbrev pub word_or_text : List ℕ → List ℕ → List ℕ
word_or_text stored [] = nokey_text_of stored
word_or_text stored (b ∷ bs) = word_text (b ∷ bs)

-- how a stored name of the directory n, or the stored target of the link n, is shown
abbrev pub visible_word : Sight → ℕ → List ℕ → List ℕ
visible_word Plain n stored = word_text stored
visible_word Locked n stored = nokey_text_of stored
visible_word (Under raw context) n stored = word_or_text stored (name_under raw context n stored)

-- the SHA-256 of the contents of the file n, if they can be read
abbrev pub visible_digest : Sight → ℕ → List (List ℕ) → ℕ → Option (List ℕ)
visible_digest Plain n blocks size = Some (sha256 (read_contents None size blocks))
visible_digest Locked n blocks size = None
visible_digest (Under raw context) n blocks size =
    Some (sha256 (read_contents (Some (seal_in raw context n)) size blocks))
