-- What is visible of a mount with a raw key, or with none: its nodes that have a name, as the lines of a
-- listing.
use Rattle.std.specs.Prelude.{ℕ, Bool, false, List, length, map, filter, Option, None, Some, if◌then◌else◌}
use Rattle.std.specs.Option.{option_map}
use Rattle.sha2.specs.Sha256.{sha256}
use Rattle.policy_ctx.specs.declared.policy.KeyId.{KeyId}
use Rattle.policy_ctx.specs.declared.policy.Context.{Context}
use Rattle.policy_ctx.specs.KeyIds.{same_id}
use Rattle.number_map.specs.Numbered.{entries}
use Rattle.plain_tree.specs.Nodes.{Name, Node, Body, Dir, File, Link}
use Rattle.script_words.specs.Word.{word_text}
use Rattle.mount_model.specs.PlainMount.{PlainMount, Raws}
use Rattle.mount_model.specs.Sealed.{texts}
use Rattle.tree_listing.specs.ListingText.{ListedBody, ListedNode, listing_text}
use Rattle.tree_listing.specs.ListingText as listed
use Rattle.listing_laws.specs.PlacedNames.{PlacedName, name_to}

-- whether a reader with the key of this identifier, or with none, sees what is encrypted under a context's
-- policy
abbrev pub opens : Option KeyId → Context → Bool
opens None c = false
opens (Some id) c = same_id id c.policy.id

-- the visible form of a name of the directory n, or of the target of the symlink n: a word if it can be
-- read, else the text in its place
abbrev pub expected_word : Raws → Option KeyId → ℕ → Option Context → Name → List ℕ
expected_word raws key n None name = word_text name
expected_word raws key n (Some c) name = if opens key c then word_text name else texts raws n c name

-- the SHA-256 of contents, if they can be read
abbrev pub digest_shown : Option KeyId → Option Context → List ℕ → Option (List ℕ)
digest_shown key None contents = Some (sha256 contents)
digest_shown key (Some c) contents = if opens key c then Some (sha256 contents) else None

abbrev pub expected_body : Raws → Option KeyId → ℕ → Option Context → Body → ListedBody
expected_body raws key n context (Dir children) = listed.Dir (length children)
expected_body raws key n context (File contents) =
    listed.File (length contents) (digest_shown key context contents)
expected_body raws key n context (Link target) = listed.Link (expected_word raws key n context target)

abbrev pub expected_place : Raws → Option KeyId → PlacedName → ℕ × List ℕ
expected_place raws key placed =
    (placed.0.0, expected_word raws key placed.0.0 placed.0.1.context placed.1.0)

abbrev pub shown : PlainMount → Option KeyId → ℕ × Node → ListedNode
shown m key e = record {
  number = e.0;
  place = option_map (expected_place m.raws key) (name_to m.nodes e.0);
  body = expected_body m.raws key e.0 e.1.context e.1.body;
}

-- the listing of what the mount shows: of its nodes that have a name, in order of number
abbrev pub expected_listing : PlainMount → Option KeyId → List ℕ
expected_listing m key = listing_text (map (shown m key) (filter (λ e. e.1.named) (entries m.nodes)))
