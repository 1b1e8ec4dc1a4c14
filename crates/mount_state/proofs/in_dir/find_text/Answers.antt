-- An entry with the text is the entry that the text spells.
use Rattle.std.proofs.Common.{◌≡◌, ◌∙◌, sym, ap, List, ℕ, Option, Some, None, option_map}
use Rattle.std.specs.Map.{lookup, lookup_entry}
use Rattle.disk_tree.specs.Entries.{Entries}
use Rattle.mount_state.specs.Resolution.{has_visible_name, is_text_of}
use Rattle.mount_state.proofs.LedLemmas.{value_found}
use Rattle.mount_state.proofs.ShownLemmas.{by_shown, by_none}
use Rattle.mount_state.proofs.in_dir.find_text.Goals as goal

-- the node of the entry that was found
number_of : (text : List ℕ) (es : Entries) (e : Option (List ℕ × ℕ)) → e ≡ lookup_entry (is_text_of text) es → option_map (λ (x : List ℕ × ℕ). x.1) e ≡ lookup (is_text_of text) es
number_of text es e is = ap (option_map (λ (x : List ℕ × ℕ). x.1)) is ∙ sym (value_found (is_text_of text) es)

pub returns-in_default : goal.returns-in_default
returns-in_default c = number_of c.args.text.now c.args.entries.now None (by_none c.args.text.now c.args.entries.now c.names_are_bytes.ensures c.in_default.ensures)

pub returns-in-Some-entry_of_visible_name : goal.returns-in-Some-entry_of_visible_name
returns-in-Some-entry_of_visible_name c =
    number_of c.args.text.now c.args.entries.now (Some (c.in-Some-entry_of_visible_name._name.now, c.in-Some-entry_of_visible_name.number))
    (c.in-Some-entry_of_visible_name.ensures.found
    ∙ (ap (λ (x : List ℕ). lookup_entry (has_visible_name x) c.args.entries.now) c.bytes.ensures.value
    ∙ by_shown c.args.text.now c.args.entries.now c.names_are_bytes.ensures c.in-Some.shown c.in-Some.ensures))

pub returns-in-None : goal.returns-in-None
returns-in-None c =
    number_of c.args.text.now c.args.entries.now None
    (c.in-None.ensures.found
    ∙ (ap (λ (x : List ℕ). lookup_entry (has_visible_name x) c.args.entries.now) c.bytes.ensures.value
    ∙ by_shown c.args.text.now c.args.entries.now c.names_are_bytes.ensures c.in-Some.shown c.in-Some.ensures))
