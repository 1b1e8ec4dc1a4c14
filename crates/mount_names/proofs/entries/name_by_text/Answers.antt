-- An entry with the text is the entry whose visible name it is.
use Rattle.std.proofs.Common.{◌∙◌, ap, List, ℕ, Some, option_map}
use Rattle.std.specs.Map.{lookup_entry}
use Rattle.mount_state.specs.Resolution.{has_visible_name}
use Rattle.mount_state.proofs.ShownLemmas.{by_shown, by_none}
use Rattle.mount_names.proofs.entries.name_by_text.Goals as goal

pub returns-in_default : goal.returns-in_default
returns-in_default c = ap (option_map (λ (e : List ℕ × ℕ). e.0)) (by_none c.args.text.now c.args.entries.now c.names_are_bytes.ensures c.in_default.ensures)

pub returns-in-Some-entry_of_visible_name : goal.returns-in-Some-entry_of_visible_name
returns-in-Some-entry_of_visible_name c =
    ap (λ (n : List ℕ). Some n) c.put.ensures
    ∙ ap (option_map (λ (e : List ℕ × ℕ). e.0))
    (c.in-Some-entry_of_visible_name.ensures.found
    ∙ (ap (λ (x : List ℕ). lookup_entry (has_visible_name x) c.args.entries.now) c.bytes.ensures.value
    ∙ by_shown c.args.text.now c.args.entries.now c.names_are_bytes.ensures c.in-Some.shown c.in-Some.ensures))

pub returns-in-None : goal.returns-in-None
returns-in-None c = ap (option_map (λ (e : List ℕ × ℕ). e.0))
    (c.in-None.ensures.found
    ∙ (ap (λ (x : List ℕ). lookup_entry (has_visible_name x) c.args.entries.now) c.bytes.ensures.value
    ∙ by_shown c.args.text.now c.args.entries.now c.names_are_bytes.ensures c.in-Some.shown c.in-Some.ensures))
