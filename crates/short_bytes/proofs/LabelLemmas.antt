-- A label is read from its own bytes, and from no others.
use Rattle.std.proofs.Common.{◌≡◌, ℕ, ◌≤◌, true, ◌&&◌, List, length, Some, refl}
use Rattle.std.specs.Prelude.{nat_le}
use Rattle.std.specs.List.{list_all}
use Rattle.std.proofs.lemmas.Bool.{and_parts, leb-true}
use Rattle.std.proofs.lemmas.Option.{cond_some}
use Rattle.std.proofs.Common.{subst}
use Rattle.short_bytes.specs.declared.label.TheConstants.{MAX_LABEL_BYTES}
use Rattle.short_bytes.specs.Label.{IsLabel, is_label, is_label_character, label_of}

-- how many bytes a label has, and of which characters
pub IsLabel-bounds : (bytes : List ℕ) → IsLabel bytes → (1 ≤ length bytes) × (length bytes ≤ MAX_LABEL_BYTES) × (list_all is_label_character bytes ≡ true)
IsLabel-bounds bytes is =
    let long = and_parts (nat_le 1 (length bytes)) (nat_le (length bytes) MAX_LABEL_BYTES && list_all is_label_character bytes) is in
    let few = and_parts (nat_le (length bytes) MAX_LABEL_BYTES) (list_all is_label_character bytes) long.1 in
    (leb-true 1 (length bytes) long.0, leb-true (length bytes) MAX_LABEL_BYTES few.0, few.1)

pub label_of-label : (label : List ℕ) → IsLabel label → label_of label ≡ Some label
label_of-label label is = rw is refl

pub label_of-found : (text label : List ℕ) → label_of text ≡ Some label → (text ≡ label) × IsLabel label
label_of-found text label found =
    let taken = cond_some (is_label text) text label found in
    (taken.1, subst IsLabel taken.1 taken.0)
