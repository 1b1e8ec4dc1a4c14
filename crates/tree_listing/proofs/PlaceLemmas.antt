-- The text before a node's kind on its line.
use Rattle.std.proofs.Common.{◌≡◌, ℕ, ◌<◌, ◌≤◌, arith, true, List, ◌∷◌, ◌++◌, length, Option, Some, None, sym, ap, ◌∙◌, subst, append_assoc}
use Rattle.std.specs.Prelude.{Contains, is_some, nat_le}
use Rattle.std.specs.Option.{option_map}
use Rattle.std.proofs.lemmas.Bool.{and_parts, leb-true}
use Rattle.std.proofs.lemmas.List.Elements.{recursion_from_All}
use Rattle.std.proofs.lemmas.Option.{same_Some}
use Rattle.text_words.specs.Numbers.{decimal_of}
use Rattle.disk_tree.specs.Nodes.{entries_of}
use Rattle.disk_tree.specs.declared.node.Body.{Body}
use Rattle.disk_tree.specs.declared.node.Body.TheVariants as stored
use Rattle.image_lines.specs.Image.{Image}
use Rattle.image_lines.specs.ImageText.{image_text}
use Rattle.image_lines.specs.Lines.{entry_of_line}
use Rattle.std.specs.List.{before_first}
use Rattle.std.proofs.lemmas.List.{drop_all}
use Rattle.text_words.specs.Lines.{is_line_feed}
use Rattle.image_lines.specs.Rules.{IsImage}
use Rattle.image_lines.specs.NodeRules.{IsBody, IsEntry, IsNode}
use Rattle.tree_listing.specs.Listing.{visible_place}
use Rattle.tree_listing.specs.PlacedEntries.{entry_to}
use Rattle.tree_listing.specs.ListingText.{place_text}
use Rattle.tree_listing.specs.Sights.{sight_of, visible_word}
use Rattle.tree_listing.specs.Ways.{IsEntryTo, entry_at}
use Rattle.tree_listing.proofs.Members.{In, holds_in, contains_from_in}
use Rattle.tree_listing.proofs.LeadLemmas.{entry_to_from}

-- a name under a policy has 16 bytes or more
long_name : (body : Body) (e : List ℕ × ℕ) → IsBody true body → In e (entries_of body) → 16 ≤ length e.0
long_name (stored.Dir entries) e is there =
    let own = holds_in (IsEntry true) entries e (recursion_from_All (IsEntry true) entries is.0) there in
    leb-true 16 (length e.0) (and_parts (nat_le 16 (length e.0)) (nat_le (length e.0) 255) own.name).0
long_name (stored.File blocks size) e is there = absurd there
long_name (stored.Link target) e is there = absurd there

-- the directory of an entry with the child n is there
pub dir_there : (image : Image) (n parent at : ℕ) (led : IsEntryTo image n parent at) → Contains image led.placed.0
dir_there image n parent at led = contains_from_in image led.placed.0 (entry_to_from image n led.placed led.leads).0

pub name_long : (image : Image) → IsImage image → (n parent at : ℕ) (led : IsEntryTo image n parent at) (context : Option (List ℕ)) (name : List ℕ) (child : ℕ)
    → context ≡ led.placed.0.context → (let e : List ℕ × ℕ = (name, child) in Some e ≡ entry_at (image_text image) at) → is_some context ≡ true → 16 ≤ length name
name_long image is n parent at led context name child own told some =
    let from = entry_to_from image n led.placed led.leads in
    let node = holds_in IsNode image led.placed.0 (recursion_from_All IsNode image is.lines.each) from.0 in
    let under : is_some led.placed.0.context ≡ true = ap is_some (sym own) ∙ some in
    let long = long_name led.placed.0.body led.placed.1 (subst (λ b. IsBody b led.placed.0.body) under node.body) from.1 in
    let same : led.placed.1 ≡ (name, child) = same_Some led.placed.1 (name, child) (sym led.line ∙ sym told) in
    subst (λ (e : List ℕ × ℕ). 16 ≤ length e.0) same long

-- the place of a node that has an entry
pub place_is : (image : Image) (raw : Option (List ℕ)) (n parent at : ℕ) (led : IsEntryTo image n parent at) (context : Option (List ℕ)) (name : List ℕ) (child : ℕ)
    → context ≡ led.placed.0.context → (let e : List ℕ × ℕ = (name, child) in Some e ≡ entry_at (image_text image) at)
    → place_text (option_map (visible_place raw) (entry_to image n)) ≡ decimal_of parent ++ 32 ∷ visible_word (sight_of raw context) parent name
place_is image raw n parent at led context name child own told =
    let same : led.placed.1 ≡ (name, child) = same_Some led.placed.1 (name, child) (sym led.line ∙ sym told) in
    ap (λ o. place_text (option_map (visible_place raw) o)) led.leads
    ∙ (λ i. decimal_of (led.has i) ++ 32 ∷ visible_word (sight_of raw (sym own i)) (led.has i) (same i).0)

pub pieces_joined : (old number parent word : List ℕ) → ((old ++ number) ++ 32 ∷ parent) ++ 32 ∷ word ≡ old ++ (number ++ 32 ∷ (parent ++ 32 ∷ word))
pieces_joined old number parent word = simp append_assoc

-- after the end of a text there is no entry
pub past_end : (text : List ℕ) (at : ℕ) → length text < at → (let none : Option (List ℕ × ℕ) = None in none ≡ entry_at text at)
unfolding entry_of_line
past_end text at past = ap (λ (l : List ℕ). entry_of_line (before_first is_line_feed l)) (sym (drop_all at text (omega arith)))
