-- The lines of an image are at fault nowhere, and are read as the image.
use Rattle.std.proofs.Common.{◌≡◌, ℕ, ◌<◌, ◌+◌, ◌-◌, ◌==◌, Bool, true, false, List, [], ◌∷◌, ◌++◌, length, map, Some, None, refl, sym, ap, ◌∙◌, arith, append_assoc, length-append, nat_lt, suc}
use Rattle.std.specs.Prelude.{is_some, is_none}
use Rattle.std.specs.List.{AllByRecursion, flat_map}
use Rattle.std.specs.Option.{option_map}
use Rattle.std.specs.Ordering.{nat_cmp, is_lt}
use Rattle.std.specs.Cmp.Lexicographic.{slice_cmp}
use Rattle.std.specs.declared.cmp.Ordering.TheVariants.{Less}
use Rattle.std.proofs.lemmas.Bool.{and_from, eq-eqb, ne_eqb}
use Rattle.std.proofs.lemmas.List.Elements.{recursion_from_All}
use Rattle.byte_words.specs.Bytes.{AreBytesOfLength}
use Rattle.disk_tree.specs.Entries.{Entries}
use Rattle.disk_tree.specs.Nodes.{IsDir}
use Rattle.disk_tree.specs.declared.node.Body.{Body}
use Rattle.disk_tree.specs.declared.node.Body.TheVariants as body
use Rattle.image_lines.specs.declared.node_line.NodeLine.{NodeLine}
use Rattle.image_lines.specs.declared.place.Place.{Place}
use Rattle.image_lines.specs.declared.place.Place.TheVariants.{AtHeader, AtRoot, InDir, Behind}
use Rattle.image_lines.specs.Image.{Image, ImageNode}
use Rattle.image_lines.specs.ImageText.{header, node_line, entry_line, block_line, kind_of_body, line_of, body_lines, node_lines}
use Rattle.image_lines.specs.Rules.{HasGoodLines}
use Rattle.image_lines.specs.NodeRules.{IsEntry, IsBody, IsNode, blocks_for}
use Rattle.image_lines.specs.Lines.{node_of_line, entry_of_line, block_of_line}
use Rattle.image_lines.specs.LineFaults.{may_end, or_fault, line_fault_from}
use Rattle.image_lines.specs.NextPlaces.{step}
use Rattle.image_lines.specs.NodeLines.{place_after, after_node, is_dir, is_root, next_node}
use Rattle.image_lines.specs.WordForms.{entries_at, blocks_at, body_at, node_at, with_node_at, nodes_at}
use Rattle.image_lines.proofs.Telling.{passes}
use Rattle.image_lines.proofs.LineLaws.{IsNodeLine, node_told_again, entry_told_again, block_told_again}
use Rattle.image_lines.proofs.LineLaws.{node_is_no_entry, entry_is_no_node, block_is_no_node}
use Rattle.image_lines.proofs.LineLaws.{node_line_is_free, entry_line_is_free, block_line_is_free}
use Rattle.text_words.proofs.PieceLemmas.{AreLines, AreLines-append}
use Rattle.image_lines.proofs.Bodies.{AreEntries, AreNodes, entries_of_rules, nodes_from_lines, line_from_node, entry_line_from}
use Rattle.image_lines.proofs.ReadingLaws.{lines_of}

-- ---- one line more

at_line : (k : ℕ) (place : Place) (line : List ℕ) (ps : List (List ℕ)) → 0 < length ps
    → line_fault_from k place (line ∷ ps) ≡ or_fault k (step place line) (λ p. line_fault_from (k + 1) p ps)
unfolding line_fault_from
at_line k place line [] some = absurd (omega arith)
at_line k place line (next ∷ more) some = refl

-- a line that is allowed there, before others that are
goes_on : (k : ℕ) (place p : Place) (line : List ℕ) (ps : List (List ℕ)) → 0 < length ps → step place line ≡ Some p
    → ((k : ℕ) → line_fault_from k p ps ≡ None) → line_fault_from k place (line ∷ ps) ≡ None
goes_on k place p line ps some fits later = at_line k place line ps some ∙ ap (λ o. or_fault k o (λ q. line_fault_from (k + 1) q ps)) fits ∙ later (k + 1)

ends : (k : ℕ) (place : Place) → may_end place ≡ true → line_fault_from k place ([] ∷ []) ≡ None
unfolding line_fault_from
ends k place h = rw h refl

some_left : (xs : List (List ℕ)) (image : Image) → 0 < length (xs ++ lines_of image)
some_left xs image =
    let a = length-append xs (lines_of image) in
    let b = length-append (flat_map node_lines image) ([] ∷ []) in
    omega (arith, a, b)

-- a place at which all lines of the node before are there
abbrev IsBehind : ℕ → Place → Type 0
IsBehind number AtHeader = ⊥
IsBehind number AtRoot = ⊥
IsBehind number (InDir n under_policy last) = n ≡ number
IsBehind number (Behind n left) = (n ≡ number) × (left ≡ 0)

behind_may_end : (number : ℕ) (place : Place) → IsBehind number place → may_end place ≡ true
behind_may_end number AtHeader h = absurd h
behind_may_end number AtRoot h = absurd h
behind_may_end number (InDir n under_policy last) h = refl
behind_may_end number (Behind n left) h = eq-eqb left 0 h.1

below : (number n : ℕ) → nat_cmp number n ≡ Less → nat_lt number n ≡ true
below number n h = of (nat_lt number n) (number == n) refl refl
  where
    of : (a b : Bool) → nat_lt number n ≡ a → (number == n) ≡ b → nat_lt number n ≡ true
    of true b e f = e
    of false true e f = absurd (cc (rw (e, f) at h))
    of false false e f = absurd (cc (rw (e, f) at h))

next_again : (number : ℕ) (node : NodeLine) → IsNodeLine node → nat_cmp number node.number ≡ Less → next_node number (node_line node) ≡ Some (after_node node)
next_again number node is above =
    ap (option_map after_node) (passes (λ n. nat_lt number n.number) (node_of_line (node_line node)) node (node_told_again node is) (below number node.number above))

step_node : (number : ℕ) (place : Place) (node : NodeLine) → IsBehind number place → IsNodeLine node → nat_cmp number node.number ≡ Less
    → step place (node_line node) ≡ Some (after_node node)
step_node number AtHeader node h is above = absurd h
step_node number AtRoot node h is above = absurd h
step_node number (InDir n under_policy last) node h is above =
    let none = node_is_no_entry node in
    rw (none, h) (next_again number node is above)
step_node number (Behind n left) node h is above =
    let none : (left == 0) ≡ true = eq-eqb left 0 h.1 in
    rw (none, h.0) (next_again number node is above)

-- ---- a body

-- if what follows the body is at fault nowhere
module _ (number : ℕ) (image : Image) (later : (k : ℕ) (place : Place) → IsBehind number place → line_fault_from k place (lines_of image) ≡ None) where
  entries_again : (under_policy : Bool) (last : List ℕ) (es : Entries) → AreEntries under_policy last es → (k : ℕ)
      → line_fault_from k (InDir number under_policy last) (map entry_line es ++ lines_of image) ≡ None
  entries_again under_policy last [] are k = later k (InDir number under_policy last) refl
  entries_again under_policy last (e ∷ es) are k =
      let told = entry_told_again e (entry_line_from under_policy e are.each.0) in
      let rises : is_lt (slice_cmp nat_cmp last e.0) ≡ true = ap is_lt are.rising.0 in
      let fits : step (InDir number under_policy last) (entry_line e) ≡ Some (InDir number under_policy e.0) = rw (told, are.each.0.name, rises) refl in
      goes_on k (InDir number under_policy last) (InDir number under_policy e.0) (entry_line e) (map entry_line es ++ lines_of image) (some_left (map entry_line es) image) fits
      (entries_again under_policy e.0 es (record { each = are.each.1; rising = are.rising.1 }))

  blocks_again : (left : ℕ) (blocks : List (List ℕ)) → length blocks ≡ left → AllByRecursion (AreBytesOfLength 4096) blocks → (k : ℕ)
      → line_fault_from k (Behind number left) (map block_line blocks ++ lines_of image) ≡ None
  blocks_again left [] long each k = later k (Behind number left) (refl, sym long)
  blocks_again left (b ∷ blocks) long each k =
      let some : (left == 0) ≡ false = not_none left (length blocks) long in
      let told = block_told_again b each.0 in
      let fits : step (Behind number left) (block_line b) ≡ Some (Behind number (left - 1)) = rw (some, told) refl in
      goes_on k (Behind number left) (Behind number (left - 1)) (block_line b) (map block_line blocks ++ lines_of image) (some_left (map block_line blocks) image) fits
      (blocks_again (left - 1) blocks (omega (arith, long)) each.1)
    where
      not_none : (left count : ℕ) → suc count ≡ left → (left == 0) ≡ false
      not_none left count e = ne_eqb left 0 (λ z. omega (arith, z, e))

  body_again : (under_policy : Bool) (b : Body) → IsBody under_policy b → (k : ℕ)
      → line_fault_from k (place_after number under_policy (kind_of_body b)) (body_lines b ++ lines_of image) ≡ None
  body_again under_policy (body.Dir es) is k = entries_again under_policy [] es (entries_of_rules under_policy es is) k
  body_again under_policy (body.File blocks size) is k = blocks_again (blocks_for size) blocks is.1 (recursion_from_All (AreBytesOfLength 4096) blocks is.2) k
  body_again under_policy (body.Link target) is k = later k (Behind number 0) (refl, refl)

-- ---- nodes

in_front : (node : ImageNode) (image : Image) → lines_of (node ∷ image) ≡ node_line (line_of node) ∷ (body_lines node.body ++ lines_of image)
in_front node image = ap (λ l. node_line (line_of node) ∷ l) (append_assoc (body_lines node.body) (flat_map node_lines image) ([] ∷ []))

pub nodes_again : (image : Image) (number : ℕ) → AreNodes number image → (k : ℕ) (place : Place) → IsBehind number place → line_fault_from k place (lines_of image) ≡ None
nodes_again [] number are k place h = ends k place (behind_may_end number place h)
nodes_again (node ∷ image) number are k place h =
    ap (line_fault_from k place) (in_front node image)
    ∙ goes_on k place (after_node (line_of node)) (node_line (line_of node)) (body_lines node.body ++ lines_of image) (some_left (body_lines node.body) image)
    (step_node number place (line_of node) h (line_from_node node are.each.0) are.rising.0)
    (body_again node.number image (nodes_again image node.number (record { each = are.each.1; rising = are.rising.1 })) (is_some node.context) node.body are.each.0.body)

-- ---- the whole

root_kind : (b : Body) → IsDir b → is_dir (kind_of_body b) ≡ true
root_kind (body.Dir es) h = refl
root_kind (body.File blocks size) h = absurd h
root_kind (body.Link target) h = absurd h

pub image_again : (image : Image) → HasGoodLines image → line_fault_from 1 AtHeader (header ∷ lines_of image) ≡ None
image_again [] good = absurd good.root
image_again (root ∷ nodes) good =
    let are = nodes_from_lines root nodes good in
    let told = node_told_again (line_of root) (line_from_node root are.0) in
    let first : (root.number == 0) ≡ true = eq-eqb root.number 0 good.root.0 in
    let plain : is_none root.context ≡ true = ap is_none good.root.1 in
    let fits : step AtRoot (node_line (line_of root)) ≡ Some (after_node (line_of root)) =
    ap (option_map after_node) (passes is_root (node_of_line (node_line (line_of root))) (line_of root) told (and_from (root.number == 0) _ first (and_from _ _ plain (root_kind root.body good.root.2)))) in
    goes_on 1 AtHeader AtRoot header (lines_of (root ∷ nodes)) (some_left [] (root ∷ nodes)) refl
    (λ k. ap (line_fault_from k AtRoot) (in_front root nodes)
    ∙ goes_on k AtRoot (after_node (line_of root)) (node_line (line_of root)) (body_lines root.body ++ lines_of nodes) (some_left (body_lines root.body) nodes) fits
    (body_again root.number nodes (nodes_again nodes root.number are.1) (is_some root.context) root.body are.0.body))

-- ---- what they are read as

no_entry_first : (image : Image) → entries_at (lines_of image) ≡ []
unfolding entries_at entry_of_line
no_entry_first [] = refl
no_entry_first (node ∷ image) = refl

no_block_first : (image : Image) → blocks_at (lines_of image) ≡ []
unfolding blocks_at block_of_line
no_block_first [] = refl
no_block_first (node ∷ image) = refl

entries_told : (under_policy : Bool) (es : Entries) (ps : List (List ℕ)) → AllByRecursion (IsEntry under_policy) es → entries_at ps ≡ [] → entries_at (map entry_line es ++ ps) ≡ es
unfolding entries_at
entries_told under_policy [] ps each none = none
entries_told under_policy (e ∷ es) ps each none =
    let told = entry_told_again e (entry_line_from under_policy e each.0) in
    rw told (ap (λ l. e ∷ l) (entries_told under_policy es ps each.1 none))

blocks_told : (blocks ps : List (List ℕ)) → AllByRecursion (AreBytesOfLength 4096) blocks → blocks_at ps ≡ [] → blocks_at (map block_line blocks ++ ps) ≡ blocks
unfolding blocks_at
blocks_told [] ps each none = none
blocks_told (b ∷ blocks) ps each none =
    let told = block_told_again b each.0 in
    rw told (ap (λ l. b ∷ l) (blocks_told blocks ps each.1 none))

over_entries : (es : Entries) (ps : List (List ℕ)) → nodes_at (map entry_line es ++ ps) ≡ nodes_at ps
unfolding nodes_at
over_entries [] ps = refl
over_entries (e ∷ es) ps = let none = entry_is_no_node e in rw none (over_entries es ps)

over_blocks : (blocks ps : List (List ℕ)) → nodes_at (map block_line blocks ++ ps) ≡ nodes_at ps
unfolding nodes_at
over_blocks [] ps = refl
over_blocks (b ∷ blocks) ps = let none = block_is_no_node b in rw none (over_blocks blocks ps)

body_told : (under_policy : Bool) (b : Body) (image : Image) → IsBody under_policy b → body_at (kind_of_body b) (body_lines b ++ lines_of image) ≡ b
body_told under_policy (body.Dir es) image is =
    ap body.Dir (entries_told under_policy es (lines_of image) (recursion_from_All (IsEntry under_policy) es is.0) (no_entry_first image))
body_told under_policy (body.File blocks size) image is =
    ap (λ bs. body.File bs size) (blocks_told blocks (lines_of image) (recursion_from_All (AreBytesOfLength 4096) blocks is.2) (no_block_first image))
body_told under_policy (body.Link target) image is = refl

over_body : (b : Body) (image : Image) → nodes_at (body_lines b ++ lines_of image) ≡ nodes_at (lines_of image)
over_body (body.Dir es) image = over_entries es (lines_of image)
over_body (body.File blocks size) image = over_blocks blocks (lines_of image)
over_body (body.Link target) image = refl

none_told : nodes_at ([] ∷ []) ≡ []
unfolding nodes_at node_of_line
none_told = refl

pub nodes_told : (image : Image) → AllByRecursion IsNode image → nodes_at (lines_of image) ≡ image
unfolding nodes_at
nodes_told [] each = none_told
nodes_told (node ∷ image) each =
    let told = node_told_again (line_of node) (line_from_node node each.0) in
    let rest = body_lines node.body ++ lines_of image in
    let own : node_at (line_of node) rest ≡ node = λ i. record { number = node.number; context = node.context; body = body_told (is_some node.context) node.body image each.0.body i } in
    ap nodes_at (in_front node image)
    ∙ ap (λ o. with_node_at o rest (nodes_at rest)) told
    ∙ (λ i. own i ∷ (over_body node.body image ∙ nodes_told image each.1) i)

-- ---- the lines are lines

entry_lines : (under_policy : Bool) (es : Entries) → AllByRecursion (IsEntry under_policy) es → AreLines (map entry_line es)
entry_lines under_policy [] each = tt
entry_lines under_policy (e ∷ es) each = (entry_line_is_free e (entry_line_from under_policy e each.0), entry_lines under_policy es each.1)

block_lines : (blocks : List (List ℕ)) → AllByRecursion (AreBytesOfLength 4096) blocks → AreLines (map block_line blocks)
block_lines [] each = tt
block_lines (b ∷ blocks) each = (block_line_is_free b each.0, block_lines blocks each.1)

body_are_lines : (under_policy : Bool) (b : Body) → IsBody under_policy b → AreLines (body_lines b)
body_are_lines under_policy (body.Dir es) is = entry_lines under_policy es (recursion_from_All (IsEntry under_policy) es is.0)
body_are_lines under_policy (body.File blocks size) is = block_lines blocks (recursion_from_All (AreBytesOfLength 4096) blocks is.2)
body_are_lines under_policy (body.Link target) is = tt

pub are_lines : (image : Image) → AllByRecursion IsNode image → AreLines (flat_map node_lines image)
are_lines [] each = tt
are_lines (node ∷ image) each =
    AreLines-append (node_lines node) (flat_map node_lines image)
    (node_line_is_free (line_of node) (line_from_node node each.0), body_are_lines (is_some node.context) node.body each.0.body)
    (are_lines image each.1)
