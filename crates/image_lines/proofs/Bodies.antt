-- The rules of an image, stated from each line to the next.
use Rattle.std.proofs.Common.{◌≡◌, ℕ, ◌≤◌, ◌&&◌, Bool, true, false, List, [], ◌∷◌, length, None, refl, arith}
use Rattle.std.specs.Prelude.{is_some, nat_le}
use Rattle.std.specs.List.{AllByRecursion}
use Rattle.std.specs.List.Sorted.{IsStrictlySortedBy}
use Rattle.std.specs.Map.{keys_of}
use Rattle.std.specs.Ordering.{nat_cmp}
use Rattle.std.specs.Cmp.{nat_cmp_total}
use Rattle.std.specs.Cmp.Lexicographic.{slice_cmp, nat_list_cmp_total}
use Rattle.std.specs.declared.cmp.Ordering.TheVariants.{Less}
use Rattle.std.proofs.lemmas.Bool.{and_parts, leb-true}
use Rattle.std.proofs.lemmas.List.Elements.{All-from_recursion, recursion_from_All}
use Rattle.disk_tree.specs.Entries.{Entries}
use Rattle.disk_tree.specs.Nodes.{IsDir}
use Rattle.disk_tree.specs.declared.node.Body.{Body}
use Rattle.disk_tree.specs.declared.node.Body.TheVariants as body
use Rattle.image_lines.specs.Image.{Image, ImageNode, numbers_of}
use Rattle.image_lines.specs.ImageText.{kind_of_body, line_of}
use Rattle.image_lines.specs.Rules.{HasGoodLines}
use Rattle.image_lines.specs.NodeRules.{IsEntry, IsBody, IsNode}
use Rattle.image_lines.specs.StoredNames.{may_be_part, is_entry_name}
use Rattle.image_lines.proofs.Chains.{Rises, sorted_from_rises, rises_from_sorted}
use Rattle.image_lines.proofs.LineLaws.{IsKind, IsNodeLine, IsEntryLine}

-- entries in range whose names rise from this one on
pub record AreEntries (under_policy : Bool) (last : List ℕ) (es : Entries) : Type 0 where
  pub each : AllByRecursion (IsEntry under_policy) es
  pub rising : Rises (slice_cmp nat_cmp) last (keys_of es)

-- nodes whose numbers rise from this one on
pub record AreNodes (number : ℕ) (image : Image) : Type 0 where
  pub each : AllByRecursion IsNode image
  pub rising : Rises nat_cmp number (numbers_of image)

-- ---- names

name_is_long : (under_policy : Bool) (name : List ℕ) → is_entry_name under_policy name ≡ true → (1 ≤ length name) × (length name ≤ 255)
name_is_long true name h =
    let parts = and_parts (nat_le 16 (length name)) (nat_le (length name) 255) h in
    let least : 16 ≤ length name = leb-true 16 (length name) parts.0 in
    (omega arith, leb-true (length name) 255 parts.1)
name_is_long false name h =
    let parts = and_parts (nat_le 1 (length name)) (nat_le (length name) 255) (and_parts (nat_le 1 (length name) && nat_le (length name) 255) (may_be_part name) h).0 in
    (leb-true 1 (length name) parts.0, leb-true (length name) 255 parts.1)

above_none : (xs : List ℕ) → 1 ≤ length xs → slice_cmp nat_cmp [] xs ≡ Less
above_none [] some = absurd (omega arith)
above_none (x ∷ xs) some = refl

pub entry_line_from : (under_policy : Bool) (e : List ℕ × ℕ) → IsEntry under_policy e → IsEntryLine e
entry_line_from under_policy e is = record { bytes = is.bytes; short = (name_is_long under_policy e.0 is.name).1; child = is.child }

-- ---- bodies

-- the rules of a directory's entries
pub entries_from : (under_policy : Bool) (es : Entries) → AreEntries under_policy [] es → IsBody under_policy (body.Dir es)
entries_from under_policy es are =
    (All-from_recursion (IsEntry under_policy) es are.each, (sorted_from_rises (slice_cmp nat_cmp) nat_list_cmp_total [] (keys_of es) are.rising).1)

pub entries_of_rules : (under_policy : Bool) (es : Entries) → IsBody under_policy (body.Dir es) → AreEntries under_policy [] es
entries_of_rules under_policy es is =
    let each = recursion_from_All (IsEntry under_policy) es is.0 in
    record { each = each; rising = rises_from_sorted (slice_cmp nat_cmp) [] (keys_of es) (above es each) is.1 }
  where
    above : (es : Entries) → AllByRecursion (IsEntry under_policy) es → AllByRecursion (λ name. slice_cmp nat_cmp [] name ≡ Less) (keys_of es)
    above [] each = tt
    above (e ∷ es) each = (above_none e.0 (name_is_long under_policy e.0 each.0.name).0, above es each.1)

-- the rules of a node are those of its line and of its body
pub kind_from_body : (under_policy : Bool) (b : Body) → IsBody under_policy b → IsKind under_policy (kind_of_body b)
kind_from_body under_policy (body.Dir es) is = tt
kind_from_body under_policy (body.File blocks size) is = is.0
kind_from_body under_policy (body.Link target) is = is

pub line_from_node : (node : ImageNode) → IsNode node → IsNodeLine (line_of node)
line_from_node node is =
    record { number = is.number; context = is.context; kind = kind_from_body (is_some node.context) node.body is.body }

-- ---- numbers

pub AreNodes-none : (number : ℕ) → AreNodes number []
AreNodes-none number = record { each = tt; rising = tt }

pub AreNodes-more : (number : ℕ) (node : ImageNode) (image : Image) → IsNode node → nat_cmp number node.number ≡ Less → AreNodes node.number image
    → AreNodes number (node ∷ image)
AreNodes-more number node image is above are = record { each = (is, are.each); rising = (above, are.rising) }

pub lines_from_nodes : (root : ImageNode) (nodes : Image) → root.number ≡ 0 → root.context ≡ None → IsDir root.body → IsNode root → AreNodes root.number nodes
    → HasGoodLines (root ∷ nodes)
unfolding IsStrictlySortedBy
lines_from_nodes root nodes first plain dir is are = record {
  root = (first, plain, dir);
  rising = sorted_from_rises nat_cmp nat_cmp_total root.number (numbers_of nodes) are.rising;
  each = All-from_recursion IsNode (root ∷ nodes) (is, are.each);
}

pub nodes_from_lines : (root : ImageNode) (nodes : Image) → HasGoodLines (root ∷ nodes) → IsNode root × AreNodes root.number nodes
unfolding IsStrictlySortedBy
nodes_from_lines root nodes good =
    let each = recursion_from_All IsNode (root ∷ nodes) good.each in
    (each.0, record { each = each.1; rising = rises_from_sorted nat_cmp root.number (numbers_of nodes) good.rising.0 good.rising.1 })
