-- What the lines of a text are read as if none is at fault: the lines are those of the nodes that are read,
-- and the rules on lines hold.
use Rattle.std.proofs.Common.{◌≡◌, ℕ, ◌+◌, ◌-◌, ◌==◌, ◌&&◌, Bool, true, false, List, [], ◌∷◌, ◌++◌, length, map, Option, Some, None, refl, sym, ap, ◌∙◌, subst, arith, inl, inr, append_assoc, nat_lt, suc}
use Rattle.std.specs.Prelude.{is_some, is_none, if◌then◌else◌}
use Rattle.std.specs.List.{AllByRecursion, flat_map}
use Rattle.std.specs.Ordering.{nat_cmp, is_lt}
use Rattle.std.specs.Str.{bytes_eq}
use Rattle.std.specs.Cmp.Lexicographic.{slice_cmp, same_text}
use Rattle.std.specs.declared.cmp.Ordering.{Ordering}
use Rattle.std.specs.declared.cmp.Ordering.TheVariants.{Less, Equal, Greater}
use Rattle.std.proofs.lemmas.Bool.{and_parts, cases_Bool, eqb-true}
use Rattle.std.proofs.lemmas.Bool.Decides.{nat_tests}
use Rattle.std.proofs.lemmas.List.{nil_from_length}
use Rattle.std.proofs.lemmas.List.Elements.{All-from_recursion}
use Rattle.std.proofs.lemmas.Option.{same_Some}
use Rattle.byte_words.specs.Bytes.{AreBytesOfLength}
use Rattle.disk_tree.specs.Nodes.{IsDir}
use Rattle.image_lines.specs.declared.node_line.NodeKind.{NodeKind}
use Rattle.image_lines.specs.declared.node_line.NodeKind.TheVariants.{Dir, File, Link}
use Rattle.image_lines.specs.declared.node_line.NodeLine.{NodeLine}
use Rattle.image_lines.specs.declared.place.Place.{Place}
use Rattle.image_lines.specs.declared.place.Place.TheVariants.{AtHeader, AtRoot, InDir, Behind}
use Rattle.image_lines.specs.Image.{Image}
use Rattle.image_lines.specs.ImageText.{header, node_line, entry_line, block_line, kind_of_body, line_of, body_lines, node_lines}
use Rattle.image_lines.specs.Rules.{HasGoodLines}
use Rattle.image_lines.specs.NodeRules.{IsEntry, IsBody, IsNode}
use Rattle.image_lines.specs.StoredNames.{is_entry_name}
use Rattle.image_lines.specs.Lines.{node_of_line, entry_of_line, block_of_line}
use Rattle.image_lines.specs.Words.{◌>>=◌, passing}
use Rattle.image_lines.specs.LineFaults.{may_end, line_fault_from}
use Rattle.image_lines.specs.NextPlaces.{next_entry, next_block, step}
use Rattle.image_lines.specs.NodeLines.{place_after, after_node, is_dir, is_root, next_node}
use Rattle.image_lines.specs.WordForms.{while_some, entries_at, blocks_at, body_at, node_at, with_node_at, nodes_at}
use Rattle.text_words.proofs.WordLemmas.{chose}
use Rattle.image_lines.proofs.Telling.{was_mapped, passed}
use Rattle.image_lines.proofs.LineLaws.{IsKind, node_told_found, entry_told_found, block_told_found}
use Rattle.image_lines.proofs.LineLaws.{node_is_no_entry, node_is_no_block, entry_is_no_node, block_is_no_node}
use Rattle.image_lines.proofs.Bodies.{AreEntries, AreNodes, AreNodes-none, AreNodes-more, entries_from, lines_from_nodes}

-- the lines of nodes, and after them the end of a text
abbrev pub lines_of : Image → List (List ℕ)
lines_of image = flat_map node_lines image ++ [] ∷ []

-- `count` blocks
pub record AreBlocks (count : ℕ) (blocks : List (List ℕ)) : Type 0 where
  pub long : length blocks ≡ count
  pub each : AllByRecursion (AreBytesOfLength 4096) blocks

-- what the lines from a place on are read as
abbrev pub Told : Place → List (List ℕ) → Type 0
Told AtHeader ps = (ps ≡ header ∷ lines_of (nodes_at ps)) × HasGoodLines (nodes_at ps)
Told AtRoot ps = (ps ≡ lines_of (nodes_at ps)) × HasGoodLines (nodes_at ps)
Told (InDir number under_policy last) ps =
    (ps ≡ map entry_line (entries_at ps) ++ lines_of (nodes_at ps)) × AreEntries under_policy last (entries_at ps) × AreNodes number (nodes_at ps)
Told (Behind number left) ps =
    (ps ≡ map block_line (blocks_at ps) ++ lines_of (nodes_at ps)) × AreBlocks left (blocks_at ps) × AreNodes number (nodes_at ps)

-- ---- the body of a node

body_kind : (kind : NodeKind) (ps : List (List ℕ)) → kind_of_body (body_at kind ps) ≡ kind
body_kind Dir ps = refl
body_kind (File size) ps = refl
body_kind (Link target) ps = refl

no_block : (blocks : List (List ℕ)) (ps : List (List ℕ)) (rest : List (List ℕ)) → length blocks ≡ 0 → ps ≡ map block_line blocks ++ rest → ps ≡ rest
no_block [] ps rest none h = h
no_block (b ∷ blocks) ps rest none h = absurd (omega arith)

told_body : (kind : NodeKind) (number : ℕ) (under_policy : Bool) (ps : List (List ℕ)) → Told (place_after number under_policy kind) ps → IsKind under_policy kind
    → (ps ≡ body_lines (body_at kind ps) ++ lines_of (nodes_at ps)) × IsBody under_policy (body_at kind ps) × AreNodes number (nodes_at ps)
told_body Dir number under_policy ps t k = (t.0, entries_from under_policy (entries_at ps) t.1, t.2)
told_body (File size) number under_policy ps t k =
    (t.0, (k, t.1.long, All-from_recursion (AreBytesOfLength 4096) (blocks_at ps) t.1.each), t.2)
told_body (Link target) number under_policy ps t k = (no_block (blocks_at ps) ps (lines_of (nodes_at ps)) t.1.long t.0, k, t.2)

-- ---- a node

record NodeTold (line : List ℕ) (ps : List (List ℕ)) (node : NodeLine) : Type 0 where
  lines : line ∷ ps ≡ lines_of (nodes_at (line ∷ ps))
  nodes : nodes_at (line ∷ ps) ≡ node_at node ps ∷ nodes_at ps
  is : IsNode (node_at node ps)
  more : AreNodes node.number (nodes_at ps)
  own : line ≡ node_line node

told_node : (line : List ℕ) (ps : List (List ℕ)) (node : NodeLine) → node_of_line line ≡ Some node → Told (after_node node) ps → NodeTold line ps node
unfolding nodes_at
told_node line ps node is t =
    let found = node_told_found line node is in
    let told = told_body node.kind node.number (is_some node.context) ps t found.1.kind in
    let nodes : nodes_at (line ∷ ps) ≡ node_at node ps ∷ nodes_at ps = ap (λ o. with_node_at o ps (nodes_at ps)) is in
    let same : line_of (node_at node ps) ≡ node = λ i. record { number = node.number; context = node.context; kind = body_kind node.kind ps i } in
    let lines : line ∷ ps ≡ lines_of (node_at node ps ∷ nodes_at ps) =
    ap (λ l. l ∷ ps) (found.0 ∙ ap node_line (sym same))
    ∙ ap (λ l. node_line (line_of (node_at node ps)) ∷ l) (told.0 ∙ sym (append_assoc (body_lines (body_at node.kind ps)) (flat_map node_lines (nodes_at ps)) ([] ∷ []))) in
    record {
      lines = lines ∙ ap lines_of (sym nodes);
      nodes = nodes;
      is = record { number = found.1.number; context = found.1.context; body = told.1 };
      more = told.2;
      own = found.0;
    }

-- the next node after another
record NextTold (number : ℕ) (line : List ℕ) (ps : List (List ℕ)) : Type 0 where
  lines : line ∷ ps ≡ lines_of (nodes_at (line ∷ ps))
  are : AreNodes number (nodes_at (line ∷ ps))
  node : NodeLine
  own : line ≡ node_line node

told_next : (number : ℕ) (line : List ℕ) (ps : List (List ℕ)) (p : Place) → next_node number line ≡ Some p → Told p ps → NextTold number line ps
told_next number line ps p h t =
    let mapped = was_mapped after_node (node_of_line line >>= passing (λ node. nat_lt number node.number)) p h in
    let on = passed (λ node. nat_lt number node.number) (node_of_line line) mapped.0 mapped.1 in
    let told = told_node line ps mapped.0 on.0 (subst (λ q. Told q ps) (sym mapped.2) t) in
    let above : nat_cmp number mapped.0.number ≡ Less = rw on.1 refl in
    record {
      lines = told.lines;
      are = subst (AreNodes number) (sym told.nodes) (AreNodes-more number (node_at mapped.0 ps) (nodes_at ps) told.is above told.more);
      node = mapped.0;
      own = told.own;
    }

-- ---- a line at each place

no_entries : (node : NodeLine) (line : List ℕ) (ps : List (List ℕ)) → line ≡ node_line node → entries_at (line ∷ ps) ≡ []
unfolding entries_at
no_entries node line ps own = ap (λ o. while_some o (entries_at ps)) (ap entry_of_line own ∙ node_is_no_entry node)

no_blocks : (node : NodeLine) (line : List ℕ) (ps : List (List ℕ)) → line ≡ node_line node → blocks_at (line ∷ ps) ≡ []
unfolding blocks_at
no_blocks node line ps own = ap (λ o. while_some o (blocks_at ps)) (ap block_of_line own ∙ node_is_no_block node)

passes_over : (line : List ℕ) (ps : List (List ℕ)) → node_of_line line ≡ None → nodes_at (line ∷ ps) ≡ nodes_at ps
unfolding nodes_at
passes_over line ps none = ap (λ o. with_node_at o ps (nodes_at ps)) none

one_entry : (line : List ℕ) (ps : List (List ℕ)) (e : List ℕ × ℕ) → entry_of_line line ≡ Some e → entries_at (line ∷ ps) ≡ e ∷ entries_at ps
unfolding entries_at
one_entry line ps e is = ap (λ o. while_some o (entries_at ps)) is

one_block : (line : List ℕ) (ps : List (List ℕ)) (b : List ℕ) → block_of_line line ≡ Some b → blocks_at (line ∷ ps) ≡ b ∷ blocks_at ps
unfolding blocks_at
one_block line ps b is = ap (λ o. while_some o (blocks_at ps)) is

header_is_no_node : node_of_line header ≡ None
unfolding node_of_line
header_is_no_node = refl

at_header : (line : List ℕ) (ps : List (List ℕ)) (p : Place) → step AtHeader line ≡ Some p → Told p ps → Told AtHeader (line ∷ ps)
at_header line ps p h t =
    let taken = chose (bytes_eq line header) (Some AtRoot) p h in
    let is : line ≡ header = same_text line header (sym taken.0) in
    let root : Told AtRoot ps = subst (λ q. Told q ps) (sym (same_Some AtRoot p taken.1)) t in
    let over : nodes_at (line ∷ ps) ≡ nodes_at ps = passes_over line ps (ap node_of_line is ∙ header_is_no_node) in
    (ap (λ l. l ∷ ps) is ∙ ap (λ l. header ∷ l) (root.0 ∙ ap lines_of (sym over)), subst HasGoodLines (sym over) root.1)

dir_kind : (kind : NodeKind) (ps : List (List ℕ)) → is_dir kind ≡ true → IsDir (body_at kind ps)
dir_kind Dir ps h = tt
dir_kind (File size) ps h = absurd (cc h)
dir_kind (Link target) ps h = absurd (cc h)

no_context : (context : Option (List ℕ)) → is_none context ≡ true → context ≡ None
no_context None h = refl
no_context (Some c) h = absurd (cc h)

at_root : (line : List ℕ) (ps : List (List ℕ)) (p : Place) → step AtRoot line ≡ Some p → Told p ps → Told AtRoot (line ∷ ps)
at_root line ps p h t =
    let mapped = was_mapped after_node (node_of_line line >>= passing is_root) p h in
    let on = passed is_root (node_of_line line) mapped.0 mapped.1 in
    let told = told_node line ps mapped.0 on.0 (subst (λ q. Told q ps) (sym mapped.2) t) in
    let root = and_parts (mapped.0.number == 0) (is_none mapped.0.context && is_dir mapped.0.kind) on.1 in
    let rest = and_parts (is_none mapped.0.context) (is_dir mapped.0.kind) root.1 in
    let good = lines_from_nodes (node_at mapped.0 ps) (nodes_at ps) (eqb-true mapped.0.number 0 root.0) (no_context mapped.0.context rest.0) (dir_kind mapped.0.kind ps rest.1) told.is told.more in
    (told.lines, subst HasGoodLines (sym told.nodes) good)

less : (o : Ordering) → is_lt o ≡ true → o ≡ Less
less Less h = refl
less Equal h = absurd (cc h)
less Greater h = absurd (cc h)

module _ (number : ℕ) (under_policy : Bool) (last line : List ℕ) (ps : List (List ℕ)) where
  in_dir_node : NextTold number line ps → Told (InDir number under_policy last) (line ∷ ps)
  in_dir_node next =
      let none = no_entries next.node line ps next.own in
      (next.lines ∙ ap (λ es. map entry_line es ++ lines_of (nodes_at (line ∷ ps))) (sym none), subst (AreEntries under_policy last) (sym none) (record { each = tt; rising = tt }), next.are)

  in_dir_entry : (e : List ℕ × ℕ) (p : Place) → entry_of_line line ≡ Some e → next_entry number under_policy last e.0 ≡ Some p → Told p ps → Told (InDir number under_policy last) (line ∷ ps)
  in_dir_entry e p is h t =
      let taken = chose (is_entry_name under_policy e.0 && is_lt (slice_cmp nat_cmp last e.0)) (Some (InDir number under_policy e.0)) p h in
      let parts = and_parts (is_entry_name under_policy e.0) (is_lt (slice_cmp nat_cmp last e.0)) taken.0 in
      let told : Told (InDir number under_policy e.0) ps = subst (λ q. Told q ps) (sym (same_Some (InDir number under_policy e.0) p taken.1)) t in
      let found = entry_told_found line e is in
      let over : nodes_at (line ∷ ps) ≡ nodes_at ps = passes_over line ps (ap node_of_line found.0 ∙ entry_is_no_node e) in
      let one = one_entry line ps e is in
      let entry : IsEntry under_policy e = record { name = parts.0; bytes = found.1.bytes; child = found.1.child } in
      let are : AreEntries under_policy last (e ∷ entries_at ps) = record { each = (entry, told.1.each); rising = (less _ parts.1, told.1.rising) } in (
        ap (λ l. l ∷ ps) found.0 ∙ ap (λ l. entry_line e ∷ l) told.0 ∙ (λ i. map entry_line (sym one i) ++ lines_of (sym over i)),
        subst (AreEntries under_policy last) (sym one) are,
        subst (AreNodes number) (sym over) told.2,
      )

  in_dir : (o : Option (List ℕ × ℕ)) (p : Place) → entry_of_line line ≡ o → step (InDir number under_policy last) line ≡ Some p → Told p ps → Told (InDir number under_policy last) (line ∷ ps)
  in_dir None p is h t = in_dir_node (told_next number line ps p (rw is at h) t)
  in_dir (Some e) p is h t = in_dir_entry e p is (rw is at h) t

module _ (number left : ℕ) (line : List ℕ) (ps : List (List ℕ)) where
  behind_file : NextTold number line ps → left ≡ 0 → Told (Behind number left) (line ∷ ps)
  behind_file next none_left =
      let none = no_blocks next.node line ps next.own in
      (next.lines ∙ ap (λ bs. map block_line bs ++ lines_of (nodes_at (line ∷ ps))) (sym none), subst (AreBlocks left) (sym none) (record { long = sym none_left; each = tt }), next.are)

  in_file : (p : Place) → (left == 0) ≡ false → next_block number left line ≡ Some p → Told p ps → Told (Behind number left) (line ∷ ps)
  in_file p some h t =
      let mapped = was_mapped (λ block. Behind number (left - 1)) (block_of_line line) p h in
      let told : Told (Behind number (left - 1)) ps = subst (λ q. Told q ps) (sym mapped.2) t in
      let found = block_told_found line mapped.0 mapped.1 in
      let over : nodes_at (line ∷ ps) ≡ nodes_at ps = passes_over line ps (ap node_of_line found.0 ∙ block_is_no_node mapped.0) in
      let one = one_block line ps mapped.0 mapped.1 in
      let long : length (mapped.0 ∷ blocks_at ps) ≡ left = counted left (length (blocks_at ps)) some told.1.long in
      let are : AreBlocks left (mapped.0 ∷ blocks_at ps) = record { long = long; each = (found.1, told.1.each) } in (
        ap (λ l. l ∷ ps) found.0 ∙ ap (λ l. block_line mapped.0 ∷ l) told.0 ∙ (λ i. map block_line (sym one i) ++ lines_of (sym over i)),
        subst (AreBlocks left) (sym one) are,
        subst (AreNodes number) (sym over) told.2,
      )
    where
      counted : (left count : ℕ) → (left == 0) ≡ false → count ≡ left - 1 → suc count ≡ left
      counted left count some e = grind (arith, nat_tests)

  rest_after : (p : Place) → step (Behind number left) line ≡ Some p → Told p ps → Told (Behind number left) (line ∷ ps)
  rest_after p h t =
      elim (cases_Bool (left == 0)) [
        | inl none ↦ behind_file (told_next number line ps p (rw none at h) t) (eqb-true left 0 none)
        | inr some ↦ in_file p some (rw some at h) t
      ]

told_step : (place : Place) (line : List ℕ) (ps : List (List ℕ)) (p : Place) → step place line ≡ Some p → Told p ps → Told place (line ∷ ps)
told_step AtHeader line ps p h t = at_header line ps p h t
told_step AtRoot line ps p h t = at_root line ps p h t
told_step (InDir number under_policy last) line ps p h t = in_dir number under_policy last line ps (entry_of_line line) p refl h t
told_step (Behind number left) line ps p h t = rest_after number left line ps p h t

-- ---- the end of a text

told_end : (place : Place) → may_end place ≡ true → Told place ([] ∷ [])
unfolding entries_at blocks_at nodes_at node_of_line entry_of_line block_of_line
told_end AtHeader h = absurd (cc h)
told_end AtRoot h = absurd (cc h)
told_end (InDir number under_policy last) h = (refl, record { each = tt; rising = tt }, AreNodes-none number)
told_end (Behind number left) h = (refl, record { long = sym (eqb-true left 0 h); each = tt }, AreNodes-none number)

faultless : (b : Bool) (k : ℕ) → (let o : Option ℕ = if b then None else Some k in o ≡ None) → b ≡ true
faultless true k h = refl
faultless false k h = absurd (cc h)

pub told_from : (k : ℕ) (place : Place) (ps : List (List ℕ)) → line_fault_from k place ps ≡ None → Told place ps
unfolding line_fault_from
told_from k place [] h = absurd (cc h)
told_from k place (last ∷ []) h =
    let parts = and_parts (length last == 0) (may_end place) (faultless ((length last == 0) && may_end place) k h) in
    subst (λ l. Told place (l ∷ [])) (sym (nil_from_length last (eqb-true (length last) 0 parts.0))) (told_end place parts.1)
told_from k place (line ∷ next ∷ more) h =
    go (step place line) refl (λ p e. told_from (k + 1) p (next ∷ more) e)
  where
    go : (o : Option Place) → step place line ≡ o → ((p : Place) → line_fault_from (k + 1) p (next ∷ more) ≡ None → Told p (next ∷ more)) → Told place (line ∷ next ∷ more)
    go None e later = absurd (cc (rw e at h))
    go (Some p) e later = told_step place line (next ∷ more) p e (later p (rw e at h))
