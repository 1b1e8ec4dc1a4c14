-- How long the image of a mount is.
use Rattle.std.proofs.Common.{◌≡◌, ◌≢◌, ◌≤◌, ◌<◌, ◌^◌, ℕ, ◌+◌, ◌-◌, ◌*◌, ◌&&◌, ◌||◌, Bool, true, false, nat_le, nat_eq, IsTrue, List, [], ◌∷◌, ◌++◌, length, map, Option, None, Some, refl, sym, ap, ◌∙◌, subst, inl, inr, ⊎_elim, lit<, arith, length-append}
use Rattle.std.specs.Prelude.{All, Contains, codes, filter, is_some}
use Rattle.std.specs.List.{flat_map, list_any, sum_by}
use Rattle.std.specs.Cmp.{nat_eq_equiv}
use Rattle.std.specs.FinMap.{len-entries}
use Rattle.std.proofs.lemmas.Bool.{and_parts, cond_both}
use Rattle.std.proofs.lemmas.Bool.Decides.{nat_tests}
use Rattle.std.proofs.lemmas.Fmt.{length-decimal-le}
use Rattle.std.proofs.lemmas.List.{length-map}
use Rattle.std.proofs.lemmas.List.Concat.{flat_map-cons}
use Rattle.std.proofs.lemmas.List.Elements.{All-head, All-tail}
use Rattle.std.proofs.lemmas.List.Sums.{sum_by-cons}
use Rattle.std.proofs.lemmas.Map.Made.{length-le_from_is_member}
use Rattle.byte_words.specs.Bytes.{AreBytesOfLength}
use Rattle.mount_limits.specs.declared.TheConstants.{BLOCK_SIZE, MAX_BLOCKS, MAX_FILE_BYTES, MAX_NODES}
use Rattle.name_crypt.specs.declared.limits.TheConstants.{MIN_STORED_BYTES, MAX_NAME_BYTES}
use Rattle.text_words.specs.Numbers.{decimal_of}
use Rattle.hex.specs.Hex.{encode_lower}
use Rattle.number_map.specs.Numbered.{entries, len}
use Rattle.plain_tree.specs.Nodes.{Node, Body as PlainBody, Dir as PlainDir, File as PlainFile, Link as PlainLink, contents_of}
use Rattle.disk_tree.specs.Entries.{Entries}
use Rattle.disk_tree.specs.Nodes.{entries_of}
use Rattle.disk_tree.specs.declared.node.Body.{Body}
use Rattle.disk_tree.specs.declared.node.Body.TheVariants.{Dir, File, Link}
use Rattle.mount_model.specs.PlainMount.{PlainMount, Raws}
use Rattle.mount_model.specs.Blocks.{block_count, block_total}
use Rattle.mount_model.specs.WellFormed.{IsWellFormed}
use Rattle.mount_state.specs.Stored.{contents_seal}
use Rattle.image_lines.specs.Image.{Image, ImageNode, all_entries, children_of, numbers_of}
use Rattle.image_lines.specs.ImageText.{block_line, body_lines, context_text, ended, entry_line, header, image_text, line_of, node_line, node_lines, kind_of_body}
use Rattle.image_lines.specs.NodeRules.{IsBody, IsContext, IsEntry, IsNode}
use Rattle.image_lines.specs.Rules.{HasGoodChildren, BeginsWithRoot, IsImage}
use Rattle.image_lines.specs.StoredNames.{is_entry_name, is_stored, is_target, may_be_part}
use Rattle.image_lines.proofs.LineLaws.{context_length}
use Rattle.tree_image.specs.Images.{mount_image}
use Rattle.tree_image.proofs.LengthLemmas.{digits_are, line_longer, lines_longer}
use Rattle.tree_listing.proofs.Members.{In, holds_in, in_from_contains}
use Rattle.listing_laws.specs.Sizes.{IsShort, max_image_bytes}
use Rattle.listing_laws.proofs.ChildrenLemmas.{of_mount}
use Rattle.listing_laws.proofs.FormLemmas.{count_is}

-- ---- words

number_short : (n : ℕ) → n < 2 ^ 32 → length (decimal_of n) ≤ 10
number_short n small = length-decimal-le 10 n (lit< tt) (omega (arith, small)) (omega (arith, small))

stored_short : (low : ℕ) (bytes : List ℕ) → is_stored low bytes ≡ true → length bytes ≤ MAX_NAME_BYTES
stored_short low bytes is =
    let high : nat_le (length bytes) MAX_NAME_BYTES ≡ true = (and_parts (nat_le low (length bytes)) (nat_le (length bytes) MAX_NAME_BYTES) is).1 in
    grind (arith, nat_tests)

name_short : (under : Bool) (name : List ℕ) → is_entry_name under name ≡ true → length name ≤ MAX_NAME_BYTES
name_short false name is = stored_short 1 name (and_parts (is_stored 1 name) (may_be_part name) is).0
name_short true name is = stored_short MIN_STORED_BYTES name is

target_short : (under : Bool) (target : List ℕ) → is_target under target ≡ true → length target ≤ MAX_NAME_BYTES
target_short false target is = stored_short 1 target is
target_short true target is = stored_short MIN_STORED_BYTES target is

context_short : (context : Option (List ℕ)) → IsContext context → length (context_text context) ≤ 80
context_short None is = omega arith
context_short (Some context) is =
    let long : length context ≡ 40 = context_length context is.0 in
    let digits = digits_are context in
    omega arith

at_least : (k : ℕ) → 0 ≤ k
at_least k = omega arith

-- ---- lines

entry_words : (number name : List ℕ) → length number ≤ 10 → length name ≤ 510 → length (codes "entry " ++ (number ++ 32 ∷ name)) ≤ 527
entry_words number name a b = simp length-append (omega arith)

entry_short : (under : Bool) (e : List ℕ × ℕ) → IsEntry under e → length (entry_line e) ≤ 527
entry_short under e is =
    let name = name_short under e.0 is.name in
    let digits = digits_are e.0 in
    entry_words (decimal_of e.1) (encode_lower e.0) (number_short e.1 is.child) (omega (arith, name, digits))

entries_short : (under : Bool) (es : Entries) → All (IsEntry under) es → length (ended (map entry_line es)) ≤ 528 * length es
entries_short under [] all = omega arith
entries_short under (e ∷ es) all =
    let line = entry_short under e (All-head (IsEntry under) e es all) in
    let more = entries_short under es (All-tail (IsEntry under) e es all) in
    let both = line_longer (entry_line e) (map entry_line es) in
    omega arith

abbrev IsBlock : List ℕ → Type 0
IsBlock = AreBytesOfLength BLOCK_SIZE

block_words : (digits : List ℕ) → length digits ≤ 8192 → length (codes "block " ++ digits) ≤ 8198
block_words digits a = simp length-append (omega arith)

block_short : (block : List ℕ) → IsBlock block → length (block_line block) ≤ 8198
block_short block is =
    let long : length block ≡ BLOCK_SIZE = is.0 in
    let digits = digits_are block in
    block_words (encode_lower block) (omega (arith, long, digits))

blocks_short : (blocks : List (List ℕ)) → All IsBlock blocks → length (ended (map block_line blocks)) ≤ 8199 * length blocks
blocks_short [] all = omega arith
blocks_short (block ∷ blocks) all =
    let line = block_short block (All-head IsBlock block blocks all) in
    let more = blocks_short blocks (All-tail IsBlock block blocks all) in
    let both = line_longer (block_line block) (map block_line blocks) in
    omega arith

-- ---- nodes

abbrev pub blocks_of : Body → ℕ
blocks_of (Dir es) = 0
blocks_of (File blocks size) = length blocks
blocks_of (Link target) = 0

of_entries : (long entries blocks : ℕ) → long ≤ 528 * entries → long ≤ 528 * entries + 8199 * blocks
of_entries long entries blocks few = omega (arith, few)

of_blocks : (long entries blocks : ℕ) → long ≤ 8199 * blocks → long ≤ 528 * entries + 8199 * blocks
of_blocks long entries blocks few = omega (arith, few)

body_short : (under : Bool) (b : Body) → IsBody under b → length (ended (body_lines b)) ≤ 528 * length (entries_of b) + 8199 * blocks_of b
body_short under (Dir es) is = of_entries (length (ended (map entry_line es))) (length es) 0 (entries_short under es is.0)
body_short under (File blocks size) is = of_blocks (length (ended (map block_line blocks))) 0 (length blocks) (blocks_short blocks is.2)
body_short under (Link target) is = of_blocks 0 0 0 (omega arith)

dir_words : (number context : List ℕ) → length number ≤ 10 → length context ≤ 80
    → length (codes "node " ++ (number ++ 32 ∷ (codes "dir " ++ context))) ≤ 612
dir_words number context a b = simp length-append (omega arith)

file_words : (number context size : List ℕ) → length number ≤ 10 → length context ≤ 80 → length size ≤ 10
    → length (codes "node " ++ (number ++ 32 ∷ (codes "file " ++ (context ++ 32 ∷ size)))) ≤ 612
file_words number context size a b c = simp length-append (omega arith)

link_words : (number context target : List ℕ) → length number ≤ 10 → length context ≤ 80 → length target ≤ 510
    → length (codes "node " ++ (number ++ 32 ∷ (codes "link " ++ (context ++ 32 ∷ target)))) ≤ 612
link_words number context target a b c = simp length-append (omega arith)

line_short : (number : ℕ) (context : Option (List ℕ)) (b : Body) → number < 2 ^ 32 → IsContext context → IsBody (is_some context) b
    → length (node_line (record { number = number; context = context; kind = kind_of_body b })) ≤ 612
line_short number context (Dir es) small under is =
    dir_words (decimal_of number) (context_text context) (number_short number small) (context_short context under)
line_short number context (File blocks size) small under is =
    let few : size ≤ MAX_FILE_BYTES = is.0 in
    file_words (decimal_of number) (context_text context) (decimal_of size) (number_short number small) (context_short context under)
    (number_short size (omega (arith, few)))
line_short number context (Link target) small under is =
    let name = target_short (is_some context) target is.0 in
    let doubled = digits_are target in
    link_words (decimal_of number) (context_text context) (encode_lower target) (number_short number small) (context_short context under)
    (omega (arith, name, doubled))

node_short : (node : ImageNode) → IsNode node → length (ended (node_lines node)) ≤ 613 + (528 * length (entries_of node.body) + 8199 * blocks_of node.body)
node_short node is =
    let line = line_short node.number node.context node.body is.number is.context is.body in
    let more = body_short (is_some node.context) node.body is.body in
    let both = line_longer (node_line (line_of node)) (body_lines node.body) in
    omega arith

-- ---- images

abbrev pub total_blocks : Image → ℕ
total_blocks [] = 0
total_blocks (node ∷ nodes) = blocks_of node.body + total_blocks nodes

joined : (whole first rest long nodes entries own others blocks more : ℕ) → whole ≡ first + rest → long ≡ nodes + 1 → entries ≡ own + others
    → first ≤ 613 + (528 * own + 8199 * blocks) → rest ≤ 613 * nodes + (528 * others + 8199 * more)
    → whole ≤ 613 * long + (528 * entries + 8199 * (blocks + more))
joined whole first rest long nodes entries own others blocks more a b c d e = omega (arith, a, b, c, d, e)

nodes_short : (image : Image) → All IsNode image
    → length (ended (flat_map node_lines image)) ≤ 613 * length image + (528 * length (all_entries image) + 8199 * total_blocks image)
nodes_short [] all = at_least (613 * 0 + (528 * 0 + 8199 * 0))
nodes_short (node ∷ nodes) all =
    let long : length (node ∷ nodes) ≡ length nodes + 1 = omega arith in
    joined (length (ended (flat_map node_lines (node ∷ nodes)))) (length (ended (node_lines node))) (length (ended (flat_map node_lines nodes)))
    (length (node ∷ nodes)) (length nodes) (length (all_entries (node ∷ nodes))) (length (entries_of node.body)) (length (all_entries nodes))
    (blocks_of node.body) (total_blocks nodes)
    (lines_longer (node_lines node) (flat_map node_lines nodes)) long (length-append (entries_of node.body) (all_entries nodes))
    (node_short node (All-head IsNode node nodes all)) (nodes_short nodes (All-tail IsNode node nodes all))

-- at most one entry resolves to each node but the root
or_right : (b c : Bool) → c ≡ true → (b || c) ≡ true
or_right true c h = refl
or_right false c h = h

any_from_in : (q : ℕ) (ns : List ℕ) → In q ns → list_any (nat_eq q) ns ≡ true
any_from_in q [] there = absurd there
any_from_in q (n ∷ ns) (inl is) = let same : nat_eq q n ≡ true = grind (arith, nat_tests) in rw same refl
any_from_in q (n ∷ ns) (inr there) = or_right (nat_eq q n) (list_any (nat_eq q) ns) (any_from_in q ns there)

in_from_any : (q : ℕ) (ns : List ℕ) → list_any (nat_eq q) ns ≡ true → In q ns
in_from_any q [] any = absurd (cc any)
in_from_any q (n ∷ ns) any = by (nat_eq q n) refl any (λ rest. in_from_any q ns rest)
  where
    by : (b : Bool) → nat_eq q n ≡ b → (b || list_any (nat_eq q) ns) ≡ true → (list_any (nat_eq q) ns ≡ true → In q ns) → In q (n ∷ ns)
    by true is any later = inl (let same : n ≡ q = grind (arith, nat_tests) in same)
    by false is any later = inr (later any)

of_all : (P : ℕ → Type 0) (ns : List ℕ) → All P ns → (q : ℕ) → In q ns → P q
of_all P [] all q there = absurd there
of_all P (n ∷ ns) all q (inl is) = subst P is (All-head P n ns all)
of_all P (n ∷ ns) all q (inr there) = of_all P ns (All-tail P n ns all) q there

abbrev IsLed : Image → ℕ → Type 0
IsLed image q = (q ≢ 0) × Contains (numbers_of image) q

few_entries : (image : Image) → BeginsWithRoot image → HasGoodChildren image → length (all_entries image) + 1 ≤ length image
few_entries [] root good = absurd root
few_entries (first ∷ nodes) root good =
    let image : Image = first ∷ nodes in
    let within : (q : ℕ) → list_any (nat_eq q) (children_of image) ≡ true → list_any (nat_eq q) (numbers_of nodes) ≡ true =
    λ q any. led q (of_all (IsLed image) (children_of image) good.there q (in_from_any q (children_of image) any)) in
    let fewer : length (children_of image) ≤ length (numbers_of nodes) = length-le_from_is_member nat_eq_equiv (children_of image) (numbers_of nodes) good.once within in
    let children_too : length (children_of image) ≡ length (all_entries image) = length-map (all_entries image) (λ (e : List ℕ × ℕ). e.1) in
    let numbers_too : length (numbers_of nodes) ≡ length nodes = length-map nodes (λ (n : ImageNode). n.number) in
    omega arith
  where
    led : (q : ℕ) → (q ≢ 0) × Contains (numbers_of (first ∷ nodes)) q → list_any (nat_eq q) (numbers_of nodes) ≡ true
    led q to = ⊎_elim
        (λ (is : first.number ≡ q). absurd (to.0 (sym is ∙ root.0)))
        (λ there. any_from_in q (numbers_of nodes) there)
        (in_from_contains (numbers_of (first ∷ nodes)) q to.1)

pub image_short : (image : Image) → IsImage image → length (image_text image) ≤ 12 + (613 * length image + (528 * (length image - 1) + 8199 * total_blocks image))
unfolding image_text
image_short image is =
    let lines = nodes_short image is.lines.each in
    let fewer = few_entries image is.lines.root is.children in
    let whole : length (image_text image) ≡ length header + 1 + length (ended (flat_map node_lines image)) = line_longer header (flat_map node_lines image) in
    let head : length header ≡ 11 = refl in
    omega (arith, lines, fewer, whole, head)

-- ---- of a mount

same_most : (a b : ℕ) → a ≡ b → a ≤ b
same_most a b is = omega (arith, is)

few_blocks : (raws : Raws) (n : ℕ) (v : Node) → blocks_of (of_mount raws (n, v)).body ≤ block_count (contents_of v.body)
few_blocks raws n v = by v.body
  where
    by : (b : PlainBody) → blocks_of (of_mount raws (n, record v { body = b })).body ≤ block_count (contents_of b)
    by (PlainDir cs) = at_least (block_count [])
    by (PlainFile contents) = same_most _ _ (count_is (contents_seal raws n v.context) contents)
    by (PlainLink target) = at_least (block_count [])

abbrev is_named : ℕ × Node → Bool
is_named e = e.1.named

named_blocks : (raws : Raws) (es : List (ℕ × Node)) → total_blocks (map (of_mount raws) (filter is_named es)) ≤ sum_by (λ e. block_count (contents_of e.1.body)) es
named_blocks raws [] = at_least 0
named_blocks raws (e ∷ es) =
    let more = named_blocks raws es in
    let own : blocks_of (of_mount raws e).body ≤ block_count (contents_of e.1.body) = few_blocks raws e.0 e.1 in
    let first : total_blocks (map (of_mount raws) (e ∷ filter is_named es)) ≡ blocks_of (of_mount raws e).body + total_blocks (map (of_mount raws) (filter is_named es)) = refl in
    let sum = sum_by-cons (λ (x : ℕ × Node). block_count (contents_of x.1.body)) e es in
    cond_both (is_named e) (e ∷ filter is_named es) (filter is_named es)
    (λ (l : List (ℕ × Node)). total_blocks (map (of_mount raws) l) ≤ sum_by (λ x. block_count (contents_of x.1.body)) (e ∷ es))
    (λ _. omega (arith, first, more, own, sum))
    (λ _. omega (arith, more, sum))

few_named : (es : List (ℕ × Node)) → length (filter is_named es) ≤ length es
few_named [] = omega arith
few_named (e ∷ es) =
    let more = few_named es in
    cond_both (is_named e) (e ∷ filter is_named es) (filter is_named es) (λ (l : List (ℕ × Node)). length l ≤ length (e ∷ es))
    (λ _. omega (arith, more))
    (λ _. omega (arith, more))

pub mount_image_short : (m : PlainMount) → IsImage (mount_image m) → IsWellFormed m → IsShort m
unfolding block_total
mount_image_short m is well =
    let blocks = well.nodes.blocks in
    let few : len m.nodes ≤ MAX_NODES = well.nodes.tree.room.few_nodes in
    let whole = image_short (mount_image m) is in
    let own : total_blocks (mount_image m) ≤ block_total m.nodes = named_blocks m.raws (entries m.nodes) in
    let counted_nodes = len-entries m.nodes in
    let nodes : length (mount_image m) ≡ length (filter is_named (entries m.nodes)) = length-map (filter is_named (entries m.nodes)) (of_mount m.raws) in
    let named = few_named (entries m.nodes) in
    let counted : length (image_text (mount_image m)) ≤ max_image_bytes MAX_NODES MAX_BLOCKS = omega (arith, whole, own, nodes, named, blocks, few, counted_nodes) in
    record {
      counted = counted;
      most = omega (arith, counted);
      read = omega (arith, counted);
    }
