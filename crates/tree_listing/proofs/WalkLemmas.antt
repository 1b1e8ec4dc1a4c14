-- A walk over the nodes of an image that entries reach.
use Rattle.std.proofs.Common.{◌≡◌, ◌≢◌, ℕ, zero, suc, ◌<◌, ◌≤◌, ◌+◌, ◌-◌, ◌||◌, Bool, true, false, cond, List, [], ◌∷◌, ◌++◌, length, get_or, set, replicate, nat_eq, Some, refl, sym, ap, ◌∙◌, subst, arith, inl, inr, ◌⊎◌}
use Rattle.std.specs.Prelude.{All, Contains, slice_get, count_by}
use Rattle.std.specs.List.{list_any}
use Rattle.std.specs.List.Sorted.{IsStrictlySortedBy}
use Rattle.std.specs.Ordering.{nat_cmp}
use Rattle.std.proofs.lemmas.Bool.{cases_eq, cases_lt, ne_eqb}
use Rattle.std.proofs.lemmas.List.{get_or-set_same, get_or-set_other, length-set, length-replicate, length-drop, get_or-replicate, get_or_append_left, length-map, get_or_default}
use Rattle.std.proofs.lemmas.List.Elements.{recursion_from_All, All-append, All-cons, All-nil, All-weaker}
use Rattle.std.proofs.lemmas.List.Folds.{list_any-append, sum_by-replicate}
use Rattle.std.proofs.lemmas.List.Sums.{sum_by-set}
use Rattle.std.proofs.lemmas.Grind.{get_or_default_zero}
use Rattle.disk_tree.specs.Entries.{Entries}
use Rattle.disk_tree.specs.Nodes.{entries_of}
use Rattle.image_lines.specs.Image.{Image, ImageNode, numbers_of}
use Rattle.image_lines.specs.Rules.{BeginsWithRoot, HasGoodChildren, IsImage}
use Rattle.image_lines.specs.Marks.{IsIndexOf}
use Rattle.image_lines.specs.WordForms.{body_at}
use Rattle.image_lines.specs.declared.node_line.NodeKind.{NodeKind}
use Rattle.image_lines.specs.declared.node_line.NodeKind.TheVariants.{File, Link}
use Rattle.tree_listing.specs.PlacedEntries.{IsReached}
use Rattle.tree_listing.specs.declared.walk.Way.{Way}
use Rattle.tree_listing.specs.declared.walk.Way.TheVariants.{Nowhere, AtRoot, By}
use Rattle.tree_listing.specs.Walk.{AreFollowed, AreFound, HasEntries, IsFollowed, is_among}
use Rattle.tree_listing.specs.Ways.{AreWays, IsEntryTo, IsWayTo, is_nowhere}
use Rattle.tree_listing.proofs.Members.{In, in_back, in_from_contains, contains_from_in, among_from_in, in_from_among, holds_in, get_from_in}
use Rattle.image_lines.specs.ImageText.{image_text}
use Rattle.image_lines.specs.Lines.{entry_of_line}
use Rattle.image_lines.specs.Nodes.{IsRestOf}
use Rattle.text_words.specs.Lines.{is_line_feed}
use Rattle.std.specs.List.{before_first}
use Rattle.tree_listing.proofs.LeadLemmas.{entry_to_from, entry_to_own, reached_there, number_at, same_index, same_node}

-- ---- members of a list of numbers

or_no : (b : Bool) → (b || false) ≡ b
or_no true = refl
or_no false = refl

among_other : (order : List ℕ) (n c : ℕ) → n ≢ c → is_among (order ++ c ∷ []) n ≡ is_among order n
among_other order n c other =
    let e : nat_eq n c ≡ false = ne_eqb n c other in
    let last : is_among (c ∷ []) n ≡ false = rw e refl in
    list_any-append (nat_eq n) order (c ∷ []) ∙ ap (λ b. is_among order n || b) last ∙ or_no (is_among order n)

pub among_last : (order : List ℕ) (c : ℕ) → is_among (order ++ c ∷ []) c ≡ true
among_last order c = among_from_in (order ++ c ∷ []) c (in_back c order (c ∷ []) (inl refl))

pub among_more : (order more : List ℕ) (n : ℕ) → is_among order n ≡ true → is_among (order ++ more) n ≡ true
among_more order more n h = list_any-append (nat_eq n) order more ∙ rw h refl

pub found_more : (order more : List ℕ) (entries : Entries) → AreFound order entries → AreFound (order ++ more) entries
found_more order more entries found =
    All-weaker (λ (e : List ℕ × ℕ). is_among order e.1 ≡ true) (λ e. is_among (order ++ more) e.1 ≡ true) (λ e h. among_more order more e.1 h) entries found

-- ---- ways

-- one way more
pub ways_more : (image : Image) → IsStrictlySortedBy nat_cmp (numbers_of image) → (order : List ℕ) (ways : List Way) (index child : ℕ) (way : Way)
    → AreWays image (is_among order) ways → IsIndexOf (numbers_of image) child (Some index) → IsWayTo image true child way
    → AreWays image (is_among (order ++ child ∷ [])) (set ways index way)
ways_more image rises order ways index child way are is leads = record {
  long = length-set ways index way ∙ are.long;
  each = λ i node at. go i node at (cases_eq i index);
}
  where
    go : (i : ℕ) (node : ImageNode) → slice_get image i ≡ Some node → (i ≡ index) ⊎ (i ≢ index)
        → IsWayTo image (is_among (order ++ child ∷ []) node.number) node.number (get_or (set ways index way) i Nowhere)
    go i node at (inl same) =
        let own = number_at image i node at in
        let number : child ≡ node.number = sym is.1 ∙ ap (λ k. get_or (numbers_of image) k 0) (sym same) ∙ own.1 in
        let long : length (numbers_of image) ≡ length image = length-map _ _ in
        let within : index < length ways = omega (arith, long, is.0, are.long) in
        let found : true ≡ is_among (order ++ child ∷ []) node.number = sym (among_last order child) ∙ ap (is_among (order ++ child ∷ [])) number in
        let here : way ≡ get_or (set ways index way) i Nowhere = sym (get_or-set_same ways index way Nowhere within) ∙ ap (λ k. get_or (set ways index way) k Nowhere) (sym same) in
        subst (λ w. IsWayTo image (is_among (order ++ child ∷ []) node.number) node.number w) here
        (subst (λ b. IsWayTo image b node.number way) found (subst (λ n. IsWayTo image true n way) number leads))
    go i node at (inr other) =
        let own = number_at image i node at in
        let differ : node.number ≢ child = λ same. other (same_index (numbers_of image) rises i index own.0 is.0 (own.1 ∙ same ∙ sym is.1)) in
        subst (λ w. IsWayTo image (is_among (order ++ child ∷ []) node.number) node.number w) (sym (get_or-set_other ways index i way Nowhere other))
        (subst (λ b. IsWayTo image b node.number (get_or ways i Nowhere)) (sym (among_other order node.number child differ)) (are.each i node at))

abbrev of_test : Bool → ℕ
of_test b = cond b 1 0

abbrev one : Way → ℕ
one way = of_test (is_nowhere way)

pub count_less : (ways : List Way) (index : ℕ) (way : Way) → index < length ways → get_or ways index Nowhere ≡ Nowhere → is_nowhere way ≡ false
    → count_by is_nowhere (set ways index way) + 1 ≡ count_by is_nowhere ways
count_less ways index way lt was is =
    let changed = sum_by-set one ways index way Nowhere lt in
    let before : one (get_or ways index Nowhere) ≡ one Nowhere = ap one was in
    let after : one way ≡ of_test false = ap of_test is in
    omega (arith, changed, before, after)

-- no node is found
pub no_ways : (image : Image) (count : ℕ) → count ≡ length image → AreWays image (is_among []) (replicate count Nowhere)
no_ways image count is = record {
  long = length-replicate count Nowhere ∙ is;
  each = λ i node at.
      let own = number_at image i node at in
      let long : length (numbers_of image) ≡ length image = length-map _ _ in
      let none : get_or (replicate count Nowhere) i Nowhere ≡ Nowhere = get_or-replicate count i Nowhere Nowhere (omega (arith, own.0, long, is)) in
      subst (λ w. IsWayTo image false node.number w) (sym none) refl;
}

pub count_all : (count : ℕ) → count_by is_nowhere (replicate count Nowhere) ≡ count
count_all count = let e = sum_by-replicate one count Nowhere in omega (arith, e)

-- ---- at the end

-- if all that were found are followed, all that are reached were found
pub all_found : (image : Image) (order : List ℕ) → is_among order 0 ≡ true → AreFollowed image order (length order) → {n : ℕ} → IsReached image n → is_among order n ≡ true
all_found image order root followed IsReached.root = root
all_found image order root followed (IsReached.step n placed leads up) =
    let above = in_from_among order placed.0.number (all_found image order root followed up) in
    let at = contains_from_in order placed.0.number above in
    let from = entry_to_from image n placed leads in
    let number : placed.0.number ≡ get_or order at.0 0 = sym at.2 ∙ get_or_default_zero order at.0 placed.0.number at.1 in
    let found = followed at.0 at.1 placed.0 (contains_from_in image placed.0 from.0) number in
    subst (λ k. is_among order k ≡ true) from.2
    (holds_in (λ (e : List ℕ × ℕ). is_among order e.1 ≡ true) (entries_of placed.0.body) placed.1
    (recursion_from_All (λ e. is_among order e.1 ≡ true) (entries_of placed.0.body) found) from.1)

pub reached_more : (image : Image) (order : List ℕ) (child parent at : ℕ) → All (IsReached image) order → is_among order parent ≡ true → IsEntryTo image child parent at
    → All (IsReached image) (order ++ child ∷ [])
reached_more image order child parent at reached found led =
    let above : IsReached image parent = holds_in (IsReached image) order parent (recursion_from_All (IsReached image) order reached) (in_from_among order parent found) in
    All-append (IsReached image) order (child ∷ []) reached
    (All-cons (IsReached image) child [] (IsReached.step child led.placed led.leads (subst (IsReached image) (sym led.has) above)) (All-nil (IsReached image)))

-- one more is followed
pub followed_more : (image : Image) (before after more : List ℕ) (next : ℕ) → after ≡ before ++ more → next < length before → AreFollowed image before next
    → IsFollowed image after (get_or before next 0) → AreFollowed image after (next + 1)
followed_more image before after more next grown lt followed own k below dir there number = elim (cases_lt k next) [
  | inl earlier ↦
      let same : get_or after k 0 ≡ get_or before k 0 = ap (λ (l : List ℕ). get_or l k 0) grown ∙ get_or_append_left before more 0 k (omega arith) in
      subst (λ l. AreFound l (entries_of dir.body)) (sym grown) (found_more before more (entries_of dir.body) (followed k earlier dir there (number ∙ same)))
  | inr late ↦
      let index : k ≡ next = omega arith in
      let same : get_or after k 0 ≡ get_or before next 0 = (λ i. get_or (grown i) (index i) 0) ∙ get_or_append_left before more 0 next lt in
      own dir there (number ∙ same)
]

pub none_followed : (image : Image) (order : List ℕ) → AreFollowed image order 0
none_followed image order k lt = absurd (omega (arith, lt))

-- an entry's line is the way to the entry's child
pub led_by : (image : Image) → HasGoodChildren image → (n : ℕ) (passed more entries : Entries) (e : List ℕ × ℕ) (rest : List ℕ) → HasEntries image n entries
    → passed ++ e ∷ more ≡ entries → IsRestOf (image_text image) rest → entry_of_line (before_first is_line_feed rest) ≡ Some e
    → IsEntryTo image e.1 n (length (image_text image) - length rest)
led_by image good n passed more entries e rest own parts end line = record {
  placed = (own.dir, e);
  leads = entry_to_own image good own.dir e (in_from_contains image own.dir own.there)
      (subst (In e) (parts ∙ sym own.own) (in_back e passed (e ∷ more) (inl refl)));
  has = own.number;
  line = ap (λ (l : List ℕ). entry_of_line (before_first is_line_feed l)) (sym end) ∙ line;
}

pub rest_within : (text rest : List ℕ) → IsRestOf text rest → length rest ≤ length text
rest_within text rest end =
    let long = ap length end ∙ length-drop (length text - length rest) text in
    omega (arith, long)

-- what was found by some way is among those that were
pub way_found : (image : Image) (found : Bool) (n : ℕ) (way : Way) → IsWayTo image found n way → (way ≡ Nowhere → ⊥) → found ≡ true
way_found image found n Nowhere is some = absurd (some refl)
way_found image found n AtRoot is some = is.0
way_found image found n (By parent at) is some = is.0

pub node_of_index : (image : Image) (i n : ℕ) → i < length (numbers_of image) → get_or (numbers_of image) i 0 ≡ n → (node : ImageNode) × (slice_get image i ≡ Some node) × (node.number ≡ n)
node_of_index [] i n lt is = absurd (omega arith)
node_of_index (node ∷ image) zero n lt is = (node, refl, is)
node_of_index (node ∷ image) (suc i) n lt is = node_of_index image i n (omega arith) is

-- if there is a way to a node, it was found
pub was_found : (image : Image) (order : List ℕ) (ways : List Way) (index child : ℕ) (way : Way) → AreWays image (is_among order) ways → IsIndexOf (numbers_of image) child (Some index)
    → way ≡ get_or ways index way → (way ≡ Nowhere → ⊥) → is_among order child ≡ true
was_found image order ways index child way are is read some =
    let node = node_of_index image index child is.0 is.1 in
    let long : length (numbers_of image) ≡ length image = length-map _ _ in
    let same : way ≡ get_or ways index Nowhere = read ∙ get_or_default ways index way Nowhere (omega (arith, long, is.0, are.long)) in
    let own : IsWayTo image (is_among order child) child (get_or ways index Nowhere) =
    subst (λ n. IsWayTo image (is_among order n) n (get_or ways index Nowhere)) node.2 (are.each index node.0 node.1) in
    way_found image (is_among order child) child way (subst (IsWayTo image (is_among order child) child) (sym same) own) some

pub root_first : (image : Image) → BeginsWithRoot image → IsIndexOf (numbers_of image) 0 (Some 0)
root_first [] root = absurd root
root_first (node ∷ image) root = ((let e : 0 < length (numbers_of (node ∷ image)) = omega arith in e), root.0)

pub index_within : (image : Image) (order : List ℕ) (ways : List Way) (n index : ℕ) → AreWays image (is_among order) ways → IsIndexOf (numbers_of image) n (Some index) → index < length ways
index_within image order ways n index are is =
    let long : length (numbers_of image) ≡ length image = length-map _ _ in
    omega (arith, long, is.0, are.long)

-- what was found and reached is a node
pub not_missing : (image : Image) → IsImage image → (order : List ℕ) (n : ℕ) → All (IsReached image) order → is_among order n ≡ true → list_any (nat_eq n) (numbers_of image) ≡ false → ⊥
not_missing image is order n reached found missing =
    let own : IsReached image n = holds_in (IsReached image) order n (recursion_from_All (IsReached image) order reached) (in_from_among order n found) in
    absurd (cc (among_from_in (numbers_of image) n (reached_there image is own), missing))

-- the node of an index is the only one of its number
pub only_node : (image : Image) → IsImage image → (n index : ℕ) (node dir : ImageNode) → IsIndexOf (numbers_of image) n (Some index) → slice_get image index ≡ Some node
    → Contains image dir → dir.number ≡ n → dir ≡ node
only_node image is n index node dir at got there number =
    let k = get_from_in image dir (in_from_contains image dir there) in
    let own = number_at image index node got in
    same_node image is.lines.rising k.0 index dir node k.1 got (number ∙ sym at.1 ∙ own.1)

-- only a directory has entries
pub no_entries : (kind : NodeKind) (lines : List (List ℕ)) → ((size : ℕ) × (kind ≡ File size)) ⊎ ((target : List ℕ) × (kind ≡ Link target)) → entries_of (body_at kind lines) ≡ []
no_entries kind lines (inl file) = ap (λ k. entries_of (body_at k lines)) file.1
no_entries kind lines (inr link) = ap (λ k. entries_of (body_at k lines)) link.1
