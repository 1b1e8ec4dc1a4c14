-- To which nodes entries refer: no line is at fault exactly when the rules on children hold.
use Rattle.std.proofs.Common.{◌≡◌, ◌≢◌, ℕ, ◌+◌, ◌==◌, ◌&&◌, Bool, true, false, not, List, [], ◌∷◌, ◌++◌, map, Option, Some, None, refl, sym, ap, ◌∙◌, subst, inl, inr, append_assoc, nat_eq, get_or}
use Rattle.std.specs.Prelude.{Contains, is_some, ⊤}
use Rattle.std.specs.List.{AllByRecursion, IsDistinct, list_any, flat_map}
use Rattle.std.specs.Cmp.{nat_eq_equiv}
use Rattle.std.proofs.lemmas.Bool.{and_parts, or_parts, or_from, cases_Bool, eqb-true, eq-eqb, ne_eqb}
use Rattle.std.proofs.lemmas.List.Folds.{list_any_at, Any-from_list_any}
use Rattle.std.proofs.lemmas.List.Elements.{All-from_recursion, recursion_from_All}
use Rattle.disk_tree.specs.Entries.{Entries}
use Rattle.disk_tree.specs.Nodes.{entries_of}
use Rattle.disk_tree.specs.declared.node.Body.{Body}
use Rattle.disk_tree.specs.declared.node.Body.TheVariants as body
use Rattle.image_lines.specs.Image.{Image, ImageNode, numbers_of, all_entries, children_of}
use Rattle.image_lines.specs.ImageText.{header, entry_line, block_line, body_lines, node_lines, line_of}
use Rattle.image_lines.specs.Rules.{HasGoodChildren}
use Rattle.image_lines.specs.NodeRules.{IsEntry, IsBody, IsNode}
use Rattle.image_lines.specs.Lines.{entry_of_line}
use Rattle.image_lines.specs.ChildFaults.{may_name_child, after_entry, child_fault_from}
use Rattle.image_lines.proofs.LineLaws.{entry_told_again, node_is_no_entry, block_is_no_entry}
use Rattle.image_lines.proofs.Bodies.{entry_line_from}
use Rattle.image_lines.proofs.ReadingLaws.{lines_of}

-- ---- the entries of a text

abbrev if_entry : Option (List ℕ × ℕ) → Entries → Entries
if_entry None others = others
if_entry (Some e) others = e ∷ others

told : List (List ℕ) → Entries
told [] = []
told (line ∷ lines) = if_entry (entry_of_line line) (told lines)

-- each may refer to its child, after the earlier ones
abbrev AreLed : List ℕ → List ℕ → Entries → Type 0
AreLed numbers earlier [] = ⊤
AreLed numbers earlier (e ∷ es) = (may_name_child numbers earlier e.1 ≡ true) × AreLed numbers (e.1 ∷ earlier) es

led_from_text : (numbers earlier : List ℕ) (k : ℕ) (ps : List (List ℕ)) → child_fault_from k numbers earlier ps ≡ None → AreLed numbers earlier (told ps)
unfolding child_fault_from told
led_from_text numbers earlier k [] h = tt
led_from_text numbers earlier k (line ∷ ps) h = go (entry_of_line line) refl (λ more e. led_from_text numbers more (k + 1) ps e)
  where
    go : (o : Option (List ℕ × ℕ)) → entry_of_line line ≡ o → ((more : List ℕ) → child_fault_from (k + 1) numbers more ps ≡ None → AreLed numbers more (told ps))
        → AreLed numbers earlier (if_entry (entry_of_line line) (told ps))
    go None e later = rw e (later earlier (rw e at h))
    go (Some x) e later =
        elim (cases_Bool (may_name_child numbers earlier x.1)) [
          | inl fits ↦ rw e (fits, later (x.1 ∷ earlier) (rw (e, fits) at h))
          | inr unfit ↦ absurd (cc (rw (e, unfit) at h))
        ]

text_from_led : (numbers earlier : List ℕ) (k : ℕ) (ps : List (List ℕ)) → AreLed numbers earlier (told ps) → child_fault_from k numbers earlier ps ≡ None
unfolding child_fault_from told
text_from_led numbers earlier k [] h = refl
text_from_led numbers earlier k (line ∷ ps) h = go (entry_of_line line) refl (λ more e. text_from_led numbers more (k + 1) ps e)
  where
    go : (o : Option (List ℕ × ℕ)) → entry_of_line line ≡ o → ((more : List ℕ) → AreLed numbers more (told ps) → child_fault_from (k + 1) numbers more ps ≡ None)
        → after_entry k numbers earlier (entry_of_line line) (λ more. child_fault_from (k + 1) numbers more ps) ≡ None
    go None e later = rw e (later earlier (rw e at h))
    go (Some x) e later =
        let parts : AreLed numbers earlier (x ∷ told ps) = rw e at h in
        let fits = parts.0 in
        rw (e, fits) (later (x.1 ∷ earlier) parts.1)

-- ---- those of an image's text

behind_one : (o : Option (List ℕ × ℕ)) (both xs ys : Entries) → both ≡ xs ++ ys → if_entry o both ≡ if_entry o xs ++ ys
behind_one None both xs ys e = e
behind_one (Some n) both xs ys e = ap (λ l. n ∷ l) e

told_both : (xs ys : List (List ℕ)) → told (xs ++ ys) ≡ told xs ++ told ys
unfolding told
told_both [] ys = refl
told_both (x ∷ xs) ys = behind_one (entry_of_line x) (told (xs ++ ys)) (told xs) (told ys) (told_both xs ys)

told_entries : (under_policy : Bool) (es : Entries) → AllByRecursion (IsEntry under_policy) es → told (map entry_line es) ≡ es
unfolding told
told_entries under_policy [] each = refl
told_entries under_policy (e ∷ es) each =
    let is = entry_told_again e (entry_line_from under_policy e each.0) in
    rw is (ap (λ l. e ∷ l) (told_entries under_policy es each.1))

told_blocks : (blocks : List (List ℕ)) → told (map block_line blocks) ≡ []
unfolding told
told_blocks [] = refl
told_blocks (b ∷ blocks) = let none = block_is_no_entry b in rw none (told_blocks blocks)

told_body : (under_policy : Bool) (b : Body) → IsBody under_policy b → told (body_lines b) ≡ entries_of b
unfolding told
told_body under_policy (body.Dir es) is = told_entries under_policy es (recursion_from_All (IsEntry under_policy) es is.0)
told_body under_policy (body.File blocks size) is = told_blocks blocks
told_body under_policy (body.Link target) is = refl

told_node : (node : ImageNode) → IsNode node → told (node_lines node) ≡ entries_of node.body
unfolding told
told_node node is = let none = node_is_no_entry (line_of node) in rw none (told_body (is_some node.context) node.body is.body)

told_nodes : (image : Image) → AllByRecursion IsNode image → told (lines_of image) ≡ all_entries image
unfolding told entry_of_line
told_nodes [] each = refl
told_nodes (node ∷ image) each =
    ap told (append_assoc (node_lines node) (flat_map node_lines image) ([] ∷ []))
    ∙ told_both (node_lines node) (lines_of image)
    ∙ (λ i. told_node node each.0 i ++ told_nodes image each.1 i)

header_is_no_entry : entry_of_line header ≡ None
unfolding entry_of_line
header_is_no_entry = refl

told_image : (image : Image) → AllByRecursion IsNode image → told (header ∷ lines_of image) ≡ all_entries image
unfolding told
told_image image each = ap (λ o. if_entry o (told (lines_of image))) header_is_no_entry ∙ told_nodes image each

-- ---- the rules

any_from_contains : (xs : List ℕ) (x : ℕ) → Contains xs x → list_any (nat_eq x) xs ≡ true
any_from_contains xs x h = list_any_at (nat_eq x) xs h.0 x h.1 (eq-eqb x (get_or xs h.0 x) (sym h.2))

contains_from_any : (xs : List ℕ) (x : ℕ) → list_any (nat_eq x) xs ≡ true → Contains xs x
contains_from_any xs x h =
    let found = Any-from_list_any (nat_eq x) xs h in
    (found.0, found.2, subst (λ z. get_or xs found.0 z ≡ z) (sym (eqb-true x found.1 found.4)) found.3)

-- what entries refer to
abbrev led_to : Entries → List ℕ
led_to es = map (λ e. e.1) es

-- none of them is among these
abbrev AreNew : List ℕ → List ℕ → Type 0
AreNew earlier children = AllByRecursion (λ c. list_any (nat_eq c) earlier ≡ false) children

abbrev AreThere : List ℕ → List ℕ → Type 0
AreThere numbers children = AllByRecursion (λ c. (c ≢ 0) × Contains numbers c) children

other_first : (x : ℕ) (earlier children : List ℕ) → AreNew (x ∷ earlier) children → AreNew earlier children × AllByRecursion (λ c. nat_eq x c ≡ false) children
other_first x earlier [] new = (tt, tt)
other_first x earlier (c ∷ children) new =
    let more = other_first x earlier children new.1 in
    let parts = or_parts (nat_eq c x) (list_any (nat_eq c) earlier) new.0 in
    ((parts.1, more.0), (nat_eq_equiv.symm x c ∙ parts.0, more.1))

first_other : (x : ℕ) (earlier children : List ℕ) → AreNew earlier children → AllByRecursion (λ c. nat_eq x c ≡ false) children → AreNew (x ∷ earlier) children
first_other x earlier [] new other = tt
first_other x earlier (c ∷ children) new other =
    (or_from (nat_eq c x) (list_any (nat_eq c) earlier) (nat_eq_equiv.symm c x ∙ other.0) new.0, first_other x earlier children new.1 other.1)

not_false : (b : Bool) → not b ≡ true → b ≡ false
not_false false h = refl
not_false true h = absurd (cc h)

rules_from_led : (numbers earlier : List ℕ) (es : Entries) → AreLed numbers earlier es
    → AreThere numbers (led_to es) × IsDistinct nat_eq (led_to es) × AreNew earlier (led_to es)
unfolding IsDistinct
rules_from_led numbers earlier [] led = (tt, tt, tt)
rules_from_led numbers earlier (e ∷ es) led =
    let parts = and_parts (not (e.1 == 0)) (list_any (nat_eq e.1) numbers && not (list_any (nat_eq e.1) earlier)) led.0 in
    let rest = and_parts (list_any (nat_eq e.1) numbers) (not (list_any (nat_eq e.1) earlier)) parts.1 in
    let more = rules_from_led numbers (e.1 ∷ earlier) es led.1 in
    let new = other_first e.1 earlier (led_to es) more.2 in
    (((not_root e.1 (not_false (e.1 == 0) parts.0), contains_from_any numbers e.1 rest.0), more.0), (new.1, more.1), (not_false (list_any (nat_eq e.1) earlier) rest.1, new.0))
  where
    not_root : (n : ℕ) → (n == 0) ≡ false → n ≢ 0
    not_root n h is = absurd (cc (sym h ∙ eq-eqb n 0 is))

led_from_rules : (numbers earlier : List ℕ) (es : Entries) → AreThere numbers (led_to es) → IsDistinct nat_eq (led_to es) → AreNew earlier (led_to es)
    → AreLed numbers earlier es
unfolding IsDistinct
led_from_rules numbers earlier [] there once new = tt
led_from_rules numbers earlier (e ∷ es) there once new =
    let some : (e.1 == 0) ≡ false = ne_eqb e.1 0 there.0.0 in
    let known : list_any (nat_eq e.1) numbers ≡ true = any_from_contains numbers e.1 there.0.1 in
    let first : list_any (nat_eq e.1) earlier ≡ false = new.0 in (
      rw (some, known, first) refl,
      led_from_rules numbers (e.1 ∷ earlier) es there.1 once.1 (first_other e.1 earlier (led_to es) new.1 once.0),
    )

all_new : (children : List ℕ) → AreNew [] children
all_new [] = tt
all_new (c ∷ children) = (refl, all_new children)

pub children_found : (image : Image) → AllByRecursion IsNode image → child_fault_from 1 (numbers_of image) [] (header ∷ lines_of image) ≡ None → HasGoodChildren image
children_found image each h =
    let led = subst (AreLed (numbers_of image) []) (told_image image each) (led_from_text (numbers_of image) [] 1 (header ∷ lines_of image) h) in
    let rules = rules_from_led (numbers_of image) [] (all_entries image) led in
    record { there = All-from_recursion (λ c. (c ≢ 0) × Contains (numbers_of image) c) (children_of image) rules.0; once = rules.1 }

pub children_again : (image : Image) → AllByRecursion IsNode image → HasGoodChildren image → child_fault_from 1 (numbers_of image) [] (header ∷ lines_of image) ≡ None
children_again image each good =
    let there = recursion_from_All (λ c. (c ≢ 0) × Contains (numbers_of image) c) (children_of image) good.there in
    let led = led_from_rules (numbers_of image) [] (all_entries image) there good.once (all_new (children_of image)) in
    text_from_led (numbers_of image) [] 1 (header ∷ lines_of image) (subst (AreLed (numbers_of image) []) (sym (told_image image each)) led)
