-- Which nodes are symlinks, and how many blocks there are, after each kind of change.
use Rattle.std.proofs.Common.{◌≡◌, ℕ, ◌-◌, ◌≤◌, Bool, true, false, List, [], Option, Some, None, refl, sym, ap, subst, ◌∙◌, arith}
use Rattle.std.specs.Option.{option_map_or}
use Rattle.policy_ctx.specs.declared.policy.Context.{Context}
use Rattle.number_map.specs.Numbered.{get, changed}
use Rattle.number_map.proofs.NumberedLemmas.{remove_same, changed_None}
use Rattle.number_map.proofs.TotalLemmas.{total_added, total_removed, total_changed, total_changed_to}
use Rattle.plain_tree.specs.Nodes.{Name, Children, Body, Dir, File, Link, Node, Nodes, contents_of, is_link}
use Rattle.plain_tree.specs.BodyChanges.{with_children, with_contents, with_child, without_child}
use Rattle.plain_tree.specs.NodesByNumber.{is_dir_at}
use Rattle.plain_tree.specs.Changes.{on_children, on_contents, named_as, with_context, with_name, without_entry_name, with_new_node, dropped, without_node, moved, written, with_node_context}
use Rattle.plain_tree.proofs.ReadLemmas.{read_changed}
use Rattle.plain_tree.proofs.MadeLemmas.{still_free}
use Rattle.mount_limits.specs.declared.TheConstants.{MAX_BLOCKS}
use Rattle.mount_model.specs.FileAnswers.{contents_at}
use Rattle.mount_model.specs.Blocks.{block_count, block_total}
use Rattle.mount_model.specs.OpenAnswers.{is_link_at}

-- ---- symlinks

abbrev pub link_in : Option Node → Bool
link_in o = option_map_or (λ v. is_link v.body) o false

pub link_children : (g : Children → Children) (b : Body) → is_link (with_children g b) ≡ is_link b
link_children g (Dir cs) = refl
link_children g (File contents) = refl
link_children g (Link target) = refl

link_contents : (f : List ℕ → List ℕ) (b : Body) → is_link (with_contents f b) ≡ is_link b
link_contents f (Dir cs) = refl
link_contents f (File contents) = refl
link_contents f (Link target) = refl

pub link_edited : (nodes : Nodes) (d : ℕ) (g : Children → Children) (n : ℕ) → is_link_at (changed nodes d (on_children g)) n ≡ is_link_at nodes n
link_edited nodes d g = read_changed link_in nodes d (on_children g) (λ v. link_children g v.body)

pub link_dropped : (nodes : Nodes) (d : ℕ) (name : Name) (x n : ℕ) → is_link_at (dropped nodes d name x) n ≡ is_link_at nodes n
link_dropped nodes d name x n =
    read_changed link_in (without_entry_name nodes d name) x (named_as false) (λ v. refl) n ∙ link_edited nodes d (without_child name) n

pub link_moved : (nodes : Nodes) (d : ℕ) (name : Name) (to : ℕ) (new_name : Name) (x n : ℕ) → is_link_at (moved nodes d name to new_name x) n ≡ is_link_at nodes n
link_moved nodes d name to new_name x n =
    link_edited (without_entry_name nodes d name) to (with_child new_name x) n ∙ link_edited nodes d (without_child name) n

pub link_written : (nodes : Nodes) (x : ℕ) (f : List ℕ → List ℕ) (n : ℕ) → is_link_at (written nodes x f) n ≡ is_link_at nodes n
link_written nodes x f = read_changed link_in nodes x (on_contents f) (λ v. link_contents f v.body)

pub link_encrypted : (nodes : Nodes) (x : ℕ) (context : Context) (n : ℕ) → is_link_at (with_node_context nodes x context) n ≡ is_link_at nodes n
link_encrypted nodes x context = read_changed link_in nodes x (with_context context) (λ v. refl)

-- ---- blocks

abbrev blocks : Node → ℕ
blocks v = block_count (contents_of v.body)

contents_children : (g : Children → Children) (b : Body) → contents_of (with_children g b) ≡ contents_of b
contents_children g (Dir cs) = refl
contents_children g (File contents) = refl
contents_children g (Link target) = refl

total_edited : (nodes : Nodes) (d : ℕ) (g : Children → Children) → block_total (changed nodes d (on_children g)) ≡ block_total nodes
unfolding block_total
total_edited nodes d g = total_changed blocks nodes d (on_children g) (λ v. ap block_count (contents_children g v.body))

total_named : (nodes : Nodes) (x : ℕ) (named : Bool) → block_total (changed nodes x (named_as named)) ≡ block_total nodes
unfolding block_total
total_named nodes x named = total_changed blocks nodes x (named_as named) (λ v. refl)

pub total_encrypted : (nodes : Nodes) (x : ℕ) (context : Context) → block_total (with_node_context nodes x context) ≡ block_total nodes
unfolding block_total
total_encrypted nodes x context = total_changed blocks nodes x (with_context context) (λ v. refl)

pub total_dropped : (nodes : Nodes) (d : ℕ) (name : Name) (x : ℕ) → block_total (dropped nodes d name x) ≡ block_total nodes
total_dropped nodes d name x = total_named (without_entry_name nodes d name) x false ∙ total_edited nodes d (without_child name)

pub total_moved : (nodes : Nodes) (d : ℕ) (name : Name) (to : ℕ) (new_name : Name) (x : ℕ) → block_total (moved nodes d name to new_name x) ≡ block_total nodes
total_moved nodes d name to new_name x = total_edited (without_entry_name nodes d name) to (with_child new_name x) ∙ total_edited nodes d (without_child name)

-- a node without contents is made
pub total_made : (nodes : Nodes) (d : ℕ) (name : Name) (x : ℕ) (v : Node) → get nodes x ≡ None → is_dir_at nodes d ≡ true → contents_of v.body ≡ []
    → block_total (with_new_node nodes d name x v) ≡ block_total nodes
unfolding block_total
total_made nodes d name x v lacks dir empty =
    let added = total_added blocks (with_name nodes d name x) x v (still_free nodes d name x v lacks dir) in
    let none : block_count (contents_of v.body) ≡ 0 = ap block_count empty in
    omega (arith, added, total_edited nodes d (with_child name x))

fewer : (nodes : Nodes) (x : ℕ) (v : Node) → get nodes x ≡ Some v → block_total (without_node nodes x) ≤ block_total nodes
unfolding block_total
fewer nodes x v there = omega (arith, total_removed blocks nodes x v there)

pub total_gone : (nodes : Nodes) (x : ℕ) → block_total (without_node nodes x) ≤ block_total nodes
total_gone nodes x = by_case (get nodes x) refl
  where
    by_case : (o : Option Node) → get nodes x ≡ o → block_total (without_node nodes x) ≤ block_total nodes
    by_case None is = let same : block_total (without_node nodes x) ≡ block_total nodes = ap block_total (remove_same nodes x is) in omega arith
    by_case (Some v) is = fewer nodes x v is

-- contents that are written: at most as many further blocks as are free
module _ (nodes : Nodes) (n : ℕ) (f : List ℕ → List ℕ) (few : block_total nodes ≤ MAX_BLOCKS) where
  same_blocks : (v : Node) → get nodes n ≡ Some v → contents_of (with_contents f v.body) ≡ contents_of v.body → block_total (written nodes n f) ≤ MAX_BLOCKS
  unfolding block_total
  same_blocks v there same =
      let new = total_changed_to blocks nodes n (on_contents f) v there in
      let count : block_count (contents_of (with_contents f v.body)) ≡ block_count (contents_of v.body) = ap block_count same in
      omega arith

  more_blocks : (v : Node) → get nodes n ≡ Some v → contents_of (with_contents f v.body) ≡ f (contents_of v.body)
      → block_count (f (contents_of v.body)) - block_count (contents_of v.body) ≤ MAX_BLOCKS - block_total nodes → block_total (written nodes n f) ≤ MAX_BLOCKS
  unfolding block_total
  more_blocks v there is room =
      let new = total_changed_to blocks nodes n (on_contents f) v there in
      let count : block_count (contents_of (with_contents f v.body)) ≡ block_count (f (contents_of v.body)) = ap block_count is in
      omega arith

  by_body : (v : Node) (b : Body) → v.body ≡ b → get nodes n ≡ Some v
      → block_count (f (contents_of v.body)) - block_count (contents_of v.body) ≤ MAX_BLOCKS - block_total nodes → block_total (written nodes n f) ≤ MAX_BLOCKS
  by_body v (Dir cs) is there room = same_blocks v there (ap (λ b. contents_of (with_contents f b)) is ∙ sym (ap contents_of is))
  by_body v (File contents) is there room = more_blocks v there (ap (λ b. contents_of (with_contents f b)) is ∙ sym (ap (λ b. f (contents_of b)) is)) room
  by_body v (Link target) is there room = same_blocks v there (ap (λ b. contents_of (with_contents f b)) is ∙ sym (ap contents_of is))

  pub total_written : block_count (f (contents_at nodes n)) - block_count (contents_at nodes n) ≤ MAX_BLOCKS - block_total nodes → block_total (written nodes n f) ≤ MAX_BLOCKS
  total_written room = by_case (get nodes n) refl
    where
      by_case : (o : Option Node) → get nodes n ≡ o → block_total (written nodes n f) ≤ MAX_BLOCKS
      by_case None is = subst (λ t. block_total t ≤ MAX_BLOCKS) (sym (changed_None nodes n (on_contents f) is)) few
      by_case (Some v) is =
          let here : contents_at nodes n ≡ contents_of v.body = ap (λ o. option_map_or (λ w. contents_of w.body) o []) is in
          by_body v v.body refl is (subst (λ c. block_count (f c) - block_count c ≤ MAX_BLOCKS - block_total nodes) here room)
