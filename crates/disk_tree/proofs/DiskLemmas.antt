-- How each change of the disk changes the count of its blocks, and its entries.
use Rattle.std.proofs.Common.{◌≡◌, ℕ, ◌+◌, ◌-◌, Option, Some, None, List, [], ◌∷◌, length, replicate, inl, inr, refl, sym, ap, subst, ◌∙◌, arith, length-append, true, ◌≢◌}
use Rattle.std.proofs.lemmas.List.{length-replicate, length-set}
use Rattle.std.proofs.lemmas.Bool.{cases_eq}
use Rattle.std.specs.FinMap.{get-empty}
use Rattle.std.specs.Ordering.{nat_cmp}
use Rattle.std.specs.Str.{bytes_eq}
use Rattle.number_map.specs.Numbered.{get, insert, remove, changed, empty}
use Rattle.number_map.proofs.NumberedLemmas.{remove_same, insert_other}
use Rattle.disk_tree.specs.Entries.{Entries, number_under, with_entry, without_entry}
use Rattle.disk_tree.specs.Blocks.{zero_block, blocks_grown_to, written_over_front, block_of, with_block}
use Rattle.disk_tree.specs.Nodes.{entries_of, blocks_of, with_entries, with_blocks, with_size, on_body, named_as, IsDir, IsFile}
use Rattle.disk_tree.specs.DiskTree.{Disk, block_total, blocks_in, entries_in, file_blocks, children, of_node, IsDirAt, IsFileAt, root, first_disk}
use Rattle.disk_tree.specs.EntryChanges.{with_entry_and_name}
use Rattle.disk_tree.specs.declared.node.StoredNode.{StoredNode}
use Rattle.disk_tree.specs.declared.node.Body.{Body}
use Rattle.disk_tree.specs.declared.node.Body.TheVariants.{Dir, File, Link}
use Rattle.disk_tree.proofs.EntryLemmas.{removal_absent, removal_front}
use Rattle.disk_tree.proofs.ChangeLemmas.{changed_fixed, changed_alike, changed_twice, changed_apart}
use Rattle.number_map.proofs.TotalLemmas.{total_added, total_empty, total_removed, total_changed_to, total_changed}

abbrev pub count_of : StoredNode → ℕ
count_of node = length (blocks_of node.body)

pub total_first : block_total first_disk ≡ 0
unfolding block_total
total_first = total_added count_of empty 0 root (get-empty nat_cmp 0) ∙ omega (arith, total_empty count_of)

-- a change that preserves the number of blocks of each node
pub same_total : (old new : Disk) (k : ℕ) (f : StoredNode → StoredNode) → new ≡ changed old k f → ((v : StoredNode) → count_of (f v) ≡ count_of v) → block_total old ≡ block_total new
unfolding block_total
same_total old new k f is same = sym (ap block_total is ∙ total_changed count_of old k f same)

pub entries_keep : (g : Entries → Entries) (body : Body) → length (blocks_of (with_entries g body)) ≡ length (blocks_of body)
entries_keep g (Dir entries) = refl
entries_keep g (File blocks size) = refl
entries_keep g (Link target) = refl

pub size_keeps : (size : ℕ) (body : Body) → length (blocks_of (with_size size body)) ≡ length (blocks_of body)
size_keeps size (Dir entries) = refl
size_keeps size (File blocks old) = refl
size_keeps size (Link target) = refl

pub writing_keeps : (index : ℕ) (w : List ℕ) (body : Body) → length (blocks_of (with_blocks (with_block index w) body)) ≡ length (blocks_of body)
writing_keeps index w (Dir entries) = refl
writing_keeps index w (File blocks size) = length-set blocks index (written_over_front (block_of blocks index) w)
writing_keeps index w (Link target) = refl

-- a node without blocks is added
pub added_total : (disk : Disk) (k : ℕ) (node : StoredNode) → get disk k ≡ None → blocks_of node.body ≡ [] → block_total (insert disk k node) ≡ block_total disk
unfolding block_total
added_total disk k node absent none = total_added count_of disk k node absent ∙ omega (arith, ap length none)

removed_by_case : (disk : Disk) (k : ℕ) (o : Option StoredNode) → get disk k ≡ o → block_total (remove disk k) + length (blocks_in o) ≡ block_total disk
unfolding block_total
removed_by_case disk k None is = let same : block_total (remove disk k) ≡ block_total disk = ap block_total (remove_same disk k is) in omega arith
removed_by_case disk k (Some node) is = total_removed count_of disk k node is

-- the blocks of a node that is removed are no longer counted
pub removed_total : (disk : Disk) (k : ℕ) → block_total (remove disk k) + length (blocks_in (get disk k)) ≡ block_total disk
removed_total disk k = removed_by_case disk k (get disk k) refl

grown_count : (n : ℕ) (body : Body) → IsFile body → length (blocks_of (with_blocks (blocks_grown_to n) body)) ≡ length (blocks_of body) + (n - length (blocks_of body))
grown_count n (Dir entries) file = absurd file
grown_count n (File blocks size) file =
    length-append blocks (replicate (n - length blocks) zero_block) ∙ ap (λ k. length blocks + k) (length-replicate (n - length blocks) zero_block)
grown_count n (Link target) file = absurd file

grown_by_case : (disk : Disk) (k n : ℕ) (o : Option StoredNode) → get disk k ≡ o → of_node ⊥ (λ node. IsFile node.body) o → block_total (changed disk k (on_body (with_blocks (blocks_grown_to n)))) ≡ block_total disk + (n - length (blocks_in o))
unfolding block_total
grown_by_case disk k n None is file = absurd file
grown_by_case disk k n (Some node) is file =
    omega (arith, total_changed_to count_of disk k (on_body (with_blocks (blocks_grown_to n))) node is, grown_count n node.body file)

-- a file that grows by n blocks adds n to the total
pub grown_total : (disk : Disk) (k n : ℕ) → IsFileAt disk k → block_total (changed disk k (on_body (with_blocks (blocks_grown_to n)))) ≡ block_total disk + (n - length (file_blocks disk k))
grown_total disk k n file = grown_by_case disk k n (get disk k) refl file

body_fixed : (name : List ℕ) (body : Body) → number_under name (entries_of body) ≡ None → with_entries (without_entry name) body ≡ body
body_fixed name (Dir entries) absent = ap (λ (es : Entries). Dir es) (removal_absent (bytes_eq name) entries absent)
body_fixed name (File blocks size) absent = refl
body_fixed name (Link target) absent = refl

-- a name that is not in the directory
pub nothing_dropped : (disk : Disk) (dir : ℕ) (name : List ℕ) → number_under name (children disk dir) ≡ None → changed disk dir (on_body (with_entries (without_entry name))) ≡ disk
nothing_dropped disk dir name absent =
    changed_fixed disk dir (on_body (with_entries (without_entry name)))
    (λ node there. ap (λ (b : Body). let n : StoredNode = record node { body = b } in n)
    (body_fixed name node.body (ap (λ o. number_under name (entries_in o)) (sym there) ∙ absent)))

body_moved : (name new_name : List ℕ) (x : ℕ) (body : Body) → number_under name (entries_of body) ≡ Some x → with_entries (without_entry name) (with_entries (with_entry new_name x) body) ≡ with_entries (with_entry new_name x) (with_entries (without_entry name) body)
body_moved name new_name x (Dir entries) found = ap (λ (es : Entries). Dir es) (removal_front (bytes_eq name) entries ((new_name, x) ∷ []) x found)
body_moved name new_name x (File blocks size) found = refl
body_moved name new_name x (Link target) found = refl

-- the new entry may be made before the old one is removed
pub moved_either : (disk : Disk) (dir to : ℕ) (name new_name : List ℕ) (x : ℕ) → number_under name (children disk dir) ≡ Some x →
    changed (changed disk to (on_body (with_entries (with_entry new_name x)))) dir (on_body (with_entries (without_entry name)))
    ≡ changed (changed disk dir (on_body (with_entries (without_entry name)))) to (on_body (with_entries (with_entry new_name x)))
moved_either disk dir to name new_name x found =
    let put : StoredNode → StoredNode = on_body (with_entries (with_entry new_name x)) in
    let taken : StoredNode → StoredNode = on_body (with_entries (without_entry name)) in
    elim (cases_eq dir to) [
      | inl same ↦
          ap (λ k. changed (changed disk k put) dir taken) (sym same)
          ∙ changed_twice disk dir put taken
          ∙ changed_alike disk dir (λ v. taken (put v)) (λ v. put (taken v))
          (λ node there. ap (λ (b : Body). let n : StoredNode = record node { body = b } in n)
          (body_moved name new_name x node.body (ap (λ o. number_under name (entries_in o)) (sym there) ∙ found)))
          ∙ sym (changed_twice disk dir taken put)
          ∙ ap (λ k. changed (changed disk dir taken) k put) same
      | inr apart ↦ changed_apart disk dir to taken put apart
    ]

-- a number that has no node is no directory's
pub dir_apart : (disk : Disk) (dir number : ℕ) → IsDirAt disk dir → get disk number ≡ None → dir ≢ number
dir_apart disk dir number there absent same =
    let Holds : Option StoredNode → Type 0 = of_node ⊥ (λ node. IsDir node.body) in
    subst Holds (ap (get disk) same ∙ absent) there

-- a directory beside a node that is added
module _ (disk put : Disk) (dir number : ℕ) (node : StoredNode) (there : IsDirAt disk dir) (absent : get disk number ≡ None) (is : put ≡ insert disk number node) where
  stays_beside : get put dir ≡ get disk dir
  stays_beside = ap (λ (d : Disk). get d dir) is ∙ insert_other disk number node dir (dir_apart disk dir number there absent)

  pub dir_beside : IsDirAt put dir
  dir_beside =
      let Holds : Option StoredNode → Type 0 = of_node ⊥ (λ node. IsDir node.body) in
      subst Holds (sym stays_beside) there

  pub children_beside : children put dir ≡ children disk dir
  children_beside = ap entries_in stays_beside

-- a node without blocks is added, and an entry
pub entered_total : (disk new : Disk) (dir number : ℕ) (name : List ℕ) (node : StoredNode) → get disk number ≡ None → blocks_of node.body ≡ [] →
    new ≡ with_entry_and_name (insert disk number node) dir name number → block_total disk ≡ block_total new
entered_total disk new dir number name node absent bare is =
    let put : StoredNode → StoredNode = on_body (with_entries (with_entry name number)) in
    let added : Disk = insert disk number node in
    sym (added_total disk number node absent bare)
    ∙ same_total added (changed added dir put) dir put refl (λ v. entries_keep (with_entry name number) v.body)
    ∙ same_total (changed added dir put) new number (named_as true) is (λ v. refl)
