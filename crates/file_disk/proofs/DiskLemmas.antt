-- A file's blocks after a change of them, and the next block of a loop over them.
use Rattle.std.proofs.Common.{◌≡◌, ℕ, ◌+◌, ◌-◌, ◌<◌, ◌≤◌, Option, None, Some, List, ◌++◌, length, take, set}
use Rattle.std.proofs.Common.{refl, sym, ap, ◌∙◌, arith, option_map, length-append, replicate}
use Rattle.std.proofs.lemmas.List.{take_all, drop_all, append-nil, length-replicate}
use Rattle.number_map.specs.Numbered.{get, changed}
use Rattle.number_map.proofs.NumberedLemmas.{changed_here}
use Rattle.data_crypt.specs.Parts.{edited}
use Rattle.data_crypt.proofs.ChainLemmas.{edited_none, edited_more, length-edited}
use Rattle.disk_tree.specs.Blocks.{block_of, blocks_grown_to, with_block, written_over_front, zero_block}
use Rattle.disk_tree.specs.Nodes.{IsFile, blocks_of, size_of, on_body, with_blocks}
use Rattle.disk_tree.specs.DiskTree.{Disk, IsFileAt, of_node, blocks_in, size_in, file_blocks, file_size}
use Rattle.disk_tree.specs.declared.node.StoredNode.{StoredNode}
use Rattle.disk_tree.specs.declared.node.Body.{Body}
use Rattle.disk_tree.specs.declared.node.Body.TheVariants.{Dir, File, Link}
use Rattle.disk_tree.proofs.ChangeLemmas.{changed_fixed, changed_alike, changed_twice}

-- ---- a file that has blocks

module _ (g : List (List ℕ) → List (List ℕ)) where
  in_body : (body : Body) → 0 < length (blocks_of body) → blocks_of (with_blocks g body) ≡ g (blocks_of body)
  in_body (Dir entries) some = absurd (omega arith)
  in_body (File blocks size) some = refl
  in_body (Link target) some = absurd (omega arith)

  in_node : (o : Option StoredNode) → 0 < length (blocks_in o)
      → blocks_in (option_map (on_body (with_blocks g)) o) ≡ g (blocks_in o)
  in_node None some = absurd (omega arith)
  in_node (Some node) some = in_body node.body some

  pub blocks_changed : (disk : Disk) (file : ℕ) → 0 < length (file_blocks disk file)
      → file_blocks (changed disk file (on_body (with_blocks g))) file ≡ g (file_blocks disk file)
  blocks_changed disk file some =
      ap blocks_in (changed_here disk file (on_body (with_blocks g))) ∙ in_node (get disk file) some

  of_file : (body : Body) → IsFile body → blocks_of (with_blocks g body) ≡ g (blocks_of body)
  of_file (Dir entries) file = absurd file
  of_file (File blocks size) file = refl
  of_file (Link target) file = absurd file

  of_file_node : (o : Option StoredNode) → of_node ⊥ (λ node. IsFile node.body) o
      → blocks_in (option_map (on_body (with_blocks g)) o) ≡ g (blocks_in o)
  of_file_node None file = absurd file
  of_file_node (Some node) file = of_file node.body file

  -- the same of any file
  pub file_changed : (disk : Disk) (file : ℕ) → IsFileAt disk file
      → file_blocks (changed disk file (on_body (with_blocks g))) file ≡ g (file_blocks disk file)
  file_changed disk file is =
      ap blocks_in (changed_here disk file (on_body (with_blocks g))) ∙ of_file_node (get disk file) is

  body_size : (body : Body) → size_of (with_blocks g body) ≡ size_of body
  body_size (Dir entries) = refl
  body_size (File blocks size) = refl
  body_size (Link target) = refl

  node_size : (o : Option StoredNode) → size_in (option_map (on_body (with_blocks g)) o) ≡ size_in o
  node_size None = refl
  node_size (Some node) = body_size node.body

  -- a change of the blocks leaves the size
  pub size_stays : (disk : Disk) (file : ℕ) → file_size (changed disk file (on_body (with_blocks g))) file
      ≡ file_size disk file
  size_stays disk file =
      ap size_in (changed_here disk file (on_body (with_blocks g))) ∙ node_size (get disk file)

-- a file that grows has `end` blocks or more
pub grown_there : (disk : Disk) (file end : ℕ) → IsFileAt disk file
    → end ≤ length (file_blocks (changed disk file (on_body (with_blocks (blocks_grown_to end)))) file)
grown_there disk file end is =
    let all : length (file_blocks (changed disk file (on_body (with_blocks (blocks_grown_to end)))) file)
    ≡ length (file_blocks disk file) + (end - length (file_blocks disk file))
    = ap length (file_changed (blocks_grown_to end) disk file is)
    ∙ length-append (file_blocks disk file) (replicate (end - length (file_blocks disk file)) zero_block)
    ∙ ap (λ n. length (file_blocks disk file) + n)
    (length-replicate (end - length (file_blocks disk file)) zero_block) in
    omega arith

-- what a whole block that is written over another leaves
pub written_whole : (block w : List ℕ) → length block ≡ length w → written_over_front block w ≡ w
written_whole block w same =
    ap (λ rest. take (length block) (w ++ rest)) (drop_all (length w) block (omega arith))
    ∙ ap (λ xs. take (length block) xs) (append-nil w) ∙ take_all (length block) w (omega arith)

-- ---- the loop

module _ (made : ℕ → List ℕ → List ℕ) (first : ℕ) where
  same_body : (body : Body) → with_blocks (edited made first first) body ≡ body
  same_body (Dir entries) = refl
  same_body (File blocks size) = ap (λ bs. File bs size) (edited_none made first blocks)
  same_body (Link target) = refl

  -- no block is made again yet
  pub blocks_begin : (disk : Disk) (file : ℕ) → disk
      ≡ changed disk file (on_body (with_blocks (edited made first first)))
  blocks_begin disk file =
      sym (changed_fixed disk file (on_body (with_blocks (edited made first first)))
      (λ node there. ap (λ (b : Body). let n : StoredNode = record node { body = b } in n)
      (same_body node.body)))

  -- the blocks as far as the loop has come
  pub blocks_so_far : (j : ℕ) (disk now : Disk) (file : ℕ)
      → now ≡ changed disk file (on_body (with_blocks (edited made first j)))
      → 0 < length (file_blocks disk file) →
      file_blocks now file ≡ edited made first j (file_blocks disk file)
  blocks_so_far j disk now file is some =
      ap (λ d. file_blocks d file) is ∙ blocks_changed (edited made first j) disk file some

  pub there_so_far : (j : ℕ) (disk now : Disk) (file : ℕ)
      → now ≡ changed disk file (on_body (with_blocks (edited made first j)))
      → j < length (file_blocks disk file) → j < length (file_blocks now file)
  there_so_far j disk now file is low =
      omega (
        arith,
        ap length (blocks_so_far j disk now file is (omega arith)),
        length-edited made first j (file_blocks disk file),
      )

  module _ (j : ℕ) (from : first ≤ j) where
    next_body : (block : List ℕ) (body : Body) → j < length (blocks_of body)
        → block ≡ made j (block_of (edited made first j (blocks_of body)) j) →
        length (block_of (edited made first j (blocks_of body)) j) ≡ length block →
        with_blocks (with_block j block) (with_blocks (edited made first j) body)
        ≡ with_blocks (edited made first (j + 1)) body
    next_body block (Dir entries) low is size = absurd (omega arith)
    next_body block (File blocks bytes) low is size =
        ap (λ bs. File bs bytes)
        (ap (set (edited made first j blocks) j) (written_whole
        (block_of (edited made first j blocks) j) block size)
        ∙ edited_more made first j blocks block from low is)
    next_body block (Link target) low is size = absurd (omega arith)

    -- one block more is
    pub disk_next : (disk : Disk) (file : ℕ) (block : List ℕ) → j < length (file_blocks disk file) →
        block ≡ made j (block_of (edited made first j (file_blocks disk file)) j)
        → length (block_of (edited made first j (file_blocks disk file)) j) ≡ length block →
        changed (changed disk file (on_body (with_blocks (edited made first j)))) file
        (on_body (with_blocks (with_block j block)))
        ≡ changed disk file (on_body (with_blocks (edited made first (j + 1))))
    disk_next disk file block low is size =
        changed_twice disk file (on_body (with_blocks (edited made first j)))
        (on_body (with_blocks (with_block j block)))
        ∙ changed_alike disk file (λ v. on_body (with_blocks (with_block j block))
        (on_body (with_blocks (edited made first j)) v)) (on_body (with_blocks (edited made first (j + 1))))
        (λ node there.
        let here : file_blocks disk file ≡ blocks_of node.body = ap blocks_in there in
        ap (λ (b : Body). let n : StoredNode = record node { body = b } in n)
        (next_body block node.body (omega (arith, ap length here))
        (is ∙ ap (λ bs. made j (block_of (edited made first j bs) j)) here)
        (ap (λ bs. length (block_of (edited made first j bs) j)) (sym here) ∙ size)))
