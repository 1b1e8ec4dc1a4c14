-- A whole write, from its steps.
use Rattle.std.proofs.Common.{◌≡◌, ℕ, ◌+◌, ◌/◌, ◌<◌, List, [], ◌∷◌, length, refl, sym, ap, ◌∙◌, arith}
use Rattle.std.specs.Prelude.{min, max, Option}
use Rattle.number_map.specs.Numbered.{changed}
use Rattle.data_crypt.specs.Blocks.{Seal, read_block, stored_block}
use Rattle.data_crypt.specs.Parts.{edited, rewritten}
use Rattle.disk_tree.specs.Blocks.{blocks_grown_to}
use Rattle.disk_tree.specs.DiskTree.{Disk, blocks_in, size_in, file_blocks, file_size}
use Rattle.disk_tree.specs.Nodes.{blocks_of, size_of, on_body, with_blocks, with_size}
use Rattle.disk_tree.specs.declared.node.StoredNode.{StoredNode}
use Rattle.disk_tree.specs.declared.node.Body.{Body}
use Rattle.disk_tree.specs.declared.node.Body.TheVariants.{Dir, File, Link}
use Rattle.disk_tree.proofs.ChangeLemmas.{changed_fixed, changed_alike, changed_twice}
use Rattle.file_disk.specs.Bodies.{end_block, blocks_with, body_after_write}
use Rattle.file_disk.proofs.DiskLemmas.{size_stays}

-- without bytes nothing changes
pub nothing_written : (seal : Option Seal) (at : ℕ) (bytes : List ℕ) → length bytes ≡ 0
    → (disk : Disk) (file : ℕ) → disk ≡ changed disk file (on_body (body_after_write seal at bytes))
nothing_written seal at [] none disk file = sym
    (changed_fixed disk file (on_body (body_after_write seal at [])) (λ node there. refl))
nothing_written seal at (b ∷ bs) none disk file = absurd (omega arith)

module _ (seal : Option Seal) (at : ℕ) where
  abbrev made : ℕ → List ℕ → ℕ → List ℕ → List ℕ
  made had bytes = rewritten (stored_block seal) (read_block seal) had at bytes

  -- the three steps of a body
  body_done : (bytes : List ℕ) → 0 < length bytes → (had size : ℕ) (body : Body)
      → had ≡ length (blocks_of body) → size ≡ max (size_of body) (at + length bytes) →
      with_size size (with_blocks (edited (made had bytes) (min had (at / 4096)) (end_block at bytes))
      (with_blocks (blocks_grown_to (end_block at bytes)) body)) ≡ body_after_write seal at bytes body
  unfolding blocks_with
  body_done [] some had size body has is = absurd (omega arith)
  body_done (b ∷ bs) some had size (Dir entries) has is = refl
  body_done (b ∷ bs) some had size (File blocks old) has is =
      λ i. File (edited (made (has i) (b ∷ bs)) (min (has i) (at / 4096)) (end_block at (b ∷ bs))
      (blocks_grown_to (end_block at (b ∷ bs)) blocks)) (is i)
  body_done (b ∷ bs) some had size (Link target) has is = refl

  pub write_done : (bytes : List ℕ) (disk grew rewrote sized : Disk) (file had first end size : ℕ)
      → 0 < length bytes → had ≡ length (file_blocks disk file) → first ≡ min had (at / 4096)
      → end ≡ end_block at bytes →
      grew ≡ changed disk file (on_body (with_blocks (blocks_grown_to end))) →
      rewrote ≡ changed grew file (on_body (with_blocks (edited (made had bytes) first end))) →
      size ≡ max (file_size rewrote file) (at + length bytes) →
      sized ≡ changed rewrote file (on_body (with_size size)) →
      sized ≡ changed disk file (on_body (body_after_write seal at bytes))
  write_done bytes disk grew rewrote sized file had first end size some has begins ends grows rewrites is sizes =
      let G : StoredNode → StoredNode = on_body (with_blocks (blocks_grown_to end)) in
      let E : StoredNode → StoredNode = on_body (with_blocks (edited (made had bytes) first end)) in
      let S : StoredNode → StoredNode = on_body (with_size size) in
      let old_size : file_size rewrote file ≡ file_size disk file
      = ap (λ d. file_size d file) rewrites ∙ size_stays (edited (made had bytes) first end) grew file
      ∙ ap (λ d. file_size d file) grows ∙ size_stays (blocks_grown_to end) disk file in
      sizes ∙ ap (λ d. changed d file S) (rewrites ∙ ap (λ d. changed d file E) grows
      ∙ changed_twice disk file G E)
      ∙ changed_twice disk file (λ v. E (G v)) S
      ∙ changed_alike disk file (λ v. S (E (G v))) (on_body (body_after_write seal at bytes))
      (λ node there.
      let blocks : had ≡ length (blocks_of node.body) = has ∙ ap (λ o. length (blocks_in o)) there in
      let whole : size ≡ max (size_of node.body) (at + length bytes) =
      is ∙ ap (λ n. max n (at + length bytes)) (old_size ∙ ap size_in there) in
      ap (λ (b : Body). let n : StoredNode = record node { body = b } in n)
      ((λ i. with_size size (with_blocks (edited (made had bytes) (begins i) (ends i))
      (with_blocks (blocks_grown_to (ends i)) node.body)))
      ∙ body_done bytes some had size node.body blocks whole))
