-- The blocks of the disk are those of the mount's files, before and after a write.
use Rattle.std.proofs.Common.{◌≡◌, ℕ, ◌+◌, ◌<◌, true, false, List, [], ◌∷◌, length, Option, Some, None, option_map, inl, inr, refl, sym, ap, ◌∙◌, arith}
use Rattle.std.specs.Prelude.{max}
use Rattle.std.specs.List.{sum_by}
use Rattle.std.specs.Option.{option_map_or}
use Rattle.std.proofs.lemmas.Bool.{cases_Bool, cases_lt, lt-ltb, le-ltb, ltb-true}
use Rattle.std.proofs.lemmas.Grind.{div_ceil_times}
use Rattle.std.proofs.lemmas.List.Sums.{sum_by-cons}
use Rattle.byte_words.specs.Contents.{with_bytes}
use Rattle.number_map.specs.Numbered.{get, entries}
use Rattle.number_map.proofs.AgreementLemmas.{mapped, agree_entries_by}
use Rattle.data_crypt.specs.Blocks.{block_count, stored_block}
use Rattle.data_crypt.proofs.ContentsLemmas.{length-blocks_by}
use Rattle.data_crypt.proofs.ChainLemmas.{count-with_bytes}
use Rattle.plain_tree.specs.Nodes.{Node, Body, Dir, File, Link, Nodes, contents_of}
use Rattle.plain_tree.specs.Facts.{AgreesBy}
use Rattle.policy_ctx.specs.declared.policy.Context.{Context}
use Rattle.disk_tree.specs.DiskTree.{Disk, blocks_in, file_blocks, block_total as disk_total}
use Rattle.disk_tree.specs.Nodes.{blocks_of}
use Rattle.disk_tree.specs.declared.node.StoredNode.{StoredNode}
use Rattle.file_disk.specs.Bodies.{ExceedsDisk, end_block}
use Rattle.mount_model.specs.PlainMount.{PlainMount, Raws}
use Rattle.mount_model.specs.FileAnswers.{contents_at, lacks_blocks_for}
use Rattle.mount_model.specs.Blocks.{block_total, block_count as plain_count}
use Rattle.mount_state.specs.Stored.{stored_node, stored_body, contents_seal}
use Rattle.mount_state.specs.Represents.{Represents}
use Rattle.mount_state.specs.declared.state.MountState.{MountState}

-- ---- blocks

blocks_stored : (raws : Raws) (n : ℕ) (context : Option Context) (b : Body) → length (blocks_of (stored_body raws n context b)) ≡ plain_count (contents_of b)
unfolding block_count
blocks_stored raws n context (Dir children) = refl
blocks_stored raws n context (File contents) = length-blocks_by (stored_block (contents_seal raws n context)) contents
blocks_stored raws n context (Link target) = refl

-- of one node
blocks_at : (raws : Raws) (n : ℕ) (o : Option Node) → length (blocks_in (option_map (stored_node raws n) o)) ≡ plain_count (option_map_or (λ v. contents_of v.body) o [])
blocks_at raws n None = refl
blocks_at raws n (Some v) = blocks_stored raws n v.context v.body

-- of all
abbrev disk_value : ℕ × StoredNode → ℕ
disk_value e = length (blocks_of e.1.body)

abbrev plain_value : ℕ × Node → ℕ
plain_value e = plain_count (contents_of e.1.body)

sums_alike : (raws : Raws) (es : List (ℕ × Node)) → sum_by disk_value (mapped (stored_node raws) es) ≡ sum_by plain_value es
sums_alike raws [] = refl
sums_alike raws (e ∷ es) =
    sum_by-cons disk_value (e.0, stored_node raws e.0 e.1) (mapped (stored_node raws) es)
    ∙ (λ i. blocks_stored raws e.0 e.1.context e.1.body i + sums_alike raws es i)
    ∙ sym (sum_by-cons plain_value e es)

totals_alike : (raws : Raws) (nodes : Nodes) (disk : Disk) → AgreesBy (stored_node raws) nodes disk → disk_total disk ≡ block_total nodes
unfolding disk_total block_total
totals_alike raws nodes disk agree = ap (sum_by disk_value) (agree_entries_by (stored_node raws) nodes disk agree) ∙ sums_alike raws (entries nodes)

-- ---- whether there is space for a write

none_written : (offset : ℕ) (contents : List ℕ) → with_bytes offset [] contents ≡ contents
unfolding with_bytes
none_written offset contents = refl

-- with bytes a file has at least as many blocks as they need
count_written : (offset : ℕ) (bytes contents : List ℕ) → 0 < length bytes
    → plain_count (with_bytes offset bytes contents) ≡ max (plain_count contents) (end_block offset bytes)
unfolding block_count
count_written offset bytes contents some =
    let whole = div_ceil_times (offset + length bytes) 4096 (omega arith) in
    count-with_bytes offset bytes contents (end_block offset bytes) some (omega (arith, whole)) (omega (arith, whole))

module _ (s : MountState) (m : PlainMount) (st : Represents s m) (file offset : ℕ) (bytes : List ℕ) where
  total : disk_total s.disk ≡ block_total m.nodes
  total = totals_alike m.raws m.nodes s.disk st.tree.nodes

  here : length (file_blocks s.disk file) ≡ plain_count (contents_at m.nodes file)
  here = ap (λ (o : Option StoredNode). length (blocks_in o)) (st.tree.nodes file) ∙ blocks_at m.raws file (get m.nodes file)

  pub room_for_none : length bytes ≡ 0 → lacks_blocks_for m file offset bytes ≡ false
  room_for_none none = by bytes none
    where
      by : (bs : List ℕ) → length bs ≡ 0 → lacks_blocks_for m file offset bs ≡ false
      by [] none =
          let same : plain_count (with_bytes offset [] (contents_at m.nodes file)) ≡ plain_count (contents_at m.nodes file) = ap plain_count (none_written offset (contents_at m.nodes file)) in
          le-ltb _ _ (omega arith)
      by (x ∷ xs) some = absurd (omega arith)

  pub exceeds : 0 < length bytes → lacks_blocks_for m file offset bytes ≡ true → ExceedsDisk s.disk file offset bytes
  exceeds some lacks =
      let more = ltb-true _ _ lacks in
      let count = count_written offset bytes (contents_at m.nodes file) some in
      let few = st.well.nodes.blocks in
      omega (arith, more, count, few, total, here)

  pub lacks_room : 0 < length bytes → ExceedsDisk s.disk file offset bytes → lacks_blocks_for m file offset bytes ≡ true
  lacks_room some over =
      let count = count_written offset bytes (contents_at m.nodes file) some in
      let few = st.well.nodes.blocks in
      lt-ltb _ _ (omega (arith, over, count, few, total, here))

  -- there is space, if the bytes don't exceed the disk
  pub room_left : (0 < length bytes → ExceedsDisk s.disk file offset bytes → ⊥) → lacks_blocks_for m file offset bytes ≡ false
  room_left fits = elim (cases_Bool (lacks_blocks_for m file offset bytes)) [
    | inl lacks ↦ elim (cases_lt 0 (length bytes)) [
      | inl some ↦ absurd (fits some (exceeds some lacks))
      | inr none ↦ room_for_none (omega arith)
    ]
    | inr room ↦ room
  ]
