-- A state in which a node was made represents the mount in which it was.
use Rattle.std.proofs.Common.{◌≡◌, ◌≢◌, ℕ, ◌+◌, true, false, List, [], Contains, Option, Some, None, option_map, inl, refl, sym, ap, subst, ◌∙◌}
use Rattle.policy_ctx.specs.Context.{context_bytes}
use Rattle.std.proofs.lemmas.Bool.{true≢false}
use Rattle.number_map.specs.Numbered.{get, insert}
use Rattle.number_map.proofs.NumberedLemmas.{insert_other}
use Rattle.inode_refs.specs.CacheMaps.{Cache}
use Rattle.plain_tree.specs.Nodes.{Name, Children, Body, Dir, File, Link, Node}
use Rattle.plain_tree.specs.BodyChanges.{with_children, with_child}
use Rattle.plain_tree.specs.NodesByNumber.{context_in}
use Rattle.plain_tree.specs.Changes.{on_children, with_name, with_new_node}
use Rattle.plain_tree.specs.Facts.{AgreesBy}
use Rattle.disk_tree.specs.DiskTree.{Disk, IsDirAt, of_node}
use Rattle.disk_tree.specs.EntryChanges.{with_entry_and_name}
use Rattle.disk_tree.specs.Nodes.{IsDir}
use Rattle.disk_tree.specs.declared.node.StoredNode.{StoredNode}
use Rattle.disk_tree.specs.declared.node.Body.{Body as StoredBody}
use Rattle.key_ring.specs.Holding.{Holding, secret_of}
use Rattle.key_ring.specs.Modes.{Modes}
use Rattle.policy_ctx.specs.declared.policy.Context.{Context}
use Rattle.dentry_cache.specs.Names.{Pair, NameList}
use Rattle.mount_state.specs.CachedNames.{RepresentsNames, is_dir_node}
use Rattle.mount_state.specs.Handles.{Handles}
use Rattle.mount_model.specs.declared.reply.Reply.TheVariants.{Done}
use Rattle.mount_model.specs.declared.reply.Reply.{Reply}
use Rattle.mount_model.specs.PlainMount.{PlainMount}
use Rattle.mount_model.specs.AnswerForms.{Answer, done}
use Rattle.mount_model.specs.Walk.{PathParts}
use Rattle.mount_model.specs.EntryPaths.{last_part}
use Rattle.mount_model.specs.WellFormed.{IsWellFormed}
use Rattle.mount_model.specs.NameAnswers.{is_long_target, answer_to_make}
use Rattle.mount_model.specs.NewNodes.{inherited_context, new_node, with_node}
use Rattle.mount_model.specs.Carried.{IsPath}
use Rattle.mount_model.specs.declared.call.Op.TheVariants as op
use Rattle.mount_model.proofs.WalkLemmas.{parent_ok}
use Rattle.mount_model.proofs.WellSteps.{step_well}
use Rattle.data_crypt.specs.Blocks.{Seal, stored_blocks, blocks_by, block_count}
use Rattle.mount_state.specs.Stored.{stored_body, stored_node}
use Rattle.mount_state.specs.Represents.{Represents}
use Rattle.mount_state.specs.CachedKeys.{RepresentsCaches, plain_kind_of, plain_kind}
use Rattle.mount_state.specs.declared.state.MountState.{MountState}
use Rattle.mount_names.specs.Places.{Place}
use Rattle.mount_state.specs.AnswerOf.{IsAnswerOrNoMemory, IsExpectedRefusal}
use Rattle.mount_names.specs.NewPlaces.{IsPlaceAt}
use Rattle.mount_names.proofs.AgreeLemmas.{made_agrees}
use Rattle.mount_names.proofs.CachedStands.{names_made}
use Rattle.mount_names.proofs.DiskRules.{none_at_next, unheld}
use Rattle.mount_names.proofs.GivenLemmas.{due_done, is_answer_by}
use Rattle.mount_names.proofs.EditLemmas.{read_changed, read_inserted}
use Rattle.mount_names.proofs.HeldLemmas.{IsHeld, by_key, caches_alike}
use Rattle.mount_names.proofs.PlaceLemmas.{at_parent, not_refused}
use Rattle.mount_names.proofs.ReadLemmas.{dir_lies}

-- a directory stays one beside a new node
pub dir_beside : (disk : Disk) (d n : ℕ) (w : StoredNode) → IsDirAt disk d → get disk n ≡ None → IsDirAt (insert disk n w) d
dir_beside disk d n w is lacks = subst (of_node ⊥ (λ node. IsDir node.body)) (sym (insert_other disk n w d differ)) is
  where
    differ : (d ≢ n)
    differ same = subst (of_node ⊥ (λ node. IsDir node.body)) (ap (get disk) same ∙ lacks) is

kind_left : (g : Children → Children) (b : Body) → plain_kind_of (with_children g b) ≡ plain_kind_of b
kind_left g (Dir cs) = refl
kind_left g (File contents) = refl
kind_left g (Link target) = refl

module _ (old : MountState) (m : PlainMount) (st : Represents old m) (path : PathParts) (place : Place) (at : IsPlaceAt m path place) (nonce : List ℕ) (body : Body) where
  abbrev d : ℕ
  d = place.dir

  abbrev name : Name
  name = last_part path

  abbrev fresh : Node
  fresh = new_node m place.dir nonce body

  abbrev after : PlainMount
  after = with_node m place.dir (last_part path) (new_node m place.dir nonce body)

  answer_is : is_long_target body ≡ false → answer_to_make m path nonce body ≡ done after
  answer_is short =
      at_parent m path nonce body d at.named (sym at.led)
      ∙ not_refused m name nonce body d at.there.keyed at.there.free short at.there.apart at.there.room

  -- the number is new
  lacks : get old.disk old.next_node ≡ None
  lacks = none_at_next old.disk old.next_node old.ring.claims old.inodes old.modes old.handles.live old.forgets old.safe

  new_number : d ≢ m.next
  new_number same =
      let is_dir : IsDirAt old.disk d = dir_lies old.disk old.next_node m st.tree d (parent_ok m path d at.led).dir in
      subst (of_node ⊥ (λ node. IsDir node.body)) (ap (get old.disk) (same ∙ sym st.tree.next) ∙ lacks) is_dir

  cached_before : (n : ℕ) → IsHeld old.inodes old.handles.live n → (n ≢ m.next)
  cached_before n held same =
      unheld old.disk old.next_node old.ring.claims old.inodes old.modes old.handles.live old.forgets old.safe old.next_node lacks n held (same ∙ sym st.tree.next)

  remembered_before : (pair : Pair) → Contains old.names.pairs pair → (pair.0.dir ≢ m.next)
  remembered_before pair held same =
      true≢false (sym (old.remembers.there pair held) ∙ ap is_dir_node (ap (get old.disk) (same ∙ sym st.tree.next) ∙ lacks))

  alike : {A : Type 0} (read : Option Node → A) → ((g : Children → Children) (v : Node) → read (Some (on_children g v)) ≡ read (Some v)) → (n : ℕ) → (n ≢ m.next)
      → read (get (with_new_node m.nodes d name m.next fresh) n) ≡ read (get m.nodes n)
  alike read leaves n differ =
      read_inserted read (with_name m.nodes d name m.next) m.next fresh n differ
      ∙ read_changed read m.nodes d (on_children (with_child name m.next)) (leaves (with_child name m.next)) n

  pub made_node : (stored : StoredBody) → stored ≡ stored_body m.raws m.next (inherited_context nonce place.context) body → (w : StoredNode)
      → w ≡ (record { context = option_map context_bytes (inherited_context nonce place.context); named = true; body = stored }) → w ≡ stored_node m.raws m.next fresh
  made_node stored is w w_is =
      w_is ∙ (λ i. record {
        context = option_map context_bytes (inherited_context nonce (at.there.context i));
        named = true;
        body = (is ∙ ap (λ (o : Option Context). stored_body m.raws m.next (inherited_context nonce o) body) at.there.context) i;
      })

  pub made_stands : (new : MountState) (w : StoredNode) → new.disk ≡ with_entry_and_name (insert old.disk old.next_node w) place.dir place.stored old.next_node
      → new.next_node ≡ old.next_node + 1 → new.ring ≡ old.ring → new.meta ≡ old.meta → new.inodes ≡ old.inodes → new.handles ≡ old.handles → new.modes ≡ old.modes → new.names ≡ old.names
      → w ≡ stored_node m.raws m.next fresh → IsWellFormed after → Represents new after
  made_stands new w disk next ring meta inodes handles modes names w_is well = record {
    well = well;
    tree = record {
      nodes = subst (λ (x : Disk). AgreesBy (stored_node m.raws) (with_new_node m.nodes d name m.next fresh) x)
          (sym (disk ∙ ap (λ n. with_entry_and_name (insert old.disk n w) place.dir place.stored n) st.tree.next))
          (made_agrees m.raws m.nodes old.disk st.tree.nodes d name m.next fresh new_number refl place.stored at.there.stored w w_is);
      next = next ∙ ap (λ n. n + 1) st.tree.next;
    };
    keys = record {
      claims = ap (λ (r : Holding). r.claims) ring ∙ st.keys.claims;
      secrets = λ id raw is. st.keys.secrets id raw (ap (λ (r : Holding). secret_of r id) (sym ring) ∙ is);
    };
    handles = record { live = ap (λ (h : Handles). h.live) handles ∙ st.handles.live; opened = ap (λ (h : Handles). h.opened) handles ∙ st.handles.opened };
    caches = subst (λ (x : Cache). RepresentsCaches x new.modes after) (sym inodes) (subst (λ (x : Modes). RepresentsCaches old.inodes x after) (sym modes)
        (caches_alike old.inodes old.modes m (with_new_node m.nodes d name m.next fresh) (m.next + 1)
        (record {
          contexts = λ n key is. alike context_in (λ g v. refl) n (cached_before n (by_key old.inodes old.handles.live n key is));
          kinds = λ n key is. alike plain_kind (λ g v. kind_left g v.body) n (cached_before n (by_key old.inodes old.handles.live n key is));
        }) st.caches));
    names = subst (λ (x : NameList). RepresentsNames x after.nodes) (sym names)
        (names_made old.names m.nodes d name m.next fresh (parent_ok m path d at.led).dir at.there.free remembered_before st.names);
    records = meta ∙ st.records;
  }

  pub made_given : is_long_target body ≡ false → (new : MountState) → Represents new after → IsAnswerOrNoMemory m (answer_to_make m path nonce body) Done new
  made_given short new represents = is_answer_by m _ _ Done new (answer_is short) (inl (refl, represents))

  -- a creation that can be made isn't refused
  pub made_due : is_long_target body ≡ false → (reply : Reply) → IsExpectedRefusal (answer_to_make m path nonce body) reply
  made_due short reply = due_done after (answer_to_make m path nonce body) reply (answer_is short)

  pub well_after : is_long_target body ≡ false → IsWellFormed (answer_to_make m path nonce body).mount → IsWellFormed after
  well_after short well = subst IsWellFormed (ap (λ (a : Answer). a.mount) (answer_is short)) well

-- ---- a mount in which a node is made stays well formed

pub mkdir_well : (m : PlainMount) (path : PathParts) (nonce : List ℕ) → IsWellFormed m → IsPath path → IsWellFormed (answer_to_make m path nonce (Dir [])).mount
mkdir_well m path nonce well fits =
    step_well m 0 (record { uid = 0; op = op.Mkdir path nonce }) (answer_to_make m path nonce (Dir [])).reply (answer_to_make m path nonce (Dir [])).mount
    well fits (λ _. tt) (inl (refl, refl))

pub create_well : (m : PlainMount) (path : PathParts) (nonce : List ℕ) → IsWellFormed m → IsPath path → IsWellFormed (answer_to_make m path nonce (File [])).mount
create_well m path nonce well fits =
    step_well m 0 (record { uid = 0; op = op.Create path nonce }) (answer_to_make m path nonce (File [])).reply (answer_to_make m path nonce (File [])).mount
    well fits (λ _. tt) (inl (refl, refl))

-- an empty file has no blocks
pub no_stored_blocks : (seal : Option Seal) → [] ≡ stored_blocks seal []
unfolding blocks_by block_count
no_stored_blocks seal = refl
