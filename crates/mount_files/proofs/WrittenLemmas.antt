-- Writing a file's contents preserves the rule, and the state represents the mount with them written.
use Rattle.std.proofs.Common.{◌≡◌, ℕ, ◌+◌, ◌-◌, false, ◌&&◌, List, [], ◌∷◌, length, nat_lt, Option, Some, None, option_map, is_some, Result, Ok, Err, OnOk, OnErr, inl, inr, refl, sym, ap, subst, ◌∙◌}
use Rattle.std.proofs.lemmas.Bool.{cases_eq, ltb-false}
use Rattle.policy_ctx.specs.declared.policy.Context.{Context}
use Rattle.policy_ctx.specs.Context.{context_bytes}
use Rattle.byte_words.specs.Bytes.{AreBytes}
use Rattle.byte_words.specs.Contents.{with_bytes}
use Rattle.number_map.specs.Numbered.{NumberedValues, get, changed}
use Rattle.number_map.proofs.NumberedLemmas.{changed_here, changed_other}
use Rattle.user_claims.specs.Claims.{ClaimSet}
use Rattle.key_ring.specs.Holding.{Holding, secret_of}
use Rattle.key_ring.specs.Modes.{Modes}
use Rattle.inode_refs.specs.CacheMaps.{Cache}
use Rattle.data_crypt.specs.Blocks.{Seal}
use Rattle.data_crypt.specs.Laws.{IsKeyOfBytes}
use Rattle.plain_tree.specs.Nodes.{Node, Body, Dir, File, Link}
use Rattle.plain_tree.specs.BodyChanges.{with_contents}
use Rattle.plain_tree.specs.NodesByNumber.{context_in, context_at}
use Rattle.plain_tree.specs.Changes.{on_contents, written}
use Rattle.plain_tree.specs.Facts.{AgreesBy}
use Rattle.plain_tree.proofs.AgreeLemmas.{agree_edited}
use Rattle.mount_limits.specs.declared.TheConstants.{MAX_BLOCKS, MAX_FILE_BYTES}
use Rattle.disk_tree.specs.DiskTree.{Disk}
use Rattle.disk_tree.specs.Nodes.{on_body}
use Rattle.disk_tree.specs.declared.node.StoredNode.{StoredNode}
use Rattle.disk_tree.specs.declared.node.Body.{Body as StoredBody}
use Rattle.disk_tree.specs.declared.node.Body.TheVariants as stored
use Rattle.file_disk.specs.Bodies.{body_after_write, disk_after_write, file_body}
use Rattle.file_disk.proofs.BodyLemmas.{writes_give}
use Rattle.mount_model.specs.PlainMount.{PlainMount, Raws, HandleList}
use Rattle.mount_model.specs.Sealed.{node_key}
use Rattle.mount_model.specs.FileAnswers.{contents_at, lacks_blocks_for}
use Rattle.mount_model.specs.Blocks.{block_count, block_total}
use Rattle.mount_model.specs.WellFormed.{IsWellFormed}
use Rattle.mount_model.specs.SoundNodes.{IsBody}
use Rattle.mount_model.proofs.CallParts.{body_after_write as is_body_written}
use Rattle.mount_model.proofs.NodesWell.{written_well}
use Rattle.mount_model.proofs.HandlesWell.{written_open}
use Rattle.mount_state.specs.Contexts.{has_own, has_shared}
use Rattle.mount_state.specs.StoredKinds.{disk_kind_of, kind_on_disk, same_kind, is_of_kind}
use Rattle.mount_state.specs.Contexts as disk
use Rattle.dentry_cache.specs.Names.{NameList}
use Rattle.plain_tree.proofs.EditedLemmas.{edited_entry, leaves_contents}
use Rattle.mount_state.specs.CachedNames.{NamesForget, RepresentsNames, is_dir_body, is_dir_node}
use Rattle.mount_state.specs.KeyUse.{is_unlocked_under}
use Rattle.mount_state.proofs.CachedLemmas.{forget_when}
use Rattle.mount_state.specs.Discipline.{Forgets}
use Rattle.mount_state.specs.Handles.{Handles, users}
use Rattle.mount_state.specs.Safe.{IsSafe}
use Rattle.mount_state.specs.Stored.{stored_body, stored_node, contents_seal}
use Rattle.mount_state.specs.Represents.{Represents}
use Rattle.mount_state.specs.CachedKeys.{RepresentsCaches, plain_kind}
use Rattle.mount_state.specs.CachedKeys as plain
use Rattle.mount_state.specs.declared.state.MountState.{MountState}
use Rattle.mount_state.proofs.WalkLemmas.{same_cache}
use Rattle.mount_files.specs.Writing.{SameButDisk}

-- what a change of one value leaves of each
module _ {V A : Type 0} (read : Option V → A) (nodes : NumberedValues V) (k : ℕ) (f : V → V) (same : (v : V) → read (Some (f v)) ≡ read (Some v)) where
  by_case : (o : Option V) → read (option_map f o) ≡ read o
  by_case None = refl
  by_case (Some v) = same v

  read_changed : (x : ℕ) → read (get (changed nodes k f) x) ≡ read (get nodes x)
  read_changed x = elim (cases_eq x k) [
    | inl is ↦
        ap (λ y. read (get (changed nodes k f) y)) is ∙ ap read (changed_here nodes k f)
        ∙ by_case (get nodes k) ∙ ap (λ y. read (get nodes y)) (sym is)
    | inr differ ↦ ap read (changed_other nodes k f x differ)
  ]

-- ---- the rule

kind_left : (seal : Option Seal) (at : ℕ) (bytes : List ℕ) (b : StoredBody) → disk_kind_of (body_after_write seal at bytes b) ≡ disk_kind_of b
kind_left seal at [] b = refl
kind_left seal at (x ∷ xs) (stored.Dir entries) = refl
kind_left seal at (x ∷ xs) (stored.File blocks size) = refl
kind_left seal at (x ∷ xs) (stored.Link target) = refl

dir_left : (seal : Option Seal) (at : ℕ) (bytes : List ℕ) (b : StoredBody) → is_dir_body (body_after_write seal at bytes b) ≡ is_dir_body b
dir_left seal at [] b = refl
dir_left seal at (x ∷ xs) (stored.Dir entries) = refl
dir_left seal at (x ∷ xs) (stored.File blocks size) = refl
dir_left seal at (x ∷ xs) (stored.Link target) = refl

module _ (on_disk : Disk) (file : ℕ) (seal : Option Seal) (at : ℕ) (bytes : List ℕ) where
  contexts : (n : ℕ) → disk.context_on_disk (get (disk_after_write on_disk file seal at bytes) n) ≡ disk.context_on_disk (get on_disk n)
  contexts = read_changed disk.context_on_disk on_disk file (on_body (body_after_write seal at bytes)) (λ v. refl)

  kinds : (n : ℕ) → kind_on_disk (get (disk_after_write on_disk file seal at bytes) n) ≡ kind_on_disk (get on_disk n)
  kinds = read_changed kind_on_disk on_disk file (on_body (body_after_write seal at bytes)) (λ v. kind_left seal at bytes v.body)

  there : (n : ℕ) → is_some (get (disk_after_write on_disk file seal at bytes) n) ≡ is_some (get on_disk n)
  there = read_changed (λ (o : Option StoredNode). is_some o) on_disk file (on_body (body_after_write seal at bytes)) (λ v. refl)

  pub written_rule : (claims : ClaimSet) (cache : Cache) (modes : Modes) (live : HandleList) → Forgets on_disk claims cache modes live
      → Forgets (disk_after_write on_disk file seal at bytes) claims cache modes live
  written_rule claims cache modes live rule = record {
    file_keys = record {
      named = λ n key is. ap (has_own key.id) (contexts n) ∙ rule.file_keys.named n key is;
      kind = λ n key is. ap (λ k. is_of_kind k key.key) (kinds n) ∙ rule.file_keys.kind n key is;
      kept = λ n id own held. rule.file_keys.kept n id (sym (ap (has_own id) (contexts n)) ∙ own) held;
      forgotten = rule.file_keys.forgotten;
    };
    mode_keys = record {
      counted = λ id kind.
          rule.mode_keys.counted id kind
          ∙ sym (λ i. users (λ n. has_shared id (contexts n i) && same_kind kind (kinds n i)) live);
      kind = rule.mode_keys.kind;
    };
    pins = rule.pins;
  }

  pub written_names : (claims : ClaimSet) (names : NameList) (live : HandleList) → NamesForget on_disk claims names live
      → NamesForget (disk_after_write on_disk file seal at bytes) claims names live
  written_names claims names live rule = forget_when on_disk (disk_after_write on_disk file seal at bytes) claims claims live live names rule (λ pair held dir keyed. (
    read_changed is_dir_node on_disk file (on_body (body_after_write seal at bytes)) (λ v. dir_left seal at bytes v.body) pair.0.dir ∙ dir,
    ap (is_unlocked_under claims live pair.0.dir) (contexts pair.0.dir) ∙ keyed,
  ))

  pub written_safe : (next : ℕ) (live : HandleList) → IsSafe on_disk next live → IsSafe (disk_after_write on_disk file seal at bytes) next live
  written_safe next live safe = record {
    below = λ n is. safe.below n (sym (there n) ∙ is);
    there = λ n held. there n ∙ safe.there n held;
  }

-- the disk after a write that was done or refused
pub on_either : {T E : Type 0} (P : Disk → Type 0) (r : Result T E) {new a b : Disk} → OnOk r (new ≡ a) → OnErr r (new ≡ b) → P a → P b → P new
on_either P (Ok x) ok err done undone = subst P (sym ok) done
on_either P (Err e) ok err done undone = subst P (sym err) undone

-- ---- the whole

plain_kind_left : (f : List ℕ → List ℕ) (b : Body) → plain.plain_kind_of (with_contents f b) ≡ plain.plain_kind_of b
plain_kind_left f (Dir children) = refl
plain_kind_left f (File contents) = refl
plain_kind_left f (Link target) = refl

module _ (raws : Raws) (file : ℕ) (seal : Option Seal) (key : IsKeyOfBytes seal) (at : ℕ) (bytes : List ℕ) where
  body_stored : (context : Option Context) → seal ≡ contents_seal raws file context → (b : Body) → IsBody b
      → body_after_write seal at bytes (stored_body raws file context b) ≡ stored_body raws file context (with_contents (with_bytes at bytes) b)
  body_stored context is (Dir children) ok = other bytes
    where
      other : (bs : List ℕ) → body_after_write seal at bs (stored_body raws file context (Dir children)) ≡ stored_body raws file context (Dir children)
      other [] = refl
      other (x ∷ xs) = refl
  body_stored context is (File contents) ok =
      ap (λ (x : Option Seal). body_after_write seal at bytes (file_body x contents)) (sym is)
      ∙ writes_give seal at bytes contents key ok.0
      ∙ ap (λ (x : Option Seal). file_body x (with_bytes at bytes contents)) is
  body_stored context is (Link target) ok = other bytes
    where
      other : (bs : List ℕ) → body_after_write seal at bs (stored_body raws file context (Link target)) ≡ stored_body raws file context (Link target)
      other [] = refl
      other (x ∷ xs) = refl

module _ (old : MountState) (m : PlainMount) (st : Represents old m) (file offset : ℕ) (bytes : List ℕ) where
  abbrev pub after : PlainMount
  after = record m { nodes = written m.nodes file (with_bytes offset bytes) }

  well_after : AreBytes bytes → nat_lt MAX_FILE_BYTES (offset + length bytes) ≡ false → lacks_blocks_for m file offset bytes ≡ false → IsWellFormed after
  well_after are small room = record {
    keys = st.well.keys;
    nodes = written_well m.raws m.nodes m.next st.well.nodes file (with_bytes offset bytes)
        (λ v _. is_body_written offset bytes are small v.body)
        (ltb-false (MAX_BLOCKS - block_total m.nodes)
        (block_count (with_bytes offset bytes (contents_at m.nodes file)) - block_count (contents_at m.nodes file)) room);
    handles = written_open m.nodes m.handles m.opened st.well.handles file (with_bytes offset bytes);
    records = st.well.records;
  }

  plain_contexts : (n : ℕ) → context_at (written m.nodes file (with_bytes offset bytes)) n ≡ context_at m.nodes n
  plain_contexts = read_changed context_in m.nodes file (on_contents (with_bytes offset bytes)) (λ v. refl)

  plain_kinds : (n : ℕ) → plain_kind (get (written m.nodes file (with_bytes offset bytes)) n) ≡ plain_kind (get m.nodes n)
  plain_kinds = read_changed plain_kind m.nodes file (on_contents (with_bytes offset bytes)) (λ v. plain_kind_left (with_bytes offset bytes) v.body)

  caches_after : RepresentsCaches old.inodes old.modes after
  caches_after = record {
    file_keys = λ n key c is under.
        st.caches.file_keys n key c is (sym (plain_contexts n) ∙ under) ∙ ap (node_key m.raws c) (sym (plain_kinds n));
    mode_keys = st.caches.mode_keys;
  }

  names_after : RepresentsNames old.names (written m.nodes file (with_bytes offset bytes))
  names_after = record {
    entries = λ pair held.
        edited_entry m.nodes file (on_contents (with_bytes offset bytes)) (leaves_contents (with_bytes offset bytes)) pair.0.dir pair.0.name
        ∙ st.names.entries pair held;
  }

  module _ (seal : Option Seal) (seal_is : seal ≡ contents_seal m.raws file (context_at m.nodes file)) (key : IsKeyOfBytes seal) where
    tree_after : AgreesBy (stored_node m.raws) (written m.nodes file (with_bytes offset bytes)) (disk_after_write old.disk file seal offset bytes)
    tree_after = agree_edited (stored_node m.raws) m.nodes old.disk st.tree.nodes file (on_contents (with_bytes offset bytes)) (on_body (body_after_write seal offset bytes))
        (λ v there. λ i. record {
          context = option_map context_bytes v.context;
          named = v.named;
          body = body_stored m.raws file seal key offset bytes v.context (seal_is ∙ ap (λ (o : Option Node). contents_seal m.raws file (context_in o)) there)
              v.body (st.well.nodes.bodies file v there) i;
        })

    pub written_stands : (new : MountState) → new.disk ≡ disk_after_write old.disk file seal offset bytes → SameButDisk old new → AreBytes bytes
        → nat_lt MAX_FILE_BYTES (offset + length bytes) ≡ false → lacks_blocks_for m file offset bytes ≡ false → Represents new after
    written_stands new is same are small room = record {
      well = well_after are small room;
      tree = record {
        nodes = subst (λ (x : Disk). AgreesBy (stored_node m.raws) (written m.nodes file (with_bytes offset bytes)) x) (sym is) tree_after;
        next = same.next_node ∙ st.tree.next;
      };
      keys = record {
        claims = ap (λ (r : Holding). r.claims) same.ring ∙ st.keys.claims;
        secrets = λ id raw added. st.keys.secrets id raw (ap (λ (r : Holding). secret_of r id) (sym same.ring) ∙ added);
      };
      handles = record {
        live = ap (λ (h : Handles). h.live) same.handles ∙ st.handles.live;
        opened = ap (λ (h : Handles). h.opened) same.handles ∙ st.handles.opened;
      };
      caches = subst (λ (x : Cache). RepresentsCaches x new.modes after) (sym (same_cache old.inodes new.inodes same.keys same.pins))
          (subst (λ (x : Modes). RepresentsCaches old.inodes x after) (sym same.modes) caches_after);
      names = subst (λ (x : NameList). RepresentsNames x after.nodes) (sym same.names) names_after;
      records = same.meta ∙ st.records;
    }

-- ---- a write that was refused

pub unwritten_stands : (old : MountState) (m : PlainMount) → Represents old m → (new : MountState) → new.disk ≡ old.disk → SameButDisk old new → Represents new m
unwritten_stands old m st new is same = record {
  well = st.well;
  tree = record {
    nodes = subst (λ (x : Disk). AgreesBy (stored_node m.raws) m.nodes x) (sym is) st.tree.nodes;
    next = same.next_node ∙ st.tree.next;
  };
  keys = record {
    claims = ap (λ (r : Holding). r.claims) same.ring ∙ st.keys.claims;
    secrets = λ id raw added. st.keys.secrets id raw (ap (λ (r : Holding). secret_of r id) (sym same.ring) ∙ added);
  };
  handles = record {
    live = ap (λ (h : Handles). h.live) same.handles ∙ st.handles.live;
    opened = ap (λ (h : Handles). h.opened) same.handles ∙ st.handles.opened;
  };
  caches = subst (λ (x : Cache). RepresentsCaches x new.modes m) (sym (same_cache old.inodes new.inodes same.keys same.pins))
      (subst (λ (x : Modes). RepresentsCaches old.inodes x m) (sym same.modes) st.caches);
  names = subst (λ (x : NameList). RepresentsNames x m.nodes) (sym same.names) st.names;
  records = same.meta ∙ st.records;
}
