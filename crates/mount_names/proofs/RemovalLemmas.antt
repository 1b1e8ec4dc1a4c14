-- A state from which a name was removed represents the mount without it.
use Rattle.std.proofs.Common.{◌≡◌, ◌≢◌, ℕ, Bool, true, false, cond, not, ◌==◌, ◌<◌, ◌≤◌, List, length, Option, Some, is_some, IfSome, inl, inr, refl, sym, ap, subst, ◌∙◌, arith}
use Rattle.std.proofs.lemmas.Bool.{cases_Bool, lt-ltb, le-ltb, ne_eqb, eq-eqb}
use Rattle.number_map.specs.Numbered.{remove}
use Rattle.inode_refs.specs.CacheMaps.{Cache, key_at, pins_of}
use Rattle.inode_refs.specs.declared.node_key.NodeKey.{NodeKey}
use Rattle.plain_tree.specs.Nodes.{Name, Nodes}
use Rattle.plain_tree.specs.NodesByNumber.{children, context_in, is_dir_at}
use Rattle.plain_tree.specs.Changes.{dropped, without_node}
use Rattle.plain_tree.specs.Facts.{AgreesBy}
use Rattle.plain_tree.proofs.AgreeLemmas.{agree_removed}
use Rattle.disk_tree.specs.DiskTree.{Disk, IsDirAt, children as stored_entries}
use Rattle.disk_tree.specs.EntryChanges as disk
use Rattle.disk_tree.specs.Entries.{number_under}
use Rattle.mount_model.specs.declared.reply.Refusal.{Refusal}
use Rattle.mount_model.specs.declared.reply.Refusal.TheVariants.{IsDir, NotDir, NotEmpty}
use Rattle.mount_model.specs.declared.reply.Reply.TheVariants.{Refused, Done}
use Rattle.mount_model.specs.PlainMount.{PlainMount, HandleList}
use Rattle.mount_model.specs.OpenHandles.{has_handle}
use Rattle.mount_model.specs.AnswerForms.{Answer, refusal_with, done}
use Rattle.mount_model.specs.UnlinkAnswers.{without_name, answer_to_unlink, answer_to_rmdir}
use Rattle.mount_model.specs.Walk.{PathParts}
use Rattle.mount_model.specs.WellFormed.{IsWellFormed}
use Rattle.mount_model.specs.Carried.{IsPath}
use Rattle.mount_model.specs.declared.call.Op.TheVariants as op
use Rattle.mount_model.proofs.WellSteps.{step_well}
use Rattle.mount_state.specs.CachedNames.{RepresentsNames}
use Rattle.mount_state.specs.Stored.{stored_node}
use Rattle.mount_state.specs.Represents.{Represents}
use Rattle.mount_state.specs.CachedKeys.{RepresentsCaches, plain_kind}
use Rattle.mount_state.specs.declared.state.MountState.{MountState}
use Rattle.mount_state.proofs.UserLemmas.{pins_tell}
use Rattle.mount_names.specs.Places.{Entry}
use Rattle.mount_names.specs.FoundEntries.{IsEntryOn}
use Rattle.mount_state.specs.AnswerOf.{IsAnswerOf}
use Rattle.mount_names.specs.Removals.{IsEntryOf}
use Rattle.mount_names.specs.SameButTree.{SameButTree}
use Rattle.mount_names.proofs.AgreeLemmas.{dropped_agrees}
use Rattle.mount_state.specs.Discipline.{Forgets}
use Rattle.mount_state.specs.Safe.{IsSafe}
use Rattle.mount_names.proofs.DiskRules.{still, dropped_rule, dropped_safe, gone_rule, gone_safe}
use Rattle.mount_names.proofs.EditLemmas.{read_removed}
use Rattle.mount_names.proofs.FoundLemmas.{stored_apart}
use Rattle.mount_names.proofs.HeldLemmas.{caches_alike, fewer_stand}
use Rattle.mount_names.proofs.NodesLemmas.{with_nodes, nodes_stand, context_left_so, kind_left_so, read_dropped}
use Rattle.mount_names.proofs.ReadLemmas.{dir_read, dir_lies}
use Rattle.mount_names.proofs.LenLemmas.{entries_len}

-- a node without pins has no handle, and one with pins has
pub held_told : (s : MountState) (x pins : ℕ) → pins ≡ pins_of s.inodes x → 0 < pins → has_handle s.handles.live x ≡ true
held_told s x pins is more = sym (pins_tell s.handles.live x pins (is ∙ s.forgets.pins.pinned x)) ∙ lt-ltb 0 pins more

pub free_told : (s : MountState) (x pins : ℕ) → pins ≡ pins_of s.inodes x → pins ≤ 0 → has_handle s.handles.live x ≡ false
free_told s x pins is none = sym (pins_tell s.handles.live x pins (is ∙ s.forgets.pins.pinned x)) ∙ le-ltb 0 pins none

module _ (old : MountState) (m : PlainMount) (st : Represents old m) (e : Entry) (name : Name) (of : IsEntryOf m name e) where
  abbrev after_drop : Nodes
  after_drop = dropped m.nodes e.dir name e.number

  abbrev on_disk : Disk
  on_disk = disk.without_entry_and_name old.disk e.dir e.stored e.number

  agree_after : AgreesBy (stored_node m.raws) after_drop on_disk
  agree_after = dropped_agrees m.raws m.nodes old.disk st.tree.nodes e.dir name e.number e.stored of.stored
      (stored_apart old.disk old.next_node m st.well st.tree e.dir name (ap is_some of.there))

  nodes_left : (b : Bool) → has_handle m.handles e.number ≡ b → without_name m e.dir name e.number ≡ with_nodes m (cond b after_drop (without_node after_drop e.number))
  nodes_left b is = ap (λ c. with_nodes m (cond c after_drop (without_node after_drop e.number))) is

  module _ (new : MountState) (same : SameButTree old new) (next : new.next_node ≡ old.next_node) (well : IsWellFormed (without_name m e.dir name e.number)) where
    -- it stays for its handles
    pub kept_stands : has_handle old.handles.live e.number ≡ true → new.disk ≡ on_disk → new.inodes ≡ old.inodes → RepresentsNames new.names after_drop → Represents new (without_name m e.dir name e.number)
    kept_stands held disk inodes names =
        let left = nodes_left true (ap (λ (hs : HandleList). has_handle hs e.number) (sym st.handles.live) ∙ held) in
        subst (Represents new) (sym left)
        (nodes_stand old new m after_drop st same next
        (subst (λ (x : Disk). AgreesBy (stored_node m.raws) after_drop x) (sym disk) agree_after)
        (subst (λ (x : Cache). RepresentsCaches x old.modes (with_nodes m after_drop)) (sym inodes)
        (caches_alike old.inodes old.modes m after_drop m.next (record {
          contexts = λ n key there. read_dropped context_in context_left_so m.nodes e.dir name e.number n;
          kinds = λ n key there. read_dropped plain_kind kind_left_so m.nodes e.dir name e.number n;
        }) st.caches))
        names
        (subst IsWellFormed left well))

    -- it goes
    pub gone_stands : has_handle old.handles.live e.number ≡ false → new.disk ≡ remove on_disk e.number → new.inodes ≡ record old.inodes { keys = remove old.inodes.keys e.number }
        → RepresentsNames new.names (without_node after_drop e.number) → Represents new (without_name m e.dir name e.number)
    gone_stands free disk inodes names =
        let left = nodes_left false (ap (λ (hs : HandleList). has_handle hs e.number) (sym st.handles.live) ∙ free) in
        let fewer : Cache = record old.inodes { keys = remove old.inodes.keys e.number } in
        subst (Represents new) (sym left)
        (nodes_stand old new m (without_node after_drop e.number) st same next
        (subst (λ (x : Disk). AgreesBy (stored_node m.raws) (without_node after_drop e.number) x) (sym disk)
        (agree_removed (stored_node m.raws) after_drop on_disk agree_after e.number))
        (subst (λ (x : Cache). RepresentsCaches x old.modes (with_nodes m (without_node after_drop e.number))) (sym inodes)
        (caches_alike fewer old.modes m (without_node after_drop e.number) m.next (record {
          contexts = λ n key there. read_removed context_in after_drop e.number n (key_left n key there).0 ∙ read_dropped context_in context_left_so m.nodes e.dir name e.number n;
          kinds = λ n key there. read_removed plain_kind after_drop e.number n (key_left n key there).0 ∙ read_dropped plain_kind kind_left_so m.nodes e.dir name e.number n;
        }) (fewer_stand old.inodes fewer old.modes m (λ n key there. (key_left n key there).1) st.caches)))
        names
        (subst IsWellFormed left well))
      where
        key_left : (n : ℕ) (key : NodeKey) → key_at (record old.inodes { keys = remove old.inodes.keys e.number }) n ≡ Some key → (n ≢ e.number) × (key_at old.inodes n ≡ Some key)
        key_left n key there = still old.disk old.next_node old.ring.claims old.inodes old.modes old.handles.live old.forgets old.safe e.number free n key there

-- ---- what the calls answer at the entry

module _ (m : PlainMount) where
  -- the name of the directory d resolves to x
  abbrev pub unlinked : ℕ → Name → ℕ → Answer
  unlinked d name x = cond (is_dir_at m.nodes x) (refusal_with m IsDir) (done (without_name m d name x))

  abbrev pub unlinked_dir : ℕ → Name → ℕ → Answer
  unlinked_dir d name x = cond (not (is_dir_at m.nodes x)) (refusal_with m NotDir)
      (cond (not (length (children m.nodes x) == 0)) (refusal_with m NotEmpty) (done (without_name m d name x)))

-- ---- a mount from which a name goes stays well formed

pub unlink_well : (m : PlainMount) (path : PathParts) → IsWellFormed m → IsPath path → IsWellFormed (answer_to_unlink m path).mount
unlink_well m path well fits =
    step_well m 0 (record { uid = 0; op = op.Unlink path }) (answer_to_unlink m path).reply (answer_to_unlink m path).mount
    well fits (λ _. tt) (inl (refl, refl))

pub rmdir_well : (m : PlainMount) (path : PathParts) → IsWellFormed m → IsPath path → IsWellFormed (answer_to_rmdir m path).mount
rmdir_well m path well fits =
    step_well m 0 (record { uid = 0; op = op.Rmdir path }) (answer_to_rmdir m path).reply (answer_to_rmdir m path).mount
    well fits (λ _. tt) (inl (refl, refl))

-- ---- what was answered

pub refused_given : (m : PlainMount) (answer : Answer) (r : Refusal) → answer ≡ refusal_with m r → (new : MountState) → Represents new m → IsAnswerOf answer (Refused r) new
refused_given m answer r is new st = (sym (ap (λ (a : Answer). a.reply) is), subst (Represents new) (sym (ap (λ (a : Answer). a.mount) is)) st)

pub done_given : (after : PlainMount) (answer : Answer) → answer ≡ done after → (new : MountState) → Represents new after → IsAnswerOf answer Done new
done_given after answer is new st = (sym (ap (λ (a : Answer). a.reply) is), subst (Represents new) (sym (ap (λ (a : Answer). a.mount) is)) st)

pub well_of : (after : PlainMount) (answer : Answer) → answer ≡ done after → IsWellFormed answer.mount → IsWellFormed after
well_of after answer is well = subst IsWellFormed (ap (λ (a : Answer). a.mount) is) well

module _ (s : MountState) (m : PlainMount) (st : Represents s m) (x : ℕ) where
  pub is_dir_there : IsDirAt s.disk x → is_dir_at m.nodes x ≡ true
  is_dir_there is = dir_read s.disk s.next_node m st.tree x is

  pub no_dir_there : (IsDirAt s.disk x → ⊥) → is_dir_at m.nodes x ≡ false
  no_dir_there other = elim (cases_Bool (is_dir_at m.nodes x)) [
    | inl is ↦ absurd (other (dir_lies s.disk s.next_node m st.tree x is))
    | inr no_dir ↦ no_dir
  ]

  pub as_many_there : (count : ℕ) → count ≡ length (stored_entries s.disk x) → count ≡ length (children m.nodes x)
  as_many_there count is = is ∙ entries_len s.disk s.next_node m st.well st.tree x

-- the disk without the entry
pub drop_is : (old new : Disk) (e : Entry) (bytes : List ℕ) → bytes ≡ e.stored → IsEntryOn old e
    → IfSome (number_under bytes (stored_entries old e.dir)) (λ n. new ≡ disk.without_entry_and_name old e.dir bytes n) → new ≡ disk.without_entry_and_name old e.dir e.stored e.number
drop_is old new e bytes is there without_node =
    subst (λ (o : Option ℕ). IfSome o (λ n. new ≡ disk.without_entry_and_name old e.dir e.stored n)) there
    (subst (λ (b : List ℕ). IfSome (number_under b (stored_entries old e.dir)) (λ n. new ≡ disk.without_entry_and_name old e.dir b n)) is without_node)

-- the same if the node is removed with its name
pub gone_is : (old new : Disk) (e : Entry) (bytes : List ℕ) → bytes ≡ e.stored → IsEntryOn old e
    → IfSome (number_under bytes (stored_entries old e.dir)) (λ n. new ≡ remove (disk.without_entry_and_name old e.dir bytes n) n)
    → new ≡ remove (disk.without_entry_and_name old e.dir e.stored e.number) e.number
gone_is old new e bytes is there without_node =
    subst (λ (o : Option ℕ). IfSome o (λ n. new ≡ remove (disk.without_entry_and_name old e.dir e.stored n) n)) there
    (subst (λ (b : List ℕ). IfSome (number_under b (stored_entries old e.dir)) (λ n. new ≡ remove (disk.without_entry_and_name old e.dir b n) n)) is without_node)

-- ---- what must be forgotten goes on being forgotten

module _ (s : MountState) (e : Entry) (left : Disk) (is : left ≡ disk.without_entry_and_name s.disk e.dir e.stored e.number) where
  pub dropped_keeps : Forgets left s.ring.claims s.inodes s.modes s.handles.live
  dropped_keeps = subst (λ (x : Disk). Forgets x s.ring.claims s.inodes s.modes s.handles.live) (sym is)
      (dropped_rule s.disk s.next_node s.ring.claims s.inodes s.modes s.handles.live s.forgets s.safe e.dir e.stored e.number)

  pub dropped_is_safe : IsSafe left s.next_node s.handles.live
  dropped_is_safe = subst (λ (x : Disk). IsSafe x s.next_node s.handles.live) (sym is)
      (dropped_safe s.disk s.next_node s.ring.claims s.inodes s.modes s.handles.live s.forgets s.safe e.dir e.stored e.number)

  module _ (free : has_handle s.handles.live e.number ≡ false) where
    abbrev fewer_keys : Cache
    fewer_keys = record s.inodes { keys = remove s.inodes.keys e.number }

    pub gone_keeps : (bare : Disk) (cache : Cache) → bare ≡ remove left e.number → cache ≡ fewer_keys → Forgets bare s.ring.claims cache s.modes s.handles.live
    gone_keeps bare cache bare_is cache_is =
        subst (λ (x : Disk). Forgets x s.ring.claims cache s.modes s.handles.live) (sym bare_is)
        (subst (λ (k : Cache). Forgets (remove left e.number) s.ring.claims k s.modes s.handles.live) (sym cache_is)
        (gone_rule left s.next_node s.ring.claims s.inodes s.modes s.handles.live dropped_keeps dropped_is_safe e.number free))

    pub gone_is_safe : (bare : Disk) → bare ≡ remove left e.number → IsSafe bare s.next_node s.handles.live
    gone_is_safe bare bare_is = subst (λ (x : Disk). IsSafe x s.next_node s.handles.live) (sym bare_is)
        (gone_safe left s.next_node s.ring.claims s.inodes s.modes s.handles.live dropped_keeps dropped_is_safe e.number free)

-- ---- what rmdir answers at what was found

module _ (m : PlainMount) (d : ℕ) (name : Name) (x : ℕ) where
  abbrev if_empty : Answer
  if_empty = cond (not (length (children m.nodes x) == 0)) (refusal_with m NotEmpty) (done (without_name m d name x))

  pub rmdir_no_dir : is_dir_at m.nodes x ≡ false → unlinked_dir m d name x ≡ refusal_with m NotDir
  rmdir_no_dir other = ap (λ b. cond (not b) (refusal_with m NotDir) if_empty) other

  module _ (dir : is_dir_at m.nodes x ≡ true) (count : ℕ) (as_many : count ≡ length (children m.nodes x)) where
    pub rmdir_full : 0 < count → unlinked_dir m d name x ≡ refusal_with m NotEmpty
    rmdir_full some =
        let more : (length (children m.nodes x) == 0) ≡ false = ne_eqb (length (children m.nodes x)) 0 (λ none. absurd (omega arith)) in
        λ i. cond (not (dir i)) (refusal_with m NotDir) (cond (not (more i)) (refusal_with m NotEmpty) (done (without_name m d name x)))

    pub rmdir_done : count ≤ 0 → unlinked_dir m d name x ≡ done (without_name m d name x)
    rmdir_done few =
        let none : (length (children m.nodes x) == 0) ≡ true = eq-eqb (length (children m.nodes x)) 0 (omega arith) in
        λ i. cond (not (dir i)) (refusal_with m NotDir) (cond (not (none i)) (refusal_with m NotEmpty) (done (without_name m d name x)))
