-- What a rename is refused, cause by cause, and the state in which a name was moved.
use Rattle.std.proofs.Common.{◌≡◌, ℕ, ◌≤◌, length, arith, Bool, true, false, cond, not, ◌||◌, List, Option, option_map, IfSome, OnOk, OnErr, Some, None, is_some, Result, Ok, Err, inl, refl, sym, ap, subst, ◌∙◌}
use Rattle.number_map.specs.Numbered.{changed}
use Rattle.inode_refs.specs.CacheMaps.{Cache}
use Rattle.plain_tree.specs.Nodes.{Name, Nodes}
use Rattle.plain_tree.specs.NodesByNumber.{context_at, context_in, entry}
use Rattle.plain_tree.specs.Changes.{on_children, without_entry_name, moved}
use Rattle.plain_tree.specs.BodyChanges.{without_child}
use Rattle.plain_tree.specs.Facts.{AgreesBy}
use Rattle.plain_tree.proofs.ChildLemmas.{itself}
use Rattle.disk_tree.specs.DiskTree.{Disk, children as stored_entries}
use Rattle.disk_tree.specs.EntryChanges as disk
use Rattle.disk_tree.specs.Entries.{number_under, without_entry}
use Rattle.disk_tree.specs.Nodes.{on_body, with_entries}
use Rattle.policy_ctx.specs.declared.policy.Context.{Context}
use Rattle.policy_ctx.specs.declared.policy.Policy.{Policy}
use Rattle.policy_ctx.specs.Policy.{policy_bytes}
use Rattle.mount_model.specs.SpelledPolicy.{is_same_policy}
use Rattle.mount_model.specs.declared.reply.Refusal.{Refusal}
use Rattle.mount_model.specs.declared.reply.Refusal.TheVariants.{NoKey, Inval, Exists, XDev, NoSpace, NoKeyClash}
use Rattle.std.proofs.lemmas.Bool.{ne_eqb}
use Rattle.mount_state.specs.PassedNodes.{with_past}
use Rattle.mount_model.specs.PlainMount.{PlainMount}
use Rattle.mount_model.specs.AnswerForms.{Answer, refusal_with, done, done_unless, at_node}
use Rattle.mount_model.specs.States.{is_keyed}
use Rattle.mount_model.specs.EncryptedNames.{clashes}
use Rattle.mount_model.specs.RenameAnswer.{with_moved, answer_to_move_from, answer_to_rename}
use Rattle.mount_model.specs.MoveRefusal.{may_hold, has_policy, is_full_elsewhere, move_refusal}
use Rattle.mount_model.specs.Walk.{PathParts, WalkResult}
use Rattle.mount_model.specs.EntryPaths.{is_root, last_part, parent, is_at_or_above}
use Rattle.mount_model.specs.WellFormed.{IsWellFormed}
use Rattle.mount_model.specs.Carried.{IsPath}
use Rattle.mount_model.specs.declared.call.Op.TheVariants as op
use Rattle.mount_model.proofs.WellSteps.{step_well}
use Rattle.mount_state.specs.CachedNames.{NamesForget, RepresentsNames}
use Rattle.mount_state.specs.Stored.{stored_node, stored_form}
use Rattle.mount_state.specs.Represents.{Represents}
use Rattle.mount_state.specs.CachedKeys.{RepresentsCaches, plain_kind}
use Rattle.mount_state.specs.declared.state.MountState.{MountState}
use Rattle.mount_names.specs.Places.{Entry, Place}
use Rattle.mount_names.specs.FoundEntries.{IsEntryOn, entry_end}
use Rattle.mount_names.specs.NewPlaces.{IsNewName}
use Rattle.mount_names.specs.Moves.{IsTargetAt}
use Rattle.mount_names.specs.Removals.{IsEntryOf}
use Rattle.mount_names.specs.SameButTree.{SameButTree}
use Rattle.mount_names.proofs.AgreeLemmas.{put_agrees, taken_agrees}
use Rattle.mount_state.specs.Discipline.{Forgets}
use Rattle.mount_state.specs.Safe.{IsSafe}
use Rattle.disk_tree.specs.declared.fault.DiskFault.{DiskFault}
use Rattle.dentry_cache.specs.Names.{NameList}
use Rattle.mount_names.proofs.CachedRules.{moved_names, names_on}
use Rattle.mount_names.proofs.DiskRules.{moved_rule, moved_safe}
use Rattle.mount_names.proofs.EditLemmas.{read_changed}
use Rattle.mount_names.proofs.FoundLemmas.{IsAt, stored_apart, end_refused, end_is}
use Rattle.mount_names.proofs.HeldLemmas.{caches_alike}
use Rattle.mount_names.proofs.NodesLemmas.{with_nodes, nodes_stand, context_left_so, kind_left_so, read_moved}

abbrev some_policy : Policy → Option Policy
some_policy p = Some p

abbrev none_policy : Option Policy
none_policy = None

-- ---- a node may stay in its directory

pub may_stay : (m : PlainMount) → IsWellFormed m → (old : Name) (e : Entry) → IsEntryOf m old e → may_hold (context_at m.nodes e.dir) (context_at m.nodes e.number) ≡ true
may_stay m well old e of = under (context_at m.nodes e.dir) refl
  where
    same : (p q : Policy) → some_policy p ≡ some_policy q → p ≡ q
    same p q is = cc

    held : (c : Context) (o : Option Context) → option_map (λ (x : Context). x.policy) o ≡ Some c.policy → has_policy c.policy o ≡ true
    held c None none = let bad : none_policy ≡ some_policy c.policy = none in absurd (cc)
    held c (Some x) is = ap (λ (p : Policy). is_same_policy p c.policy) (same x.policy c.policy is) ∙ itself (policy_bytes c.policy)

    under : (o : Option Context) → context_at m.nodes e.dir ≡ o → may_hold o (context_at m.nodes e.number) ≡ true
    under None here = refl
    under (Some c) here = held c (context_at m.nodes e.number) (well.nodes.sealed.inherits e.dir old e.number c here of.there)

-- ---- at the end of the old path

module _ (m : PlainMount) (path new_path : PathParts) (named : (is_root path || is_root new_path) ≡ false) where
  pub source_refused : (r : Refusal) → Err r ≡ entry_end true m path → answer_to_rename m path new_path ≡ refusal_with m r
  source_refused r is = end_refused m path true r is (is_root path || is_root new_path) named Inval (answer_to_move_from m new_path)

  pub rename_is : (e : Entry) (from : IsAt m path true e) → answer_to_rename m path new_path ≡ answer_to_move_from m new_path e.dir from.name e.number
  rename_is e from = end_is m path true e from (is_root path || is_root new_path) named Inval (answer_to_move_from m new_path)

-- ---- the state in which it was moved

module _ (old : MountState) (m : PlainMount) (st : Represents old m) (e : Entry) (name : Name) (of : IsEntryOf m name e) (place : Place) (new_name : Name) (at : IsNewName m place.dir new_name place) where
  abbrev after_move : Nodes
  after_move = moved m.nodes e.dir name place.dir new_name e.number

  abbrev taken_disk : Disk
  taken_disk = changed old.disk e.dir (on_body (with_entries (without_entry e.stored)))

  form_left : place.stored ≡ stored_form m.raws place.dir (context_at (without_entry_name m.nodes e.dir name) place.dir) new_name
  form_left =
      at.stored ∙ ap (λ (o : Option Context). stored_form m.raws place.dir o new_name)
      (sym (read_changed context_in m.nodes e.dir (on_children (without_child name)) (λ v. refl) place.dir))

  agree_after : AgreesBy (stored_node m.raws) after_move (disk.with_moved_entry old.disk e.dir e.stored place.dir place.stored e.number)
  agree_after = put_agrees m.raws (without_entry_name m.nodes e.dir name) taken_disk
      (taken_agrees m.raws m.nodes old.disk st.tree.nodes e.dir e.stored name of.stored (stored_apart old.disk old.next_node m st.well st.tree e.dir name (ap is_some of.there)))
      place.dir place.stored new_name e.number form_left

  pub moved_stands : (new : MountState) → SameButTree old new → new.next_node ≡ old.next_node → new.disk ≡ disk.with_moved_entry old.disk e.dir e.stored place.dir place.stored e.number → new.inodes ≡ old.inodes
      → RepresentsNames new.names after_move → IsWellFormed (with_moved m e.dir name place.dir new_name e.number) → Represents new (with_moved m e.dir name place.dir new_name e.number)
  moved_stands new same next disk_is inodes names well =
      nodes_stand old new m after_move st same next
      (subst (λ (x : Disk). AgreesBy (stored_node m.raws) after_move x) (sym disk_is) agree_after)
      (subst (λ (x : Cache). RepresentsCaches x old.modes (with_nodes m after_move)) (sym inodes)
      (caches_alike old.inodes old.modes m after_move m.next (record {
        contexts = λ n key there. read_moved context_in context_left_so m.nodes e.dir name place.dir new_name e.number n;
        kinds = λ n key there. read_moved plain_kind kind_left_so m.nodes e.dir name place.dir new_name e.number n;
      }) st.caches))
      names well

pub rename_well : (m : PlainMount) (path new_path : PathParts) → IsWellFormed m → IsPath path → IsPath new_path → IsWellFormed (answer_to_rename m path new_path).mount
rename_well m path new_path well fits new_fits =
    step_well m 0 (record { uid = 0; op = op.Rename path new_path }) (answer_to_rename m path new_path).reply (answer_to_rename m path new_path).mount
    well (fits, new_fits) (λ _. tt) (inl (refl, refl))

-- the disk once the entry was moved
pub move_seen : (old new : Disk) (e : Entry) (place : Place) (from to : List ℕ) → from ≡ e.stored → to ≡ place.stored → IsEntryOn old e
    → IfSome (number_under from (stored_entries old e.dir)) (λ n. new ≡ disk.with_moved_entry old e.dir from place.dir to n) → new ≡ disk.with_moved_entry old e.dir e.stored place.dir place.stored e.number
move_seen old new e place from to from_is to_is there moved_so =
    subst (λ (o : Option ℕ). IfSome o (λ n. new ≡ disk.with_moved_entry old e.dir e.stored place.dir place.stored n)) there
    (subst (λ (b : List ℕ). IfSome (number_under e.stored (stored_entries old e.dir)) (λ n. new ≡ disk.with_moved_entry old e.dir e.stored place.dir b n)) to_is
    (subst (λ (b : List ℕ). IfSome (number_under b (stored_entries old e.dir)) (λ n. new ≡ disk.with_moved_entry old e.dir b place.dir to n)) from_is moved_so))

-- ---- why it can't come to the directory

module _ (m : PlainMount) (e : Entry) (to : ℕ) (past : Bool) (name : Name) where
  abbrev holds : Bool
  holds = may_hold (context_at m.nodes to) (context_at m.nodes e.number)

  abbrev why : Option Refusal
  why = move_refusal m e.dir e.number to past name

  abbrev after_apart : Option Refusal
  after_apart = cond (is_full_elsewhere m e.dir to) (Some NoSpace) None

  abbrev after_holds : Option Refusal
  after_holds = cond (clashes m to name) (Some NoKeyClash) after_apart

  abbrev after_free : Option Refusal
  after_free = cond past (Some Inval) (cond (not holds) (Some XDev) after_holds)

  pub locked_there : is_keyed m to ≡ false → why ≡ Some NoKey
  locked_there locked =
      ap (λ b. cond (not b) (Some NoKey) (cond (is_some (entry m.nodes to name)) (Some Exists) after_free)) locked

  module _ (keyed : is_keyed m to ≡ true) where
    pub taken_there : is_some (entry m.nodes to name) ≡ true → why ≡ Some Exists
    taken_there taken = λ i. cond (not (keyed i)) (Some NoKey) (cond (taken i) (Some Exists) after_free)

    module _ (free : is_some (entry m.nodes to name) ≡ false) where
      rest_told : why ≡ after_free
      rest_told = λ i. cond (not (keyed i)) (Some NoKey) (cond (free i) (Some Exists) after_free)

      pub below_itself : past ≡ true → why ≡ Some Inval
      below_itself is = rest_told ∙ ap (λ b. cond b (Some Inval) (cond (not holds) (Some XDev) after_holds)) is

      module _ (outside : past ≡ false) where
        pub other_policy : holds ≡ false → why ≡ Some XDev
        other_policy other =
            rest_told ∙ (λ i. cond (outside i) (Some Inval) (cond (not (other i)) (Some XDev) after_holds))

        module _ (alike : holds ≡ true) where
          places_told : why ≡ after_holds
          places_told =
              rest_told ∙ (λ i. cond (outside i) (Some Inval) (cond (not (alike i)) (Some XDev) after_holds))

          pub clash_there : clashes m to name ≡ true → why ≡ Some NoKeyClash
          clash_there clash = places_told ∙ ap (λ b. cond b (Some NoKeyClash) after_apart) clash

          module _ (apart : clashes m to name ≡ false) where
            pub full_there : is_full_elsewhere m e.dir to ≡ true → why ≡ Some NoSpace
            full_there full =
                places_told ∙ (λ i. cond (apart i) (Some NoKeyClash) (cond (full i) (Some NoSpace) None))

            pub nothing_against : is_full_elsewhere m e.dir to ≡ false → why ≡ None
            nothing_against room =
                places_told ∙ (λ i. cond (apart i) (Some NoKeyClash) (cond (room i) (Some NoSpace) None))

-- ---- the walk to the new directory

abbrev ok_past : ℕ → Bool → Result (ℕ × Bool) Refusal
ok_past n past = Ok (n, past)

abbrev no_past : Refusal → Result (ℕ × Bool) Refusal
no_past r = Err r

abbrev ok_at : ℕ → WalkResult
ok_at n = Ok n

abbrev no_at : Refusal → WalkResult
no_at r = Err r

pub walk_led : (past whole : Bool) (n : ℕ) (w : WalkResult) → ok_past n past ≡ with_past whole w → ok_at n ≡ w
walk_led past whole n (Ok k) is = ap ok_at (number is)
  where
    number : ok_past n past ≡ ok_past k whole → n ≡ k
    number is = let pair : (ℕ × Bool) = (n, past) in let other : (ℕ × Bool) = (k, whole) in let both : pair ≡ other = cc in ap (λ (p : ℕ × Bool). p.0) both
walk_led past whole n (Err r) is = let bad : ok_past n past ≡ no_past r = is in absurd (cc)

pub walk_passed : (past whole : Bool) (n : ℕ) (w : WalkResult) → ok_past n past ≡ with_past whole w → past ≡ whole
walk_passed past whole n (Ok k) is = flag is
  where
    flag : ok_past n past ≡ ok_past k whole → past ≡ whole
    flag is = let pair : (ℕ × Bool) = (n, past) in let other : (ℕ × Bool) = (k, whole) in let both : pair ≡ other = cc in ap (λ (p : ℕ × Bool). p.1) both
walk_passed past whole n (Err r) is = let bad : ok_past n past ≡ no_past r = is in absurd (cc)

pub walk_stopped : (whole : Bool) (r : Refusal) (w : WalkResult) → no_past r ≡ with_past whole w → no_at r ≡ w
walk_stopped whole r (Err q) is = ap no_at (same is)
  where
    same : no_past r ≡ no_past q → r ≡ q
    same is = cc
walk_stopped whole r (Ok n) is = let bad : no_past r ≡ ok_past n whole = is in absurd (cc)

-- what is answered at the entry, which has this name
module _ (m : PlainMount) (e : Entry) (name : Name) (path : PathParts) where
  abbrev moved_unless : ℕ → Option Refusal → Answer
  moved_unless to o = done_unless m o (with_moved m e.dir name to (last_part path) e.number)

  abbrev why_in : ℕ → Option Refusal
  why_in to = move_refusal m e.dir e.number to (is_at_or_above m e.number path) (last_part path)

  -- in the directory that the path resolves to
  abbrev move_in : ℕ → Answer
  move_in to = moved_unless to (why_in to)

  abbrev answer : Answer
  answer = answer_to_move_from m path e.dir name e.number

  pub refused_walk : (r : Refusal) → no_at r ≡ parent m path → answer ≡ refusal_with m r
  refused_walk r is = ap (λ w. at_node m w move_in) (sym is)

  pub told_there : (to : ℕ) → ok_at to ≡ parent m path → (o : Option Refusal) → why_in to ≡ o
      → answer ≡ moved_unless to o
  told_there to led o is = ap (λ w. at_node m w move_in) (sym led) ∙ ap (moved_unless to) is

-- at the directory that was reached
pub why_there : (m : PlainMount) (e : Entry) (path : PathParts) (to : ℕ) (past : Bool) (part : Name)
    → past ≡ is_at_or_above m e.number path → part ≡ last_part path
    → move_refusal m e.dir e.number to (is_at_or_above m e.number path) (last_part path)
    ≡ move_refusal m e.dir e.number to past part
why_there m e path to past part passed is = λ i. move_refusal m e.dir e.number to (sym passed i) (sym is i)

pub named_path : (path : PathParts) → 1 ≤ length path → is_root path ≡ false
named_path path some = ne_eqb (length path) 0 (λ none. absurd (omega arith))

-- what holds at the place's own directory holds at this one
pub why_here : (m : PlainMount) (e : Entry) (to : ℕ) (past : Bool) (name : Name) (place : Place) → IsNewName m to name place → (r : Option Refusal)
    → (IsNewName m place.dir name place → r ≡ move_refusal m e.dir e.number place.dir past name)
    → move_refusal m e.dir e.number to past name ≡ r
why_here m e to past name place at r told =
    ap (λ (d : ℕ). move_refusal m e.dir e.number d past name) (sym at.dir)
    ∙ sym (told (subst (λ (d : ℕ). IsNewName m d name place) (sym at.dir) at))

pub placed_at : (m : PlainMount) (e : Entry) (path : PathParts) (place : Place) (to : ℕ) (past : Bool) (part : Name) → ok_at to ≡ parent m path → past ≡ is_at_or_above m e.number path
    → part ≡ last_part path → place.dir ≡ to → IsNewName m to part place
    → move_refusal m e.dir e.number to past part ≡ None → IsTargetAt m e path place
placed_at m e path place to past part led passed part_is dir_is named free = record {
  led = sym led ∙ ap ok_at (sym dir_is);
  named = subst (λ (d : ℕ). IsNewName m d (last_part path) place) (sym dir_is) (subst (λ (p : Name). IsNewName m to p place) part_is named);
  free = ap (λ (d : ℕ). move_refusal m e.dir e.number d (is_at_or_above m e.number path) (last_part path)) dir_is
      ∙ why_there m e path to past part passed part_is ∙ free;
}

-- ---- at the entry

module _ (m : PlainMount) (e : Entry) (name : Name) (path : PathParts) (place : Place) (at : IsTargetAt m e path place) where
  abbrev pub after_moving : PlainMount
  after_moving = with_moved m e.dir name place.dir (last_part path) e.number

  pub moved_is : answer_to_move_from m path e.dir name e.number ≡ done after_moving
  moved_is = told_there m e name path place.dir (sym at.led) None at.free

  pub moved_well : IsWellFormed (answer_to_move_from m path e.dir name e.number).mount → IsWellFormed after_moving
  moved_well well = subst IsWellFormed (ap (λ (a : Answer). a.mount) moved_is) well

-- ---- what must be forgotten goes on being forgotten, whether the entry was moved or not

module _ (s : MountState) (e : Entry) (place : Place) (new : Disk) (from to : List ℕ) (from_is : from ≡ e.stored) (to_is : to ≡ place.stored) (there : IsEntryOn s.disk e) where
  abbrev MovedSo : Type 0
  MovedSo = IfSome (number_under from (stored_entries s.disk e.dir)) (λ n. new ≡ disk.with_moved_entry s.disk e.dir from place.dir to n)

  pub moved_keeps : {T : Type 0} (r : Result T DiskFault) → OnOk r MovedSo → OnErr r (new ≡ s.disk) → Forgets new s.ring.claims s.inodes s.modes s.handles.live
  moved_keeps (Ok t) so kept = subst (λ (x : Disk). Forgets x s.ring.claims s.inodes s.modes s.handles.live) (sym (move_seen s.disk new e place from to from_is to_is there so))
      (moved_rule s.disk s.next_node s.ring.claims s.inodes s.modes s.handles.live s.forgets s.safe e.dir e.stored place.dir place.stored e.number)
  moved_keeps (Err f) so kept = subst (λ (x : Disk). Forgets x s.ring.claims s.inodes s.modes s.handles.live) (sym kept) s.forgets

  pub moved_is_safe : {T : Type 0} (r : Result T DiskFault) → OnOk r MovedSo → OnErr r (new ≡ s.disk) → IsSafe new s.next_node s.handles.live
  moved_is_safe (Ok t) so kept = subst (λ (x : Disk). IsSafe x s.next_node s.handles.live) (sym (move_seen s.disk new e place from to from_is to_is there so))
      (moved_safe s.disk s.next_node s.ring.claims s.inodes s.modes s.handles.live s.forgets s.safe e.dir e.stored place.dir place.stored e.number)
  moved_is_safe (Err f) so kept = subst (λ (x : Disk). IsSafe x s.next_node s.handles.live) (sym kept) s.safe

  pub moved_forgets : {T : Type 0} (names : NameList) → NamesForget s.disk s.ring.claims names s.handles.live → (r : Result T DiskFault) → OnOk r MovedSo → OnErr r (new ≡ s.disk) → NamesForget new s.ring.claims names s.handles.live
  moved_forgets names rule (Ok t) so kept = names_on _ new s.ring.claims names s.handles.live (move_seen s.disk new e place from to from_is to_is there so)
      (moved_names s.disk s.ring.claims names s.handles.live rule e.dir e.stored place.dir place.stored e.number)
  moved_forgets names rule (Err f) so kept = names_on s.disk new s.ring.claims names s.handles.live kept rule
