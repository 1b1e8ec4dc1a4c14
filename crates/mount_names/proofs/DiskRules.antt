-- The invariants of a state hold after each kind of change of the stored tree.
use Rattle.std.proofs.Common.{◌≡◌, ◌≢◌, ℕ, ◌+◌, Bool, true, false, List, Option, Some, None, is_some, inl, inr, refl, sym, ap, ◌∙◌, arith}
use Rattle.std.proofs.lemmas.Bool.{cases_eq, or_cases, true≢false}
use Rattle.number_map.specs.Numbered.{get, insert, remove, changed}
use Rattle.number_map.proofs.NumberedLemmas.{remove_here}
use Rattle.user_claims.specs.Claims.{ClaimSet}
use Rattle.key_ring.specs.Modes.{Modes}
use Rattle.inode_refs.specs.CacheMaps.{Cache, key_at}
use Rattle.inode_refs.specs.declared.node_key.NodeKey.{NodeKey}
use Rattle.disk_tree.specs.DiskTree.{Disk}
use Rattle.disk_tree.specs.EntryChanges.{with_entry_and_name, without_entry_and_name, with_moved_entry}
use Rattle.disk_tree.specs.Entries.{Entries, with_entry, without_entry}
use Rattle.disk_tree.specs.Nodes.{on_body, with_entries, named_as}
use Rattle.disk_tree.specs.declared.node.StoredNode.{StoredNode}
use Rattle.disk_tree.specs.declared.node.Body.{Body}
use Rattle.disk_tree.specs.declared.node.Body.TheVariants.{Dir, File, Link}
use Rattle.mount_model.specs.PlainMount.{HandleList}
use Rattle.mount_model.specs.OpenHandles.{has_handle}
use Rattle.mount_state.specs.Contexts.{context_on_disk, has_own}
use Rattle.mount_state.specs.StoredKinds.{disk_kind_of, kind_on_disk}
use Rattle.mount_state.specs.Discipline.{Forgets}
use Rattle.mount_state.specs.Safe.{IsSafe}
use Rattle.mount_names.proofs.EditLemmas.{read_changed, read_inserted, read_removed}
use Rattle.mount_names.proofs.HeldLemmas.{IsHeld, rule_alike}

-- ---- what edits of entries and of names leave of a node

pub record Leaves {A : Type 0} (read : Option StoredNode → A) : Type 0 where
  pub entries : (g : Entries → Entries) (v : StoredNode) → read (Some (on_body (with_entries g) v)) ≡ read (Some v)
  pub named : (b : Bool) (v : StoredNode) → read (Some (named_as b v)) ≡ read (Some v)

pub leaves_context : Leaves context_on_disk
leaves_context = record { entries = λ g v. refl; named = λ b v. refl }

kind_left : (g : Entries → Entries) (b : Body) → disk_kind_of (with_entries g b) ≡ disk_kind_of b
kind_left g (Dir entries) = refl
kind_left g (File blocks size) = refl
kind_left g (Link target) = refl

pub leaves_kind : Leaves kind_on_disk
leaves_kind = record { entries = λ g v. kind_left g v.body; named = λ b v. refl }

abbrev there : Option StoredNode → Bool
there o = is_some o

leaves_there : Leaves there
leaves_there = record { entries = λ g v. refl; named = λ b v. refl }

module _ {A : Type 0} (read : Option StoredNode → A) (leaves : Leaves read) (disk : Disk) where
  read_edited : (d : ℕ) (g : Entries → Entries) (n : ℕ) → read (get (changed disk d (on_body (with_entries g))) n) ≡ read (get disk n)
  read_edited d g = read_changed read disk d (on_body (with_entries g)) (leaves.entries g)

  pub read_dropped : (d : ℕ) (name : List ℕ) (x n : ℕ) → read (get (without_entry_and_name disk d name x) n) ≡ read (get disk n)
  read_dropped d name x n =
      read_changed read (changed disk d (on_body (with_entries (without_entry name)))) x (named_as false) (leaves.named false) n
      ∙ read_edited d (without_entry name) n

pub read_moved : {A : Type 0} (read : Option StoredNode → A) (leaves : Leaves read) (disk : Disk) (d : ℕ) (name : List ℕ) (to : ℕ) (new_name : List ℕ) (x n : ℕ)
    → read (get (with_moved_entry disk d name to new_name x) n) ≡ read (get disk n)
read_moved read leaves disk d name to new_name x n =
    read_edited read leaves (changed disk d (on_body (with_entries (without_entry name)))) to (with_entry new_name x) n
    ∙ read_edited read leaves disk d (without_entry name) n

pub read_made : {A : Type 0} (read : Option StoredNode → A) (leaves : Leaves read) (disk : Disk) (next : ℕ) (w : StoredNode) (d : ℕ) (name : List ℕ) (n : ℕ) → (n ≢ next)
    → read (get (with_entry_and_name (insert disk next w) d name next) n) ≡ read (get disk n)
read_made read leaves disk next w d name n differ =
    read_changed read (changed (insert disk next w) d (on_body (with_entries (with_entry name next)))) next (named_as true) (leaves.named true) n
    ∙ read_edited read leaves (insert disk next w) d (with_entry name next) n
    ∙ read_inserted read disk next w n differ

-- ---- a node comes

module _ (disk : Disk) (next : ℕ) (claims : ClaimSet) (cache : Cache) (modes : Modes) (live : HandleList)
    (rule : Forgets disk claims cache modes live) (safe : IsSafe disk next live) where
  pub none_at_next : get disk next ≡ None
  none_at_next = by_case (get disk next) refl
    where
      by_case : (o : Option StoredNode) → get disk next ≡ o → o ≡ None
      by_case None is = refl
      by_case (Some v) is = let below = safe.below next (ap (λ x. is_some x) is) in absurd (omega arith)

  -- a node that isn't there has neither a key nor a handle
  pub unheld : (x : ℕ) → get disk x ≡ None → (n : ℕ) → IsHeld cache live n → (n ≢ x)
  unheld x lacks n held same = elim (or_cases (is_some (key_at cache n)) (has_handle live n) held) [
    | inl key ↦ by_key (key_at cache n) refl key
    | inr handle ↦ true≢false (sym (safe.there n handle) ∙ ap (λ o. is_some o) (ap (get disk) same ∙ lacks))
  ]
    where
      by_key : (o : Option NodeKey) → key_at cache n ≡ o → is_some o ≡ true → ⊥
      by_key None is bad = true≢false (sym bad)
      by_key (Some key) is _ = true≢false (sym (rule.file_keys.named n key is) ∙ ap (λ o. has_own key.id (context_on_disk o)) (ap (get disk) same ∙ lacks))

  module _ (w : StoredNode) (d : ℕ) (name : List ℕ) where
    pub made_rule : Forgets (with_entry_and_name (insert disk next w) d name next) claims cache modes live
    made_rule = rule_alike disk (with_entry_and_name (insert disk next w) d name next) claims cache modes live
        (record {
          contexts = λ n held. read_made context_on_disk leaves_context disk next w d name n (unheld next none_at_next n held);
          kinds = λ n held. read_made kind_on_disk leaves_kind disk next w d name n (unheld next none_at_next n held);
        }) rule

    pub made_safe : IsSafe (with_entry_and_name (insert disk next w) d name next) (next + 1) live
    made_safe = record {
      below = λ n is. elim (cases_eq n next) [
        | inl same ↦ omega arith
        | inr differ ↦ let low = safe.below n (sym (read_made there leaves_there disk next w d name n differ) ∙ is) in omega arith
      ];
      there = λ n held.
          read_made there leaves_there disk next w d name n
          (λ same. true≢false (sym (safe.there n held) ∙ ap (λ o. is_some o) (ap (get disk) same ∙ none_at_next)))
          ∙ safe.there n held;
    }

  -- ---- a name goes

  pub dropped_rule : (d : ℕ) (name : List ℕ) (x : ℕ) → Forgets (without_entry_and_name disk d name x) claims cache modes live
  dropped_rule d name x = rule_alike disk (without_entry_and_name disk d name x) claims cache modes live
      (record {
        contexts = λ n _. read_dropped context_on_disk leaves_context disk d name x n;
        kinds = λ n _. read_dropped kind_on_disk leaves_kind disk d name x n;
      }) rule

  pub dropped_safe : (d : ℕ) (name : List ℕ) (x : ℕ) → IsSafe (without_entry_and_name disk d name x) next live
  dropped_safe d name x = record {
    below = λ n is. safe.below n (sym (read_dropped there leaves_there disk d name x n) ∙ is);
    there = λ n held. read_dropped there leaves_there disk d name x n ∙ safe.there n held;
  }

  -- ---- a name moves

  pub moved_rule : (d : ℕ) (name : List ℕ) (to : ℕ) (new_name : List ℕ) (x : ℕ) → Forgets (with_moved_entry disk d name to new_name x) claims cache modes live
  moved_rule d name to new_name x = rule_alike disk (with_moved_entry disk d name to new_name x) claims cache modes live
      (record {
        contexts = λ n _. read_moved context_on_disk leaves_context disk d name to new_name x n;
        kinds = λ n _. read_moved kind_on_disk leaves_kind disk d name to new_name x n;
      }) rule

  pub moved_safe : (d : ℕ) (name : List ℕ) (to : ℕ) (new_name : List ℕ) (x : ℕ) → IsSafe (with_moved_entry disk d name to new_name x) next live
  moved_safe d name to new_name x = record {
    below = λ n is. safe.below n (sym (read_moved there leaves_there disk d name to new_name x n) ∙ is);
    there = λ n held. read_moved there leaves_there disk d name to new_name x n ∙ safe.there n held;
  }

  -- ---- a node goes that has no handle, and its key before it

  module _ (x : ℕ) (free : has_handle live x ≡ false) where
    abbrev without_key : Cache
    without_key = record cache { keys = remove cache.keys x }

    pub still : (n : ℕ) (key : NodeKey) → key_at without_key n ≡ Some key → (n ≢ x) × (key_at cache n ≡ Some key)
    still n key is = elim (cases_eq n x) [
      | inl same ↦ let none : None ≡ Some key = sym (ap (get (remove cache.keys x)) same ∙ remove_here cache.keys x) ∙ is in absurd (cc)
      | inr differ ↦ (differ, sym (read_removed (λ o. o) cache.keys x n differ) ∙ is)
    ]

    forgotten_rule : Forgets disk claims without_key modes live
    forgotten_rule = record {
      file_keys = record {
        named = λ n key is. rule.file_keys.named n key (still n key is).1;
        kind = λ n key is. rule.file_keys.kind n key (still n key is).1;
        kept = λ n id own held.
            ap (λ o. is_some o) (read_removed (λ o. o) cache.keys x n (λ same. true≢false (sym held ∙ ap (has_handle live) same ∙ free)))
            ∙ rule.file_keys.kept n id own held;
        forgotten = λ n key is. rule.file_keys.forgotten n key (still n key is).1;
      };
      mode_keys = rule.mode_keys;
      pins = record { pinned = rule.pins.pinned; few = rule.pins.few };
    }

    held_elsewhere : (n : ℕ) → IsHeld without_key live n → (n ≢ x)
    held_elsewhere n held same = elim (or_cases (is_some (key_at without_key n)) (has_handle live n) held) [
      | inl key ↦ true≢false (sym key ∙ ap (λ o. is_some o) (ap (get (remove cache.keys x)) same ∙ remove_here cache.keys x))
      | inr handle ↦ true≢false (sym handle ∙ ap (has_handle live) same ∙ free)
    ]

    pub gone_rule : Forgets (remove disk x) claims without_key modes live
    gone_rule = rule_alike disk (remove disk x) claims without_key modes live
        (record {
          contexts = λ n held. read_removed context_on_disk disk x n (held_elsewhere n held);
          kinds = λ n held. read_removed kind_on_disk disk x n (held_elsewhere n held);
        }) forgotten_rule

    pub gone_safe : IsSafe (remove disk x) next live
    gone_safe = record {
      below = λ n is. elim (cases_eq n x) [
        | inl same ↦ absurd (true≢false (sym is ∙ ap (λ o. is_some o) (ap (get (remove disk x)) same ∙ remove_here disk x)))
        | inr differ ↦ safe.below n (sym (read_removed there disk x n differ) ∙ is)
      ];
      there = λ n held. read_removed there disk x n (λ same. true≢false (sym held ∙ ap (has_handle live) same ∙ free)) ∙ safe.there n held;
    }
