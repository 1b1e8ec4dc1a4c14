-- What of names may be cached goes on holding after each kind of change of the stored tree.
use Rattle.std.proofs.Common.{◌≡◌, ◌≢◌, ℕ, Bool, true, false, List, length, Contains, Option, Some, None, option_map, eqb, inl, inr, refl, sym, ap, subst, ◌∙◌}
use Rattle.std.proofs.lemmas.Bool.{true≢false, eq-eqb, eqb-true, or_left, cases_eq}
use Rattle.policy_ctx.specs.declared.policy.Context.{Context}
use Rattle.policy_ctx.specs.Context.{context_bytes, id_in}
use Rattle.policy_ctx.proofs.Encodings.{id_in-context_bytes}
use Rattle.number_map.specs.Numbered.{get, insert, remove, changed}
use Rattle.number_map.proofs.NumberedLemmas.{changed_here, changed_other}
use Rattle.user_claims.specs.Claims.{ClaimSet}
use Rattle.user_claims.specs.ClaimCounts.{is_present}
use Rattle.dentry_cache.specs.Names.{Pair, NameList}
use Rattle.dentry_cache.specs.HeldNames.{HoldsNoneIn}
use Rattle.disk_tree.specs.DiskTree.{Disk, IsDirAt, of_node}
use Rattle.disk_tree.specs.EntryChanges.{with_entry_and_name, without_entry_and_name, with_moved_entry}
use Rattle.disk_tree.specs.Entries.{Entries}
use Rattle.disk_tree.specs.Nodes.{IsDir, with_entries, with_context}
use Rattle.disk_tree.specs.declared.node.StoredNode.{StoredNode}
use Rattle.disk_tree.specs.declared.node.Body.{Body}
use Rattle.disk_tree.specs.declared.node.Body.TheVariants.{Dir, File, Link}
use Rattle.mount_model.specs.PlainMount.{HandleList}
use Rattle.mount_model.specs.OpenHandles.{has_handle}
use Rattle.mount_state.specs.CachedNames.{NamesForget, is_dir_body, is_dir_node, is_dir_on_disk}
use Rattle.mount_state.specs.Contexts.{context_on_disk}
use Rattle.mount_state.specs.KeyUse.{is_unlocked_under}
use Rattle.mount_state.proofs.CachedLemmas.{forget_when}
use Rattle.mount_names.proofs.DiskRules.{Leaves, leaves_context, read_dropped, read_moved, read_made}
use Rattle.mount_names.proofs.EditLemmas.{read_changed, read_removed}

dir_left : (g : Entries → Entries) (b : Body) → is_dir_body (with_entries g b) ≡ is_dir_body b
dir_left g (Dir entries) = refl
dir_left g (File blocks size) = refl
dir_left g (Link target) = refl

leaves_dir : Leaves is_dir_node
leaves_dir = record { entries = λ g v. dir_left g v.body; named = λ b v. refl }

-- a node that is no directory has no names
dir_lies : (o : Option StoredNode) → is_dir_node o ≡ true → of_node ⊥ (λ node. IsDir node.body) o
dir_lies None bad = absurd (true≢false (sym bad))
dir_lies (Some v) is = at v.body is
  where
    at : (b : Body) → is_dir_body b ≡ true → IsDir b
    at (Dir entries) is = tt
    at (File blocks size) bad = absurd (true≢false (sym bad))
    at (Link target) bad = absurd (true≢false (sym bad))

-- the directory has the context that it was given
policy_here : (disk : Disk) (d : ℕ) (c : Context) → IsDirAt disk d → context_on_disk (get (changed disk d (with_context (context_bytes c))) d) ≡ Some (context_bytes c)
policy_here disk d c dir = ap context_on_disk (changed_here disk d (with_context (context_bytes c))) ∙ given (get disk d) dir
  where
    given : (o : Option StoredNode) → of_node ⊥ (λ node. IsDir node.body) o → context_on_disk (option_map (with_context (context_bytes c)) o) ≡ Some (context_bytes c)
    given None bad = absurd bad
    given (Some v) is = refl

module _ (disk : Disk) (claims : ClaimSet) (names : NameList) (live : HandleList) (rule : NamesForget disk claims names live) where
  -- names are cached of directories that are read as before
  alike : (new : Disk)
      → ((pair : Pair) → Contains names.pairs pair → (is_dir_node (get new pair.0.dir) ≡ is_dir_node (get disk pair.0.dir)) × (context_on_disk (get new pair.0.dir) ≡ context_on_disk (get disk pair.0.dir)))
      → NamesForget new claims names live
  alike new same = forget_when disk new claims claims live live names rule (λ pair held dir keyed.
      let read = same pair held in
      (read.0 ∙ dir, ap (is_unlocked_under claims live pair.0.dir) read.1 ∙ keyed))

  pub no_names_of : (x : ℕ) → (IsDirAt disk x → ⊥) → HoldsNoneIn names x
  no_names_of x other = λ pair held. by_case pair held (eqb pair.0.dir x) refl
    where
      by_case : (pair : Pair) → Contains names.pairs pair → (b : Bool) → eqb pair.0.dir x ≡ b → b ≡ false
      by_case pair held false is = refl
      by_case pair held true is =
          let same : pair.0.dir ≡ x = eqb-true pair.0.dir x is in
          absurd (other (dir_lies (get disk x) (ap (is_dir_on_disk disk) (sym same) ∙ rule.there pair held)))

  -- ---- a node comes

  pub made_names : (next : ℕ) → get disk next ≡ None → (w : StoredNode) (d : ℕ) (name : List ℕ) → NamesForget (with_entry_and_name (insert disk next w) d name next) claims names live
  made_names next lacks w d name = alike (with_entry_and_name (insert disk next w) d name next) (λ pair held.
      let differ : (pair.0.dir ≢ next) = λ same. true≢false (sym (rule.there pair held) ∙ ap is_dir_node (ap (get disk) same ∙ lacks)) in
      (read_made is_dir_node leaves_dir disk next w d name pair.0.dir differ, read_made context_on_disk leaves_context disk next w d name pair.0.dir differ))

  -- ---- a name goes, and a node

  pub dropped_names : (d : ℕ) (name : List ℕ) (x : ℕ) → NamesForget (without_entry_and_name disk d name x) claims names live
  dropped_names d name x = alike (without_entry_and_name disk d name x) (λ pair _.
      (read_dropped is_dir_node leaves_dir disk d name x pair.0.dir, read_dropped context_on_disk leaves_context disk d name x pair.0.dir))

  pub gone_names : (x : ℕ) → HoldsNoneIn names x → NamesForget (remove disk x) claims names live
  gone_names x none = alike (remove disk x) (λ pair held.
      let differ : (pair.0.dir ≢ x) = λ same. true≢false (sym (eq-eqb pair.0.dir x same) ∙ none pair held) in
      (read_removed is_dir_node disk x pair.0.dir differ, read_removed context_on_disk disk x pair.0.dir differ))

  -- ---- a name moves

  pub moved_names : (d : ℕ) (name : List ℕ) (to : ℕ) (new_name : List ℕ) (x : ℕ) → NamesForget (with_moved_entry disk d name to new_name x) claims names live
  moved_names d name to new_name x = alike (with_moved_entry disk d name to new_name x) (λ pair _.
      (read_moved is_dir_node leaves_dir disk d name to new_name x pair.0.dir, read_moved context_on_disk leaves_context disk d name to new_name x pair.0.dir))

  -- ---- a directory gets a policy of a key that is present

  pub policy_names : (d : ℕ) (c : Context) → IsDirAt disk d → length c.policy.id.0 ≡ 16 → is_present claims c.policy.id ≡ true
      → NamesForget (changed disk d (with_context (context_bytes c))) claims names live
  policy_names d c dir size present = forget_when disk (changed disk d (with_context (context_bytes c))) claims claims live live names rule (λ pair held is keyed. (
    read_changed is_dir_node disk d (with_context (context_bytes c)) (λ v. refl) pair.0.dir ∙ is,
    elim (cases_eq pair.0.dir d) [
      | inl same ↦
          ap (λ n. is_unlocked_under claims live pair.0.dir (context_on_disk (get (changed disk d (with_context (context_bytes c))) n))) same
          ∙ (ap (is_unlocked_under claims live pair.0.dir) (policy_here disk d c dir)
          ∙ or_left (is_present claims (id_in (context_bytes c))) (has_handle live pair.0.dir)
          (ap (is_present claims) (id_in-context_bytes c size) ∙ present))
      | inr differ ↦
          ap (λ o. is_unlocked_under claims live pair.0.dir (context_on_disk o)) (changed_other disk d (with_context (context_bytes c)) pair.0.dir differ) ∙ keyed
    ],
  ))

-- the same of parts that are given by equations
pub names_on : (disk new : Disk) (claims : ClaimSet) (names : NameList) (live : HandleList) → new ≡ disk → NamesForget disk claims names live → NamesForget new claims names live
names_on disk new claims names live is rule = subst (λ (x : Disk). NamesForget x claims names live) (sym is) rule
