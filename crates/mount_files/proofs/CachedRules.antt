-- The rule for cached names holds after a handle is opened or closed, and after a file is written.
use Rattle.std.proofs.Common.{◌≡◌, ◌≢◌, ℕ, Bool, true, false, cond, not, ◌&&◌, ◌||◌, List, Contains, eqb, Option, Some, None, Result, Ok, Err, OnOk, OnErr, inl, inr, ◌⊎◌, refl, sym, ap, subst, ◌∙◌}
use Rattle.std.proofs.lemmas.Bool.{cases_eq, or_cases, or_left, or_right, eq-eqb, true≢false}
use Rattle.policy_ctx.specs.Context.{id_in}
use Rattle.number_map.specs.Numbered.{get, remove}
use Rattle.number_map.proofs.NumberedLemmas.{remove_other}
use Rattle.user_claims.specs.Claims.{ClaimSet}
use Rattle.user_claims.specs.ClaimCounts.{is_present}
use Rattle.dentry_cache.specs.Names.{Pair, NameList}
use Rattle.dentry_cache.specs.HeldNames.{HoldsNoMore}
use Rattle.dentry_cache.specs.NameChanges.{without_dir}
use Rattle.dentry_cache.proofs.NameLemmas.{dir_no_more, dir_none}
use Rattle.disk_tree.specs.DiskTree.{Disk}
use Rattle.mount_model.specs.declared.handle.Handle.{Handle}
use Rattle.mount_model.specs.PlainMount.{HandleList}
use Rattle.mount_model.specs.OpenHandles.{has_handle, opens_of}
use Rattle.mount_state.specs.CachedNames.{NamesForget, is_dir_on_disk, is_dir_node}
use Rattle.mount_state.specs.Contexts.{context_on_disk}
use Rattle.mount_state.specs.Handles.{Handles, LosesOne, with_handle}
use Rattle.mount_state.specs.KeyUse.{is_unlocked, is_unlocked_under}
use Rattle.mount_state.proofs.CachedLemmas.{forget_when, keyed_more}
use Rattle.mount_files.specs.Closing.{is_lasting, is_key_needed, disk_after_close, names_after_close}
use Rattle.mount_files.proofs.HandleCounts.{more, held_more, held_others}

-- ---- a handle comes

module _ (disk : Disk) (claims : ClaimSet) (names : NameList) (live : HandleList) (rule : NamesForget disk claims names live) where
  pub opened_names : (h : Handle) → NamesForget disk claims names (more live h)
  opened_names h = forget_when disk disk claims claims live (more live h) names rule (λ pair held dir keyed. (
    dir,
    keyed_more claims claims live (more live h) pair.0.dir (λ id is. is)
        (λ on. held_more live h pair.0.dir ∙ or_left (has_handle live pair.0.dir) (eqb h.node pair.0.dir) on)
        (context_on_disk (get disk pair.0.dir)) keyed,
  ))

pub names_opened : {T E : Type 0} (disk : Disk) (claims : ClaimSet) (names : NameList) (handles left : Handles) (caller node : ℕ)
    → NamesForget disk claims names handles.live → (r : Result T E) → OnOk r (left ≡ with_handle handles caller node) → OnErr r (left ≡ handles)
    → NamesForget disk claims names left.live
names_opened disk claims names handles left caller node rule (Ok x) opened same =
    subst (λ (h : Handles). NamesForget disk claims names h.live) (sym opened)
    (opened_names disk claims names handles.live rule (record { caller = caller; number = opens_of handles.opened caller; node = node }))
names_opened disk claims names handles left caller node rule (Err e) opened same =
    subst (λ (h : Handles). NamesForget disk claims names h.live) (sym same) rule

-- ---- a handle goes

-- no name comes
pub fewer_names : (disk : Disk) (claims : ClaimSet) (names : NameList) (left : HandleList) (node : ℕ) → HoldsNoMore names (names_after_close disk claims names (has_handle left node) node)
fewer_names disk claims names left node = by (has_handle left node || (is_lasting disk node && is_key_needed claims (context_on_disk (get disk node))) || not (is_dir_on_disk disk node))
  where
    by : (b : Bool) → HoldsNoMore names (cond b names (without_dir names node))
    by true = λ pair held. held
    by false = dir_no_more names (without_dir names node) node refl

module _ (disk : Disk) (claims : ClaimSet) (names : NameList) (live left : HandleList) (rule : NamesForget disk claims names live)
    (node : ℕ) (lost : LosesOne live left node) where
  abbrev on : Bool
  on = has_handle left node

  abbrev due : Bool
  due = is_lasting disk node && is_key_needed claims (context_on_disk (get disk node))

  abbrev after : NameList
  after = names_after_close disk claims names (has_handle left node) node

  elsewhere : (pair : Pair) → Contains after.pairs pair → (pair.0.dir ≢ node) ⊎ ((on || due) ≡ true)
  elsewhere pair held = by (on || due) (not (is_dir_on_disk disk node)) refl held
    where
      apart : is_dir_on_disk disk node ≡ false → Contains names.pairs pair → (pair.0.dir ≢ node)
      apart other was same = true≢false (sym (rule.there pair was) ∙ (ap (is_dir_on_disk disk) same ∙ other))

      by : (stays other : Bool) → (not (is_dir_on_disk disk node)) ≡ other → Contains (cond (stays || other) names (without_dir names node)).pairs pair
          → (pair.0.dir ≢ node) ⊎ (stays ≡ true)
      by true other is was = inr refl
      by false true is was = inl (apart (negated (is_dir_on_disk disk node) is) was)
        where
          negated : (b : Bool) → not b ≡ true → b ≡ false
          negated true bad = absurd (true≢false (sym bad))
          negated false is = refl
      by false false is was = inl (λ same. true≢false (sym (eq-eqb pair.0.dir node same) ∙ dir_none names (without_dir names node) node refl pair was))

  -- the disk at other nodes, and at the node if it stays
  disk_same : (d : ℕ) → (d ≢ node) ⊎ ((on || due) ≡ true) → get (disk_after_close disk (has_handle left node) node) d ≡ get disk d
  disk_same d which = by on (is_lasting disk node) (is_key_needed claims (context_on_disk (get disk node))) which
    where
      by : (held lasting key : Bool) → (d ≢ node) ⊎ ((held || (lasting && key)) ≡ true) → get (cond (held || lasting) disk (remove disk node)) d ≡ get disk d
      by true lasting key which = refl
      by false true key which = refl
      by false false key (inl differ) = remove_other disk node d differ
      by false false key (inr bad) = absurd (true≢false (sym bad))

  -- a directory stays keyed at other nodes, and at the node if its key is required or a handle is left
  keyed_apart : (d : ℕ) → (d ≢ node) → is_unlocked disk claims live d ≡ true → is_unlocked disk claims left d ≡ true
  keyed_apart d differ keyed =
      keyed_more claims claims live left d (λ id is. is) (λ held. held_others live left node lost d differ ∙ held) (context_on_disk (get disk d)) keyed

  still_keyed : (d : ℕ) → (d ≢ node) ⊎ ((on || due) ≡ true) → is_unlocked disk claims live d ≡ true → is_unlocked disk claims left d ≡ true
  still_keyed d (inl differ) keyed = keyed_apart d differ keyed
  still_keyed d (inr stays) keyed = elim (cases_eq d node) [
    | inr differ ↦ keyed_apart d differ keyed
    | inl same ↦ subst (λ n. is_unlocked disk claims left n ≡ true) (sym same) (here (context_on_disk (get disk node)) refl (or_cases on due stays))
  ]
    where
      here : (o : Option (List ℕ)) → context_on_disk (get disk node) ≡ o → (on ≡ true) ⊎ (due ≡ true) → is_unlocked_under claims left node o ≡ true
      here None is which = refl
      here (Some context) is (inl held) = or_right (is_present claims (id_in context)) on held
      here (Some context) is (inr both) =
          or_left (is_present claims (id_in context)) on (sym (ap (is_key_needed claims) is) ∙ second (is_lasting disk node) (is_key_needed claims (context_on_disk (get disk node))) both)
        where
          second : (a b : Bool) → (a && b) ≡ true → b ≡ true
          second true b is = is
          second false b bad = absurd (true≢false (sym bad))

  pub closed_names : NamesForget (disk_after_close disk (has_handle left node) node) claims (names_after_close disk claims names (has_handle left node) node) left
  closed_names = record {
    there = λ pair held.
        ap is_dir_node (disk_same pair.0.dir (elsewhere pair held)) ∙ rule.there pair (fewer_names disk claims names left node pair held);
    keyed = λ pair held.
        ap (λ o. is_unlocked_under claims left pair.0.dir (context_on_disk o)) (disk_same pair.0.dir (elsewhere pair held))
        ∙ still_keyed pair.0.dir (elsewhere pair held) (rule.keyed pair (fewer_names disk claims names left node pair held));
  }

-- the same of parts that are given by equations
pub names_on : (disk new : Disk) (claims : ClaimSet) (names now : NameList) (live : HandleList) → new ≡ disk → now ≡ names
    → NamesForget disk claims names live → NamesForget new claims now live
names_on disk new claims names now live is are rule =
    subst (λ (x : Disk). NamesForget x claims now live) (sym is) (subst (λ (n : NameList). NamesForget disk claims n live) (sym are) rule)
