-- Which keys a node uses, by the context on the disk.
use Rattle.std.proofs.Common.{◌≡◌, ℕ, true, false, not, ◌&&◌, List, Some, None, inl, inr, sym, ap, ◌∙◌}
use Rattle.std.proofs.lemmas.Bool.{cases_Bool}
use Rattle.policy_ctx.specs.declared.policy.KeyId.{KeyId}
use Rattle.policy_ctx.specs.KeyIds.{same_id}
use Rattle.policy_ctx.specs.Context.{id_in, is_by_mode_in}
use Rattle.policy_ctx.proofs.KeyIdLemmas.{same_id-refl}
use Rattle.fsc_keys.specs.declared.file_keys.KeyKind.{KeyKind}
use Rattle.number_map.specs.Numbered.{get}
use Rattle.disk_tree.specs.DiskTree.{Disk}
use Rattle.mount_state.specs.Contexts.{context_on_disk, has_own, has_shared, uses_own, uses_mode}
use Rattle.mount_state.specs.StoredKinds.{kind_on_disk, same_kind}
use Rattle.mount_files.proofs.ModeCounts.{is_it}

module _ (disk : Disk) (node : ℕ) (none : context_on_disk (get disk node) ≡ None) where
  pub none_unshared : (q : KeyId) (k : KeyKind) → uses_mode disk q k node ≡ false
  none_unshared q k = ap (λ o. has_shared q o && same_kind k (kind_on_disk (get disk node))) none

  pub none_own : (q : KeyId) → uses_own disk node q ≡ false
  none_own q = ap (has_own q) none

module _ (disk : Disk) (node : ℕ) (context : List ℕ) (there : context_on_disk (get disk node) ≡ Some context) where
  module _ (own : is_by_mode_in context ≡ false) where
    pub own_unshared : (q : KeyId) (k : KeyKind) → uses_mode disk q k node ≡ false
    own_unshared q k =
        ap (λ o. has_shared q o && same_kind k (kind_on_disk (get disk node))) there
        ∙ elim (cases_Bool (same_id (id_in context) q)) [
          | inl same ↦ ap (λ b. (b && is_by_mode_in context) && same_kind k (kind_on_disk (get disk node))) same ∙ ap (λ b. b && same_kind k (kind_on_disk (get disk node))) own
          | inr other ↦ ap (λ b. (b && is_by_mode_in context) && same_kind k (kind_on_disk (get disk node))) other
        ]

    pub own_uses : uses_own disk node (id_in context) ≡ true
    own_uses = ap (has_own (id_in context)) there ∙ (λ i. same_id-refl (id_in context) i && not (own i))

  module _ (shared : is_by_mode_in context ≡ true) where
    pub shared_uses : (q : KeyId) (k : KeyKind) → uses_mode disk q k node ≡ is_it (id_in context) (kind_on_disk (get disk node)) q k
    shared_uses q k =
        ap (λ o. has_shared q o && same_kind k (kind_on_disk (get disk node))) there
        ∙ elim (cases_Bool (same_id (id_in context) q)) [
          | inl same ↦
              ap (λ b. (b && is_by_mode_in context) && same_kind k (kind_on_disk (get disk node))) same ∙ ap (λ b. b && same_kind k (kind_on_disk (get disk node))) shared
              ∙ sym (ap (λ b. b && same_kind k (kind_on_disk (get disk node))) same)
          | inr other ↦
              ap (λ b. (b && is_by_mode_in context) && same_kind k (kind_on_disk (get disk node))) other
              ∙ sym (ap (λ b. b && same_kind k (kind_on_disk (get disk node))) other)
        ]

    pub shared_own : (q : KeyId) → uses_own disk node q ≡ false
    shared_own q = ap (has_own q) there ∙ elim (cases_Bool (same_id (id_in context) q)) [
      | inl same ↦ ap (λ b. b && not (is_by_mode_in context)) same ∙ ap not shared
      | inr other ↦ ap (λ b. b && not (is_by_mode_in context)) other
    ]
