-- What a state answers of keys is what the mount that it represents answers.
use Rattle.std.proofs.Common.{◌≡◌, ℕ, Bool, ◌||◌, List, length, Option, Some, None, option_map, refl, sym, ap, ◌∙◌}
use Rattle.policy_ctx.specs.declared.policy.KeyId.{KeyId}
use Rattle.policy_ctx.specs.declared.policy.Context.{Context}
use Rattle.policy_ctx.specs.KeyIds.{same_id}
use Rattle.policy_ctx.specs.Context.{id_in, context_bytes}
use Rattle.policy_ctx.proofs.Encodings.{id_in-context_bytes}
use Rattle.number_map.specs.Numbered.{get}
use Rattle.user_claims.specs.Claims.{ClaimSet}
use Rattle.user_claims.specs.ClaimCounts.{is_present}
use Rattle.plain_tree.specs.Nodes.{Node}
use Rattle.plain_tree.specs.NodesByNumber.{context_at, context_in as plain_context}
use Rattle.disk_tree.specs.DiskTree.{Disk}
use Rattle.mount_model.specs.PlainMount.{PlainMount, Raws, HandleList}
use Rattle.mount_model.specs.OpenHandles.{has_handle}
use Rattle.mount_model.specs.States as plain
use Rattle.mount_model.specs.WellFormed.{IsWellFormed}
use Rattle.mount_model.specs.SoundNodes.{HasRaw}
use Rattle.mount_state.specs.Contexts.{context_on_disk, names_id, names_key_on_disk}
use Rattle.mount_state.specs.KeyUse.{is_in_use, is_unlocked, is_unlocked_under}
use Rattle.mount_state.specs.Stored.{stored_node}
use Rattle.mount_state.specs.Represents.{RepresentsTree}
use Rattle.mount_state.proofs.UserLemmas.{some_alike}

-- contexts are stored as their bytes
context_stored : (raws : Raws) (n : ℕ) (o : Option Node) → context_on_disk (option_map (stored_node raws n) o) ≡ option_map context_bytes (plain_context o)
context_stored raws n None = refl
context_stored raws n (Some v) = refl

-- whether a node is keyed, by the key that its context names
pub key_tells : (claims : ClaimSet) (live : HandleList) (n : ℕ) (o : Option (List ℕ)) (id : KeyId) → Some id ≡ option_map id_in o
    → is_unlocked_under claims live n o ≡ (is_present claims id || has_handle live n)
key_tells claims live n None id is = let none : Some id ≡ None = is in absurd (cc)
key_tells claims live n (Some context) id is =
    let same : id ≡ id_in context = (let both : Some id ≡ Some (id_in context) = is in cc) in
    ap (λ (k : KeyId). is_present claims k || has_handle live n) (sym same)

module _ (disk : Disk) (next : ℕ) (m : PlainMount) (well : IsWellFormed m) (tree : RepresentsTree disk next m) where
  pub context_is : (n : ℕ) → context_on_disk (get disk n) ≡ option_map context_bytes (context_at m.nodes n)
  context_is n = ap context_on_disk (tree.nodes n) ∙ context_stored m.raws n (get m.nodes n)

  -- an identifier has 16 bytes
  sized : (n : ℕ) (o : Option Node) → get m.nodes n ≡ o → (c : Context) → plain_context o ≡ Some c → length c.policy.id.0 ≡ 16
  sized n None is c there = let none : None ≡ Some c = there in absurd (cc)
  sized n (Some v) is c there = at v.context (well.nodes.policies n v is) c there
    where
      at : (o : Option Context) → HasRaw m.raws o → (c : Context) → o ≡ Some c → length c.policy.id.0 ≡ 16
      at None has c bad = let none : None ≡ Some c = bad in absurd (cc)
      at (Some d) has c same = let is : d ≡ c = (let both : Some d ≡ Some c = same in cc) in ap (λ (x : Context). length x.policy.id.0) (sym is) ∙ has.0

  pub id_sized : (n : ℕ) (c : Context) → context_at m.nodes n ≡ Some c → length c.policy.id.0 ≡ 16
  id_sized n c there = sized n (get m.nodes n) refl c there

  named : (id : KeyId) (o : Option Context) → ((c : Context) → o ≡ Some c → length c.policy.id.0 ≡ 16) → names_id id (option_map context_bytes o) ≡ plain.is_of_id id o
  named id None size = refl
  named id (Some c) size = ap (λ (k : KeyId). same_id k id) (id_in-context_bytes c (size c refl))

  pub names_stand : (id : KeyId) (n : ℕ) → names_key_on_disk disk n id ≡ plain.names_key m.nodes n id
  names_stand id n = ap (names_id id) (context_is n) ∙ named id (context_at m.nodes n) (sized n (get m.nodes n) refl)

  pub busy_stands : (live : HandleList) → live ≡ m.handles → (id : KeyId) → is_in_use disk live id ≡ plain.is_busy m id
  busy_stands live same id =
      ap (λ (hs : HandleList). is_in_use disk hs id) same
      ∙ some_alike (λ n. names_key_on_disk disk n id) (λ n. plain.names_key m.nodes n id) m.handles (names_stand id)

  keyed_by : (claims : ClaimSet) (live : HandleList) (n : ℕ) (o : Option Context) → ((c : Context) → o ≡ Some c → length c.policy.id.0 ≡ 16)
      → claims ≡ m.claims → live ≡ m.handles → is_unlocked_under claims live n (option_map context_bytes o) ≡ plain.is_keyed_under m n o
  keyed_by claims live n None size same_claims same_live = refl
  keyed_by claims live n (Some c) size same_claims same_live =
      λ i. is_present (same_claims i) (id_in-context_bytes c (size c refl) i) || has_handle (same_live i) n

  pub keyed_stands : (claims : ClaimSet) (live : HandleList) → claims ≡ m.claims → live ≡ m.handles → (n : ℕ) → is_unlocked disk claims live n ≡ plain.is_keyed m n
  keyed_stands claims live same_claims same_live n =
      ap (is_unlocked_under claims live n) (context_is n)
      ∙ keyed_by claims live n (context_at m.nodes n) (sized n (get m.nodes n) refl) same_claims same_live

  -- so it does if its context was read from the disk
  pub keyed_told : (claims : ClaimSet) (live : HandleList) → claims ≡ m.claims → live ≡ m.handles → (n : ℕ) (context : List ℕ) → context_on_disk (get disk n) ≡ Some context
      → (b : Bool) → b ≡ is_unlocked_under claims live n (Some context) → b ≡ plain.is_keyed m n
  keyed_told claims live same_claims same_live n context is b told =
      told ∙ (sym (ap (is_unlocked_under claims live n) is) ∙ keyed_stands claims live same_claims same_live n)
