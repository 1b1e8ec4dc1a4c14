-- What is on the disk of a node's context is the context of the mount's node.
use Rattle.std.proofs.Common.{◌≡◌, ℕ, List, length, Option, Some, None, option_map, refl, sym, ap, ◌∙◌}
use Rattle.policy_ctx.specs.declared.policy.Context.{Context}
use Rattle.policy_ctx.specs.Context.{context_bytes}
use Rattle.number_map.specs.Numbered.{get}
use Rattle.disk_tree.specs.DiskTree.{Disk}
use Rattle.plain_tree.specs.Nodes.{Node}
use Rattle.plain_tree.specs.NodesByNumber.{context_at, context_in as plain_context}
use Rattle.mount_model.specs.PlainMount.{PlainMount}
use Rattle.mount_model.specs.WellFormed.{IsWellFormed}
use Rattle.mount_model.specs.SoundNodes.{HasRaw}
use Rattle.mount_state.specs.Contexts as disk
use Rattle.mount_state.specs.Contexts.{has_own, has_shared, uses_own, uses_mode}
use Rattle.mount_state.specs.StoredKinds.{same_kind}
use Rattle.mount_state.specs.Represents.{RepresentsTree}
use Rattle.mount_state.proofs.StandLemmas.{context_is}

pub same_some : {X : Type 0} (a b : X) → Some a ≡ Some b → a ≡ b
same_some a b is = cc

none_of : {X Y : Type 0} (f : X → Y) (o : Option X) → None ≡ option_map f o → o ≡ None
none_of f None is = refl
none_of f (Some x) is = absurd (cc)

-- ---- what is on the disk of a context

module _ (on_disk : Disk) (next : ℕ) (m : PlainMount) (well : IsWellFormed m) (tree : RepresentsTree on_disk next m) (d : ℕ) where
  -- without one there is no policy
  pub no_context : disk.context_on_disk (get on_disk d) ≡ None → context_at m.nodes d ≡ None
  no_context none = none_of context_bytes (context_at m.nodes d) (sym none ∙ context_is on_disk next m well tree d)

  -- an identifier has 16 bytes
  pub id_sized : (o : Option Node) → get m.nodes d ≡ o → (c : Context) → plain_context o ≡ Some c → length c.policy.id.0 ≡ 16
  id_sized None is c there = let none : None ≡ Some c = there in absurd (cc)
  id_sized (Some v) is c there = at v.context (well.nodes.policies d v is) c there
    where
      at : (o : Option Context) → HasRaw m.raws o → (c : Context) → o ≡ Some c → length c.policy.id.0 ≡ 16
      at None has c bad = let none : None ≡ Some c = bad in absurd (cc)
      at (Some other) has c same = sym (ap (λ (x : Context). length x.policy.id.0) (same_some other c same)) ∙ ap (λ (n : ℕ). n) has.0

  -- else it is that of the mount's node
  pub context_read : (bytes : List ℕ) → disk.context_on_disk (get on_disk d) ≡ Some bytes
      → (c : Context) × ((context_at m.nodes d ≡ Some c) × ((bytes ≡ context_bytes c) × (length c.policy.id.0 ≡ 16)))
  context_read bytes is = by_case (context_at m.nodes d) refl (sym is ∙ context_is on_disk next m well tree d)
    where
      by_case : (o : Option Context) → context_at m.nodes d ≡ o → Some bytes ≡ option_map context_bytes o
          → (c : Context) × ((context_at m.nodes d ≡ Some c) × ((bytes ≡ context_bytes c) × (length c.policy.id.0 ≡ 16)))
      by_case None none bad = absurd (cc)
      by_case (Some c) there same = (c, (there, (same_some bytes (context_bytes c) same, id_sized (get m.nodes d) refl c there)))
