-- What is on the disk of a node is the mount's node in its stored form.
use Rattle.std.proofs.Common.{◌≡◌, ℕ, true, Option, Some, None, option_map, refl, sym, ap, subst, ◌∙◌}
use Rattle.std.proofs.lemmas.Bool.{true≢false}
use Rattle.policy_ctx.specs.declared.policy.Context.{Context}
use Rattle.policy_ctx.specs.Context.{context_bytes}
use Rattle.number_map.specs.Numbered.{get}
use Rattle.plain_tree.specs.Nodes.{Node, Body, Dir, File, Link, is_dir}
use Rattle.plain_tree.specs.NodesByNumber.{is_dir_in, is_dir_at, context_at}
use Rattle.disk_tree.specs.DiskTree.{Disk, IsDirAt, of_node}
use Rattle.disk_tree.specs.Nodes.{IsDir}
use Rattle.mount_model.specs.PlainMount.{PlainMount, Raws}
use Rattle.mount_model.specs.WellFormed.{IsWellFormed}
use Rattle.mount_state.specs.Contexts.{context_on_disk}
use Rattle.mount_state.specs.NamesKey.{IsContextOf}
use Rattle.mount_state.specs.Stored.{stored_node}
use Rattle.mount_state.specs.Represents.{RepresentsTree}
use Rattle.mount_state.proofs.StandLemmas.{context_is, id_sized}

dir_from : (raws : Raws) (n : ℕ) (o : Option Node) → of_node ⊥ (λ node. IsDir node.body) (option_map (stored_node raws n) o) → is_dir_in o ≡ true
dir_from raws n None is = absurd is
dir_from raws n (Some v) is = at v.body is
  where
    at : (b : Body) → of_node ⊥ (λ node. IsDir node.body) (Some (stored_node raws n (record v { body = b }))) → is_dir b ≡ true
    at (Dir children) is = refl
    at (File contents) is = absurd is
    at (Link target) is = absurd is

dir_to : (raws : Raws) (n : ℕ) (o : Option Node) → is_dir_in o ≡ true → of_node ⊥ (λ node. IsDir node.body) (option_map (stored_node raws n) o)
dir_to raws n None bad = absurd (true≢false (sym bad))
dir_to raws n (Some v) is = at v.body is
  where
    at : (b : Body) → is_dir b ≡ true → of_node ⊥ (λ node. IsDir node.body) (Some (stored_node raws n (record v { body = b })))
    at (Dir children) is = tt
    at (File contents) bad = absurd (true≢false (sym bad))
    at (Link target) bad = absurd (true≢false (sym bad))

module _ (disk : Disk) (next : ℕ) (m : PlainMount) (tree : RepresentsTree disk next m) (n : ℕ) where
  pub dir_read : IsDirAt disk n → is_dir_at m.nodes n ≡ true
  dir_read is = dir_from m.raws n (get m.nodes n) (subst (of_node ⊥ (λ node. IsDir node.body)) (tree.nodes n) is)

  pub dir_lies : is_dir_at m.nodes n ≡ true → IsDirAt disk n
  dir_lies is = subst (of_node ⊥ (λ node. IsDir node.body)) (sym (tree.nodes n)) (dir_to m.raws n (get m.nodes n) is)

  -- what is read of the node's context
  pub reported_context : IsWellFormed m → (result : Option Context) → IsContextOf disk n result → (context_on_disk (get disk n) ≡ None → result ≡ None) → result ≡ context_at m.nodes n
  reported_context well result read none = by_case (context_at m.nodes n) refl
    where
      by_case : (o : Option Context) → context_at m.nodes n ≡ o → result ≡ context_at m.nodes n
      by_case None here = none (context_is disk next m well tree n ∙ ap (option_map context_bytes) here) ∙ sym here
      by_case (Some c) here = read c (id_sized disk next m well tree n c here) (context_is disk next m well tree n ∙ ap (option_map context_bytes) here) ∙ sym here
