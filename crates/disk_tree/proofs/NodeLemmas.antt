-- A node whose body is changed in place, as a change of the map.
use Rattle.std.proofs.Common.{◌≡◌, ℕ, Some, sym, ap, ◌∙◌}
use Rattle.number_map.specs.Numbered.{get, insert, changed}
use Rattle.number_map.proofs.NumberedLemmas.{changed_Some, insert_same}
use Rattle.disk_tree.specs.Nodes.{on_body}
use Rattle.disk_tree.specs.DiskTree.{Disk}
use Rattle.disk_tree.specs.declared.node.StoredNode.{StoredNode}
use Rattle.disk_tree.specs.declared.node.Body.{Body}

module _ (disk : Disk) (number : ℕ) (node : StoredNode) (body : Body) (there : get disk number ≡ Some node) where
  pub body_changed : (f : Body → Body) → body ≡ f node.body → insert disk number (record node { body = body }) ≡ changed disk number (on_body f)
  body_changed f is =
      ap (λ (b : Body). let n : StoredNode = record node { body = b } in insert disk number n) is
      ∙ sym (changed_Some disk number (on_body f) node there)

  pub body_kept : body ≡ node.body → insert disk number (record node { body = body }) ≡ disk
  body_kept is =
      ap (λ (b : Body). let n : StoredNode = record node { body = b } in insert disk number n) is
      ∙ insert_same disk number node there
