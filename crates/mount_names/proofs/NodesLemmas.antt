-- A state whose disk has other nodes in stored form, and that is the same otherwise, represents the mount
-- with them.
use Rattle.std.proofs.Common.{◌≡◌, ℕ, Bool, false, Option, Some, refl, sym, ap, subst, ◌∙◌}
use Rattle.plain_tree.specs.Nodes.{Name, Children, Body, Dir, File, Link, Node, Nodes}
use Rattle.plain_tree.specs.BodyChanges.{with_children, with_child, without_child}
use Rattle.plain_tree.specs.NodesByNumber.{context_in}
use Rattle.plain_tree.specs.Changes.{on_children, without_entry_name, dropped, moved, named_as}
use Rattle.plain_tree.specs.Facts.{AgreesBy}
use Rattle.number_map.specs.Numbered.{get}
use Rattle.key_ring.specs.Holding.{Holding, secret_of}
use Rattle.key_ring.specs.Modes.{Modes}
use Rattle.mount_state.specs.CachedNames.{RepresentsNames}
use Rattle.mount_state.specs.Handles.{Handles}
use Rattle.mount_model.specs.PlainMount.{PlainMount}
use Rattle.mount_model.specs.WellFormed.{IsWellFormed}
use Rattle.mount_state.specs.Stored.{stored_node}
use Rattle.mount_state.specs.Represents.{Represents}
use Rattle.mount_state.specs.CachedKeys.{RepresentsCaches, plain_kind_of, plain_kind}
use Rattle.mount_state.specs.declared.state.MountState.{MountState}
use Rattle.mount_names.specs.SameButTree.{SameButTree}
use Rattle.mount_names.proofs.EditLemmas.{read_changed}

abbrev pub with_nodes : PlainMount → Nodes → PlainMount
with_nodes m nodes = record m { nodes = nodes }

pub nodes_stand : (old new : MountState) (m : PlainMount) (nodes : Nodes) → Represents old m → SameButTree old new → new.next_node ≡ old.next_node
    → AgreesBy (stored_node m.raws) nodes new.disk → RepresentsCaches new.inodes old.modes (with_nodes m nodes) → RepresentsNames new.names nodes → IsWellFormed (with_nodes m nodes) → Represents new (with_nodes m nodes)
nodes_stand old new m nodes st same next agree caches names well = record {
  well = well;
  tree = record { nodes = agree; next = next ∙ st.tree.next };
  keys = record {
    claims = ap (λ (r : Holding). r.claims) same.ring ∙ st.keys.claims;
    secrets = λ id raw is. st.keys.secrets id raw (ap (λ (r : Holding). secret_of r id) (sym same.ring) ∙ is);
  };
  handles = record { live = ap (λ (h : Handles). h.live) same.handles ∙ st.handles.live; opened = ap (λ (h : Handles). h.opened) same.handles ∙ st.handles.opened };
  caches = subst (λ (x : Modes). RepresentsCaches new.inodes x (with_nodes m nodes)) (sym same.modes) caches;
  names = names;
  records = same.meta ∙ st.records;
}

-- ---- contexts and kinds, which edits of names leave

pub record LeavesNode {A : Type 0} (read : Option Node → A) : Type 0 where
  pub entries : (g : Children → Children) (v : Node) → read (Some (on_children g v)) ≡ read (Some v)
  pub named : (b : Bool) (v : Node) → read (Some (named_as b v)) ≡ read (Some v)

kind_left : (g : Children → Children) (b : Body) → plain_kind_of (with_children g b) ≡ plain_kind_of b
kind_left g (Dir cs) = refl
kind_left g (File contents) = refl
kind_left g (Link target) = refl

pub context_left_so : LeavesNode context_in
context_left_so = record { entries = λ g v. refl; named = λ b v. refl }

pub kind_left_so : LeavesNode plain_kind
kind_left_so = record { entries = λ g v. kind_left g v.body; named = λ b v. refl }

module _ {A : Type 0} (read : Option Node → A) (leaves : LeavesNode read) (nodes : Nodes) where
  pub read_dropped : (d : ℕ) (name : Name) (x n : ℕ) → read (get (dropped nodes d name x) n) ≡ read (get nodes n)
  read_dropped d name x n =
      read_changed read (without_entry_name nodes d name) x (named_as false) (leaves.named false) n
      ∙ read_changed read nodes d (on_children (without_child name)) (leaves.entries (without_child name)) n

  pub read_moved : (d : ℕ) (name : Name) (to : ℕ) (new_name : Name) (x n : ℕ) → read (get (moved nodes d name to new_name x) n) ≡ read (get nodes n)
  read_moved d name to new_name x n =
      read_changed read (without_entry_name nodes d name) to (on_children (with_child new_name x)) (leaves.entries (with_child new_name x)) n
      ∙ read_changed read nodes d (on_children (without_child name)) (leaves.entries (without_child name)) n
