-- A tree with a change of one node that leaves its name, its entries and its kind: contents that are
-- written, a policy that is set.
use Rattle.std.proofs.Common.{◌≡◌, ◌≢◌, ℕ, ◌≤◌, List, length, Some, is_some, bytes_eq, refl, sym, ap, subst, ◌∙◌}
use Rattle.std.specs.List.{IsDistinct}
use Rattle.std.specs.Map.{lookup, keys_of}
use Rattle.policy_ctx.specs.declared.policy.Context.{Context}
use Rattle.number_map.specs.Numbered.{get, changed}
use Rattle.number_map.proofs.NumberedLemmas.{len_changed, changed_other}
use Rattle.plain_tree.specs.Nodes.{Name, Body, Dir, File, Link, Node, Nodes, children_of, is_dir}
use Rattle.plain_tree.specs.BodyChanges.{with_contents}
use Rattle.plain_tree.specs.NodesByNumber.{children_in, context_in, is_named_in, is_dir_in, children, context_at, is_named, is_dir_at, entry}
use Rattle.plain_tree.specs.Changes.{on_contents, with_context, written, with_node_context}
use Rattle.plain_tree.specs.Tree.{HasNames, IsTree}
use Rattle.mount_limits.specs.declared.TheConstants.{MAX_NODES, MAX_CHILDREN}
use Rattle.plain_tree.proofs.ReadLemmas.{read_changed}
use Rattle.plain_tree.proofs.ReachedLemmas.{reached_kept}

-- what a change leaves of each node
pub record Leaves (f : Node → Node) : Type 0 where
  pub named : (v : Node) → (f v).named ≡ v.named
  pub children : (v : Node) → children_of (f v).body ≡ children_of v.body
  pub dir : (v : Node) → is_dir (f v).body ≡ is_dir v.body

module _ (nodes : Nodes) (k : ℕ) (f : Node → Node) (leaves : Leaves f) where
  abbrev after : Nodes
  after = changed nodes k f

  pub edited_children : (q : ℕ) → children after q ≡ children nodes q
  edited_children = read_changed children_in nodes k f leaves.children

  pub edited_named : (q : ℕ) → is_named after q ≡ is_named nodes q
  edited_named = read_changed is_named_in nodes k f leaves.named

  pub edited_dir : (q : ℕ) → is_dir_at after q ≡ is_dir_at nodes q
  edited_dir = read_changed is_dir_in nodes k f leaves.dir

  pub edited_there : (q : ℕ) → is_some (get after q) ≡ is_some (get nodes q)
  edited_there = read_changed (λ o. is_some o) nodes k f (λ v. refl)

  pub edited_entry : (q : ℕ) (n : Name) → entry after q n ≡ entry nodes q n
  edited_entry q n = ap (lookup (bytes_eq n)) (edited_children q)

  was : (q : ℕ) (n : Name) (z : ℕ) → entry after q n ≡ Some z → entry nodes q n ≡ Some z
  was q n z found = sym (edited_entry q n) ∙ found

  names_after : HasNames nodes → HasNames after
  names_after names = record {
    leads = λ q n z found. let old = names.leads q n z (was q n z found) in (old.0, edited_named z ∙ old.1);
    once = λ q e a b z one two. names.once q e a b z (was q a z one) (was e b z two);
    distinct = λ q. subst (λ cs. IsDistinct bytes_eq (keys_of cs)) (sym (edited_children q)) (names.distinct q);
    nameless = λ q none. edited_children q ∙ names.nameless q (sym (edited_named q) ∙ none);
  }

  pub edited_tree : (next : ℕ) → IsTree nodes next → context_at after 0 ≡ context_at nodes 0 → IsTree after next
  edited_tree next tree plain = record {
    root = record {
      named = edited_named 0 ∙ tree.root.named;
      dir = edited_dir 0 ∙ tree.root.dir;
      plain = plain ∙ tree.root.plain;
    };
    names = names_after tree.names;
    reached = λ q named. reached_kept nodes after (λ e n z found. edited_entry e n ∙ found) (tree.reached q (sym (edited_named q) ∙ named));
    room = record {
      below = λ q there. tree.room.below q (sym (edited_there q) ∙ there);
      few_nodes = subst (λ n. n ≤ MAX_NODES) (sym (len_changed nodes k f)) tree.room.few_nodes;
      few_children = λ q. subst (λ cs. length cs ≤ MAX_CHILDREN) (sym (edited_children q)) (tree.room.few_children q);
    };
  }

contents_children : (f : List ℕ → List ℕ) (b : Body) → children_of (with_contents f b) ≡ children_of b
contents_children f (Dir cs) = refl
contents_children f (File contents) = refl
contents_children f (Link target) = refl

contents_dir : (f : List ℕ → List ℕ) (b : Body) → is_dir (with_contents f b) ≡ is_dir b
contents_dir f (Dir cs) = refl
contents_dir f (File contents) = refl
contents_dir f (Link target) = refl

pub leaves_contents : (f : List ℕ → List ℕ) → Leaves (on_contents f)
leaves_contents f = record {
  named = λ v. refl;
  children = λ v. contents_children f v.body;
  dir = λ v. contents_dir f v.body;
}

pub leaves_context : (context : Context) → Leaves (with_context context)
leaves_context context = record { named = λ v. refl; children = λ v. refl; dir = λ v. refl }

pub written_tree : (nodes : Nodes) (next x : ℕ) (f : List ℕ → List ℕ) → IsTree nodes next → IsTree (written nodes x f) next
written_tree nodes next x f tree =
    edited_tree nodes x (on_contents f) (leaves_contents f) next tree (read_changed context_in nodes x (on_contents f) (λ v. refl) 0)

pub encrypted_tree : (nodes : Nodes) (next x : ℕ) (context : Context) → IsTree nodes next → (x ≢ 0) → IsTree (with_node_context nodes x context) next
encrypted_tree nodes next x context tree differ =
    edited_tree nodes x (with_context context) (leaves_context context) next tree
    (ap context_in (changed_other nodes x (with_context context) 0 (λ same. differ (sym same))))
