-- Nodes remain well formed after a node is made, loses its name, is removed, is moved, is written or gets
-- its policy.
use Rattle.std.proofs.Common.{◌≡◌, ◌≢◌, ℕ, ◌+◌, ◌-◌, ◌<◌, ◌≤◌, false, List, [], Some, None, arith}
use Rattle.policy_ctx.specs.declared.policy.Context.{Context}
use Rattle.number_map.specs.Numbered.{get}
use Rattle.plain_tree.specs.Nodes.{Name, Children, Body, Dir, File, Link, Node, Nodes, contents_of}
use Rattle.plain_tree.specs.BodyChanges.{with_children, with_contents}
use Rattle.plain_tree.specs.NodesByNumber.{children, context_at, is_named, entry}
use Rattle.plain_tree.specs.Changes.{with_new_node, dropped, without_node, moved, written, with_node_context}
use Rattle.plain_tree.specs.Laws.{IsNew, CanBeMade, CanBeMoved}
use Rattle.plain_tree.specs.FittingNodes.{FitsInto, MovesInto}
use Rattle.plain_tree.proofs.MadeLemmas.{made_tree, next_free}
use Rattle.plain_tree.proofs.DroppedLemmas.{dropped_tree}
use Rattle.plain_tree.proofs.GoneLemmas.{gone_tree}
use Rattle.plain_tree.proofs.MovedLemmas.{moved_tree}
use Rattle.plain_tree.proofs.EditedLemmas.{written_tree, encrypted_tree}
use Rattle.plain_tree.proofs.SealedLemmas.{made_sealed, dropped_sealed, gone_sealed, moved_sealed}
use Rattle.plain_tree.proofs.SealLemmas.{written_sealed, encrypted_sealed}
use Rattle.plain_tree.proofs.FactLemmas.{IsOfBodies, each_made, each_dropped, each_gone, each_moved, each_written, each_encrypted, names_made, names_dropped, names_gone, names_moved, names_written, names_encrypted}
use Rattle.mount_model.specs.declared.limits.TheConstants.{LAST_NODE}
use Rattle.mount_limits.specs.declared.TheConstants.{MAX_BLOCKS}
use Rattle.mount_model.specs.PlainMount.{Raws}
use Rattle.mount_model.specs.Sealed.{texts}
use Rattle.mount_model.specs.FileAnswers.{contents_at}
use Rattle.mount_model.specs.Blocks.{block_count, block_total}
use Rattle.mount_model.specs.SoundNodes.{IsName, IsBody, HasRaw, HasNodes}
use Rattle.mount_model.proofs.NodeParts.{total_made, total_dropped, total_gone, total_moved, total_written, total_encrypted}

-- ---- facts of nodes that don't look at names and entries

body_children : (g : Children → Children) (b : Body) → IsBody b → IsBody (with_children g b)
body_children g (Dir cs) is = is
body_children g (File contents) is = is
body_children g (Link target) is = is

bodies_alone : IsOfBodies (λ n v. IsBody v.body)
bodies_alone = record {
  children = λ x g v is. body_children g v.body is;
  named = λ x named v is. is;
}

policies_alone : (raws : Raws) → IsOfBodies (λ n v. HasRaw raws v.context)
policies_alone raws = record { children = λ x g v is. is; named = λ x named v is. is }

module _ (raws : Raws) (nodes : Nodes) (next : ℕ) (well : HasNodes raws nodes next) where
  -- a node that is made
  pub record IsComing (d : ℕ) (name : Name) (v : Node) : Type 0 where
    pub can : CanBeMade nodes d name
    pub new : IsNew v
    pub empty : contents_of v.body ≡ []
    pub fits : FitsInto (texts raws) nodes d name v
    pub spelled : IsName name
    pub small : IsBody v.body
    pub keyed : HasRaw raws v.context
    pub room : next < LAST_NODE

  pub made_well : (d : ℕ) (name : Name) (v : Node) → IsComing d name v → HasNodes raws (with_new_node nodes d name next v) (next + 1)
  made_well d name v is = record {
    tree = made_tree nodes next d name v well.tree is.can is.new;
    sealed = made_sealed (texts raws) nodes next well.tree well.sealed d name v is.can is.new is.fits;
    names = names_made IsName nodes next well.tree well.names d name v is.can is.new is.spelled;
    bodies = each_made (λ n w. IsBody w.body) bodies_alone nodes well.bodies d name next v is.small;
    policies = each_made (λ n w. HasRaw raws w.context) (policies_alone raws) nodes well.policies d name next v is.keyed;
    numbers = let below = is.room in omega arith;
    blocks =
        let same = total_made nodes d name next v (next_free nodes next well.tree.room) is.can.dir is.empty in
        let few = well.blocks in
        omega arith;
  }

  -- a name that is removed, and leaves its node without one
  pub dropped_well : (d : ℕ) (name : Name) (x : ℕ) → entry nodes d name ≡ Some x → children nodes x ≡ [] → HasNodes raws (dropped nodes d name x) next
  dropped_well d name x led none = record {
    tree = dropped_tree nodes d name x next well.tree led none;
    sealed = dropped_sealed (texts raws) nodes next well.tree well.sealed d name x led none;
    names = names_dropped IsName nodes next well.tree well.names d name x led none;
    bodies = each_dropped (λ n w. IsBody w.body) bodies_alone nodes well.bodies d name x;
    policies = each_dropped (λ n w. HasRaw raws w.context) (policies_alone raws) nodes well.policies d name x;
    numbers = well.numbers;
    blocks = let same = total_dropped nodes d name x in let few = well.blocks in omega arith;
  }

  -- a node without name that is removed
  pub gone_well : (x : ℕ) → is_named nodes x ≡ false → HasNodes raws (without_node nodes x) next
  gone_well x nameless = record {
    tree = gone_tree nodes next x well.tree nameless;
    sealed = gone_sealed (texts raws) nodes next well.tree well.sealed x nameless;
    names = names_gone IsName nodes next well.tree well.names x nameless;
    bodies = each_gone (λ n w. IsBody w.body) nodes well.bodies x;
    policies = each_gone (λ n w. HasRaw raws w.context) nodes well.policies x;
    numbers = well.numbers;
    blocks = let fewer = total_gone nodes x in let few = well.blocks in omega arith;
  }

  pub moved_well : (d : ℕ) (name : Name) (to : ℕ) (new_name : Name) (x : ℕ) → CanBeMoved nodes d name to new_name x
      → MovesInto (texts raws) nodes to new_name x → IsName new_name → HasNodes raws (moved nodes d name to new_name x) next
  moved_well d name to new_name x can into is = record {
    tree = moved_tree nodes d name to new_name x next well.tree can;
    sealed = moved_sealed (texts raws) nodes next well.tree well.sealed d name to new_name x can into;
    names = names_moved IsName nodes next well.tree well.names d name to new_name x can is;
    bodies = each_moved (λ n w. IsBody w.body) bodies_alone nodes well.bodies d name to new_name x;
    policies = each_moved (λ n w. HasRaw raws w.context) (policies_alone raws) nodes well.policies d name to new_name x;
    numbers = well.numbers;
    blocks = let same = total_moved nodes d name to new_name x in let few = well.blocks in omega arith;
  }

  pub written_well : (x : ℕ) (f : List ℕ → List ℕ) → ((v : Node) → get nodes x ≡ Some v → IsBody v.body → IsBody (with_contents f v.body))
      → block_count (f (contents_at nodes x)) - block_count (contents_at nodes x) ≤ MAX_BLOCKS - block_total nodes → HasNodes raws (written nodes x f) next
  written_well x f keeps room = record {
    tree = written_tree nodes next x f well.tree;
    sealed = written_sealed (texts raws) nodes x f well.sealed;
    names = names_written IsName nodes well.names x f;
    bodies = each_written (λ n w. IsBody w.body) nodes well.bodies x f keeps;
    policies = each_written (λ n w. HasRaw raws w.context) nodes well.policies x f (λ v there is. is);
    numbers = well.numbers;
    blocks = total_written nodes x f well.blocks room;
  }

  -- an empty directory gets its policy
  pub encrypted_well : (x : ℕ) (context : Context) → (x ≢ 0) → context_at nodes x ≡ None → children nodes x ≡ [] → HasRaw raws (Some context)
      → HasNodes raws (with_node_context nodes x context) next
  encrypted_well x context differ plain none is = record {
    tree = encrypted_tree nodes next x context well.tree differ;
    sealed = encrypted_sealed (texts raws) nodes x context plain none well.sealed;
    names = names_encrypted IsName nodes well.names x context;
    bodies = each_encrypted (λ n w. IsBody w.body) nodes well.bodies x context (λ v there body. body);
    policies = each_encrypted (λ n w. HasRaw raws w.context) nodes well.policies x context (λ v there old. is);
    numbers = well.numbers;
    blocks = let same = total_encrypted nodes x context in let few = well.blocks in omega arith;
  }
