-- What encryption requires of a tree, whatever the keys are: under a policy all nodes have that policy, and
-- no two names of a directory have one text when they can't be read.
use Rattle.std.specs.Prelude.{◌≡◌, ℕ, Bool, List, Option, Some}
use Rattle.std.specs.List.{list_any}
use Rattle.std.specs.Str.{bytes_eq}
use Rattle.std.specs.Map.{lookup}
use Rattle.policy_ctx.specs.declared.policy.Context.{Context}
use Rattle.plain_tree.specs.Nodes.{Name, Nodes}
use Rattle.plain_tree.specs.NodesByNumber.{children, context_at, policy_at, entry}

-- the text in place of a name that can't be read, in the directory of this number and context
abbrev pub Texts : Type 0
Texts = ℕ → Context → Name → List ℕ

-- some name of the directory has this text
abbrev pub has_text : Texts → Nodes → ℕ → Context → List ℕ → Bool
has_text texts nodes d context text = list_any (λ e. bytes_eq text (texts d context e.0)) (children nodes d)

-- the node that the text resolves to
abbrev pub entry_by_text : Texts → Nodes → ℕ → Context → List ℕ → Option ℕ
entry_by_text texts nodes d context text =
    lookup (λ name. bytes_eq text (texts d context name)) (children nodes d)

pub record IsSealed (texts : Texts) (nodes : Nodes) : Type 0 where
  -- an entry of a directory with a policy has that very policy
  pub inherits : (d : ℕ) (name : Name) (x : ℕ) (context : Context) → context_at nodes d ≡ Some context
      → entry nodes d name ≡ Some x → policy_at nodes x ≡ Some context.policy
  -- two names of it have two texts
  pub apart : (d : ℕ) (a b : Name) (x y : ℕ) (context : Context) → context_at nodes d ≡ Some context
      → entry nodes d a ≡ Some x → entry nodes d b ≡ Some y → texts d context a ≡ texts d context b
      → a ≡ b
