-- What holds of names in well-formed mounts: policies below policies, and what each part resolves to.
use Rattle.std.specs.Prelude.{◌≡◌, ℕ, Some}
use Rattle.policy_ctx.specs.declared.policy.Context.{Context}
use Rattle.plain_tree.specs.Nodes.{Name}
use Rattle.plain_tree.specs.NodesByNumber.{context_at, policy_at, entry}
use Rattle.mount_model.specs.PlainMount.{PlainMount}
use Rattle.mount_model.specs.Sealed.{texts}
use Rattle.mount_model.specs.States.{shown}
use Rattle.mount_model.specs.Walk.{visible_entry}
use Rattle.mount_model.specs.WellFormed.{IsWellFormed}

-- an entry of a directory with a policy has that very policy
abbrev pub PoliciesAreInherited : Type 0
PoliciesAreInherited = (m : PlainMount) (d : ℕ) (name : Name) (x : ℕ) (c : Context) → IsWellFormed m
    → context_at m.nodes d ≡ Some c → entry m.nodes d name ≡ Some x
    → policy_at m.nodes x ≡ Some c.policy

-- two names of such a directory have two no-key texts
abbrev pub TextsDiffer : Type 0
TextsDiffer = (m : PlainMount) (d : ℕ) (a b : Name) (x y : ℕ) (c : Context) → IsWellFormed m
    → context_at m.nodes d ≡ Some c → entry m.nodes d a ≡ Some x → entry m.nodes d b ≡ Some y
    → texts m.raws d c a ≡ texts m.raws d c b → a ≡ b

-- the shown form of a name, be it itself or its text, resolves to exactly the node that the name names
abbrev pub VisibleNamesResolve : Type 0
VisibleNamesResolve = (m : PlainMount) (d : ℕ) (name : Name) (x : ℕ) → IsWellFormed m
    → entry m.nodes d name ≡ Some x
    → visible_entry m d (shown m d name) ≡ Some (name, x)

-- and a part resolves to nothing that is not shown so
abbrev pub OnlyVisibleNamesResolve : Type 0
OnlyVisibleNamesResolve = (m : PlainMount) (d : ℕ) (part : Name) (e : Name × ℕ)
    → visible_entry m d part ≡ Some e
    → (entry m.nodes d e.0 ≡ Some e.1) × (shown m d e.0 ≡ part)
