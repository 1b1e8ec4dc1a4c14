-- What is stored of a directory, searched, answers as the mount's directory does.
use Rattle.std.proofs.Common.{◌≡◌, ℕ, Bool, true, false, cond, List, [], ◌∷◌, Option, Some, None, option_map, is_some, bytes_eq, refl, sym, ap, ◌∙◌}
use Rattle.std.specs.Map.{lookup, lookup_entry}
use Rattle.policy_ctx.specs.declared.policy.Context.{Context}
use Rattle.name_crypt.specs.Plain.{IsPlain}
use Rattle.number_map.specs.Numbered.{get}
use Rattle.disk_tree.specs.DiskTree as disk_tree
use Rattle.disk_tree.specs.DiskTree.{Disk}
use Rattle.plain_tree.specs.Nodes.{Name, Body, Dir, File, Link, Node, Children}
use Rattle.plain_tree.specs.NodesByNumber.{children, children_in, context_in, context_at, entry}
use Rattle.plain_tree.specs.Stored.{stored_children, IsNameOf}
use Rattle.plain_tree.proofs.ChildLemmas.{same_name}
use Rattle.plain_tree.proofs.StoredLemmas.{searches_agree}
use Rattle.mount_model.specs.PlainMount.{PlainMount}
use Rattle.mount_model.specs.WellFormed.{IsWellFormed}
use Rattle.mount_model.specs.SoundNodes.{IsName}
use Rattle.mount_model.specs.Sealed.{texts}
use Rattle.mount_model.specs.States.{is_keyed, visible_name_under, shown}
use Rattle.mount_model.specs.Walk.{visible_entry}
use Rattle.mount_state.specs.Stored.{stored_node, stored_form}
use Rattle.mount_state.specs.Represents.{RepresentsTree}

abbrev number_in : Option (Name × ℕ) → Option ℕ
number_in o = option_map (λ (e : Name × ℕ). e.1) o

number_looked_up : (test : Name → Bool) (cs : Children) → lookup test cs ≡ number_in (lookup_entry test cs)
number_looked_up test [] = refl
number_looked_up test (e ∷ cs) = elim (test e.0) as (λ b. cond b (Some e.1) (lookup test cs) ≡ number_in (cond b (Some e) (lookup_entry test cs))) [
  | true ↦ refl
  | false ↦ number_looked_up test cs
]

same_bools : (a b : Bool) → (a ≡ true → b ≡ true) → (b ≡ true → a ≡ true) → a ≡ b
same_bools true b f g = sym (f refl)
same_bools false true f g = g refl
same_bools false false f g = refl

-- what is there is there under some number
some_number : (o : Option ℕ) → is_some o ≡ true → (x : ℕ) × (o ≡ Some x)
some_number (Some x) there = (x, refl)
some_number None there = absurd (cc)

name_plain : (name : Name) → IsName name → IsPlain name
name_plain name is = (is.0.size.0, is.1, is.0.nul)

module _ (disk : Disk) (next : ℕ) (m : PlainMount) (well : IsWellFormed m) (represents : RepresentsTree disk next m) (d : ℕ) where
  of_body : (context : Option Context) (named : Bool) (body : Body)
      → disk_tree.entries_in (Some (stored_node m.raws d (record { named = named; context = context; body = body })))
      ≡ stored_children (stored_form m.raws d context) (children_in (Some (record { named = named; context = context; body = body })))
  of_body context named (Dir entries) = refl
  of_body context named (File contents) = refl
  of_body context named (Link target) = refl

  of_node : (o : Option Node) → disk_tree.entries_in (option_map (stored_node m.raws d) o) ≡ stored_children (stored_form m.raws d (context_in o)) (children_in o)
  of_node None = refl
  of_node (Some v) = of_body v.context v.named v.body

  pub children_stand : disk_tree.children disk d ≡ stored_children (stored_form m.raws d (context_at m.nodes d)) (children m.nodes d)
  children_stand = ap disk_tree.entries_in (represents.nodes d) ∙ of_node (get m.nodes d)

  -- the names that are there
  pub name_there : (name : Name) → IsNameOf (children m.nodes d) name → IsName name
  name_there name there = let led = some_number (entry m.nodes d name) there in well.nodes.names d name led.0 led.1

  -- two tests that agree on the names that are there
  by_tests : (stored plain : List ℕ → Bool) → ((name : Name) → IsNameOf (children m.nodes d) name → stored (stored_form m.raws d (context_at m.nodes d) name) ≡ plain name)
      → lookup stored (disk_tree.children disk d) ≡ number_in (lookup_entry plain (children m.nodes d))
  by_tests stored plain agree =
      ap (lookup stored) children_stand
      ∙ searches_agree (stored_form m.raws d (context_at m.nodes d)) stored plain (children m.nodes d) agree
      ∙ number_looked_up plain (children m.nodes d)

  module _ (c : Context) (under : context_at m.nodes d ≡ Some c) where
    -- with its key names are visible as they are
    shown_plain : is_keyed m d ≡ true → (name : Name) → shown m d name ≡ name
    shown_plain keyed name = ap (visible_name_under m d name) under ∙ ap (λ b. cond b name (texts m.raws d c name)) keyed

    -- a part that is no name is none of those that are there
    pub none_found : is_keyed m d ≡ true → (part : Name) → ¬ IsPlain part → number_in (visible_entry m d part) ≡ None
    none_found keyed part other =
        sym (by_tests (λ _. false) (λ name. bytes_eq part (shown m d name)) (λ name there.
        same_bools false (bytes_eq part (shown m d name)) (λ wrong. absurd (cc))
        (λ alike.
        let same : part ≡ name = same_name part name (sym (ap (bytes_eq part) (shown_plain keyed name)) ∙ alike) in
        let fine : IsPlain part = rw same (name_plain name (name_there name there)) in
        absurd (other fine))))
        ∙ nothing (disk_tree.children disk d)
      where
        nothing : (cs : Children) → lookup (λ _. false) cs ≡ None
        nothing [] = refl
        nothing (e ∷ cs) = nothing cs
