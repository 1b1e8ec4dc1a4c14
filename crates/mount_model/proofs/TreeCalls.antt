-- What the refusals of a call leave: that its change of the tree can be made.
use Rattle.std.proofs.Common.{nat_lt, nat_le, ◌≡◌, ◌≢◌, ℕ, zero, suc, ◌-◌, ◌<◌, ◌≤◌, true, false, not, ◌&&◌, ◌||◌, List, [], ◌∷◌, length, eqb, Option, Some, None, option_map, is_some, inl, inr, refl, sym, ap, ◌∙◌, arith}
use Rattle.std.specs.Str.{bytes_eq}
use Rattle.std.proofs.lemmas.Bool.{cases_Bool, or_parts, true≢false, leb-false, ltb-true, ltb-false, eqb-true, eqb-false, ne_eqb}
use Rattle.policy_ctx.specs.declared.policy.Policy.{Policy}
use Rattle.policy_ctx.specs.declared.policy.Context.{Context}
use Rattle.policy_ctx.specs.Policy.{policy_bytes}
use Rattle.policy_ctx.proofs.Encodings.{policy_bytes-injective}
use Rattle.number_map.specs.Numbered.{get, len}
use Rattle.plain_tree.specs.Nodes.{Name, Body, Dir, File, Link, Node, Nodes, children_of, contents_of, is_dir}
use Rattle.plain_tree.specs.NodesByNumber.{children_in, is_dir_in, context_in, children, context_at, entry}
use Rattle.plain_tree.specs.Laws.{CanBeMoved}
use Rattle.plain_tree.specs.FittingNodes.{MovesInto}
use Rattle.mount_limits.specs.declared.TheConstants.{MAX_NODES, MAX_CHILDREN}
use Rattle.plain_tree.proofs.ChildLemmas.{same_name}
use Rattle.plain_tree.proofs.FoundLemmas.{found_entry}
use Rattle.mount_model.specs.declared.limits.TheConstants.{LAST_NODE}
use Rattle.mount_model.specs.Carried.{IsPath}
use Rattle.mount_model.specs.PlainMount.{PlainMount, Raws}
use Rattle.mount_model.specs.Sealed.{texts}
use Rattle.mount_model.specs.States.{shown}
use Rattle.mount_model.specs.Walk.{PathParts, visible_entry}
use Rattle.mount_model.specs.EntryPaths.{is_root, last_part}
use Rattle.mount_model.specs.NewNodes.{inherited_context, new_node}
use Rattle.mount_model.specs.EncryptedNames.{has_text_of}
use Rattle.mount_model.specs.MoveRefusal.{has_policy, may_hold}
use Rattle.mount_model.specs.SoundNodes.{IsName, IsBody, HasRaw, HasNodes}
use Rattle.mount_model.proofs.NameCases.{CanMake, CanGo, CanMove}
use Rattle.mount_model.proofs.WalkLemmas.{IsParent, parent_ok, reached_without}
use Rattle.mount_model.proofs.NodesWell.{IsComing}

-- ---- small readings

none_of : {A : Type 0} (o : Option A) → is_some o ≡ false → o ≡ None
none_of None is = refl
none_of (Some x) is = absurd (true≢false is)

pub empty_of : {A : Type 0} (xs : List A) → eqb (length xs) 0 ≡ true → xs ≡ []
empty_of [] is = refl
empty_of (x ∷ xs) is = let none : length (x ∷ xs) ≡ 0 = eqb-true (length (x ∷ xs)) 0 is in absurd (omega arith)

above_zero : (n : ℕ) → (n ≢ 0) → 0 < n
above_zero zero differ = absurd (differ refl)
above_zero (suc n) differ = omega arith

below_last : (n last : ℕ) → n ≤ last → (n ≢ last) → n < last
below_last n last le differ = elim (cases_Bool (nat_lt n last)) [
  | inl is ↦ ltb-true n last is
  | inr other ↦ let high : last ≤ n = ltb-false n last other in absurd (differ (omega arith))
]

-- the last part of a path that fits is a name, if it is short
pub is_name : (m : PlainMount) (path : PathParts) (d : ℕ) → IsPath path → is_root path ≡ false → IsParent m path d → IsName (last_part path)
is_name m path d fits named at =
    let some : 0 < length path = above_zero (length path) (eqb-false (length path) 0 named) in
    (fits.parts (length path - 1) [] (omega arith), at.short)

-- ---- a new node

-- an empty directory, an empty file, or a target that fits
pub record IsFresh (body : Body) : Type 0 where
  pub children : children_of body ≡ []
  pub contents : contents_of body ≡ []
  pub small : IsBody body

raw_inherited : (raws : Raws) (nonce : List ℕ) (o : Option Context) → HasRaw raws o → HasRaw raws (inherited_context nonce o)
raw_inherited raws nonce None has = tt
raw_inherited raws nonce (Some c) has = has

raw_at : (raws : Raws) (nodes : Nodes) (next d : ℕ) → HasNodes raws nodes next → HasRaw raws (context_at nodes d)
raw_at raws nodes next d well = by_case (get nodes d) refl
  where
    by_case : (o : Option Node) → get nodes d ≡ o → HasRaw raws (context_in o)
    by_case None is = tt
    by_case (Some v) is = well.policies d v is

module _ (m : PlainMount) (well : HasNodes m.raws m.nodes m.next) where
  pub comes : (path : PathParts) (nonce : List ℕ) (body : Body) (d : ℕ) → CanMake m path body d → IsPath path → IsFresh body
      → IsComing m.raws m.nodes m.next well d (last_part path) (new_node m d nonce body)
  comes path nonce body d can fits fresh =
      let at = parent_ok m path d can.led in
      let full = or_parts (nat_le MAX_CHILDREN (length (children m.nodes d))) (nat_le MAX_NODES (len m.nodes) || eqb m.next LAST_NODE) can.room in
      let all = or_parts (nat_le MAX_NODES (len m.nodes)) (eqb m.next LAST_NODE) full.1 in
      record {
        can = record {
          reached = at.reached;
          dir = at.dir;
          free = none_of (entry m.nodes d (last_part path)) can.free;
          few_nodes = leb-false MAX_NODES (len m.nodes) all.0;
          few_children = leb-false MAX_CHILDREN (length (children m.nodes d)) full.0;
        };
        new = record { named = refl; empty = fresh.children };
        empty = fresh.contents;
        fits = record {
          inherits = λ c has. ap (λ o. option_map (λ (k : Context). k.policy) (inherited_context nonce o)) has;
          apart = λ c has. sym (ap (has_text_of m d (last_part path)) has) ∙ can.apart;
        };
        spelled = is_name m path d fits can.named at;
        small = fresh.small;
        keyed = raw_inherited m.raws nonce (context_at m.nodes d) (raw_at m.raws m.nodes m.next d well);
        room = below_last m.next LAST_NODE well.numbers (eqb-false m.next LAST_NODE all.1);
      }

  -- ---- a name that is removed

  no_dir_no_children : (o : Option Node) → is_dir_in o ≡ false → children_in o ≡ []
  no_dir_no_children None is = refl
  no_dir_no_children (Some v) is = of_body v.body is
    where
      of_body : (b : Body) → is_dir b ≡ false → children_of b ≡ []
      of_body (Dir cs) is = absurd (true≢false is)
      of_body (File contents) is = refl
      of_body (Link target) is = refl

  pub leads : (d : ℕ) (part : Name) (e : Name × ℕ) → visible_entry m d part ≡ Some e → entry m.nodes d e.0 ≡ Some e.1
  leads d part e is = found_entry m.nodes d (λ name. bytes_eq part (shown m d name)) e is

  pub childless_end : (d : ℕ) (part : Name) (e : Name × ℕ) → CanGo m d part e → children m.nodes e.1 ≡ []
  childless_end d part e can = elim can.empty [
    | inl no_dir ↦ no_dir_no_children (get m.nodes e.1) no_dir
    | inr none ↦ empty_of (children m.nodes e.1) none
  ]

  -- ---- a name that moves

  same_policies : (c : Policy) (o : Option Context) → has_policy c o ≡ true → option_map (λ k. k.policy) o ≡ Some c
  same_policies c None is = absurd (true≢false (sym is))
  same_policies c (Some k) is =
      ap (λ (p : Policy). Some p) (policy_bytes-injective k.policy c (same_name (policy_bytes k.policy) (policy_bytes c) is))

  pub moves : (d : ℕ) (part : Name) (e : Name × ℕ) (path : PathParts) (to : ℕ) → CanMove m d part e path to → CanBeMoved m.nodes d e.0 to (last_part path) e.1
  moves d part e path to can =
      let at = parent_ok m path to can.led in
      record {
        led = leads d part e can.is_found;
        reached = reached_without m e.1 path to can.led can.outside;
        dir = at.dir;
        free = none_of (entry m.nodes to (last_part path)) can.free;
        few_children = λ differ.
            let other : nat_le MAX_CHILDREN (length (children m.nodes to)) ≡ false
            = ap (λ b. not b && nat_le MAX_CHILDREN (length (children m.nodes to))) (sym (ne_eqb to d differ)) ∙ can.room in
            leb-false MAX_CHILDREN (length (children m.nodes to)) other;
      }

  pub moves_into : (d : ℕ) (part : Name) (e : Name × ℕ) (path : PathParts) (to : ℕ) → CanMove m d part e path to → MovesInto (texts m.raws) m.nodes to (last_part path) e.1
  moves_into d part e path to can = record {
    inherits = λ c has. same_policies c.policy (context_at m.nodes e.1) (sym (ap (λ o. may_hold o (context_at m.nodes e.1)) has) ∙ can.alike);
    apart = λ c has. sym (ap (has_text_of m to (last_part path)) has) ∙ can.apart;
  }

  pub moved_name : (d : ℕ) (part : Name) (e : Name × ℕ) (path : PathParts) (to : ℕ) → CanMove m d part e path to → IsPath path → IsName (last_part path)
  moved_name d part e path to can fits = is_name m path to fits can.named (parent_ok m path to can.led)
