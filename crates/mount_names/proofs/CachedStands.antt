-- After each kind of change of the tree, cached names resolve as the mount's entries do.
use Rattle.std.proofs.Common.{◌≡◌, ◌≢◌, ℕ, true, false, cond, Contains, Option, Some, None, is_some, refl, sym, ap, ◌∙◌}
use Rattle.std.proofs.lemmas.Bool.{true≢false, eq-eqb}
use Rattle.std.proofs.lemmas.Slice.Eq.{bytes_eq-Decides}
use Rattle.policy_ctx.specs.declared.policy.Context.{Context}
use Rattle.dentry_cache.specs.Names.{Pair, NameList, key_of, is_name}
use Rattle.dentry_cache.specs.HeldNames.{HoldsNoMore, HoldsNone, HoldsNoneIn}
use Rattle.dentry_cache.proofs.NameLemmas as cache
use Rattle.std.specs.Map.{lookup}
use Rattle.std.specs.Str.{bytes_eq}
use Rattle.plain_tree.specs.Nodes.{Name, Node, Nodes}
use Rattle.plain_tree.specs.NodesByNumber.{children, children_in, context_at, is_dir_at, entry}
use Rattle.plain_tree.specs.Changes.{with_name, without_entry_name, dropped, without_node, moved, with_new_node}
use Rattle.plain_tree.specs.BodyChanges.{without_child}
use Rattle.plain_tree.proofs.EditLemmas.{edit_dir, put_apart, put_kept, taken_apart}
use Rattle.plain_tree.proofs.DroppedLemmas.{dropped_entry}
use Rattle.mount_model.specs.PlainMount.{PlainMount}
use Rattle.mount_model.specs.Sealed.{texts}
use Rattle.mount_model.specs.States.{is_keyed, shown, visible_name_under}
use Rattle.mount_model.specs.Walk.{visible_entry}
use Rattle.mount_state.specs.CachedNames.{RepresentsNames}
use Rattle.mount_state.specs.Represents.{Represents}
use Rattle.mount_state.specs.declared.state.MountState.{MountState}
use Rattle.mount_state.proofs.StandLemmas.{keyed_stands}
use Rattle.mount_names.specs.Removals.{IsFoundBy}
use Rattle.mount_names.proofs.EditLemmas.{read_inserted, read_removed}

-- ---- a name goes that was forgotten

module _ (s : MountState) (m : PlainMount) (st : Represents s m) (d : ℕ) (name part : Name) (by_part : IsFoundBy m d part name)
    (names : NameList) (fewer : HoldsNoMore s.names names) (none : HoldsNone names d part) where
  -- a cached name is another one: of a locked directory none is cached
  other : (pair : Pair) → Contains names.pairs pair → pair.0.dir ≡ d → (pair.0.name ≢ name)
  other pair held same is =
      let keyed = s.remembers.keyed pair (fewer pair held) in
      let part_is : part ≡ name =
      by_part (ap (is_keyed m) (sym same) ∙ (sym (keyed_stands s.disk s.next_node m st.well st.tree s.ring.claims s.handles.live st.keys.claims st.handles.live pair.0.dir) ∙ keyed)) in
      let key_is : key_of d part ≡ pair.0 = λ i. record { dir = sym same i; name = (part_is ∙ sym is) i } in
      true≢false (sym (cache.itself d part) ∙ (ap (is_name d part) key_is ∙ none pair held))

  pub names_taken : RepresentsNames names (without_entry_name m.nodes d name)
  names_taken = record {
    entries = λ pair held. taken_apart m.nodes d name pair.0.dir pair.0.name (other pair held) ∙ st.names.entries pair (fewer pair held);
  }

  pub names_dropped : (x : ℕ) → RepresentsNames names (dropped m.nodes d name x)
  names_dropped x = record { entries = λ pair held. dropped_entry m.nodes d name x pair.0.dir pair.0.name ∙ names_taken.entries pair held }

  -- with its node
  pub names_gone : (x : ℕ) → HoldsNoneIn names x → RepresentsNames names (without_node (dropped m.nodes d name x) x)
  names_gone x lacks = record {
    entries = λ pair held.
        ap (lookup (bytes_eq pair.0.name)) (read_removed children_in (dropped m.nodes d name x) x pair.0.dir
        (λ same. true≢false (sym (eq-eqb pair.0.dir x same) ∙ lacks pair held)))
        ∙ (names_dropped x).entries pair held;
  }

  -- or to another place
  pub names_moved : (to : ℕ) (new_name : Name) (x : ℕ) → is_dir_at m.nodes to ≡ true → is_some (entry m.nodes to new_name) ≡ false
      → RepresentsNames names (moved m.nodes d name to new_name x)
  names_moved to new_name x dir free = record {
    entries = λ pair held.
        put_apart (without_entry_name m.nodes d name) to new_name x (edit_dir m.nodes d (without_child name) to ∙ dir) pair.0.dir pair.0.name
        (λ same is. true≢false (sym (ap is_some (sym (ap (λ n. entry m.nodes n new_name) same) ∙ (sym (ap (entry m.nodes pair.0.dir) is) ∙ st.names.entries pair (fewer pair held)))) ∙ free))
        ∙ names_taken.entries pair held;
  }

-- ---- a name comes

none_of : (o : Option ℕ) → is_some o ≡ false → o ≡ None
none_of None free = refl
none_of (Some x) bad = absurd (true≢false bad)

pub names_made : (names : NameList) (nodes : Nodes) (d : ℕ) (name : Name) (next : ℕ) (v : Node) → is_dir_at nodes d ≡ true → is_some (entry nodes d name) ≡ false
    → ((pair : Pair) → Contains names.pairs pair → (pair.0.dir ≢ next)) → RepresentsNames names nodes → RepresentsNames names (with_new_node nodes d name next v)
names_made names nodes d name next v dir free elsewhere stand = record {
  entries = λ pair held.
      ap (lookup (bytes_eq pair.0.name)) (read_inserted children_in (with_name nodes d name next) next v pair.0.dir (elsewhere pair held))
      ∙ put_kept nodes d name next dir (none_of (entry nodes d name) free) pair.0.dir pair.0.name pair.1 (stand.entries pair held);
}

-- ---- the part by which a name is found

pub found_by : (m : PlainMount) (d : ℕ) (part name : Name) (x : ℕ) → visible_entry m d part ≡ Some (name, x) → IsFoundBy m d part name
found_by m d part name x is = λ keyed.
    let passes = (cache.Contains-lookup_entry (λ n. bytes_eq part (shown m d n)) (children m.nodes d) (name, x) is).1 in
    (bytes_eq-Decides part (shown m d name)).0 passes ∙ shown_keyed (context_at m.nodes d) keyed
  where
    shown_keyed : (o : Option Context) → is_keyed m d ≡ true → visible_name_under m d name o ≡ name
    shown_keyed None is = refl
    shown_keyed (Some c) is = ap (λ b. cond b name (texts m.raws d c name)) is
