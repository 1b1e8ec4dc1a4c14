-- After each kind of change of the tree, the disk still has the stored form of the mount's nodes.
use Rattle.std.proofs.Common.{◌≡◌, ◌≢◌, ℕ, Bool, true, false, List, Option, Some, option_map, refl, sym, ap, subst, ◌∙◌}
use Rattle.policy_ctx.specs.declared.policy.Context.{Context}
use Rattle.policy_ctx.specs.Context.{context_bytes}
use Rattle.number_map.specs.Numbered.{get, insert, changed}
use Rattle.number_map.proofs.NumberedLemmas.{insert_other, changed_through, changed_inserted}
use Rattle.plain_tree.specs.Nodes.{Name, Children, Body, Dir, File, Link, Node, Nodes, children_of}
use Rattle.plain_tree.specs.BodyChanges.{with_child, without_child, with_children}
use Rattle.plain_tree.specs.NodesByNumber.{children_in, children, context_at, context_in as plain_context}
use Rattle.plain_tree.specs.Changes.{on_children, named_as, with_name, without_entry_name, with_new_node, dropped}
use Rattle.plain_tree.specs.Facts.{AgreesBy}
use Rattle.plain_tree.specs.Stored.{IsNameOf}
use Rattle.plain_tree.proofs.AgreeLemmas.{agree_inserted, agree_edited}
use Rattle.plain_tree.proofs.StoredLemmas.{puts_agree, removals_agree}
use Rattle.disk_tree.specs.DiskTree.{Disk}
use Rattle.disk_tree.specs.EntryChanges.{with_entry_and_name}
use Rattle.disk_tree.specs.EntryChanges as disk
use Rattle.disk_tree.specs.Entries.{with_entry, without_entry}
use Rattle.disk_tree.specs.Nodes.{on_body, with_entries}
use Rattle.disk_tree.specs.Nodes as stored
use Rattle.disk_tree.specs.declared.node.StoredNode.{StoredNode}
use Rattle.disk_tree.specs.declared.node.Body.TheVariants as body
use Rattle.mount_model.specs.PlainMount.{Raws}
use Rattle.mount_state.specs.Stored.{stored_form, stored_body, stored_node}

-- ---- one node

-- two names of the children are stored alike only if they are the same
abbrev pub StoredApart : Raws → ℕ → Option Context → Name → Children → Type 0
StoredApart raws d context name cs =
    (other : Name) → IsNameOf cs other → stored_form raws d context name ≡ stored_form raws d context other → name ≡ other

module _ (raws : Raws) (d : ℕ) where
  body_put : (context : Option Context) (name : Name) (x : ℕ) (b : Body)
      → with_entries (with_entry (stored_form raws d context name) x) (stored_body raws d context b) ≡ stored_body raws d context (with_children (with_child name x) b)
  body_put context name x (Dir cs) = ap (λ es. body.Dir es) (sym (puts_agree (stored_form raws d context) name x cs))
  body_put context name x (File contents) = refl
  body_put context name x (Link target) = refl

  body_taken : (context : Option Context) (name : Name) (b : Body) → StoredApart raws d context name (children_of b)
      → with_entries (without_entry (stored_form raws d context name)) (stored_body raws d context b) ≡ stored_body raws d context (with_children (without_child name) b)
  body_taken context name (Dir cs) apart = ap (λ es. body.Dir es) (sym (removals_agree (stored_form raws d context) name cs apart))
  body_taken context name (File contents) apart = refl
  body_taken context name (Link target) apart = refl

  pub node_put : (stored : List ℕ) (name : Name) (x : ℕ) (v : Node) → stored ≡ stored_form raws d v.context name
      → on_body (with_entries (with_entry stored x)) (stored_node raws d v) ≡ stored_node raws d (on_children (with_child name x) v)
  node_put stored name x v is =
      ap (λ (s : List ℕ). on_body (with_entries (with_entry s x)) (stored_node raws d v)) is
      ∙ (λ i. record { context = option_map context_bytes v.context; named = v.named; body = body_put v.context name x v.body i })

  pub node_taken : (stored : List ℕ) (name : Name) (v : Node) → stored ≡ stored_form raws d v.context name → StoredApart raws d v.context name (children_of v.body)
      → on_body (with_entries (without_entry stored)) (stored_node raws d v) ≡ stored_node raws d (on_children (without_child name) v)
  node_taken stored name v is apart =
      ap (λ (s : List ℕ). on_body (with_entries (without_entry s)) (stored_node raws d v)) is
      ∙ (λ i. record { context = option_map context_bytes v.context; named = v.named; body = body_taken v.context name v.body apart i })

-- ---- the whole

module _ (raws : Raws) (nodes : Nodes) (on_disk : Disk) (agree : AgreesBy (stored_node raws) nodes on_disk) (d : ℕ) where
  -- the name's stored form, at the node that is there
  form_at : (stored : List ℕ) (name : Name) → stored ≡ stored_form raws d (context_at nodes d) name → (v : Node) → get nodes d ≡ Some v → stored ≡ stored_form raws d v.context name
  form_at stored name is v there = is ∙ ap (λ (o : Option Node). stored_form raws d (plain_context o) name) there

  pub put_agrees : (stored : List ℕ) (name : Name) (x : ℕ) → stored ≡ stored_form raws d (context_at nodes d) name
      → AgreesBy (stored_node raws) (with_name nodes d name x) (changed on_disk d (on_body (with_entries (with_entry stored x))))
  put_agrees stored name x is =
      agree_edited (stored_node raws) nodes on_disk agree d (on_children (with_child name x)) (on_body (with_entries (with_entry stored x)))
      (λ v there. node_put raws d stored name x v (form_at stored name is v there))

  pub taken_agrees : (stored : List ℕ) (name : Name) → stored ≡ stored_form raws d (context_at nodes d) name → StoredApart raws d (context_at nodes d) name (children nodes d)
      → AgreesBy (stored_node raws) (without_entry_name nodes d name) (changed on_disk d (on_body (with_entries (without_entry stored))))
  taken_agrees stored name is apart =
      agree_edited (stored_node raws) nodes on_disk agree d (on_children (without_child name)) (on_body (with_entries (without_entry stored)))
      (λ v there. node_taken raws d stored name v (form_at stored name is v there) (subst (λ (o : Option Node). StoredApart raws d (plain_context o) name (children_in o)) there apart))

named_agrees : (raws : Raws) (nodes : Nodes) (on_disk : Disk) → AgreesBy (stored_node raws) nodes on_disk → (x : ℕ) (named : Bool)
    → AgreesBy (stored_node raws) (changed nodes x (named_as named)) (changed on_disk x (stored.named_as named))
named_agrees raws nodes on_disk agree x named =
    agree_edited (stored_node raws) nodes on_disk agree x (named_as named) (stored.named_as named) (λ v there. refl)

-- a new node, and the name that resolves to it
module _ (raws : Raws) (nodes : Nodes) (on_disk : Disk) (agree : AgreesBy (stored_node raws) nodes on_disk) (d : ℕ) (name : Name) (x : ℕ) (v : Node) (apart : d ≢ x) where
  made_so : v.named ≡ true → changed (with_name (insert nodes x v) d name x) x (named_as true) ≡ with_new_node nodes d name x v
  made_so named =
      ap (λ (ns : Nodes). changed ns x (named_as true)) (changed_through nodes d x v (on_children (with_child name x)) apart)
      ∙ changed_inserted (with_name nodes d name x) x v (named_as true)
      ∙ ap (insert (with_name nodes d name x) x) (sym (λ i. record { named = named i; context = v.context; body = v.body }))

  pub made_agrees : v.named ≡ true → (stored : List ℕ) → stored ≡ stored_form raws d (context_at nodes d) name → (w : StoredNode) → w ≡ stored_node raws x v
      → AgreesBy (stored_node raws) (with_new_node nodes d name x v) (with_entry_and_name (insert on_disk x w) d stored x)
  made_agrees named stored is w w_is =
      subst (λ (ns : Nodes). AgreesBy (stored_node raws) ns (with_entry_and_name (insert on_disk x w) d stored x)) (made_so named)
      (named_agrees raws (with_name (insert nodes x v) d name x) (changed (insert on_disk x w) d (on_body (with_entries (with_entry stored x))))
      (put_agrees raws (insert nodes x v) (insert on_disk x w) (agree_inserted (stored_node raws) nodes on_disk agree x v w w_is) d stored name x
      (is ∙ ap (λ (o : Option Node). stored_form raws d (plain_context o) name) (sym (insert_other nodes x v d apart)))) x true)

-- a name that goes
pub dropped_agrees : (raws : Raws) (nodes : Nodes) (on_disk : Disk) → AgreesBy (stored_node raws) nodes on_disk → (d : ℕ) (name : Name) (x : ℕ) (stored : List ℕ)
    → stored ≡ stored_form raws d (context_at nodes d) name → StoredApart raws d (context_at nodes d) name (children nodes d)
    → AgreesBy (stored_node raws) (dropped nodes d name x) (disk.without_entry_and_name on_disk d stored x)
dropped_agrees raws nodes on_disk agree d name x stored is apart =
    named_agrees raws (without_entry_name nodes d name) (changed on_disk d (on_body (with_entries (without_entry stored))))
    (taken_agrees raws nodes on_disk agree d stored name is apart) x false
