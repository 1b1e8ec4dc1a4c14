-- A sealed tree after a node is made, loses its name, goes, or is moved.
use Rattle.std.proofs.Common.{◌≡◌, ◌≢◌, ℕ, true, false, [], Some, option_map, inl, inr, ◌⊎◌, sym, ap, ◌∙◌}
use Rattle.policy_ctx.specs.declared.policy.Policy.{Policy}
use Rattle.policy_ctx.specs.declared.policy.Context.{Context}
use Rattle.plain_tree.specs.Nodes.{Name, Node, Nodes}
use Rattle.plain_tree.specs.BodyChanges.{with_child}
use Rattle.plain_tree.specs.NodesByNumber.{children_in, context_in, children, context_at, policy_at, is_named, entry}
use Rattle.plain_tree.specs.Changes.{with_new_node, dropped, without_node, moved}
use Rattle.plain_tree.specs.Tree.{IsTree}
use Rattle.plain_tree.specs.Laws.{IsNew, CanBeMade, CanBeMoved}
use Rattle.plain_tree.specs.Seals.{Texts, IsSealed}
use Rattle.plain_tree.specs.FittingNodes.{FitsInto, MovesInto}
use Rattle.plain_tree.proofs.EditLemmas.{edit_context}
use Rattle.plain_tree.proofs.ReachedLemmas.{childless}
use Rattle.plain_tree.proofs.MadeLemmas.{made_here, made_from, made_unled, made_before}
use Rattle.plain_tree.proofs.DroppedLemmas.{dropped_context, dropped_from}
use Rattle.plain_tree.proofs.GoneLemmas.{gone_entry, gone_others}
use Rattle.plain_tree.proofs.MovedLemmas.{moved_context, moved_from}
use Rattle.plain_tree.proofs.SealLemmas.{no_other_text}

policy_of : Context → Policy
policy_of c = c.policy

module _ (texts : Texts) (nodes : Nodes) (next : ℕ) (tree : IsTree nodes next) (is : IsSealed texts nodes) where
  -- ---- made

  module _ (d : ℕ) (name : Name) (v : Node) (can : CanBeMade nodes d name) (new : IsNew v) (fits : FitsInto texts nodes d name v) where
    -- a directory with an entry, and a node with an entry, have the context that they had
    context_before : (q : ℕ) → (q ≢ next) → context_at (with_new_node nodes d name next v) q ≡ context_at nodes q
    context_before = made_before nodes next d name v tree can new context_in (edit_context nodes d (with_child name next))

    dir_differs : (q : ℕ) (n : Name) (z : ℕ) → entry (with_new_node nodes d name next v) q n ≡ Some z → (q ≢ next)
    dir_differs q n z found same =
        childless (with_new_node nodes d name next v) q n z
        (ap (children (with_new_node nodes d name next v)) same ∙ ap children_in (made_here nodes next d name v tree can new) ∙ new.empty) found

    pub made_sealed : IsSealed texts (with_new_node nodes d name next v)
    made_sealed = record {
      inherits = λ q n z context has found.
          let was : context_at nodes q ≡ Some context = sym (context_before q (dir_differs q n z found)) ∙ has in
          elim (made_from nodes next d name v tree can new q n z found) [
            | inl led ↦
                ap (option_map (λ c. c.policy)) (context_before z (λ same. made_unled nodes next d name v tree can new q n (led ∙ ap (λ y. Some y) same)))
                ∙ is.inherits q n z context was led
            | inr here ↦
                ap (λ y. policy_at (with_new_node nodes d name next v) y) here.2
                ∙ ap (λ o. option_map (λ c. c.policy) (context_in o)) (made_here nodes next d name v tree can new)
                ∙ fits.inherits context (ap (context_at nodes) (sym here.0) ∙ was)
          ];
      apart = λ q a b y z context has one two same.
          let was : context_at nodes q ≡ Some context = sym (context_before q (dir_differs q a y one)) ∙ has in
          elim (made_from nodes next d name v tree can new q a y one) [
            | inl led ↦ elim (made_from nodes next d name v tree can new q b z two) [
              | inl also ↦ is.apart q a b y z context was led also same
              | inr here ↦ absurd (clash q context a y was here.0 led (same ∙ ap (texts q context) here.1))
            ]
            | inr here ↦ elim (made_from nodes next d name v tree can new q b z two) [
              | inl also ↦ absurd (clash q context b z was here.0 also (sym same ∙ ap (texts q context) here.1))
              | inr there ↦ here.1 ∙ sym there.1
            ]
          ];
    }
      where
        clash : (q : ℕ) (context : Context) (a : Name) (y : ℕ) → context_at nodes q ≡ Some context → q ≡ d → entry nodes q a ≡ Some y → texts q context a ≡ texts q context name → ⊥
        clash q context a y was at led same =
            let here : context_at nodes d ≡ Some context = ap (context_at nodes) (sym at) ∙ was in
            no_other_text texts nodes d context (texts d context name) a y (fits.apart context here)
            (ap (λ e. entry nodes e a) (sym at) ∙ led)
            (ap (λ e. texts e context a) (sym at) ∙ same ∙ ap (λ e. texts e context name) at)

  -- ---- dropped

  pub dropped_sealed : (d : ℕ) (name : Name) (x : ℕ) → entry nodes d name ≡ Some x → children nodes x ≡ [] → IsSealed texts (dropped nodes d name x)
  dropped_sealed d name x led none =
      let contexts : (q : ℕ) → context_at (dropped nodes d name x) q ≡ context_at nodes q = dropped_context nodes d name x in
      let was : (q : ℕ) (n : Name) (z : ℕ) → entry (dropped nodes d name x) q n ≡ Some z → (entry nodes q n ≡ Some z) × (z ≢ x) = dropped_from nodes d name x next tree led none in
      record {
        inherits = λ q n z context has found.
            ap (option_map (λ c. c.policy)) (contexts z) ∙ is.inherits q n z context (sym (contexts q) ∙ has) (was q n z found).0;
        apart = λ q a b y z context has one two same.
            is.apart q a b y z context (sym (contexts q) ∙ has) (was q a y one).0 (was q b z two).0 same;
      }

  -- ---- gone

  module _ (x : ℕ) (nameless : is_named nodes x ≡ false) where
    led_before : (q : ℕ) (n : Name) (z : ℕ) → entry (without_node nodes x) q n ≡ Some z → entry nodes q n ≡ Some z
    led_before q n z found = sym (gone_entry nodes next x tree nameless q n) ∙ found

    same_dir : (q : ℕ) (n : Name) (z : ℕ) → entry nodes q n ≡ Some z → context_at (without_node nodes x) q ≡ context_at nodes q
    same_dir q n z led =
        ap context_in (gone_others nodes next x tree nameless q
        (λ same. childless nodes q n z (ap (children nodes) same ∙ tree.names.nameless x nameless) led))

    pub gone_sealed : IsSealed texts (without_node nodes x)
    gone_sealed = record {
      inherits = λ q n z context has found.
          let led : entry nodes q n ≡ Some z = led_before q n z found in
          let differ : z ≢ x = λ same. let named : is_named nodes x ≡ true = ap (is_named nodes) (sym same) ∙ (tree.names.leads q n z led).1 in absurd (cc) in
          ap (λ o. option_map (λ c. c.policy) (context_in o)) (gone_others nodes next x tree nameless z differ)
          ∙ is.inherits q n z context (sym (same_dir q n z led) ∙ has) led;
      apart = λ q a b y z context has one two same.
          let led : entry nodes q a ≡ Some y = led_before q a y one in
          is.apart q a b y z context (sym (same_dir q a y led) ∙ has) led (led_before q b z two) same;
    }

  -- ---- moved

  module _ (d : ℕ) (name : Name) (to : ℕ) (new_name : Name) (x : ℕ) (can : CanBeMoved nodes d name to new_name x) (into : MovesInto texts nodes to new_name x) where
    contexts : (q : ℕ) → context_at (moved nodes d name to new_name x) q ≡ context_at nodes q
    contexts = moved_context nodes d name to new_name x

    moved_was : (q : ℕ) (n : Name) (z : ℕ) → entry (moved nodes d name to new_name x) q n ≡ Some z → ((entry nodes q n ≡ Some z) × (z ≢ x)) ⊎ ((q ≡ to) × (n ≡ new_name) × (z ≡ x))
    moved_was = moved_from nodes d name to new_name x next tree can

    pub moved_sealed : IsSealed texts (moved nodes d name to new_name x)
    moved_sealed = record {
      inherits = λ q n z context has found.
          let was : context_at nodes q ≡ Some context = sym (contexts q) ∙ has in
          ap (option_map (λ c. c.policy)) (contexts z) ∙ elim (moved_was q n z found) [
            | inl led ↦ is.inherits q n z context was led.0
            | inr here ↦ ap (policy_at nodes) here.2 ∙ into.inherits context (ap (context_at nodes) (sym here.0) ∙ was)
          ];
      apart = λ q a b y z context has one two same.
          let was : context_at nodes q ≡ Some context = sym (contexts q) ∙ has in
          elim (moved_was q a y one) [
            | inl led ↦ elim (moved_was q b z two) [
              | inl also ↦ is.apart q a b y z context was led.0 also.0 same
              | inr here ↦ absurd (clash q context a y was here.0 led.0 (same ∙ ap (texts q context) here.1))
            ]
            | inr here ↦ elim (moved_was q b z two) [
              | inl also ↦ absurd (clash q context b z was here.0 also.0 (sym same ∙ ap (texts q context) here.1))
              | inr there ↦ here.1 ∙ sym there.1
            ]
          ];
    }
      where
        clash : (q : ℕ) (context : Context) (a : Name) (y : ℕ) → context_at nodes q ≡ Some context → q ≡ to → entry nodes q a ≡ Some y → texts q context a ≡ texts q context new_name → ⊥
        clash q context a y was at led same =
            let here : context_at nodes to ≡ Some context = ap (context_at nodes) (sym at) ∙ was in
            no_other_text texts nodes to context (texts to context new_name) a y (into.apart context here)
            (ap (λ e. entry nodes e a) (sym at) ∙ led)
            (ap (λ e. texts e context a) (sym at) ∙ same ∙ ap (λ e. texts e context new_name) at)
