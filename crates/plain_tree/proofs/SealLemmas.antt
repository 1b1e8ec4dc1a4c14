-- Texts in place of names: a clash, a look-up by text, and seals after changes that leave entries.
use Rattle.std.proofs.Common.{◌≡◌, ◌≢◌, ℕ, Bool, true, false, ◌||◌, cond, List, [], ◌∷◌, Option, Some, None, option_map, is_some, bytes_eq, inl, inr, refl, sym, ap, ◌∙◌}
use Rattle.std.proofs.lemmas.Bool.{cases_Bool}
use Rattle.std.specs.List.{list_any}
use Rattle.std.specs.Map.{lookup}
use Rattle.policy_ctx.specs.declared.policy.Context.{Context}
use Rattle.number_map.proofs.NumberedLemmas.{changed_other}
use Rattle.plain_tree.specs.Nodes.{Name, Children, Nodes}
use Rattle.plain_tree.specs.NodesByNumber.{context_in, children, context_at, policy_at, entry}
use Rattle.plain_tree.specs.Changes.{on_contents, with_context, written, with_node_context}
use Rattle.plain_tree.specs.Seals.{Texts, has_text, entry_by_text, IsSealed}
use Rattle.plain_tree.proofs.ChildLemmas.{itself, same_name, other_name, cases_name}
use Rattle.plain_tree.proofs.ReadLemmas.{read_changed}
use Rattle.plain_tree.proofs.EditedLemmas.{edited_entry, leaves_contents, leaves_context}
use Rattle.plain_tree.proofs.ReachedLemmas.{childless}

-- ---- texts of one directory

module _ (text_of : Name → List ℕ) where
  -- no name has the text, so a name that is there has another one
  pub no_clash : (text : List ℕ) (cs : Children) (a : Name) (y : ℕ) → list_any (λ e. bytes_eq text (text_of e.0)) cs ≡ false → lookup (bytes_eq a) cs ≡ Some y → (text_of a ≢ text)
  no_clash text [] a y none found same = absurd (cc)
  no_clash text (e ∷ cs) a y none found same =
      elim (cases_Bool (bytes_eq a e.0)) [
        | inl is ↦
            let hit : bytes_eq text (text_of e.0) ≡ true
            = ap (λ n. bytes_eq text (text_of n)) (sym (same_name a e.0 is)) ∙ ap (λ t. bytes_eq text t) same ∙ itself text in
            let miss : bytes_eq text (text_of e.0) ≡ false = (or_false _ _ none).0 in
            absurd (cc)
        | inr other ↦
            no_clash text cs a y (or_false _ _ none).1 (sym (ap (λ b. cond b (Some e.1) (lookup (bytes_eq a) cs)) other) ∙ found) same
      ]
    where
      or_false : (b c : Bool) → (b || c) ≡ false → (b ≡ false) × (c ≡ false)
      or_false true c is = absurd (cc)
      or_false false c is = (refl, is)

  -- if no other name has the text of this one, the text resolves as the name does
  pub text_leads : (cs : Children) (name : Name) (x : ℕ) → lookup (bytes_eq name) cs ≡ Some x
      → ((a : Name) → is_some (lookup (bytes_eq a) cs) ≡ true → text_of name ≡ text_of a → name ≡ a)
      → lookup (λ a. bytes_eq (text_of name) (text_of a)) cs ≡ Some x
  text_leads [] name x found apart = absurd (cc)
  text_leads (e ∷ cs) name x found apart =
      elim (cases_name name e.0) [
        | inl is ↦
            ap (λ b. cond b (Some e.1) (lookup (λ a. bytes_eq (text_of name) (text_of a)) cs))
            (ap (λ n. bytes_eq (text_of name) (text_of n)) (sym is) ∙ itself (text_of name))
            ∙ sym (ap (λ b. cond b (Some e.1) (lookup (bytes_eq name) cs)) (ap (bytes_eq name) (sym is) ∙ itself name)) ∙ found
        | inr differ ↦
            let front : is_some (lookup (bytes_eq e.0) (e ∷ cs)) ≡ true
            = ap (λ b. is_some (cond b (Some e.1) (lookup (bytes_eq e.0) cs))) (itself e.0) in
            ap (λ b. cond b (Some e.1) (lookup (λ a. bytes_eq (text_of name) (text_of a)) cs))
            (other_name (text_of name) (text_of e.0) (λ same. differ (apart e.0 front same)))
            ∙ text_leads cs name x
            (sym (ap (λ b. cond b (Some e.1) (lookup (bytes_eq name) cs)) (other_name name e.0 differ)) ∙ found)
            (λ a there. apart a (behind a there))
      ]
    where
      behind : (a : Name) → is_some (lookup (bytes_eq a) cs) ≡ true → is_some (lookup (bytes_eq a) (e ∷ cs)) ≡ true
      behind a there = elim (bytes_eq a e.0) as (λ b. is_some (cond b (Some e.1) (lookup (bytes_eq a) cs)) ≡ true) [ true ↦ refl | false ↦ there ]

some_of : {A : Type 0} (o : Option A) → is_some o ≡ true → (x : A) × (o ≡ Some x)
some_of None is = absurd (cc)
some_of (Some x) is = (x, refl)

module _ (texts : Texts) (nodes : Nodes) where
  pub no_other_text : (d : ℕ) (context : Context) (text : List ℕ) (a : Name) (y : ℕ) → has_text texts nodes d context text ≡ false → entry nodes d a ≡ Some y → (texts d context a ≢ text)
  no_other_text d context text a y none found = no_clash (texts d context) text (children nodes d) a y none found

  pub texts_resolve : (d : ℕ) (context : Context) (name : Name) (x : ℕ) → IsSealed texts nodes → context_at nodes d ≡ Some context → entry nodes d name ≡ Some x
      → entry_by_text texts nodes d context (texts d context name) ≡ Some x
  texts_resolve d context name x is has found =
      text_leads (texts d context) (children nodes d) name x found
      (λ a there same. let y = some_of (lookup (bytes_eq a) (children nodes d)) there in is.apart d name a x y.0 context has found y.1 same)

  pub same_texts : (others : Texts) → IsSealed texts nodes → ((d : ℕ) (context : Context) (name : Name) → context_at nodes d ≡ Some context → others d context name ≡ texts d context name) → IsSealed others nodes
  same_texts others is alike = record {
    inherits = is.inherits;
    apart = λ d a b x y context has one two same.
        is.apart d a b x y context has one two (sym (alike d context a has) ∙ same ∙ alike d context b has);
  }

  -- contents and policies that come leave the entries
  pub written_sealed : (x : ℕ) (f : List ℕ → List ℕ) → IsSealed texts nodes → IsSealed texts (written nodes x f)
  written_sealed x f is =
      let entries : (q : ℕ) (n : Name) → entry (written nodes x f) q n ≡ entry nodes q n = edited_entry nodes x (on_contents f) (leaves_contents f) in
      let contexts : (q : ℕ) → context_at (written nodes x f) q ≡ context_at nodes q = read_changed context_in nodes x (on_contents f) (λ v. refl) in
      record {
        inherits = λ d n z context has found.
            ap (option_map (λ c. c.policy)) (contexts z) ∙ is.inherits d n z context (sym (contexts d) ∙ has) (sym (entries d n) ∙ found);
        apart = λ d a b y z context has one two same.
            is.apart d a b y z context (sym (contexts d) ∙ has) (sym (entries d a) ∙ one) (sym (entries d b) ∙ two) same;
      }

  module _ (x : ℕ) (given : Context) (plain : context_at nodes x ≡ None) (none : children nodes x ≡ []) where
    entries : (q : ℕ) (n : Name) → entry (with_node_context nodes x given) q n ≡ entry nodes q n
    entries = edited_entry nodes x (with_context given) (leaves_context given)

    -- a directory with an entry has the context that it had
    context_was : (d : ℕ) (n : Name) (z : ℕ) (context : Context) → entry nodes d n ≡ Some z → context_at (with_node_context nodes x given) d ≡ Some context → context_at nodes d ≡ Some context
    context_was d n z context found has =
        sym (ap context_in (changed_other nodes x (with_context given) d (λ same. childless nodes x n z none (ap (λ y. entry nodes y n) (sym same) ∙ found)))) ∙ has

    pub encrypted_sealed : IsSealed texts nodes → IsSealed texts (with_node_context nodes x given)
    encrypted_sealed is = record {
      inherits = λ d n z context has found.
          let led : entry nodes d n ≡ Some z = sym (entries d n) ∙ found in
          let policy : policy_at nodes z ≡ Some context.policy = is.inherits d n z context (context_was d n z context led has) led in
          let differ : z ≢ x = λ same. let lacks : policy_at nodes z ≡ None = ap (policy_at nodes) same ∙ ap (option_map (λ c. c.policy)) plain in absurd (cc) in
          ap (λ o. option_map (λ c. c.policy) (context_in o)) (changed_other nodes x (with_context given) z differ) ∙ policy;
      apart = λ d a b y z context has one two same.
          let led : entry nodes d a ≡ Some y = sym (entries d a) ∙ one in
          is.apart d a b y z context (context_was d a y context led has) led (sym (entries d b) ∙ two) same;
    }
