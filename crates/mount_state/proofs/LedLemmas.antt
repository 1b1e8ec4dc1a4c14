-- The stored entries of a directory resolve as its plain ones do.
use Rattle.std.proofs.Common.{◌≡◌, ℕ, Bool, true, false, cond, ◌&&◌, List, [], ◌∷◌, Option, Some, None, option_map, is_some, bytes_eq, inl, inr, refl, sym, ap, ◌∙◌}
use Rattle.std.specs.Map.{lookup, lookup_entry}
use Rattle.std.proofs.lemmas.Bool.{cases_Bool, true≢false, le-leb}
use Rattle.std.proofs.lemmas.Slice.Eq.{bytes_eq-Decides}
use Rattle.policy_ctx.specs.declared.policy.Context.{Context}
use Rattle.number_map.specs.Numbered.{get}
use Rattle.name_crypt.specs.Plain.{IsPlain, IsStored}
use Rattle.name_crypt.specs.Laws.{StoredNamesFit}
use Rattle.name_crypt.specs.NoKeyText.{nokey_text_of}
use Rattle.fsc_keys.specs.Keys.{key_bytes}
use Rattle.fsc_keys.specs.declared.file_keys.KeyKind.TheVariants.{Names}
use Rattle.plain_tree.specs.Nodes.{Name, Children, Node, Body, Dir, File, Link, children_of}
use Rattle.plain_tree.specs.NodesByNumber.{children_in, context_in, children, context_at}
use Rattle.plain_tree.specs.Stored.{stored_children, IsNameOf}
use Rattle.plain_tree.proofs.StoredLemmas.{searches_agree}
use Rattle.disk_tree.specs.DiskTree.{Disk, entries_in, children as stored_entries}
use Rattle.mount_model.specs.PlainMount.{PlainMount, Raws}
use Rattle.mount_model.specs.Sealed.{node_key, node_start, sealed_name, texts}
use Rattle.mount_model.specs.States.{is_keyed, is_keyed_under, shown, visible_name_under}
use Rattle.mount_model.specs.WellFormed.{IsWellFormed}
use Rattle.mount_model.specs.SoundNodes.{IsName}
use Rattle.mount_state.specs.Resolution.{resolved_node, is_stored, is_text_of}
use Rattle.mount_state.specs.Stored.{stored_form, stored_node}
use Rattle.mount_state.specs.Represents.{RepresentsTree}

-- ---- texts

-- a comparison that decides equality
pub decided : (b : Bool) (x y : List ℕ) → (b ≡ true → x ≡ y) → (x ≡ y → b ≡ true) → b ≡ bytes_eq x y
decided b x y to from = elim (cases_Bool (bytes_eq x y)) [
  | inl same ↦ from ((bytes_eq-Decides x y).0 same) ∙ sym same
  | inr other ↦ elim (cases_Bool b) [
    | inl is ↦ absurd (true≢false (sym ((bytes_eq-Decides x y).1 (to is)) ∙ other))
    | inr not_so ↦ not_so ∙ sym other
  ]
]

-- ---- entries

entries_of_node : (raws : Raws) (n : ℕ) (named : Bool) (context : Option Context) (body : Body)
    → entries_in (Some (stored_node raws n (record { named = named; context = context; body = body }))) ≡ stored_children (stored_form raws n context) (children_of body)
entries_of_node raws n named context (Dir children) = refl
entries_of_node raws n named context (File contents) = refl
entries_of_node raws n named context (Link target) = refl

entries_stored : (raws : Raws) (n : ℕ) (o : Option Node) → entries_in (option_map (stored_node raws n) o) ≡ stored_children (stored_form raws n (context_in o)) (children_in o)
entries_stored raws n None = refl
entries_stored raws n (Some v) = entries_of_node raws n v.named v.context v.body

-- the value of the entry that is found
pub value_found : (test : Name → Bool) (cs : Children) → lookup test cs ≡ option_map (λ (e : Name × ℕ). e.1) (lookup_entry test cs)
value_found test [] = refl
value_found test (c ∷ cs) = elim (test c.0) as (λ b. cond b (Some c.1) (lookup test cs) ≡ option_map (λ (e : Name × ℕ). e.1) (cond b (Some c) (lookup_entry test cs))) [
  | true ↦ refl
  | false ↦ value_found test cs
]

some_value : {X : Type 0} (o : Option X) → is_some o ≡ true → (x : X) × (o ≡ Some x)
some_value None bad = absurd (cc)
some_value (Some x) there = (x, refl)

module _ (disk : Disk) (next : ℕ) (m : PlainMount) (well : IsWellFormed m) (tree : RepresentsTree disk next m) (dir : ℕ) where
  entries_are : stored_entries disk dir ≡ stored_children (stored_form m.raws dir (context_at m.nodes dir)) (children m.nodes dir)
  entries_are = ap entries_in (tree.nodes dir) ∙ entries_stored m.raws dir (get m.nodes dir)

  -- a test of stored names that agrees with the visible names finds what the part resolves to
  pub led_by : (part : Name) (test : List ℕ → Bool)
      → ((name : Name) → IsNameOf (children m.nodes dir) name → test (stored_form m.raws dir (context_at m.nodes dir) name) ≡ bytes_eq part (shown m dir name))
      → lookup test (stored_entries disk dir) ≡ resolved_node m dir part
  led_by part test agree =
      ap (lookup test) entries_are
      ∙ (searches_agree (stored_form m.raws dir (context_at m.nodes dir)) test (λ name. bytes_eq part (shown m dir name)) (children m.nodes dir) agree
      ∙ value_found (λ name. bytes_eq part (shown m dir name)) (children m.nodes dir))

  -- a name of the directory is one that a call may make
  pub name_of_entry : (name : Name) → IsNameOf (children m.nodes dir) name → IsName name
  name_of_entry name there =
      let leads = some_value (lookup (bytes_eq name) (children m.nodes dir)) there in
      well.nodes.names dir name leads.0 leads.1

  pub plain_led : (part : Name) → context_at m.nodes dir ≡ None → lookup (bytes_eq part) (stored_entries disk dir) ≡ resolved_node m dir part
  plain_led part none = led_by part (bytes_eq part) (λ name _.
      ap (λ o. bytes_eq part (stored_form m.raws dir o name)) none
      ∙ sym (ap (λ o. bytes_eq part (visible_name_under m dir name o)) none))

  module _ (fits : StoredNamesFit) (c : Context) (here : context_at m.nodes dir ≡ Some c) (locked : is_keyed m dir ≡ false) where
    size_of_part : (name : Name) → IsNameOf (children m.nodes dir) name → IsPlain name
    size_of_part name there =
        let is = name_of_entry name there in
        (is.0.size.0, is.1, is.0.nul)

    stored_fits : (name : Name) → IsNameOf (children m.nodes dir) name → is_stored (sealed_name m.raws dir c name) ≡ true
    unfolding sealed_name
    stored_fits name there =
        let fit : IsStored (sealed_name m.raws dir c name) = fits (key_bytes (node_key m.raws c Names)) (node_start dir c) name c.policy.pad (size_of_part name there) in
        λ i. le-leb _ _ fit.0 i && le-leb _ _ fit.1 i

    text_is : (name : Name) → texts m.raws dir c name ≡ nokey_text_of (sealed_name m.raws dir c name)
    unfolding texts
    text_is name = refl

    shown_is : (name : Name) → shown m dir name ≡ nokey_text_of (sealed_name m.raws dir c name)
    shown_is name =
        ap (visible_name_under m dir name) here
        ∙ (ap (λ b. cond b name (texts m.raws dir c name)) locked ∙ text_is name)

    led_by_text : (text : Name) → lookup (is_text_of text) (stored_entries disk dir) ≡ resolved_node m dir text
    led_by_text text = led_by text (is_text_of text) (λ name there.
        ap (λ o. is_text_of text (stored_form m.raws dir o name)) here
        ∙ (ap (λ b. b && bytes_eq text (nokey_text_of (sealed_name m.raws dir c name))) (stored_fits name there)
        ∙ ap (bytes_eq text) (sym (shown_is name))))

  pub locked_led : StoredNamesFit → is_keyed m dir ≡ false → (text : Name) → lookup (is_text_of text) (stored_entries disk dir) ≡ resolved_node m dir text
  locked_led fits locked text = by_case (context_at m.nodes dir) refl
    where
      by_case : (o : Option Context) → context_at m.nodes dir ≡ o → lookup (is_text_of text) (stored_entries disk dir) ≡ resolved_node m dir text
      by_case None none = absurd (true≢false (sym (ap (is_keyed_under m dir) none) ∙ locked))
      by_case (Some c) here = led_by_text fits c here locked text
