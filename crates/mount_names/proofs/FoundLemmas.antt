-- The entry that is found by the name as it is stored is the one that the mount finds by the part.
use Rattle.std.proofs.Common.{◌≡◌, ℕ, Bool, true, false, cond, not, ◌&&◌, List, [], ◌∷◌, Result, Option, Some, None, option_map, is_some, IfSome, Ok, Err, bytes_eq, inl, inr, refl, sym, ap, subst, ◌∙◌}
use Rattle.std.specs.Map.{lookup, lookup_entry}
use Rattle.std.proofs.lemmas.Bool.{true≢false, le-leb}
use Rattle.byte_words.specs.Bytes.{AreBytes}
use Rattle.policy_ctx.specs.declared.policy.Context.{Context}
use Rattle.name_crypt.specs.Laws.{NamesStayDistinct, StoredNamesFit}
use Rattle.name_crypt.specs.NoKeyText.{nokey_text_of}
use Rattle.name_crypt.specs.Plain.{IsPlain}
use Rattle.plain_tree.specs.Nodes.{Name, Children}
use Rattle.plain_tree.specs.NodesByNumber.{children, context_at, is_dir_at, entry}
use Rattle.plain_tree.specs.Stored.{stored_children, IsNameOf}
use Rattle.plain_tree.proofs.ChildLemmas.{itself, other_name, same_name, cases_name}
use Rattle.plain_tree.proofs.FoundLemmas.{found_entry, found_passes}
use Rattle.plain_tree.proofs.StoredLemmas.{name_behind, name_front, searches_agree}
use Rattle.disk_tree.specs.DiskTree.{Disk, children as stored_entries}
use Rattle.disk_tree.specs.Entries.{number_under}
use Rattle.mount_model.specs.declared.reply.Refusal.{Refusal}
use Rattle.mount_model.specs.declared.reply.Refusal.TheVariants.{NoKey, NotFound}
use Rattle.mount_model.specs.PlainMount.{PlainMount}
use Rattle.mount_model.specs.AnswerForms.{Answer, refusal_with, at_node, at_entry}
use Rattle.mount_model.specs.Sealed.{sealed_name, texts}
use Rattle.mount_model.specs.States.{is_keyed, is_keyed_under, shown, visible_name_under}
use Rattle.mount_model.specs.Walk.{PathParts, WalkResult, visible_entry}
use Rattle.mount_model.specs.EntryPaths.{last_part, parent}
use Rattle.mount_model.specs.WellFormed.{IsWellFormed}
use Rattle.mount_state.specs.Resolution.{resolved_node, is_text_of}
use Rattle.mount_state.specs.Stored.{stored_form}
use Rattle.mount_state.specs.Represents.{RepresentsTree}
use Rattle.mount_state.proofs.EntryLemmas.{children_stand, name_there}
use Rattle.mount_state.proofs.KeyedLemmas.{keyed_led}
use Rattle.mount_state.proofs.LedLemmas.{plain_led}
use Rattle.mount_names.specs.Places.{Entry}
use Rattle.mount_names.specs.FoundEntries.{form_in, entry_in, entry_of_part, IsStoredFor, or_not_found, entry_for_part, entry_after_walk, entry_end}
use Rattle.mount_names.specs.NewPlaces.{HasByteKey}
use Rattle.mount_names.specs.Removals.{IsEntryOf}
use Rattle.mount_names.specs.VisibleNames.{ShowsAs}
use Rattle.mount_names.specs.declared.reading.Reading.TheVariants.{Locked}
use Rattle.mount_names.proofs.AgreeLemmas.{StoredApart}
use Rattle.mount_names.proofs.PlaceLemmas.{by_itself}
use Rattle.mount_names.proofs.ShownLemmas.{locked_shows}

abbrev number_in : Option (Name × ℕ) → Option ℕ
number_in o = option_map (λ (e : Name × ℕ). e.1) o

-- ---- searches for entries

-- two tests, of stored names and of plain ones, that agree on the names that are there find one entry
entries_agree : (store : Name → List ℕ) (stored plain : List ℕ → Bool) (cs : Children) → ((name : Name) → IsNameOf cs name → stored (store name) ≡ plain name)
    → option_map (λ (e : List ℕ × ℕ). e.0) (lookup_entry stored (stored_children store cs)) ≡ option_map (λ (e : Name × ℕ). store e.0) (lookup_entry plain cs)
entries_agree store stored plain [] agree = refl
entries_agree store stored plain (e ∷ cs) agree =
    ap (λ b. option_map (λ (p : List ℕ × ℕ). p.0) (cond b (Some (store e.0, e.1)) (lookup_entry stored (stored_children store cs)))) (agree e.0 (name_front e cs))
    ∙ (elim (plain e.0) as (λ b. option_map (λ (p : List ℕ × ℕ). p.0) (cond b (Some (store e.0, e.1)) (lookup_entry stored (stored_children store cs))) ≡ option_map (λ (p : Name × ℕ). store p.0) (cond b (Some e) (lookup_entry plain cs))) [
      | true ↦ refl
      | false ↦ entries_agree store stored plain cs (λ a there. agree a (name_behind e cs a there))
    ])

module _ (disk : Disk) (next : ℕ) (m : PlainMount) (well : IsWellFormed m) (tree : RepresentsTree disk next m) (d : ℕ) where
  -- ---- two names of a directory have two stored forms, since they have two texts

  form_at : (o : Option Context) → context_at m.nodes d ≡ o → (n : Name) → form_in m d n ≡ stored_form m.raws d o n
  form_at o is n = ap (λ o. stored_form m.raws d o n) is

  some_leads : (n : Name) → IsNameOf (children m.nodes d) n → (x : ℕ) × (entry m.nodes d n ≡ Some x)
  some_leads n there = by (entry m.nodes d n) refl there
    where
      by : (o : Option ℕ) → entry m.nodes d n ≡ o → is_some o ≡ true → (x : ℕ) × (entry m.nodes d n ≡ Some x)
      by None is bad = absurd (true≢false (sym bad))
      by (Some x) is _ = (x, is)

  pub stored_apart : (name : Name) → IsNameOf (children m.nodes d) name → StoredApart m.raws d (context_at m.nodes d) name (children m.nodes d)
  unfolding texts
  stored_apart name there other other_there same = by (context_at m.nodes d) refl
    where
      text_is : (c : Context) (n : Name) → texts m.raws d c n ≡ nokey_text_of (sealed_name m.raws d c n)
      text_is c n = refl

      by : (o : Option Context) → context_at m.nodes d ≡ o → name ≡ other
      by None here = sym (form_at None here name) ∙ (same ∙ form_at None here other)
      by (Some c) here =
          let one = some_leads name there in
          let two = some_leads other other_there in
          let seals : sealed_name m.raws d c name ≡ sealed_name m.raws d c other = sym (form_at (Some c) here name) ∙ (same ∙ form_at (Some c) here other) in
          well.nodes.sealed.apart d name other one.0 two.0 c here one.1 two.1 (text_is c name ∙ ap nokey_text_of seals ∙ sym (text_is c other))

  -- the stored form of a name resolves as the name does
  pub form_leads : (name : Name) (x : ℕ) → entry m.nodes d name ≡ Some x → number_under (form_in m d name) (stored_entries disk d) ≡ Some x
  form_leads name x led =
      ap (lookup (bytes_eq (form_in m d name))) (children_stand disk next m well tree d)
      ∙ searches_agree (stored_form m.raws d (context_at m.nodes d)) (bytes_eq (form_in m d name)) (bytes_eq name) (children m.nodes d) agree
      ∙ led
    where
      agree : (n : Name) → IsNameOf (children m.nodes d) n → bytes_eq (form_in m d name) (form_in m d n) ≡ bytes_eq name n
      agree n there = elim (cases_name name n) [
        | inl is ↦ ap (λ (q : Name). bytes_eq (form_in m d name) (form_in m d q)) (sym is) ∙ itself (form_in m d name) ∙ sym (itself name) ∙ ap (bytes_eq name) is
        | inr differ ↦
            other_name (form_in m d name) (form_in m d n) (λ same. differ (stored_apart name (ap is_some led) n there same))
            ∙ sym (other_name name n differ)
      ]

  -- ---- what is found under a stored form

  module _ (part : Name) where
    abbrev test : Name → Bool
    test name = bytes_eq part (shown m d name)

    found_leads : (e : Name × ℕ) → visible_entry m d part ≡ Some e → entry m.nodes d e.0 ≡ Some e.1
    found_leads e is = found_entry m.nodes d test e is

    pub none_stored : IsStoredFor disk m d (visible_entry m d part) None → None ≡ entry_of_part m d part
    none_stored is = by (visible_entry m d part) is
      where
        by : (o : Option (Name × ℕ)) → IsStoredFor disk m d o None → None ≡ option_map (entry_in m d) o
        by None is = refl
        by (Some e) is = let bad : None ≡ Some (form_in m d e.0) = is in absurd (cc)

    -- if the stored form resolves, the part resolves to the same node
    pub stored_led : (s : List ℕ) → IsStoredFor disk m d (visible_entry m d part) (Some s) → (n : Option ℕ) → n ≡ number_under s (stored_entries disk d)
        → option_map (λ (x : ℕ). let entry : Entry = record { dir = d; stored = s; number = x } in entry) n ≡ entry_of_part m d part
    stored_led s is n n_is = by (visible_entry m d part) refl is
      where
        same : (a b : List ℕ) → Some a ≡ Some b → a ≡ b
        same a b is = cc

        made : Option ℕ → Option Entry
        made n = option_map (λ (x : ℕ). let entry : Entry = record { dir = d; stored = s; number = x } in entry) n

        by : (o : Option (Name × ℕ)) → visible_entry m d part ≡ o → IsStoredFor disk m d o (Some s) → made n ≡ option_map (entry_in m d) o
        by None none lacks = ap made (n_is ∙ lacks)
        by (Some e) here form =
            let s_is : s ≡ form_in m d e.0 = same s (form_in m d e.0) form in
            ap made (n_is ∙ ap (λ (b : List ℕ). number_under b (stored_entries disk d)) s_is ∙ form_leads e.0 e.1 (found_leads e here))
            ∙ ap (λ (b : List ℕ). let entry : Entry = record { dir = d; stored = b; number = e.1 } in Some entry) s_is

    -- ---- the stored form of the name that is visible as the part

    shown_plain : is_keyed m d ≡ true → (n : Name) → shown m d n ≡ n
    shown_plain keyed n = by (context_at m.nodes d) refl
      where
        by : (o : Option Context) → context_at m.nodes d ≡ o → shown m d n ≡ n
        by None here = ap (visible_name_under m d n) here
        by (Some c) here = ap (visible_name_under m d n) here ∙ ap (λ b. cond b n (texts m.raws d c n)) keyed

    part_is : is_keyed m d ≡ true → (e : Name × ℕ) → visible_entry m d part ≡ Some e → part ≡ e.0
    part_is keyed e here = same_name part e.0 (sym (ap (bytes_eq part) (shown_plain keyed e.0)) ∙ found_passes test (children m.nodes d) e here)

    name_plain : (e : Name × ℕ) → visible_entry m d part ≡ Some e → IsPlain e.0
    name_plain e here = let is = name_there disk next m well tree d e.0 (ap is_some (found_leads e here)) in (is.0.size.0, is.1, is.0.nul)

    -- a part that is no name
    pub other_part : is_keyed m d ≡ true → (IsPlain part → ⊥) → IsStoredFor disk m d (visible_entry m d part) None
    other_part keyed other = by (visible_entry m d part) refl
      where
        by : (o : Option (Name × ℕ)) → visible_entry m d part ≡ o → IsStoredFor disk m d o None
        by None here = tt
        by (Some e) here = absurd (other (subst IsPlain (sym (part_is keyed e here)) (name_plain e here)))

    -- a name in a keyed directory
    pub keyed_part : is_keyed m d ≡ true → is_dir_at m.nodes d ≡ true → NamesStayDistinct → HasByteKey m d → IsPlain part → AreBytes part → (s : List ℕ) → s ≡ form_in m d part
        → IsStoredFor disk m d (visible_entry m d part) (Some s)
    unfolding sealed_name
    keyed_part keyed is_dir distinct key plain bytes s s_is = by (visible_entry m d part) refl
      where
        leads : (o : Option Context) → context_at m.nodes d ≡ o → number_under (stored_form m.raws d o part) (stored_entries disk d) ≡ resolved_node m d part
        leads None none = plain_led disk next m well tree d part none
        leads (Some c) here = keyed_led m d c here disk next well tree is_dir distinct keyed (key c here) part plain bytes

        by : (o : Option (Name × ℕ)) → visible_entry m d part ≡ o → IsStoredFor disk m d o (Some s)
        by None none = ap (λ (b : List ℕ). number_under b (stored_entries disk d)) s_is ∙ leads (context_at m.nodes d) refl ∙ ap number_in none
        by (Some e) here = ap (λ (b : List ℕ). Some b) (s_is ∙ ap (form_in m d) (part_is keyed e here))

    -- in a keyed directory the stored form resolves as the name does
    pub keyed_entry : is_keyed m d ≡ true → is_dir_at m.nodes d ≡ true → NamesStayDistinct → HasByteKey m d → IsPlain part → AreBytes part
        → number_under (form_in m d part) (stored_entries disk d) ≡ entry m.nodes d part
    unfolding sealed_name
    keyed_entry keyed is_dir distinct key plain bytes = leads (context_at m.nodes d) refl ∙ by_itself part (shown m d) (children m.nodes d) (shown_plain keyed)
      where
        leads : (o : Option Context) → context_at m.nodes d ≡ o → number_under (stored_form m.raws d o part) (stored_entries disk d) ≡ resolved_node m d part
        leads None none = plain_led disk next m well tree d part none
        leads (Some c) here = keyed_led m d c here disk next well tree is_dir distinct keyed (key c here) part plain bytes

    -- a no-key text in a locked directory
    pub locked_part : StoredNamesFit → is_keyed m d ≡ false
        → IsStoredFor disk m d (visible_entry m d part) (option_map (λ (e : List ℕ × ℕ). e.0) (lookup_entry (is_text_of part) (stored_entries disk d)))
    locked_part fits locked = by (visible_entry m d part) refl
      where
        in_context : (o : Option Context) → context_at m.nodes d ≡ o → (n : Name) → IsNameOf (children m.nodes d) n → is_text_of part (form_in m d n) ≡ test n
        in_context None here n there = absurd (true≢false (sym (ap (is_keyed_under m d) here) ∙ locked))
        in_context (Some c) here n there =
            let is = name_there disk next m well tree d n there in
            let shows : ShowsAs Locked (form_in m d n) (shown m d n) = locked_shows m d n (is.0.size.0, is.1, is.0.nul) fits c here locked in
            (λ i. (le-leb _ _ shows.1.0 i && le-leb _ _ shows.1.1 i) && bytes_eq part (sym shows.0 i))

        searched : option_map (λ (e : List ℕ × ℕ). e.0) (lookup_entry (is_text_of part) (stored_entries disk d)) ≡ option_map (λ (e : Name × ℕ). form_in m d e.0) (visible_entry m d part)
        searched =
            ap (λ es. option_map (λ (e : List ℕ × ℕ). e.0) (lookup_entry (is_text_of part) es)) (children_stand disk next m well tree d)
            ∙ entries_agree (stored_form m.raws d (context_at m.nodes d)) (is_text_of part) test (children m.nodes d) (in_context (context_at m.nodes d) refl)

        by : (o : Option (Name × ℕ)) → visible_entry m d part ≡ o → IsStoredFor disk m d o (option_map (λ (e : List ℕ × ℕ). e.0) (lookup_entry (is_text_of part) (stored_entries disk d)))
        by None none = subst (λ (o : Option (List ℕ)). IfSome o (λ b. number_under b (stored_entries disk d) ≡ None)) (sym (searched ∙ ap (option_map (λ (e : Name × ℕ). form_in m d e.0)) none)) tt
        by (Some e) here = searched ∙ ap (option_map (λ (p : Name × ℕ). form_in m d p.0)) here

-- ---- at the end of a path

abbrev pub ok_entry : Entry → Result Entry Refusal
ok_entry e = Ok e

abbrev pub no_entry : Refusal → Result Entry Refusal
no_entry r = Err r

pub record IsAt (m : PlainMount) (path : PathParts) (by_name : Bool) (entry : Entry) : Type 0 where
  pub name : Name
  pub led : parent m path ≡ Ok entry.dir
  pub free : (by_name && not (is_keyed m entry.dir)) ≡ false
  pub found_so : visible_entry m entry.dir (last_part path) ≡ Some (name, entry.number)
  pub of : IsEntryOf m name entry

-- whether the entry is looked up by its name although no name is visible
pub sought_so : (m : PlainMount) (part : Name) (d : ℕ) (by_name : Bool) (keyed : Bool) → keyed ≡ is_keyed m d → (barred : Bool) → (by_name && not keyed) ≡ barred
    → cond barred (no_entry NoKey) (or_not_found (entry_of_part m d part)) ≡ entry_for_part by_name m part d
sought_so m part d by_name keyed is barred told = ap (λ b. cond b (no_entry NoKey) (or_not_found (entry_of_part m d part))) (sym told ∙ ap (λ b. by_name && not b) is)

module _ (m : PlainMount) (path : PathParts) (by_name : Bool) where
  abbrev ends_in : ℕ → Option (Name × ℕ) → Result Entry Refusal
  ends_in d o = or_not_found (option_map (entry_in m d) o)

  abbrev on_entry : (ℕ → Name → ℕ → Answer) → ℕ → Answer
  on_entry f d = cond (by_name && not (is_keyed m d)) (refusal_with m NoKey) (at_entry m (visible_entry m d (last_part path)) (f d))

  -- what a call on the entry answers, which is refused so at the root
  abbrev answer : Bool → Refusal → (ℕ → Name → ℕ → Answer) → Answer
  answer at_root root f = cond at_root (refusal_with m root) (at_node m (parent m path) (on_entry f))

  -- the same if there is no entry
  pub end_refused : (r : Refusal) → Err r ≡ entry_end by_name m path → (at_root : Bool) → at_root ≡ false → (root : Refusal) (f : ℕ → Name → ℕ → Answer) → answer at_root root f ≡ refusal_with m r
  end_refused r is at_root named root f = ap (λ b. answer b root f) named ∙ by (parent m path) is
    where
      same : (a b : Refusal) → no_entry a ≡ no_entry b → a ≡ b
      same a b e = cc

      in_dir : (d : ℕ) (o : Option (Name × ℕ)) → Err r ≡ ends_in d o → at_entry m o (f d) ≡ refusal_with m r
      in_dir d None is = ap (refusal_with m) (sym (same r NotFound is))
      in_dir d (Some e) is = let bad : no_entry r ≡ ok_entry (entry_in m d e) = is in absurd (cc)

      free_or : (d : ℕ) (barred : Bool) → Err r ≡ cond barred (Err NoKey) (ends_in d (visible_entry m d (last_part path)))
          → cond barred (refusal_with m NoKey) (at_entry m (visible_entry m d (last_part path)) (f d)) ≡ refusal_with m r
      free_or d true is = ap (refusal_with m) (sym (same r NoKey is))
      free_or d false is = in_dir d (visible_entry m d (last_part path)) is

      by : (w : WalkResult) → Err r ≡ entry_after_walk by_name m (last_part path) w → at_node m w (on_entry f) ≡ refusal_with m r
      by (Err q) is = ap (refusal_with m) (sym (same r q is))
      by (Ok d) is = free_or d (by_name && not (is_keyed m d)) is

  pub end_at : (entry : Entry) → Ok entry ≡ entry_end by_name m path → IsAt m path by_name entry
  end_at entry is = by (parent m path) refl is
    where
      same : (a b : Entry) → ok_entry a ≡ ok_entry b → a ≡ b
      same a b e = cc

      in_dir : (d : ℕ) → parent m path ≡ Ok d → (by_name && not (is_keyed m d)) ≡ false → (o : Option (Name × ℕ)) → visible_entry m d (last_part path) ≡ o → Ok entry ≡ ends_in d o → IsAt m path by_name entry
      in_dir d led free None none is = let bad : ok_entry entry ≡ no_entry NotFound = is in absurd (cc)
      in_dir d led free (Some e) here is =
          let entry_is : entry ≡ entry_in m d e = same entry (entry_in m d e) is in
          subst (IsAt m path by_name) (sym entry_is) (record {
            name = e.0;
            led = led;
            free = free;
            found_so = here;
            of = record { there = found_entry m.nodes d (λ n. bytes_eq (last_part path) (shown m d n)) e here; stored = refl };
          })

      free_or : (d : ℕ) → parent m path ≡ Ok d → (barred : Bool) → (by_name && not (is_keyed m d)) ≡ barred → Ok entry ≡ cond barred (Err NoKey) (ends_in d (visible_entry m d (last_part path))) → IsAt m path by_name entry
      free_or d led true barred is = let bad : ok_entry entry ≡ no_entry NoKey = is in absurd (cc)
      free_or d led false free is = in_dir d led free (visible_entry m d (last_part path)) refl is

      by : (w : WalkResult) → parent m path ≡ w → Ok entry ≡ entry_after_walk by_name m (last_part path) w → IsAt m path by_name entry
      by (Err q) led is = let bad : ok_entry entry ≡ no_entry q = is in absurd (cc)
      by (Ok d) led is = free_or d led (by_name && not (is_keyed m d)) refl is

  -- at the entry
  pub end_is : (e : Entry) (at : IsAt m path by_name e) (at_root : Bool) → at_root ≡ false → (root : Refusal) (f : ℕ → Name → ℕ → Answer) → answer at_root root f ≡ f e.dir at.name e.number
  end_is e at at_root named root f =
      (λ i. cond (named i) (refusal_with m root) (at_node m (at.led i) (on_entry f)))
      ∙ (λ i. cond (at.free i) (refusal_with m NoKey) (at_entry m (at.found_so i) (f e.dir)))
