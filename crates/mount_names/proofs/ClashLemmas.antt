-- Whether a name would clash, decided by stored names.
use Rattle.std.proofs.Common.{◌≡◌, ℕ, ◌≤◌, Bool, true, false, cond, ◌&&◌, ◌||◌, List, [], ◌∷◌, length, Some, is_some, bytes_eq, inl, inr, refl, sym, ap, subst, ◌∙◌}
use Rattle.std.specs.List.{list_any}
use Rattle.std.specs.Map.{lookup}
use Rattle.std.proofs.lemmas.Bool.{cases_Bool, cases_lt, true≢false, le-leb}
use Rattle.byte_words.specs.Bytes.{AreBytes}
use Rattle.policy_ctx.specs.declared.policy.Context.{Context}
use Rattle.fsc_keys.specs.Keys.{key_bytes}
use Rattle.fsc_keys.specs.declared.file_keys.KeyKind.TheVariants.{Names}
use Rattle.name_crypt.specs.declared.limits.TheConstants.{MAX_SPELLED_BYTES}
use Rattle.name_crypt.specs.Laws.{NamesStayDistinct, StoredNamesFit, StoredNamesAreBytes, ShortTextsStayDistinct, LongTextsAreOthers}
use Rattle.name_crypt.specs.Plain.{IsPlain, IsStored}
use Rattle.name_crypt.specs.NoKeyText.{nokey_text_of}
use Rattle.plain_tree.specs.Nodes.{Name, Children}
use Rattle.plain_tree.specs.NodesByNumber.{children, context_at, entry}
use Rattle.plain_tree.specs.Stored.{IsNameOf}
use Rattle.plain_tree.proofs.ChildLemmas.{same_name}
use Rattle.plain_tree.proofs.StoredLemmas.{name_behind, name_front, searches_agree}
use Rattle.disk_tree.specs.DiskTree.{Disk, children as stored_entries}
use Rattle.mount_model.specs.PlainMount.{PlainMount}
use Rattle.mount_model.specs.Sealed.{node_key, node_start, sealed_name, texts}
use Rattle.mount_model.specs.EncryptedNames.{clashes, has_text_of}
use Rattle.mount_model.specs.WellFormed.{IsWellFormed}
use Rattle.mount_model.specs.SoundNodes.{IsName}
use Rattle.mount_state.specs.Resolution.{is_stored, is_text_of}
use Rattle.mount_state.specs.Stored.{stored_form}
use Rattle.mount_state.specs.Represents.{RepresentsTree}
use Rattle.mount_state.proofs.EntryLemmas.{children_stand, name_there}
use Rattle.mount_names.specs.NewPlaces.{HasByteKey}

-- ---- searches and tests of lists

some_entry : (test : Name → Bool) (cs : Children) → is_some (lookup test cs) ≡ list_any (λ e. test e.0) cs
some_entry test [] = refl
some_entry test (c ∷ cs) = elim (test c.0) as (λ b. is_some (cond b (Some c.1) (lookup test cs)) ≡ (b || list_any (λ e. test e.0) cs)) [
  | true ↦ refl
  | false ↦ some_entry test cs
]

none_passes : (test : Name → Bool) (cs : Children) → ((name : Name) → IsNameOf cs name → test name ≡ false) → list_any (λ e. test e.0) cs ≡ false
none_passes test [] never = refl
none_passes test (c ∷ cs) never =
    ap (λ b. b || list_any (λ e. test e.0) cs) (never c.0 (name_front c cs))
    ∙ none_passes test cs (λ name there. never name (name_behind c cs name there))

not_same : (a b : List ℕ) → ((a ≡ b) → ⊥) → bytes_eq a b ≡ false
not_same a b differ = elim (cases_Bool (bytes_eq a b)) [
  | inl is ↦ absurd (differ (same_name a b is))
  | inr other ↦ other
]

name_plain : (name : Name) → IsName name → IsPlain name
name_plain name is = (is.0.size.0, is.1, is.0.nul)

module _ (disk : Disk) (next : ℕ) (m : PlainMount) (well : IsWellFormed m) (tree : RepresentsTree disk next m) (d : ℕ) (name : Name) (plain : IsPlain name) (bytes : AreBytes name) where
  -- without policy nothing clashes
  module _ (c : Context) (here : context_at m.nodes d ≡ Some c) (fits : StoredNamesFit) where
    abbrev sealed : Name → List ℕ
    sealed n = sealed_name m.raws d c n

    seal_fits : (n : Name) → IsPlain n → IsStored (sealed n)
    unfolding sealed_name
    seal_fits n is = fits (key_bytes (node_key m.raws c Names)) (node_start d c) n c.policy.pad is

    pub stored_fits : (stored : List ℕ) → stored ≡ stored_form m.raws d (context_at m.nodes d) name → IsStored stored
    stored_fits stored is = subst IsStored (sym (is ∙ ap (λ o. stored_form m.raws d o name) here)) (seal_fits name plain)

    text_is : (n : Name) → texts m.raws d c n ≡ nokey_text_of (sealed n)
    unfolding texts
    text_is n = refl

    abbrev has_this : Name → Bool
    has_this n = bytes_eq (texts m.raws d c name) (texts m.raws d c n)

    clash_is : clashes m d name ≡ list_any (λ e. has_this e.0) (children m.nodes d)
    clash_is = ap (has_text_of m d name) here

    -- by the texts of stored names
    pub clash_found : (stored : List ℕ) → stored ≡ stored_form m.raws d (context_at m.nodes d) name
        → is_some (lookup (is_text_of (nokey_text_of stored)) (stored_entries disk d)) ≡ clashes m d name
    clash_found stored is =
        ap is_some (ap (lookup (is_text_of (nokey_text_of stored))) (children_stand disk next m well tree d)
        ∙ searches_agree (stored_form m.raws d (context_at m.nodes d)) (is_text_of (nokey_text_of stored)) has_this (children m.nodes d) (λ n there.
        ap (λ o. is_text_of (nokey_text_of stored) (stored_form m.raws d o n)) here
        ∙ ap (λ b. b && bytes_eq (nokey_text_of stored) (nokey_text_of (sealed n))) (is_one n there)
        ∙ (λ i. bytes_eq (mine i) (sym (text_is n) i))))
        ∙ (some_entry has_this (children m.nodes d) ∙ sym clash_is)
      where
        mine : nokey_text_of stored ≡ texts m.raws d c name
        mine = ap nokey_text_of (is ∙ ap (λ o. stored_form m.raws d o name) here) ∙ sym (text_is name)

        is_one : (n : Name) → IsNameOf (children m.nodes d) n → is_stored (sealed n) ≡ true
        is_one n there =
            let fit : IsStored (sealed n) = seal_fits n (name_plain n (name_there disk next m well tree d n there)) in
            λ i. le-leb _ _ fit.0 i && le-leb _ _ fit.1 i

    -- a short one is no other's
    module _ (distinct : NamesStayDistinct) (ranged : StoredNamesAreBytes) (short : ShortTextsStayDistinct) (long : LongTextsAreOthers) (key : HasByteKey m d) where
      seal_bytes : (n : Name) → IsPlain n → AreBytes n → AreBytes (sealed n)
      unfolding sealed_name
      seal_bytes n is are = ranged (key_bytes (node_key m.raws c Names)) (node_start d c) n c.policy.pad (key c here) are is

      one_name : (n : Name) → IsPlain n → AreBytes n → sealed name ≡ sealed n → name ≡ n
      unfolding sealed_name
      one_name n is are same = distinct (key_bytes (node_key m.raws c Names)) (node_start d c) name n c.policy.pad (key c here) bytes are plain is same

      one_seal : (n : Name) → IsPlain n → AreBytes n → length (sealed name) ≤ MAX_SPELLED_BYTES → nokey_text_of (sealed name) ≡ nokey_text_of (sealed n) → sealed name ≡ sealed n
      one_seal n is are small same = elim (cases_lt MAX_SPELLED_BYTES (length (sealed n))) [
        | inl more ↦ absurd (long (sealed name) (sealed n) small more same)
        | inr few ↦ short (sealed name) (sealed n) (seal_bytes name plain bytes) (seal_bytes n is are) small few same
      ]

      pub short_apart : (stored : List ℕ) → stored ≡ stored_form m.raws d (context_at m.nodes d) name → length stored ≤ MAX_SPELLED_BYTES
          → is_some (entry m.nodes d name) ≡ false → clashes m d name ≡ false
      short_apart stored is small free =
          clash_is
          ∙ none_passes has_this (children m.nodes d) (λ n there.
          not_same (texts m.raws d c name) (texts m.raws d c n) (λ same.
          let one = name_there disk next m well tree d n there in
          let seal : stored ≡ sealed name = is ∙ ap (λ o. stored_form m.raws d o name) here in
          let alike = one_seal n (name_plain n one) one.0.bytes (subst (λ x. length x ≤ MAX_SPELLED_BYTES) seal small) (sym (text_is name) ∙ same ∙ text_is n) in
          let this = one_name n (name_plain n one) one.0.bytes alike in
          true≢false (sym there ∙ (ap (λ x. is_some (entry m.nodes d x)) (sym this) ∙ free))))
