-- A stored form that is read as the node's names are has the visible name that the mount has.
use Rattle.std.proofs.Common.{◌≡◌, ◌≢◌, ℕ, ◌≤◌, true, false, cond, List, [], length, Some, None, refl, sym, ap, subst, ◌∙◌, arith}
use Rattle.byte_words.specs.Bytes.{AreBytes}
use Rattle.policy_ctx.specs.declared.policy.Context.{Context}
use Rattle.fsc_keys.specs.Keys.{key_bytes}
use Rattle.fsc_keys.specs.declared.file_keys.KeyKind.TheVariants.{Names}
use Rattle.name_crypt.specs.declared.cipher.NameCipher.{NameCipher}
use Rattle.name_crypt.specs.declared.limits.TheConstants.{MAX_NAME_BYTES}
use Rattle.name_crypt.specs.Laws.{NamesComeBack, StoredNamesFit}
use Rattle.name_crypt.specs.Plain.{IsPlain, IsStored}
use Rattle.name_crypt.specs.StoredName.{plain_name, stored_name}
use Rattle.name_crypt.specs.NoKeyText.{nokey_text_of}
use Rattle.plain_tree.specs.Nodes.{Name}
use Rattle.plain_tree.specs.NodesByNumber.{context_at}
use Rattle.mount_model.specs.PlainMount.{PlainMount}
use Rattle.mount_model.specs.Sealed.{node_key, node_start, sealed_name, texts}
use Rattle.mount_model.specs.States.{is_keyed, shown, visible_name_under}
use Rattle.mount_state.specs.Stored.{stored_form}
use Rattle.mount_names.specs.declared.reading.Reading.TheVariants.{Plain, Keyed, Locked}
use Rattle.mount_names.specs.VisibleNames.{ShowsAs}
use Rattle.mount_names.specs.NameCiphers.{names_cipher}

module _ (m : PlainMount) (n : ℕ) (name : Name) (plain : IsPlain name) where
  pub plain_shows : context_at m.nodes n ≡ None → ShowsAs Plain (stored_form m.raws n (context_at m.nodes n) name) (shown m n name)
  plain_shows none =
      let as_it_is : stored_form m.raws n (context_at m.nodes n) name ≡ name = ap (λ o. stored_form m.raws n o name) none in
      (ap (visible_name_under m n name) none ∙ sym as_it_is, subst (λ x. length x ≤ MAX_NAME_BYTES) (sym as_it_is) plain.1)

  module _ (fits : StoredNamesFit) (c : Context) (here : context_at m.nodes n ≡ Some c) where
    sealed : stored_form m.raws n (context_at m.nodes n) name ≡ sealed_name m.raws n c name
    sealed = ap (λ o. stored_form m.raws n o name) here

    sealed_fits : IsStored (sealed_name m.raws n c name)
    unfolding sealed_name
    sealed_fits = fits (key_bytes (node_key m.raws c Names)) (node_start n c) name c.policy.pad plain

    text_of : texts m.raws n c name ≡ nokey_text_of (sealed_name m.raws n c name)
    unfolding texts
    text_of = refl

    pub locked_shows : is_keyed m n ≡ false → ShowsAs Locked (stored_form m.raws n (context_at m.nodes n) name) (shown m n name)
    locked_shows locked = (
      ap (visible_name_under m n name) here ∙ ap (λ b. cond b name (texts m.raws n c name)) locked ∙ text_of ∙ ap nokey_text_of (sym sealed),
      subst IsStored (sym sealed) sealed_fits,
    )

    comes_back : NamesComeBack → AreBytes (names_cipher m.raws n c).key → AreBytes name
        → plain_name (names_cipher m.raws n c).key (names_cipher m.raws n c).start (sealed_name m.raws n c name) ≡ name
    unfolding sealed_name
    comes_back back ranged bytes = back (names_cipher m.raws n c).key (names_cipher m.raws n c).start name c.policy.pad ranged bytes plain

    some_bytes : name ≢ []
    some_bytes none = let long = plain.0 in let short : length name ≡ 0 = ap length none in absurd (omega arith)

    pub keyed_shows : NamesComeBack → is_keyed m n ≡ true → (cipher : NameCipher) → cipher ≡ names_cipher m.raws n c → AreBytes cipher.key → AreBytes name
        → ShowsAs (Keyed cipher) (stored_form m.raws n (context_at m.nodes n) name) (shown m n name)
    keyed_shows back keyed cipher is ranged bytes =
        let as_it_is : shown m n name ≡ name = ap (visible_name_under m n name) here ∙ ap (λ b. cond b name (texts m.raws n c name)) keyed in
        let same : plain_name cipher.key cipher.start (sealed_name m.raws n c name) ≡ name
        = ap (λ (x : NameCipher). plain_name x.key x.start (sealed_name m.raws n c name)) is ∙ comes_back back (subst (λ (x : NameCipher). AreBytes x.key) is ranged) bytes in (
          as_it_is ∙ sym same ∙ ap (plain_name cipher.key cipher.start) (sym sealed),
          (λ none. some_bytes (sym as_it_is ∙ none)),
          subst IsStored (sym sealed) sealed_fits,
        )

-- a name under the bytes of the node's key is its stored form
pub sealed_under : (m : PlainMount) (n : ℕ) (c : Context) (bytes : List ℕ) → bytes ≡ key_bytes (node_key m.raws c Names) → (name : Name)
    → stored_name bytes (node_start n c) c.policy.pad name ≡ stored_form m.raws n (Some c) name
unfolding sealed_name
sealed_under m n c bytes is name = ap (λ (x : List ℕ). stored_name x (node_start n c) c.policy.pad name) is

-- a name under the cipher of the node's names is its stored form
pub sealed_by : (m : PlainMount) (n : ℕ) (c : Context) (cipher : NameCipher) → cipher ≡ names_cipher m.raws n c → (name : Name)
    → stored_name cipher.key cipher.start c.policy.pad name ≡ stored_form m.raws n (Some c) name
unfolding sealed_name
sealed_by m n c cipher is name = ap (λ (x : NameCipher). stored_name x.key x.start c.policy.pad name) is
