-- The key that a state has for a node's names is the key of the mount's node.
use Rattle.std.proofs.Common.{◌≡◌, ℕ, true, false, not, List, Option, Some, None, option_map, is_some, inl, inr, refl, sym, ap, ◌∙◌}
use Rattle.std.proofs.lemmas.Bool.{cases_Bool, or_cases, and_parts, true≢false}
use Rattle.policy_ctx.specs.declared.policy.Context.{Context}
use Rattle.fsc_keys.specs.declared.file_keys.FileKey.{FileKey}
use Rattle.fsc_keys.specs.declared.file_keys.KeyKind.TheVariants.{Names}
use Rattle.name_crypt.specs.declared.cipher.NameCipher.{NameCipher}
use Rattle.number_map.specs.Numbered.{get}
use Rattle.user_claims.specs.ClaimCounts.{is_present}
use Rattle.key_ring.specs.Holding.{Holding, secret_of, HoldsClaimedSecrets}
use Rattle.plain_tree.specs.Nodes.{Node, Body, Dir, File, Link}
use Rattle.plain_tree.specs.NodesByNumber.{context_in, context_at, is_dir_in, is_dir_at}
use Rattle.mount_model.specs.PlainMount.{PlainMount}
use Rattle.mount_model.specs.OpenHandles.{has_handle}
use Rattle.mount_model.specs.OpenAnswers.{is_link_at}
use Rattle.mount_model.specs.States.{is_keyed, is_keyed_under}
use Rattle.mount_model.specs.SoundHandles.{HasHandles}
use Rattle.mount_model.proofs.NodeParts.{link_in}
use Rattle.mount_state.specs.NamesKey.{derived_file_key, key_from}
use Rattle.mount_state.specs.Represents.{RepresentsKeys}
use Rattle.mount_state.specs.CachedKeys.{plain_kind}
use Rattle.mount_state.proofs.KeyedLemmas.{drawn_is}
use Rattle.mount_names.specs.VisibleNames.{HasNames}
use Rattle.mount_names.specs.NameCiphers.{cipher_with, names_cipher}

-- ---- a symlink is never open

link_of : (o : Option Node) (c : Context) → context_in o ≡ Some c → plain_kind o ≡ Names → is_dir_in o ≡ false → link_in o ≡ true
link_of None c bad names other = absurd (cc)
link_of (Some v) c under names other = at v.body names other
  where
    at : (b : Body) → plain_kind (Some (record v { body = b })) ≡ Names → is_dir_in (Some (record v { body = b })) ≡ false → link_in (Some (record v { body = b })) ≡ true
    at (Dir children) names bad = absurd (true≢false bad)
    at (File contents) bad other = absurd (cc)
    at (Link target) names other = refl

module _ (m : PlainMount) (n : ℕ) (c : Context) (here : context_at m.nodes n ≡ Some c) where
  pub unheld_link : HasHandles m.nodes m.handles m.opened → HasNames m n → is_dir_at m.nodes n ≡ false → has_handle m.handles n ≡ false
  unheld_link handles names other = elim (cases_Bool (has_handle m.handles n)) [
    | inl held ↦
        let no_link = (and_parts (is_some (get m.nodes n)) (not (is_link_at m.nodes n)) (handles.on n held)).1 in
        let link : is_link_at m.nodes n ≡ true = link_of (get m.nodes n) c here names other in
        absurd (true≢false (sym no_link ∙ ap not link))
    | inr free ↦ free
  ]

  pub link_present : HasHandles m.nodes m.handles m.opened → HasNames m n → is_dir_at m.nodes n ≡ false → is_keyed m n ≡ true → is_present m.claims c.policy.id ≡ true
  link_present handles names other keyed =
      elim (or_cases (is_present m.claims c.policy.id) (has_handle m.handles n) (sym (ap (is_keyed_under m n) here) ∙ keyed)) [
        | inl present ↦ present
        | inr held ↦ absurd (true≢false (sym held ∙ unheld_link handles names other))
      ]

  -- ---- a derived key

  module _ (ring : Holding) (represents : RepresentsKeys ring m) where
    pub secret_there : HoldsClaimedSecrets ring → is_present m.claims c.policy.id ≡ true → derived_file_key ring c ≡ None → ⊥
    secret_there secrets present undrawn =
        from_secret (secret_of ring c.policy.id) (secrets c.policy.id ∙ (ap (λ cs. is_present cs c.policy.id) represents.claims ∙ present)) undrawn
      where
        from_secret : (o : Option (List ℕ)) → is_some o ≡ true → option_map (key_from c) o ≡ None → ⊥
        from_secret None bad none = true≢false (sym bad)
        from_secret (Some raw) there none = let bad : Some (key_from c raw) ≡ None = none in absurd (cc)

    pub drawn_cipher_is : (cipher : Option NameCipher) → cipher ≡ option_map (cipher_with n c) (derived_file_key ring c) → (derived_file_key ring c ≡ None → ⊥) → cipher ≡ Some (names_cipher m.raws n c)
    drawn_cipher_is cipher is some = by_case (derived_file_key ring c) refl
      where
        by_case : (o : Option FileKey) → derived_file_key ring c ≡ o → cipher ≡ Some (names_cipher m.raws n c)
        by_case None none = absurd (some none)
        by_case (Some key) there =
            is ∙ ap (option_map (cipher_with n c)) there
            ∙ ap (λ (k : FileKey). Some (cipher_with n c k)) (drawn_is m n c here ring represents key there)
