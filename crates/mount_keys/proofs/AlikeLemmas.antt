-- If a raw key is added that agrees with what was added before, what was stored is still the stored form.
use Rattle.std.proofs.Common.{◌≡◌, ℕ, true, cond, List, [], length, Option, Some, None, option_map, is_some}
use Rattle.std.proofs.Common.{inl, inr, refl, sym, ap, subst, ◌∙◌}
use Rattle.std.specs.Option.{unwrap_or}
use Rattle.std.proofs.lemmas.Bool.{cases_Bool, cond-true, cond-false, true≢false}
use Rattle.policy_ctx.specs.declared.policy.KeyId.{KeyId}
use Rattle.policy_ctx.specs.declared.policy.Context.{Context}
use Rattle.policy_ctx.specs.Context.{context_bytes}
use Rattle.policy_ctx.specs.KeyIds.{same_id}
use Rattle.policy_ctx.proofs.KeyIdLemmas.{same_id-eq}
use Rattle.fsc_keys.specs.Keys.{key_id_of, file_key_of, mode_key_of, key_bytes}
use Rattle.fsc_keys.specs.declared.file_keys.KeyKind.{KeyKind}
use Rattle.fsc_keys.specs.declared.file_keys.KeyKind.TheVariants.{Contents, Names}
use Rattle.data_crypt.specs.Blocks.{stored_blocks}
use Rattle.name_crypt.specs.StoredName.{stored_name}
use Rattle.number_map.specs.Numbered.{get}
use Rattle.plain_tree.specs.Nodes.{Name, Body, Dir, File, Link, Node, Nodes}
use Rattle.plain_tree.specs.NodesByNumber.{context_in, context_at}
use Rattle.plain_tree.specs.Facts.{AgreesBy}
use Rattle.plain_tree.specs.Stored.{stored_children}
use Rattle.disk_tree.specs.DiskTree.{Disk}
use Rattle.disk_tree.specs.declared.node.Body.TheVariants as stored
use Rattle.mount_model.specs.PlainMount.{Raws, raw_in, with_raw}
use Rattle.mount_model.specs.Sealed.{node_key, node_start, sealed_name}
use Rattle.mount_model.specs.SoundNodes.{HasRaw, HasNodes}
use Rattle.mount_model.specs.Lawful.{AgreesWith}
use Rattle.mount_model.proofs.KeyLemmas.{raw_in-with_raw}
use Rattle.mount_state.specs.Stored.{stored_form, contents_seal, stored_body, stored_node}

-- ---- by the raw key of the context alone

module _ (raws others : Raws) where
  -- the raw key of the node's policy is the same in both
  abbrev pub IsAlike : Option Context → Type 0
  IsAlike o = (c : Context) → o ≡ Some c → raw_in others c.policy.id ≡ raw_in raws c.policy.id

  pub node_key_alike : (c : Context) (kind : KeyKind) → raw_in others c.policy.id ≡ raw_in raws c.policy.id
      → node_key others c kind ≡ node_key raws c kind
  node_key_alike c kind alike =
      ap (λ (o : Option (List ℕ)). cond c.policy.by_mode (mode_key_of (unwrap_or o []) kind)
      (file_key_of (unwrap_or o []) kind c.nonce)) alike

  form_alike : (n : ℕ) (o : Option Context) → IsAlike o → (name : Name) → stored_form others n o name
      ≡ stored_form raws n o name
  unfolding sealed_name
  form_alike n None alike name = refl
  form_alike n (Some c) alike name =
      λ i. stored_name (key_bytes (node_key_alike c Names (alike c refl) i)) (node_start n c) c.policy.pad
      name

  seal_alike : (n : ℕ) (o : Option Context) → IsAlike o → contents_seal others n o ≡ contents_seal raws n o
  seal_alike n None alike = refl
  seal_alike n (Some c) alike =
      λ i. Some (record {
        key = key_bytes (node_key_alike c Contents (alike c refl) i);
        start = node_start n
            c;
        unit = c.policy.unit;
      })

  body_alike : (n : ℕ) (o : Option Context) (body : Body) → IsAlike o → stored_body others n o body
      ≡ stored_body raws n o body
  body_alike n o (Dir children) alike =
      λ i. stored.Dir (stored_children (λ name. form_alike n o alike name i) children)
  body_alike n o (File contents) alike =
      λ i. stored.File (stored_blocks (seal_alike n o alike i) contents) (length contents)
  body_alike n o (Link target) alike = λ i. stored.Link (form_alike n o alike target i)

  node_alike : (n : ℕ) (v : Node) → IsAlike v.context → stored_node others n v ≡ stored_node raws n v
  node_alike n v alike = λ i. record {
    context = option_map context_bytes v.context;
    named = v.named;
    body = body_alike n v.context v.body alike i;
  }

-- ---- once a raw key was added

module _ (raws : Raws) (raw : List ℕ) (agrees : AgreesWith raws raw) where
  same_raw : (q : KeyId) (o : Option (List ℕ)) → raw_in raws q ≡ o → is_some o ≡ true → q ≡ key_id_of raw
      → Some raw ≡ o
  same_raw q None is there named = absurd (true≢false (sym there))
  same_raw q (Some old) is there named =
      ap (λ r. Some r) (sym (agrees old (ap (raw_in raws) (sym named) ∙ is)))

  -- what was added remains under its identifier
  pub kept_raw : (q : KeyId) → is_some (raw_in raws q) ≡ true → raw_in (with_raw raws (key_id_of raw) raw) q
      ≡ raw_in raws q
  kept_raw q there =
      raw_in-with_raw raws (key_id_of raw) raw q ∙ elim (cases_Bool (same_id q (key_id_of raw))) [
        | inl same ↦
            cond-true (same_id q (key_id_of raw)) (Some raw) (raw_in raws q) same
            ∙ same_raw q (raw_in raws q) refl there (same_id-eq q (key_id_of raw) same)
        | inr apart ↦ cond-false (same_id q (key_id_of raw)) (Some raw) (raw_in raws q) apart
      ]

  module _ (nodes : Nodes) (next : ℕ) (well : HasNodes raws nodes next) where
    there_in : (o : Option Context) → HasRaw raws o → (c : Context) → o ≡ Some c
        → is_some (raw_in raws c.policy.id) ≡ true
    there_in o has c is = (subst (HasRaw raws) is has).1

    -- the raw key of a node's policy was added
    raw_at : (n : ℕ) (o : Option Node) → get nodes n ≡ o → (c : Context) → context_in o ≡ Some c
        → is_some (raw_in raws c.policy.id) ≡ true
    raw_at n None is c under = let none : None ≡ Some c = under in absurd (cc)
    raw_at n (Some v) is c under = there_in v.context (well.policies n v is) c under

    pub raw_there : (n : ℕ) (c : Context) → context_at nodes n ≡ Some c → is_some (raw_in raws c.policy.id)
        ≡ true
    raw_there n c under = raw_at n (get nodes n) refl c under

    pub still_stored : (disk : Disk) → AgreesBy (stored_node raws) nodes disk
        → AgreesBy (stored_node (with_raw raws (key_id_of raw) raw)) nodes disk
    still_stored disk tree q = tree q ∙ at (get nodes q) refl
      where
        at : (o : Option Node) → get nodes q ≡ o → option_map (stored_node raws q) o
            ≡ option_map (stored_node (with_raw raws (key_id_of raw) raw) q) o
        at None is = refl
        at (Some v) is = ap (λ w. Some w) (sym (node_alike raws (with_raw raws (key_id_of raw) raw) q v
            (λ c under. kept_raw c.policy.id (there_in v.context (well.policies q v is) c under))))
