-- Nodes are well formed after a raw key is added that agrees with what was added before.
use Rattle.std.proofs.Common.{◌≡◌, ℕ, true, cond, List, [], Option, Some, None, is_some, sym, refl, ap, ◌∙◌, subst, ⊎_elim}
use Rattle.std.specs.Option.{unwrap_or}
use Rattle.std.proofs.lemmas.Bool.{cond-true, cond-false, cases_Bool, true≢false}
use Rattle.policy_ctx.specs.declared.policy.KeyId.{KeyId}
use Rattle.policy_ctx.specs.declared.policy.Context.{Context}
use Rattle.policy_ctx.specs.KeyIds.{same_id}
use Rattle.policy_ctx.proofs.KeyIdLemmas.{same_id-eq}
use Rattle.fsc_keys.specs.declared.file_keys.KeyKind.TheVariants.{Names}
use Rattle.fsc_keys.specs.Keys.{key_id_of, file_key_of, mode_key_of, key_bytes}
use Rattle.name_crypt.specs.StoredName.{stored_name}
use Rattle.name_crypt.specs.NoKeyText.{nokey_text_of}
use Rattle.number_map.specs.Numbered.{get}
use Rattle.plain_tree.specs.Nodes.{Name, Node, Nodes}
use Rattle.plain_tree.specs.NodesByNumber.{context_in}
use Rattle.plain_tree.proofs.SealLemmas.{same_texts}
use Rattle.mount_model.specs.PlainMount.{Raws, raw_in, with_raw}
use Rattle.mount_model.specs.Sealed.{node_start, sealed_name, texts}
use Rattle.mount_model.specs.SoundNodes.{HasRaw, HasNodes}
use Rattle.mount_model.specs.Lawful.{AgreesWith}
use Rattle.mount_model.proofs.KeyLemmas.{raw_in-with_raw}

-- a node's texts come from the raw key of its policy alone
texts_alike : (raws others : Raws) (n : ℕ) (c : Context) (name : Name) → raw_in others c.policy.id ≡ raw_in raws c.policy.id → texts others n c name ≡ texts raws n c name
unfolding texts sealed_name
texts_alike raws others n c name alike =
    ap (λ (o : Option (List ℕ)). nokey_text_of (stored_name
    (key_bytes (cond c.policy.by_mode (mode_key_of (unwrap_or o []) Names) (file_key_of (unwrap_or o []) Names c.nonce)))
    (node_start n c) c.policy.pad name)) alike

module _ (raws : Raws) (raw : List ℕ) (agrees : AgreesWith raws raw) where
  same_raw : (q : KeyId) (o : Option (List ℕ)) → raw_in raws q ≡ o → is_some o ≡ true → q ≡ key_id_of raw → Some raw ≡ o
  same_raw q None is there named = absurd (true≢false (sym there))
  same_raw q (Some old) is there named = ap (λ r. Some r) (sym (agrees old (ap (raw_in raws) (sym named) ∙ is)))

  -- what was added remains under its identifier
  kept_raw : (q : KeyId) → is_some (raw_in raws q) ≡ true → raw_in (with_raw raws (key_id_of raw) raw) q ≡ raw_in raws q
  kept_raw q there = raw_in-with_raw raws (key_id_of raw) raw q ∙ ⊎_elim
      (λ same. cond-true (same_id q (key_id_of raw)) (Some raw) (raw_in raws q) same ∙ same_raw q (raw_in raws q) refl there (same_id-eq q (key_id_of raw) same))
      (λ apart. cond-false (same_id q (key_id_of raw)) (Some raw) (raw_in raws q) apart)
      (cases_Bool (same_id q (key_id_of raw)))

  still_raw : (o : Option Context) → HasRaw raws o → HasRaw (with_raw raws (key_id_of raw) raw) o
  still_raw None has = tt
  still_raw (Some c) has = (has.0, ap is_some (kept_raw c.policy.id has.1) ∙ has.1)

  module _ (nodes : Nodes) (next : ℕ) (well : HasNodes raws nodes next) where
    raw_there : (d : ℕ) (c : Context) (o : Option Node) → get nodes d ≡ o → context_in o ≡ Some c → is_some (raw_in raws c.policy.id) ≡ true
    raw_there d c None is has = let none : None ≡ Some c = has in absurd (cc)
    raw_there d c (Some v) is has = (subst (HasRaw raws) has (well.policies d v is)).1

    pub HasNodes-with_raw : HasNodes (with_raw raws (key_id_of raw) raw) nodes next
    HasNodes-with_raw = record {
      tree = well.tree;
      sealed = same_texts (texts raws) nodes (texts (with_raw raws (key_id_of raw) raw)) well.sealed
          (λ d c name has. texts_alike raws (with_raw raws (key_id_of raw) raw) d c name (kept_raw c.policy.id (raw_there d c (get nodes d) refl has)));
      names = well.names;
      bodies = well.bodies;
      policies = λ n v is. still_raw v.context (well.policies n v is);
      numbers = well.numbers;
      blocks = well.blocks;
    }
