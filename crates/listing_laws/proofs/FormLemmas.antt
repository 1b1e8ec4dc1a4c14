-- The stored forms of contexts, names, targets and contents are what an image may have.
use Rattle.std.proofs.Common.{◌≡◌, ℕ, ◌<◌, ◌==◌, ◌&&◌, Bool, true, false, List, [], ◌∷◌, length, option_map, bytes_eq, Option, Some, None, is_some, refl, sym, ap, ◌∙◌, subst, inl, inr, arith, length-append}
use Rattle.std.specs.Prelude.{All, nat_le, codes}
use Rattle.std.specs.List.{list_any}
use Rattle.std.proofs.lemmas.Bool.{eq-eqb, ne_eqb, le-leb}
use Rattle.std.proofs.lemmas.List.Elements.{All-from_get_or}
use Rattle.byte_words.specs.Bytes.{AreBytes, AreBytesOfLength}
use Rattle.byte_words.proofs.AreBytesLemmas.{AreBytes-append, AreBytes-cons}
use Rattle.policy_ctx.specs.declared.policy.Context.{Context}
use Rattle.policy_ctx.specs.declared.policy.Pad.{Pad}
use Rattle.policy_ctx.specs.declared.policy.Pad.TheVariants.{P4, P8, P16, P32}
use Rattle.policy_ctx.specs.declared.policy.Policy.{Policy}
use Rattle.policy_ctx.specs.declared.policy.Unit.{Unit as DataUnit}
use Rattle.policy_ctx.specs.declared.policy.Unit.TheVariants.{Block, U512, U1024, U2048, U4096}
use Rattle.policy_ctx.specs.Context.{context_bytes}
use Rattle.policy_ctx.specs.Policy.{flags_of, policy_bytes, unit_log2}
use Rattle.policy_ctx.proofs.Encodings.{header_fault-policy_bytes}
use Rattle.hmac_kdf.specs.Hmac.{hash_sha512}
use Rattle.hmac_kdf.specs.DerivedBytes.{DerivesBytes}
use Rattle.fsc_keys.specs.Keys.{derived, key_bytes, key_id_of}
use Rattle.fsc_keys.specs.declared.file_keys.KeyKind.TheVariants.{Contents, Names}
use Rattle.name_crypt.specs.Laws.{StoredNamesAreBytes, StoredNamesFit}
use Rattle.name_crypt.specs.Plain.{IsPlain}
use Rattle.data_crypt.specs.Blocks.{Seal, block_count, plain_block, stored_block, stored_blocks}
use Rattle.data_crypt.specs.Laws.{IsKeyOfBytes}
use Rattle.data_crypt.specs.BlockLaws.{IsContentsBlock}
use Rattle.data_crypt.proofs.ContentsLemmas.{get_or-blocks_by, length-blocks_by, plain_block-IsContentsBlock}
use Rattle.data_crypt.proofs.UnitLemmas.{sealed_block-IsContentsBlock}
use Rattle.plain_tree.specs.Nodes.{Name}
use Rattle.plain_tree.proofs.ChildLemmas.{other_name}
use Rattle.mount_model.specs.PlainMount.{PlainMount, Raws, raw_in}
use Rattle.mount_model.specs.Sealed.{node_key, node_start, sealed_name}
use Rattle.mount_model.specs.WellFormed.{IsWellFormed}
use Rattle.mount_model.specs.SoundNodes.{IsName}
use Rattle.mount_state.specs.Stored.{contents_seal, stored_form}
use Rattle.image_lines.specs.NodeRules.{IsContext, blocks_for}
use Rattle.image_lines.specs.StoredNames.{is_entry_name, is_slash_or_nul, is_target}
use Rattle.tree_listing.proofs.Members.{In, contains_from_in}
use Rattle.listing_laws.proofs.SightLemmas.{node_key_is_bytes}

-- ---- contexts

flags_small : (pad : Pad) (by_mode : Bool) → flags_of pad by_mode < 256
flags_small P4 false = omega arith
flags_small P8 false = omega arith
flags_small P16 false = omega arith
flags_small P32 false = omega arith
flags_small P4 true = omega arith
flags_small P8 true = omega arith
flags_small P16 true = omega arith
flags_small P32 true = omega arith

log2_small : (unit : DataUnit) → unit_log2 unit < 256
log2_small Block = omega arith
log2_small U512 = omega arith
log2_small U1024 = omega arith
log2_small U2048 = omega arith
log2_small U4096 = omega arith

policy_is_bytes : (p : Policy) → AreBytes p.id.0 → AreBytes (policy_bytes p)
policy_is_bytes p id =
    let f = flags_of p.pad p.by_mode in
    let u = unit_log2 p.unit in
    let i = p.id.0 in
    AreBytes-cons 2 (1 ∷ 4 ∷ f ∷ u ∷ 0 ∷ 0 ∷ 0 ∷ i) (omega arith)
    (AreBytes-cons 1 (4 ∷ f ∷ u ∷ 0 ∷ 0 ∷ 0 ∷ i) (omega arith)
    (AreBytes-cons 4 (f ∷ u ∷ 0 ∷ 0 ∷ 0 ∷ i) (omega arith)
    (AreBytes-cons f (u ∷ 0 ∷ 0 ∷ 0 ∷ i) (flags_small p.pad p.by_mode)
    (AreBytes-cons u (0 ∷ 0 ∷ 0 ∷ i) (log2_small p.unit)
    (AreBytes-cons 0 (0 ∷ 0 ∷ i) (omega arith) (AreBytes-cons 0 (0 ∷ i) (omega arith) (AreBytes-cons 0 i (omega arith) id)))))))

pub context_is : (c : Context) → length c.policy.id.0 ≡ 16 → AreBytes c.policy.id.0 → AreBytesOfLength 16 c.nonce → IsContext (Some (context_bytes c))
context_is c size id nonce =
    let long : length (policy_bytes c.policy) ≡ 24 = omega (arith, size) in
    let whole = length-append (policy_bytes c.policy) c.nonce in
    let sized : (length (context_bytes c) == 40) ≡ true = eq-eqb (length (context_bytes c)) 40 (omega (arith, long, whole, nonce.0)) in
    (rw sized (header_fault-policy_bytes c.policy c.nonce), AreBytes-append (policy_bytes c.policy) c.nonce (policy_is_bytes c.policy id) nonce.1)

key_id_is_bytes : DerivesBytes hash_sha512 → (raw : List ℕ) → AreBytes (key_id_of raw).0
unfolding key_id_of derived
key_id_is_bytes derives raw = derives.derived _ raw _ 16

pub id_is_bytes : DerivesBytes hash_sha512 → (m : PlainMount) → IsWellFormed m → (c : Context) → is_some (raw_in m.raws c.policy.id) ≡ true → AreBytes c.policy.id.0
id_is_bytes derives m well c added = by_case (raw_in m.raws c.policy.id) refl
  where
    by_case : (o : Option (List ℕ)) → raw_in m.raws c.policy.id ≡ o → AreBytes c.policy.id.0
    by_case None is = absurd (cc (sym added ∙ ap is_some is))
    by_case (Some raw) is = subst (λ id. AreBytes id.0) (well.keys.filed c.policy.id raw is) (key_id_is_bytes derives raw)

-- ---- names and targets

has_no : (xs : List ℕ) → (In 47 xs → ⊥) → (In 0 xs → ⊥) → list_any is_slash_or_nul xs ≡ false
has_no [] slash nul = refl
has_no (x ∷ xs) slash nul =
    let a : (x == 47) ≡ false = ne_eqb x 47 (λ same. slash (inl same)) in
    let b : (x == 0) ≡ false = ne_eqb x 0 (λ same. nul (inl same)) in
    rw (a, b) (has_no xs (λ there. slash (inr there)) (λ there. nul (inr there)))

plain_entry_name : (name : Name) → IsName name → is_entry_name false name ≡ true
plain_entry_name name is =
    let low : nat_le 1 (length name) ≡ true = le-leb 1 (length name) is.0.size.0 in
    let high : nat_le (length name) 255 ≡ true = le-leb (length name) 255 is.1 in
    let free : list_any is_slash_or_nul name ≡ false = has_no name (λ there. is.0.slash (contains_from_in name 47 there)) (λ there. is.0.nul (contains_from_in name 0 there)) in
    let dot : bytes_eq name (codes ".") ≡ false = other_name name (46 ∷ []) is.0.dot in
    let dots : bytes_eq name (codes "..") ≡ false = other_name name (46 ∷ 46 ∷ []) is.0.dots in
    rw (low, high, free, dot, dots) refl

module _ (fit : StoredNamesFit) (are : StoredNamesAreBytes) (derives : DerivesBytes hash_sha512) (raws : Raws) (n : ℕ) where
  stored_fits : (c : Context) (name : Name) → IsPlain name → (nat_le 16 (length (sealed_name raws n c name)) && nat_le (length (sealed_name raws n c name)) 255) ≡ true
  unfolding sealed_name
  stored_fits c name plain =
      let sized = fit (key_bytes (node_key raws c Names)) (node_start n c) name c.policy.pad plain in
      let low = le-leb 16 _ sized.0 in
      let high = le-leb _ 255 sized.1 in
      rw (low, high) refl

  pub stored_bytes : (context : Option Context) (name : Name) → AreBytes name → IsPlain name → AreBytes (stored_form raws n context name)
  unfolding sealed_name
  stored_bytes None name bytes plain = bytes
  stored_bytes (Some c) name bytes plain = are (key_bytes (node_key raws c Names)) (node_start n c) name c.policy.pad (node_key_is_bytes derives raws c Names) bytes plain

  pub stored_entry_name : (context : Option Context) (name : Name) → IsName name → is_entry_name (is_some (option_map context_bytes context)) (stored_form raws n context name) ≡ true
  stored_entry_name None name is = plain_entry_name name is
  stored_entry_name (Some c) name is = stored_fits c name (is.0.size.0, is.1, is.0.nul)

  pub stored_target : (context : Option Context) (target : Name) → IsPlain target → is_target (is_some (option_map context_bytes context)) (stored_form raws n context target) ≡ true
  stored_target None target plain =
      let low : nat_le 1 (length target) ≡ true = le-leb 1 (length target) plain.0 in
      let high : nat_le (length target) 255 ≡ true = le-leb (length target) 255 plain.1 in
      rw (low, high) refl
  stored_target (Some c) target plain = stored_fits c target plain

-- ---- blocks

block_is : (seal : Option Seal) → IsKeyOfBytes seal → (j : ℕ) (block : List ℕ) → IsContentsBlock block → AreBytesOfLength 4096 (stored_block seal j block)
unfolding stored_block
block_is None key j block is = (is.size, is.bytes)
block_is (Some seal) key j block is =
    let own = sealed_block-IsContentsBlock seal.key seal.unit _ block key is in
    (own.size, own.bytes)

pub blocks_are : (seal : Option Seal) → IsKeyOfBytes seal → (contents : List ℕ) → AreBytes contents → All (AreBytesOfLength 4096) (stored_blocks seal contents)
blocks_are seal key contents bytes = All-from_get_or (AreBytesOfLength 4096) (stored_blocks seal contents) [] (λ j below.
    let count = length-blocks_by (stored_block seal) contents in
    subst (AreBytesOfLength 4096) (sym (get_or-blocks_by (stored_block seal) contents j [] (omega (arith, below, count))))
    (block_is seal key j (plain_block contents j) (plain_block-IsContentsBlock contents j bytes)))

pub count_is : (seal : Option Seal) (contents : List ℕ) → length (stored_blocks seal contents) ≡ blocks_for (length contents)
unfolding block_count
count_is seal contents = length-blocks_by (stored_block seal) contents

pub seal_is_bytes : DerivesBytes hash_sha512 → (raws : Raws) (n : ℕ) (context : Option Context) → IsKeyOfBytes (contents_seal raws n context)
seal_is_bytes derives raws n None = tt
seal_is_bytes derives raws n (Some c) = node_key_is_bytes derives raws c Contents
