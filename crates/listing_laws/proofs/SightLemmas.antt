-- What is visible of stored names and blocks is what is visible of the plain ones.
use Rattle.std.proofs.Common.{◌≡◌, ℕ, ◌*◌, ◌^◌, ◌≤◌, Bool, true, false, List, [], ◌∷◌, length, option_map, Option, Some, None, is_some, refl, sym, ap, ◌∙◌, arith}
use Rattle.std.specs.Prelude.{⊤, if◌then◌else◌}
use Rattle.std.specs.Option.{unwrap_or}
use Rattle.sha2.specs.Sha256.{sha256}
use Rattle.byte_words.specs.Bytes.{AreBytes}
use Rattle.policy_ctx.specs.declared.policy.KeyId.{KeyId}
use Rattle.policy_ctx.specs.declared.policy.Context.{Context}
use Rattle.policy_ctx.specs.declared.policy.Unit.{Unit as DataUnit}
use Rattle.policy_ctx.specs.declared.policy.Unit.TheVariants.{Block, U512, U1024, U2048, U4096}
use Rattle.policy_ctx.specs.Context.{context_bytes}
use Rattle.policy_ctx.specs.KeyIds.{same_id}
use Rattle.policy_ctx.specs.Policy.{unit_log2}
use Rattle.policy_ctx.specs.Settings.{unit_of_log2}
use Rattle.policy_ctx.proofs.Encodings.{drop-context_bytes, id_in-context_bytes, is_by_mode_in-context_bytes}
use Rattle.hmac_kdf.specs.Hmac.{hash_sha512}
use Rattle.hmac_kdf.specs.DerivedBytes.{DerivesBytes}
use Rattle.fsc_keys.specs.Keys.{derived, file_key_of, key_bytes, key_id_of, mode_key_of}
use Rattle.fsc_keys.specs.declared.file_keys.KeyKind.{KeyKind}
use Rattle.fsc_keys.specs.declared.file_keys.KeyKind.TheVariants.{Contents, Names}
use Rattle.name_crypt.specs.Laws.{NamesComeBack}
use Rattle.name_crypt.specs.Plain.{IsPlain}
use Rattle.name_crypt.specs.StoredName.{plain_name, stored_name}
use Rattle.data_crypt.specs.Blocks.{Seal, read_contents, stored_blocks}
use Rattle.data_crypt.specs.Laws.{ContentsComeBack}
use Rattle.plain_tree.specs.Nodes.{Name}
use Rattle.plain_tree.proofs.ChildLemmas.{same_name}
use Rattle.script_words.specs.Word.{word_text}
use Rattle.mount_model.specs.PlainMount.{Raws, raw_in}
use Rattle.mount_model.specs.Sealed.{node_key, node_start, raw_for, sealed_name, texts}
use Rattle.mount_state.specs.Stored.{contents_seal, stored_form}
use Rattle.tree_listing.specs.Sights.{visible_digest, sight_of, word_or_text, visible_word, Under, Locked}
use Rattle.tree_listing.specs.DrawnKeys.{key_in, seal_in, start_in, unit_in}
use Rattle.listing_laws.specs.Laws.{IsOnlyKey}
use Rattle.listing_laws.specs.Expected.{digest_shown, expected_word}

-- a context whose identifier has 16 bytes and a raw key, and whose nonce has 16
pub record IsGood (raws : Raws) (c : Context) : Type 0 where
  pub id : length c.policy.id.0 ≡ 16
  pub added : is_some (raw_in raws c.policy.id) ≡ true

abbrev pub IsGoodOrNone : Raws → Option Context → Type 0
IsGoodOrNone raws None = ⊤
IsGoodOrNone raws (Some c) = IsGood raws c

-- ---- keys

key_is_bytes : DerivesBytes hash_sha512 → (by_mode : Bool) (raw : List ℕ) (nonce : List ℕ) (kind : KeyKind)
    → AreBytes (key_bytes (if by_mode then mode_key_of raw kind else file_key_of raw kind nonce))
unfolding derived
key_is_bytes derives true raw nonce Contents = derives.derived _ raw _ 64
key_is_bytes derives true raw nonce Names = derives.derived _ raw _ 32
key_is_bytes derives false raw nonce Contents = derives.derived _ raw _ 64
key_is_bytes derives false raw nonce Names = derives.derived _ raw _ 32

pub node_key_is_bytes : DerivesBytes hash_sha512 → (raws : Raws) (c : Context) (kind : KeyKind) → AreBytes (key_bytes (node_key raws c kind))
node_key_is_bytes derives raws c kind = key_is_bytes derives c.policy.by_mode (raw_for raws c) c.nonce kind

same_key_id : (a b : KeyId) → same_id a b ≡ true → a ≡ b
same_key_id a b is = let bytes : a.0 ≡ b.0 = same_name a.0 b.0 is in λ i. record { 0 = bytes i }

-- the raw key of a context is the one of its identifier
raw_is : (raws : Raws) (raw : List ℕ) (c : Context) → IsOnlyKey raws (Some raw) → IsGood raws c → same_id (key_id_of raw) c.policy.id ≡ true → raw_for raws c ≡ raw
raw_is raws raw c only good same = by_case (raw_in raws c.policy.id) refl
  where
    id : key_id_of raw ≡ c.policy.id
    id = same_key_id (key_id_of raw) c.policy.id same

    by_case : (o : Option (List ℕ)) → raw_in raws c.policy.id ≡ o → raw_for raws c ≡ raw
    by_case None is = absurd (cc (sym good.added ∙ ap is_some is))
    by_case (Some other) is = ap (λ o. unwrap_or o []) is ∙ only other (ap (raw_in raws) id ∙ is)

module _ (raws : Raws) (raw : List ℕ) (c : Context) (good : IsGood raws c) (own : raw_for raws c ≡ raw) where
  key_is : (kind : KeyKind) → key_in raw (context_bytes c) kind ≡ node_key raws c kind
  key_is kind =
      let mode = is_by_mode_in-context_bytes c in
      let nonce = drop-context_bytes c good.id in
      λ i. if mode i then mode_key_of (sym own i) kind else file_key_of (sym own i) kind (nonce i)

  start_is : (n : ℕ) → start_in n (context_bytes c) ≡ node_start n c
  start_is n = let mode = is_by_mode_in-context_bytes c in λ i. if mode i then n * 2 ^ 32 else 0

  unit_of_log : (unit : DataUnit) → unwrap_or (unit_of_log2 (unit_log2 unit)) Block ≡ unit
  unit_of_log Block = refl
  unit_of_log U512 = refl
  unit_of_log U1024 = refl
  unit_of_log U2048 = refl
  unit_of_log U4096 = refl

  unit_is : unit_in (context_bytes c) ≡ c.policy.unit
  unit_is = unit_of_log c.policy.unit

  seal_is : (n : ℕ) → (let seal : Option Seal = Some (seal_in raw (context_bytes c) n) in seal ≡ contents_seal raws n (Some c))
  seal_is n =
      let key = ap key_bytes (key_is Contents) in
      let start = start_is n in
      let unit = unit_is in
      λ i. Some (record { key = key i; start = start i; unit = unit i })

-- whether a context is of the key is decided alike by its bytes
sight_is : (raws : Raws) (raw : List ℕ) (c : Context) → IsGood raws c
    → sight_of (Some raw) (Some (context_bytes c)) ≡ (if same_id (key_id_of raw) c.policy.id then Under raw (context_bytes c) else Locked)
sight_is raws raw c good =
    let id = id_in-context_bytes c good.id in
    ap (λ k. if same_id (key_id_of raw) k then Under raw (context_bytes c) else Locked) id

some_word : (stored name : List ℕ) → 1 ≤ length name → word_or_text stored name ≡ word_text name
some_word stored [] some = absurd (omega arith)
some_word stored (b ∷ bs) some = refl

text_is : (raws : Raws) (n : ℕ) (c : Context) (name : Name) → visible_word Locked n (stored_form raws n (Some c) name) ≡ texts raws n c name
unfolding texts
text_is raws n c name = refl

module _ (back : NamesComeBack) (derives : DerivesBytes hash_sha512) (raws : Raws) (n : ℕ) (name : Name) (bytes : AreBytes name) (plain : IsPlain name) where
  -- a name comes back
  opened : (raw : List ℕ) (c : Context) → IsGood raws c → raw_for raws c ≡ raw
      → visible_word (Under raw (context_bytes c)) n (stored_form raws n (Some c) name) ≡ word_text name
  unfolding sealed_name
  opened raw c good own =
      let key = ap key_bytes (key_is raws raw c good own Names) in
      let start = start_is raws raw c good own n in
      let stored = stored_name (key_bytes (node_key raws c Names)) (node_start n c) c.policy.pad name in
      ap (word_or_text stored)
      ((λ i. plain_name (key i) (start i) stored)
      ∙ back (key_bytes (node_key raws c Names)) (node_start n c) name c.policy.pad (node_key_is_bytes derives raws c Names) bytes plain)
      ∙ some_word stored name plain.0

  pub words_agree : (raw : Option (List ℕ)) (context : Option Context) → IsOnlyKey raws raw → IsGoodOrNone raws context
      → visible_word (sight_of raw (option_map context_bytes context)) n (stored_form raws n context name) ≡ expected_word raws (option_map key_id_of raw) n context name
  words_agree raw None only good = refl
  words_agree None (Some c) only good = text_is raws n c name
  words_agree (Some raw) (Some c) only good = by_test (same_id (key_id_of raw) c.policy.id) refl
    where
      by_test : (b : Bool) → same_id (key_id_of raw) c.policy.id ≡ b
          → visible_word (sight_of (Some raw) (Some (context_bytes c))) n (stored_form raws n (Some c) name) ≡ expected_word raws (Some (key_id_of raw)) n (Some c) name
      by_test true t =
          ap (λ s. visible_word s n (stored_form raws n (Some c) name)) (sight_is raws raw c good ∙ ap (λ b. if b then Under raw (context_bytes c) else Locked) t)
          ∙ opened raw c good (raw_is raws raw c only good t)
          ∙ ap (λ b. if b then word_text name else texts raws n c name) (sym t)
      by_test false t =
          ap (λ s. visible_word s n (stored_form raws n (Some c) name)) (sight_is raws raw c good ∙ ap (λ b. if b then Under raw (context_bytes c) else Locked) t)
          ∙ text_is raws n c name
          ∙ ap (λ b. if b then word_text name else texts raws n c name) (sym t)

module _ (come : ContentsComeBack) (derives : DerivesBytes hash_sha512) (raws : Raws) (n : ℕ) (contents : List ℕ) (bytes : AreBytes contents) where
  pub digests_agree : (raw : Option (List ℕ)) (context : Option Context) → IsOnlyKey raws raw → IsGoodOrNone raws context
      → visible_digest (sight_of raw (option_map context_bytes context)) n (stored_blocks (contents_seal raws n context) contents) (length contents)
      ≡ digest_shown (option_map key_id_of raw) context contents
  digests_agree raw None only good = ap (λ (l : List ℕ). Some (sha256 l)) (come None contents tt bytes)
  digests_agree None (Some c) only good = refl
  digests_agree (Some raw) (Some c) only good = by_test (same_id (key_id_of raw) c.policy.id) refl
    where
      by_test : (b : Bool) → same_id (key_id_of raw) c.policy.id ≡ b
          → visible_digest (sight_of (Some raw) (Some (context_bytes c))) n (stored_blocks (contents_seal raws n (Some c)) contents) (length contents) ≡ digest_shown (Some (key_id_of raw)) (Some c) contents
      by_test true t =
          let blocks = stored_blocks (contents_seal raws n (Some c)) contents in
          ap (λ s. visible_digest s n blocks (length contents)) (sight_is raws raw c good ∙ ap (λ b. if b then Under raw (context_bytes c) else Locked) t)
          ∙ ap (λ seal. Some (sha256 (read_contents seal (length contents) blocks))) (seal_is raws raw c good (raw_is raws raw c only good t) n)
          ∙ ap (λ (l : List ℕ). Some (sha256 l)) (come (contents_seal raws n (Some c)) contents (node_key_is_bytes derives raws c Contents) bytes)
          ∙ ap (λ b. if b then Some (sha256 contents) else None) (sym t)
      by_test false t =
          let blocks = stored_blocks (contents_seal raws n (Some c)) contents in
          ap (λ s. visible_digest s n blocks (length contents)) (sight_is raws raw c good ∙ ap (λ b. if b then Under raw (context_bytes c) else Locked) t)
          ∙ ap (λ b. if b then Some (sha256 contents) else None) (sym t)
