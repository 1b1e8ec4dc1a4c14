-- The invariants of a state hold once an empty directory has a policy.
use Rattle.std.proofs.Common.{◌≡◌, ◌≢◌, ℕ, ◌+◌, ◌<◌, ◌^◌, Bool, true, false, cond, not, ◌&&◌, ◌||◌, List, [], ◌∷◌, length, Option, Some, None, option_map, is_some, eqb, inl, inr, refl, sym, ap, subst, ◌∙◌, arith}
use Rattle.std.specs.Ordering.{eq_by_cmp}
use Rattle.std.specs.FinMap as map
use Rattle.std.specs.FinMap.{get-insert}
use Rattle.std.proofs.lemmas.Bool.{cases_Bool, cases_eq, true≢false, eq-eqb, ne_eqb}
use Rattle.std.proofs.lemmas.List.Sums.{sum_by-cons, count_by-le-length}
use Rattle.policy_ctx.specs.declared.policy.KeyId.{KeyId}
use Rattle.policy_ctx.specs.declared.policy.Context.{Context}
use Rattle.policy_ctx.specs.KeyIds.{same_id}
use Rattle.policy_ctx.specs.Context.{context_bytes}
use Rattle.policy_ctx.proofs.Encodings.{id_in-context_bytes, is_by_mode_in-context_bytes}
use Rattle.policy_ctx.proofs.KeyIdLemmas.{same_id-refl, same_id-eq, same_id-symm}
use Rattle.fsc_keys.specs.declared.file_keys.FileKey.{FileKey}
use Rattle.fsc_keys.specs.declared.file_keys.KeyKind.{KeyKind}
use Rattle.fsc_keys.specs.declared.file_keys.KeyKind.TheVariants.{Contents, Names}
use Rattle.number_map.specs.Numbered.{get, changed}
use Rattle.number_map.proofs.NumberedLemmas.{insert_here, insert_other, changed_here, changed_other}
use Rattle.user_claims.specs.Claims.{ClaimSet, id_cmp}
use Rattle.user_claims.specs.ClaimCounts.{is_present}
use Rattle.user_claims.proofs.ClaimOrder.{id_cmp_total, id_ties}
use Rattle.key_ring.specs.Modes.{Modes, of_kind, with_kind, mode_at}
use Rattle.key_ring.specs.ModeUsers.{with_users, more_users, users_in, users_of}
use Rattle.key_ring.specs.declared.mode_key.ModeKey.{ModeKey}
use Rattle.key_ring.proofs.ModeLemmas.{users_in-with_users}
use Rattle.inode_refs.specs.CacheMaps.{Cache, key_at}
use Rattle.inode_refs.specs.declared.node_key.NodeKey.{NodeKey}
use Rattle.disk_tree.specs.DiskTree.{Disk, IsDirAt, of_node}
use Rattle.disk_tree.specs.Nodes.{IsDir, with_context}
use Rattle.disk_tree.specs.declared.node.StoredNode.{StoredNode}
use Rattle.mount_model.specs.declared.handle.Handle.{Handle}
use Rattle.mount_model.specs.PlainMount.{HandleList}
use Rattle.mount_model.specs.OpenHandles.{has_handle}
use Rattle.mount_state.specs.Contexts.{context_on_disk, has_own, has_shared, uses_own, uses_mode}
use Rattle.mount_state.specs.StoredKinds.{kind_on_disk, same_kind, is_of_kind}
use Rattle.mount_state.specs.Discipline.{Forgets}
use Rattle.mount_state.specs.Handles.{users, handles_on}
use Rattle.mount_state.specs.Safe.{IsSafe}
use Rattle.mount_state.proofs.KeepLemmas.{with_key, dir_kind}
use Rattle.mount_names.specs.EncryptedDirs.{keys_with, modes_with}
use Rattle.mount_names.proofs.EditLemmas.{read_changed}
use Rattle.mount_names.proofs.HeldLemmas.{IsHeld, rule_alike, users_alike}

tie : (id q : KeyId) → eq_by_cmp id_cmp q id ≡ same_id id q
tie id q = sym (id_ties q id) ∙ same_id-symm q id

or_right : (b c : Bool) → c ≡ true → (b || c) ≡ true
or_right true c is = refl
or_right false c is = is

-- ---- users of nodes, if one node passes the test from now on

abbrev one : (ℕ → Bool) → Handle → ℕ
one test h = cond (test h.node) 1 0

pub users_come : (p q : ℕ → Bool) (d : ℕ) (comes : Bool) → ((n : ℕ) → (n ≢ d) → q n ≡ p n) → p d ≡ false → q d ≡ comes
    → (live : HandleList) → users q live ≡ users p live + cond comes (handles_on live d) 0
users_come p q d comes others none some [] = by_case comes
  where
    by_case : (b : Bool) → users q [] ≡ users p [] + cond b (handles_on [] d) 0
    by_case true = refl
    by_case false = refl
users_come p q d comes others none some (h ∷ hs) =
    let left = sum_by-cons (one q) h hs in
    let right = sum_by-cons (one p) h hs in
    let here = sum_by-cons (one (λ n. eqb n d)) h hs in
    let rest = users_come p q d comes others none some hs in
    elim (cases_eq h.node d) [
      | inl same ↦
          let new : one q h ≡ cond comes 1 0 = ap (λ n. cond (q n) 1 0) same ∙ ap (λ b. cond b 1 0) some in
          let old : one p h ≡ 0 = ap (λ n. cond (p n) 1 0) same ∙ ap (λ b. cond b 1 0) none in
          let at : one (λ n. eqb n d) h ≡ 1 = ap (λ b. cond b 1 0) (eq-eqb h.node d same) in
          by_case comes left right here rest new old at
      | inr differ ↦
          let new : one q h ≡ one p h = ap (λ b. cond b 1 0) (others h.node differ) in
          let at : one (λ n. eqb n d) h ≡ 0 = ap (λ b. cond b 1 0) (ne_eqb h.node d differ) in
          by_other comes left right here rest new at
    ]
  where
    by_case : (b : Bool) → users q (h ∷ hs) ≡ one q h + users q hs → users p (h ∷ hs) ≡ one p h + users p hs
        → handles_on (h ∷ hs) d ≡ one (λ n. eqb n d) h + handles_on hs d → users q hs ≡ users p hs + cond b (handles_on hs d) 0
        → one q h ≡ cond b 1 0 → one p h ≡ 0 → one (λ n. eqb n d) h ≡ 1 → users q (h ∷ hs) ≡ users p (h ∷ hs) + cond b (handles_on (h ∷ hs) d) 0
    by_case true left right here rest new old at = omega arith
    by_case false left right here rest new old at = omega arith

    by_other : (b : Bool) → users q (h ∷ hs) ≡ one q h + users q hs → users p (h ∷ hs) ≡ one p h + users p hs
        → handles_on (h ∷ hs) d ≡ one (λ n. eqb n d) h + handles_on hs d → users q hs ≡ users p hs + cond b (handles_on hs d) 0
        → one q h ≡ one p h → one (λ n. eqb n d) h ≡ 0 → users q (h ∷ hs) ≡ users p (h ∷ hs) + cond b (handles_on (h ∷ hs) d) 0
    by_other true left right here rest new at = omega arith
    by_other false left right here rest new at = omega arith

-- ---- the tree

given_context : (context : List ℕ) (o : Option StoredNode) → of_node ⊥ (λ node. IsDir node.body) o → context_on_disk (option_map (with_context context) o) ≡ Some context
given_context context None bad = absurd bad
given_context context (Some v) is = refl

nothing_and : (b : Bool) → (b && false) ≡ false
nothing_and true = refl
nothing_and false = refl

and_true : (b : Bool) → (b && true) ≡ b
and_true true = refl
and_true false = refl

module _ (disk : Disk) (next : ℕ) (d : ℕ) (c : Context) (dir : IsDirAt disk d) (plain : context_on_disk (get disk d) ≡ None) where
  abbrev bytes : List ℕ
  bytes = context_bytes c

  abbrev after : Disk
  after = changed disk d (with_context bytes)

  context_here : context_on_disk (get after d) ≡ Some bytes
  context_here = ap context_on_disk (changed_here disk d (with_context bytes)) ∙ given_context bytes (get disk d) dir

  context_other : (n : ℕ) → (n ≢ d) → context_on_disk (get after n) ≡ context_on_disk (get disk n)
  context_other n differ = ap context_on_disk (changed_other disk d (with_context bytes) n differ)

  kind_same : (n : ℕ) → kind_on_disk (get after n) ≡ kind_on_disk (get disk n)
  kind_same = read_changed kind_on_disk disk d (with_context bytes) (λ v. refl)

  kind_here : kind_on_disk (get after d) ≡ Names
  kind_here = kind_same d ∙ dir_kind (get disk d) dir

  pub policy_safe : (live : HandleList) → IsSafe disk next live → IsSafe after next live
  policy_safe live safe = record {
    below = λ n is. safe.below n (sym (same_there n) ∙ is);
    there = λ n held. same_there n ∙ safe.there n held;
  }
    where
      same_there : (n : ℕ) → is_some (get after n) ≡ is_some (get disk n)
      same_there = read_changed (λ o. is_some o) disk d (with_context bytes) (λ v. refl)

  module _ (claims : ClaimSet) (cache : Cache) (modes : Modes) (live : HandleList) (rule : Forgets disk claims cache modes live) where
    -- no key of it is cached
    pub no_key : key_at cache d ≡ None
    no_key = by_case (key_at cache d) refl
      where
        by_case : (o : Option NodeKey) → key_at cache d ≡ o → o ≡ None
        by_case None is = refl
        by_case (Some key) is = absurd (true≢false (sym (rule.file_keys.named d key is) ∙ ap (has_own key.id) plain))

    pub not_here : (n : ℕ) (key : NodeKey) → key_at cache n ≡ Some key → (n ≢ d)
    not_here n key is same = let none : None ≡ Some key = sym no_key ∙ ap (key_at cache) (sym same) ∙ is in absurd (cc)

    -- ---- without a handle nothing is needed

    pub unheld_rule : has_handle live d ≡ false → Forgets after claims cache modes live
    unheld_rule free = rule_alike disk after claims cache modes live
        (record { contexts = λ n held. context_other n (apart n held); kinds = λ n _. kind_same n }) rule
      where
        apart : (n : ℕ) → IsHeld cache live n → (n ≢ d)
        apart n held same =
            let is : (is_some (key_at cache d) || has_handle live d) ≡ true = ap (λ x. is_some (key_at cache x) || has_handle live x) (sym same) ∙ held in
            true≢false (sym is ∙ (λ i. is_some (no_key i) || free i))

    -- ---- its own key is cached

    module _ (key : FileKey) (kind : is_of_kind Names key ≡ true) (size : length c.policy.id.0 ≡ 16) (held_here : has_handle live d ≡ true) where
      abbrev fresh : NodeKey
      fresh = record { id = c.policy.id; key = key }

      own_is : (id : KeyId) (flag : Bool) → c.policy.by_mode ≡ flag → has_own id (context_on_disk (get after d)) ≡ (same_id c.policy.id id && not flag)
      own_is id flag is =
          ap (has_own id) context_here
          ∙ (λ i. same_id (id_in-context_bytes c size i) id && not ((is_by_mode_in-context_bytes c ∙ is) i))

      shared_is : (id : KeyId) (flag : Bool) → c.policy.by_mode ≡ flag → has_shared id (context_on_disk (get after d)) ≡ (same_id c.policy.id id && flag)
      shared_is id flag is =
          ap (has_shared id) context_here
          ∙ (λ i. same_id (id_in-context_bytes c size i) id && (is_by_mode_in-context_bytes c ∙ is) i)

      module _ (own : c.policy.by_mode ≡ false) where
        abbrev keys : Cache
        keys = with_key cache d c.policy.id key

        key_here : key_at keys d ≡ Some fresh
        key_here = insert_here cache.keys d fresh

        key_other : (n : ℕ) → (n ≢ d) → key_at keys n ≡ key_at cache n
        key_other n differ = insert_other cache.keys d fresh n differ

        each : (P : ℕ → NodeKey → Type 0) → P d fresh → ((n : ℕ) (k : NodeKey) → (n ≢ d) → key_at cache n ≡ Some k → P n k)
            → (n : ℕ) (k : NodeKey) → key_at keys n ≡ Some k → P n k
        each P here others n k is = elim (cases_eq n d) [
          | inl same ↦
              let both : Some fresh ≡ Some k = sym key_here ∙ ap (key_at keys) (sym same) ∙ is in
              let kept : fresh ≡ k = (cc) in
              subst (λ x. P x k) (sym same) (subst (P d) kept here)
          | inr differ ↦ others n k differ (sym (key_other n differ) ∙ is)
        ]

        -- no mode key is used
        uses_same : (id : KeyId) (kind : KeyKind) (n : ℕ) → uses_mode disk id kind n ≡ uses_mode after id kind n
        uses_same id kind n = elim (cases_eq n d) [
          | inl same ↦
              ap (uses_mode disk id kind) same
              ∙ (ap (λ o. has_shared id o && same_kind kind (kind_on_disk (get disk d))) plain
              ∙ sym (ap (λ b. b && same_kind kind (kind_on_disk (get after d))) (shared_is id false own ∙ nothing_and (same_id c.policy.id id))))
              ∙ ap (uses_mode after id kind) (sym same)
          | inr differ ↦ sym (λ i. has_shared id (context_other n differ i) && same_kind kind (kind_same n i))
        ]

        pub own_rule : Forgets after claims keys modes live
        own_rule = record {
          file_keys = record {
            named = each (λ n k. uses_own after n k.id ≡ true)
                (own_is c.policy.id false own ∙ and_true (same_id c.policy.id c.policy.id) ∙ same_id-refl c.policy.id)
                (λ n k differ is. ap (has_own k.id) (context_other n differ) ∙ rule.file_keys.named n k is);
            kind = each (λ n k. is_of_kind (kind_on_disk (get after n)) k.key ≡ true)
                (ap (λ x. is_of_kind x key) kind_here ∙ kind)
                (λ n k differ is. ap (λ x. is_of_kind x k.key) (kind_same n) ∙ rule.file_keys.kind n k is);
            kept = λ n id uses held. elim (cases_eq n d) [
              | inl same ↦ ap (λ o. is_some o) (ap (key_at keys) same ∙ key_here)
              | inr differ ↦
                  ap (λ o. is_some o) (key_other n differ)
                  ∙ rule.file_keys.kept n id (sym (ap (has_own id) (context_other n differ)) ∙ uses) held
            ];
            forgotten = each (λ n k. (is_present claims k.id || has_handle live n) ≡ true)
                (or_right (is_present claims c.policy.id) (has_handle live d) held_here)
                (λ n k differ is. rule.file_keys.forgotten n k is);
          };
          mode_keys = record {
            counted = λ id kind. rule.mode_keys.counted id kind
                ∙ users_alike (uses_mode disk id kind) (uses_mode after id kind) live (λ n _. uses_same id kind n);
            kind = rule.mode_keys.kind;
          };
          pins = record { pinned = rule.pins.pinned; few = rule.pins.few };
        }

      -- ---- the key of its mode is held once for each handle

      module _ (mode : c.policy.by_mode ≡ true) (handles : ℕ) (count : handles ≡ handles_on live d) where
        abbrev held : Modes
        held = with_kind modes Names (with_users (of_kind modes Names) c.policy.id key handles)

        contents_same : (id : KeyId) (n : ℕ) → uses_mode disk id Contents n ≡ uses_mode after id Contents n
        contents_same id n = elim (cases_eq n d) [
          | inl same ↦
              ap (uses_mode disk id Contents) same
              ∙ (ap (λ o. has_shared id o && same_kind Contents (kind_on_disk (get disk d))) plain
              ∙ sym (ap (λ k. has_shared id (context_on_disk (get after d)) && same_kind Contents k) kind_here
              ∙ nothing_and (has_shared id (context_on_disk (get after d)))))
              ∙ ap (uses_mode after id Contents) (sym same)
          | inr differ ↦ sym (λ i. has_shared id (context_other n differ i) && same_kind Contents (kind_same n i))
        ]

        names_here : (id : KeyId) → uses_mode after id Names d ≡ same_id c.policy.id id
        names_here id =
            (λ i. shared_is id true mode i && same_kind Names (kind_here i))
            ∙ and_true (same_id c.policy.id id && true) ∙ and_true (same_id c.policy.id id)

        names_none : (id : KeyId) → uses_mode disk id Names d ≡ false
        names_none id = ap (λ o. has_shared id o && same_kind Names (kind_on_disk (get disk d))) plain

        names_other : (id : KeyId) (n : ℕ) → (n ≢ d) → uses_mode after id Names n ≡ uses_mode disk id Names n
        names_other id n differ = λ i. has_shared id (context_other n differ i) && same_kind Names (kind_same n i)

        more : (id : KeyId) (b : Bool) → b ≡ same_id c.policy.id id → cond b (users_in modes.names c.policy.id + handles) (users_in modes.names id)
            ≡ users_in modes.names id + cond b (handles_on live d) 0
        more id true is =
            let same : users_in modes.names c.policy.id ≡ users_in modes.names id = ap (users_in modes.names) (same_id-eq c.policy.id id (sym is)) in
            omega arith
        more id false is = omega arith

        counted : (id : KeyId) (kind : KeyKind) → users_in (of_kind held kind) id ≡ users (uses_mode after id kind) live
        counted id Contents =
            rule.mode_keys.counted id Contents ∙ users_alike (uses_mode disk id Contents) (uses_mode after id Contents) live (λ n _. contents_same id n)
        counted id Names =
            users_in-with_users modes.names c.policy.id key handles id
            ∙ (ap (λ b. cond b (users_in modes.names c.policy.id + handles) (users_in modes.names id)) (tie c.policy.id id)
            ∙ (more id (same_id c.policy.id id) refl
            ∙ (ap (λ n. n + cond (same_id c.policy.id id) (handles_on live d) 0) (rule.mode_keys.counted id Names)
            ∙ sym (users_come (uses_mode disk id Names) (uses_mode after id Names) d (same_id c.policy.id id) (names_other id) (names_none id) (names_here id) live))))

        -- what holds of each mode key of names, and of the new one
        pub each_mode : (P : KeyId → FileKey → Type 0) → P c.policy.id key → ((id : KeyId) (x : ModeKey) → mode_at modes id Names ≡ Some x → P id x.key)
            → (id : KeyId) (x : ModeKey) → mode_at held id Names ≡ Some x → P id x.key
        each_mode P here others id x is = elim (cases_Bool (same_id c.policy.id id)) [
          | inl same ↦ subst (λ y. P y x.key) (same_id-eq c.policy.id id same) (at (mode_at modes c.policy.id Names) refl
              (sym (read id) ∙ is) same)
          | inr other ↦ others id x (sym (read id ∙ ap (λ b. cond b (Some (more_users key handles (mode_at modes c.policy.id Names))) (mode_at modes id Names)) (tie c.policy.id id ∙ other)) ∙ is)
        ]
          where
            read : (q : KeyId) → mode_at held q Names ≡ cond (eq_by_cmp id_cmp q c.policy.id) (Some (more_users key handles (mode_at modes c.policy.id Names))) (mode_at modes q Names)
            read q = get-insert id_cmp_total modes.names c.policy.id (more_users key handles (map.get modes.names c.policy.id)) q

            same_mode : (a b : ModeKey) → Some a ≡ Some b → a ≡ b
            same_mode a b is = cc

            by_case : (o : Option ModeKey) → mode_at modes c.policy.id Names ≡ o → (more_users key handles o).key ≡ x.key → P c.policy.id x.key
            by_case None there is = subst (P c.policy.id) is here
            by_case (Some y) there is = subst (P c.policy.id) is (others c.policy.id y there)

            at : (o : Option ModeKey) → mode_at modes c.policy.id Names ≡ o
                → cond (eq_by_cmp id_cmp id c.policy.id) (Some (more_users key handles (mode_at modes c.policy.id Names))) (mode_at modes id Names) ≡ Some x
                → same_id c.policy.id id ≡ true → P c.policy.id x.key
            at o there is same =
                let it : Some (more_users key handles o) ≡ Some x
                = ap (λ y. Some (more_users key handles y)) (sym there)
                ∙ sym (ap (λ b. cond b (Some (more_users key handles (mode_at modes c.policy.id Names))) (mode_at modes id Names)) (tie c.policy.id id ∙ same))
                ∙ is in
                by_case o there (ap (λ (y : ModeKey). y.key) (same_mode (more_users key handles o) x it))

        mode_kind : (id : KeyId) (kind : KeyKind) (x : ModeKey) → mode_at held id kind ≡ Some x → is_of_kind kind x.key ≡ true
        mode_kind id Contents x is = rule.mode_keys.kind id Contents x is
        mode_kind id Names x is = each_mode (λ _ k. is_of_kind Names k ≡ true) kind (λ q y there. rule.mode_keys.kind q Names y there) id x is

        pub shared_rule : Forgets after claims cache held live
        shared_rule = record {
          file_keys = record {
            named = λ n k is. ap (has_own k.id) (context_other n (not_here n k is)) ∙ rule.file_keys.named n k is;
            kind = λ n k is. ap (λ x. is_of_kind x k.key) (kind_same n) ∙ rule.file_keys.kind n k is;
            kept = λ n id uses on. elim (cases_eq n d) [
              | inl same ↦
                  absurd (true≢false (sym uses ∙ (ap (λ x. has_own id (context_on_disk (get after x))) same
                  ∙ (own_is id true mode ∙ nothing_and (same_id c.policy.id id)))))
              | inr differ ↦ rule.file_keys.kept n id (sym (ap (has_own id) (context_other n differ)) ∙ uses) on
            ];
            forgotten = rule.file_keys.forgotten;
          };
          mode_keys = record { counted = counted; kind = mode_kind };
          pins = rule.pins;
        }

      -- either, by flag 8
      pub open_rule : (handles : ℕ) → handles ≡ handles_on live d → Forgets after claims (keys_with cache d c key) (modes_with modes handles c key) live
      open_rule handles count = by_flag c.policy.by_mode refl
        where
          by_flag : (b : Bool) → c.policy.by_mode ≡ b
              → Forgets after claims (cond b cache (with_key cache d c.policy.id key))
              (cond b (with_kind modes Names (with_users (of_kind modes Names) c.policy.id key handles)) modes) live
          by_flag true is = shared_rule is handles count
          by_flag false is = own_rule is

-- the number of users stays below 2^32
pub users_fit : (disk : Disk) (claims : ClaimSet) (cache : Cache) (modes : Modes) (live : HandleList) → Forgets disk claims cache modes live
    → (id : KeyId) (d handles : ℕ) → handles ≡ handles_on live d → users_of modes id + handles < 2 ^ 32
users_fit disk claims cache modes live rule id d handles count =
    let contents = rule.mode_keys.counted id Contents in
    let names = rule.mode_keys.counted id Names in
    let some = count_by-le-length (λ (h : Handle). uses_mode disk id Contents h.node) live in
    let others = count_by-le-length (λ (h : Handle). uses_mode disk id Names h.node) live in
    let here = count_by-le-length (λ (h : Handle). eqb h.node d) live in
    let few = rule.pins.few in
    omega arith

-- the rule of parts that are given by equations
pub rule_of : (disk new_disk : Disk) (cache new_cache : Cache) (modes new_modes : Modes) (claims : ClaimSet) (live : HandleList)
    → new_disk ≡ disk → new_cache ≡ cache → new_modes ≡ modes → Forgets disk claims cache modes live → Forgets new_disk claims new_cache new_modes live
rule_of disk new_disk cache new_cache modes new_modes claims live disk_is cache_is modes_is rule =
    subst (λ (x : Disk). Forgets x claims new_cache new_modes live) (sym disk_is)
    (subst (λ (x : Cache). Forgets disk claims x new_modes live) (sym cache_is)
    (subst (λ (x : Modes). Forgets disk claims cache x live) (sym modes_is) rule))
