-- The entries of a directory by place and by name, after each change.
use Rattle.std.proofs.Common.{◌≡◌, ◌≢◌, ℕ, ◌+◌, ◌<◌, Bool, true, false, cond, ◌||◌, Option, Some, None, List, [], ◌∷◌, ◌++◌, not, inl, inr, refl, sym, ap, subst, ◌∙◌, arith, Less, Greater, option_map, nat_eq}
use Rattle.std.proofs.lemmas.Bool.{cases_Bool, cond-true, cond-false, eqb-true, eq-eqb}
use Rattle.std.proofs.lemmas.Map.{lookup-remove_entry}
use Rattle.std.proofs.lemmas.Map.Keys.{sorted_head, sorted_tail, IsDistinct-head, IsDistinct-tail, IsDistinct-cons, IsDistinct-push}
use Rattle.std.specs.Cmp.{nat_cmp_is, ranked, nat_eq_equiv}
use Rattle.std.specs.Cmp.Lexicographic.{bytes_decides}
use Rattle.std.specs.List.{AllByRecursion, IsDistinct, list_any}
use Rattle.std.specs.List.Sorted.{IsStrictlySortedBy}
use Rattle.std.specs.Map.{lookup, remove_entry, keys_of, values_of}
use Rattle.std.specs.Ordering.{nat_cmp, match_ordering}
use Rattle.std.specs.Str.{bytes_eq}
use Rattle.std.specs.BTreeMap.{is_at, insert_entry}
use Rattle.byte_words.specs.Bytes.{AreBytes}
use Rattle.number_map.proofs.NumberTests.{tied, untied}
use Rattle.disk_tree.specs.Entries.{Entries, HaveByteNames, number_under, without_entry}
use Rattle.disk_tree.specs.Indexed.{OrderedEntries, by_hash, oldest, oldest_of_hash, AreBelow, IsIndexed}
use Rattle.disk_tree.specs.NameIndex.{Index, hash_of, indexed_entry}
use Rattle.number_map.specs.Rising.{value_at}

-- ---- by name and in order

-- a search by name finds the number of the oldest entry
pub number_found : (order : OrderedEntries) (name : List ℕ) → number_under name (values_of order) ≡ option_map (λ found. found.1) (oldest order name)
number_found [] name = refl
number_found (e ∷ es) name =
    elim (bytes_eq name e.1.0) as (λ b. cond b (Some e.1.1) (number_under name (values_of es)) ≡ option_map (λ found. found.1) (cond b (Some (e.0, e.1.1)) (oldest es name))) [
      | true ↦ refl
      | false ↦ number_found es name
    ]

-- ---- the entry of a name is removed

without_first : List ℕ → OrderedEntries → OrderedEntries
without_first name [] = []
without_first name (e ∷ es) = cond (bytes_eq name e.1.0) es (e ∷ without_first name es)

-- the oldest entry is at a place above those before it
place_above : (low : ℕ) (es : OrderedEntries) (name : List ℕ) (place number : ℕ) → AllByRecursion (λ y. nat_cmp low y ≡ Less) (keys_of es) → oldest es name ≡ Some (place, number) → nat_cmp low place ≡ Less
place_above low [] name place number all found = absurd (cc)
place_above low (e ∷ es) name place number all found =
    elim (bytes_eq name e.1.0) as (λ b. cond b (Some (e.0, e.1.1)) (oldest es name) ≡ Some (place, number) → nat_cmp low place ≡ Less) [
      | true ↦ λ here. let same : e.0 ≡ place = ap (λ (o : Option (ℕ × ℕ)). elim o [ None ↦ 0 | Some p ↦ p.0 ]) here in ap (nat_cmp low) (sym same) ∙ all.0
      | false ↦ λ later. place_above low es name place number all.1 later
    ] found

-- so its place finds it
place_finds : (es : OrderedEntries) (name : List ℕ) (place number : ℕ) → IsStrictlySortedBy nat_cmp (keys_of es) → oldest es name ≡ Some (place, number) →
    remove_entry (is_at (nat_cmp place)) es ≡ without_first name es
unfolding without_first
place_finds [] name place number sorted found = absurd (cc)
place_finds (e ∷ es) name place number sorted found =
    elim (bytes_eq name e.1.0) as (λ b. cond b (Some (e.0, e.1.1)) (oldest es name) ≡ Some (place, number) → remove_entry (is_at (nat_cmp place)) (e ∷ es) ≡ cond b es (e ∷ without_first name es)) [
      | true ↦ λ here.
          let same : e.0 ≡ place = ap (λ (o : Option (ℕ × ℕ)). elim o [ None ↦ 0 | Some p ↦ p.0 ]) here in
          ap (λ b. cond b es (e ∷ remove_entry (is_at (nat_cmp place)) es)) (tied place e.0 (sym same))
      | false ↦ λ later.
          let above : nat_cmp e.0 place ≡ Less = place_above e.0 es name place number (sorted_head nat_cmp e.0 (keys_of es) sorted) later in
          let higher : e.0 < place = ranked e.0 place Less (sym above) in
          let differ : place ≢ e.0 = λ same. omega arith in
          ap (λ b. cond b es (e ∷ remove_entry (is_at (nat_cmp place)) es)) (untied place e.0 differ)
          ∙ ap (λ rest. e ∷ rest) (place_finds es name place number (sorted_tail nat_cmp e.0 (keys_of es) sorted) later)
    ] found

values_without : (name : List ℕ) (es : OrderedEntries) → values_of (without_first name es) ≡ without_entry name (values_of es)
unfolding without_first
values_without name [] = refl
values_without name (e ∷ es) =
    elim (bytes_eq name e.1.0) as (λ b. values_of (cond b es (e ∷ without_first name es)) ≡ cond b (values_of es) (e.1 ∷ without_entry name (values_of es))) [
      | true ↦ refl
      | false ↦ ap (λ rest. e.1 ∷ rest) (values_without name es)
    ]

-- ---- by hash

-- if no entry has the hash of a name, no entry has the name
none_hashed : (es : OrderedEntries) (name : List ℕ) → AllByRecursion (λ y. nat_eq (hash_of name) y ≡ false) (keys_of (by_hash es)) → oldest es name ≡ None
none_hashed [] name all = refl
none_hashed (e ∷ es) name all =
    elim (cases_Bool (bytes_eq name e.1.0)) as (λ _. oldest (e ∷ es) name ≡ None) [
      | inl same ↦
          let equal : name ≡ e.1.0 = (bytes_decides name e.1.0).0 same in
          let hash : nat_eq (hash_of name) (hash_of e.1.0) ≡ true = eq-eqb (hash_of name) (hash_of e.1.0) (ap hash_of equal) in
          let other : nat_eq (hash_of name) (hash_of e.1.0) ≡ false = all.0 in
          absurd (cc)
      | inr differ ↦ ap (λ b. cond b (Some (e.0, e.1.1)) (oldest es name)) differ ∙ none_hashed es name all.1
    ]

none_later : (e : ℕ × (List ℕ × ℕ)) (es : OrderedEntries) (name : List ℕ) → IsDistinct nat_eq (keys_of (by_hash (e ∷ es))) → nat_eq (hash_of name) (hash_of e.1.0) ≡ true → oldest es name ≡ None
none_later e es name apart same =
    let hash : hash_of name ≡ hash_of e.1.0 = eqb-true (hash_of name) (hash_of e.1.0) same in
    let head : AllByRecursion (λ y. nat_eq (hash_of e.1.0) y ≡ false) (keys_of (by_hash es)) = IsDistinct-head nat_eq (hash_of e.1.0) (keys_of (by_hash es)) apart in
    none_hashed es name (subst (λ (h : ℕ). AllByRecursion (λ y. nat_eq h y ≡ false) (keys_of (by_hash es))) (sym hash) head)

differs : (name other : List ℕ) → nat_eq (hash_of name) (hash_of other) ≡ false → bytes_eq name other ≡ false
differs name other apart =
    elim (cases_Bool (bytes_eq name other)) [
      | inl same ↦
          let equal : name ≡ other = (bytes_decides name other).0 same in
          let hash : nat_eq (hash_of name) (hash_of other) ≡ true = eq-eqb (hash_of name) (hash_of other) (ap hash_of equal) in
          absurd (cc)
      | inr differ ↦ differ
    ]

same_hash : (name other : List ℕ) → bytes_eq name other ≡ true → nat_eq (hash_of name) (hash_of other) ≡ true
same_hash name other same = eq-eqb (hash_of name) (hash_of other) (ap hash_of ((bytes_decides name other).0 same))

-- if hashes are distinct, the oldest entry of a name is that of its hash
oldest_hashed : (es : OrderedEntries) (name : List ℕ) (place number : ℕ) → IsDistinct nat_eq (keys_of (by_hash es)) → oldest es name ≡ Some (place, number) → oldest_of_hash es (hash_of name) ≡ Some (place, number)
oldest_hashed [] name place number apart found = absurd (cc)
oldest_hashed (e ∷ es) name place number apart found =
    elim (cases_Bool (bytes_eq name e.1.0)) [
      | inl same ↦
          ap (λ b. cond b (Some (e.0, e.1.1)) (oldest_of_hash es (hash_of name))) (same_hash name e.1.0 same)
          ∙ sym (ap (λ b. cond b (Some (e.0, e.1.1)) (oldest es name)) same) ∙ found
      | inr differ ↦
          let later : oldest es name ≡ Some (place, number) = sym (ap (λ b. cond b (Some (e.0, e.1.1)) (oldest es name)) differ) ∙ found in
          elim (cases_Bool (nat_eq (hash_of name) (hash_of e.1.0))) [
            | inl also ↦ let none : oldest es name ≡ None = none_later e es name apart also in absurd (cc)
            | inr other ↦
                ap (λ b. cond b (Some (e.0, e.1.1)) (oldest_of_hash es (hash_of name))) other
                ∙ oldest_hashed es name place number (IsDistinct-tail nat_eq (hash_of e.1.0) (keys_of (by_hash es)) apart) later
          ]
    ]

-- if the hash of a name is not found, no entry has the name
pub unhashed : (es : OrderedEntries) (name : List ℕ) → oldest_of_hash es (hash_of name) ≡ None → oldest es name ≡ None
unhashed [] name none = refl
unhashed (e ∷ es) name none =
    elim (cases_Bool (nat_eq (hash_of name) (hash_of e.1.0))) as (λ _. oldest (e ∷ es) name ≡ None) [
      | inl same ↦
          let some : Some (e.0, e.1.1) ≡ None = sym (ap (λ b. cond b (Some (e.0, e.1.1)) (oldest_of_hash es (hash_of name))) same) ∙ none in
          absurd (cc)
      | inr other ↦
          ap (λ b. cond b (Some (e.0, e.1.1)) (oldest es name)) (differs name e.1.0 other)
          ∙ unhashed es name (sym (ap (λ b. cond b (Some (e.0, e.1.1)) (oldest_of_hash es (hash_of name))) other) ∙ none)
    ]

first_place : (e : ℕ × (List ℕ × ℕ)) (es : OrderedEntries) (hash place number : ℕ) → nat_eq hash (hash_of e.1.0) ≡ true → oldest_of_hash (e ∷ es) hash ≡ Some (place, number) → (e.0 ≡ place) × (e.1.1 ≡ number)
first_place e es hash place number same found =
    let here : Some (e.0, e.1.1) ≡ Some (place, number) = sym (ap (λ b. cond b (Some (e.0, e.1.1)) (oldest_of_hash es hash)) same) ∙ found in
    (ap (λ (o : Option (ℕ × ℕ)). elim o [ None ↦ 0 | Some p ↦ p.0 ]) here, ap (λ (o : Option (ℕ × ℕ)). elim o [ None ↦ 0 | Some p ↦ p.1 ]) here)

later_hashed : (e : ℕ × (List ℕ × ℕ)) (es : OrderedEntries) (hash place number : ℕ) → nat_eq hash (hash_of e.1.0) ≡ false → oldest_of_hash (e ∷ es) hash ≡ Some (place, number) → oldest_of_hash es hash ≡ Some (place, number)
later_hashed e es hash place number other found = sym (ap (λ b. cond b (Some (e.0, e.1.1)) (oldest_of_hash es hash)) other) ∙ found

hashed_above : (low : ℕ) (es : OrderedEntries) (hash place number : ℕ) → AllByRecursion (λ y. nat_cmp low y ≡ Less) (keys_of es) → oldest_of_hash es hash ≡ Some (place, number) → nat_cmp low place ≡ Less
hashed_above low [] hash place number all found = absurd (cc)
hashed_above low (e ∷ es) hash place number all found =
    elim (cases_Bool (nat_eq hash (hash_of e.1.0))) [
      | inl same ↦ sym (ap (nat_cmp low) (first_place e es hash place number same found).0) ∙ all.0
      | inr other ↦ hashed_above low es hash place number all.1 (later_hashed e es hash place number other found)
    ]

later_above : (e : ℕ × (List ℕ × ℕ)) (es : OrderedEntries) (hash place number : ℕ) → IsStrictlySortedBy nat_cmp (keys_of (e ∷ es)) → oldest_of_hash es hash ≡ Some (place, number) → (place ≢ e.0)
later_above e es hash place number rising found =
    let above : nat_cmp e.0 place ≡ Less = hashed_above e.0 es hash place number (sorted_head nat_cmp e.0 (keys_of es) rising) found in
    let lower : e.0 < place = ranked e.0 place Less (sym above) in
    λ same. omega arith

-- the place that is found for a hash has an entry
pub hashed_there : (es : OrderedEntries) (hash place number : ℕ) → IsStrictlySortedBy nat_cmp (keys_of es) → oldest_of_hash es hash ≡ Some (place, number) → (value_at es place ≢ None)
hashed_there [] hash place number rising found none = absurd (cc)
hashed_there (e ∷ es) hash place number rising found none =
    elim (cases_Bool (nat_eq hash (hash_of e.1.0))) [
      | inl same ↦
          let some : Some e.1 ≡ None = sym (ap (λ b. cond b (Some e.1) (value_at es place)) (tied place e.0 (sym (first_place e es hash place number same found).0))) ∙ none in
          absurd (cc)
      | inr other ↦
          let later = later_hashed e es hash place number other found in
          hashed_there es hash place number (sorted_tail nat_cmp e.0 (keys_of es) rising) later
          (sym (ap (λ b. cond b (Some e.1) (value_at es place)) (untied place e.0 (later_above e es hash place number rising later))) ∙ none)
    ]

-- the name of the entry at that place decides whether it is the entry of the name
pub oldest_is : (es : OrderedEntries) (name : List ℕ) (place number : ℕ) (entry : List ℕ × ℕ) → IsStrictlySortedBy nat_cmp (keys_of es) → IsDistinct nat_eq (keys_of (by_hash es)) → oldest_of_hash es (hash_of name) ≡ Some (place, number) → value_at es place ≡ Some entry → oldest es name ≡ cond (bytes_eq name entry.0) (Some (place, number)) None
oldest_is [] name place number entry rising apart found got = absurd (cc)
oldest_is (e ∷ es) name place number entry rising apart found got =
    elim (cases_Bool (nat_eq (hash_of name) (hash_of e.1.0))) [
      | inl same ↦
          let here = first_place e es (hash_of name) place number same found in
          let one : Some e.1 ≡ Some entry = sym (ap (λ b. cond b (Some e.1) (value_at es place)) (tied place e.0 (sym here.0))) ∙ got in
          let is : e.1 ≡ entry = cc in
          ap (cond (bytes_eq name e.1.0) (Some (e.0, e.1.1))) (none_later e es name apart same)
          ∙ (λ i. cond (bytes_eq name e.1.0) (Some (here.0 i, here.1 i)) None)
          ∙ ap (λ (x : List ℕ × ℕ). cond (bytes_eq name x.0) (Some (place, number)) None) is
      | inr other ↦
          let later = later_hashed e es (hash_of name) place number other found in
          ap (λ b. cond b (Some (e.0, e.1.1)) (oldest es name)) (differs name e.1.0 other)
          ∙ oldest_is es name place number entry (sorted_tail nat_cmp e.0 (keys_of es) rising) (IsDistinct-tail nat_eq (hash_of e.1.0) (keys_of (by_hash es)) apart) later
          (sym (ap (λ b. cond b (Some e.1) (value_at es place)) (untied place e.0 (later_above e es (hash_of name) place number rising later))) ∙ got)
    ]

hashes_without : (es : OrderedEntries) (hash place number : ℕ) → IsStrictlySortedBy nat_cmp (keys_of es) → oldest_of_hash es hash ≡ Some (place, number) → by_hash (remove_entry (is_at (nat_cmp place)) es) ≡ remove_entry (nat_eq hash) (by_hash es)
hashes_without [] hash place number rising found = absurd (cc)
hashes_without (e ∷ es) hash place number rising found =
    elim (cases_Bool (nat_eq hash (hash_of e.1.0))) [
      | inl same ↦
          ap (λ b. by_hash (cond b es (e ∷ remove_entry (is_at (nat_cmp place)) es))) (tied place e.0 (sym (first_place e es hash place number same found).0))
          ∙ sym (ap (λ b. cond b (by_hash es) ((hash_of e.1.0, (e.0, e.1.1)) ∷ remove_entry (nat_eq hash) (by_hash es))) same)
      | inr other ↦
          let later = later_hashed e es hash place number other found in
          ap (λ b. by_hash (cond b es (e ∷ remove_entry (is_at (nat_cmp place)) es))) (untied place e.0 (later_above e es hash place number rising later))
          ∙ ap (λ rest. (hash_of e.1.0, (e.0, e.1.1)) ∷ rest) (hashes_without es hash place number (sorted_tail nat_cmp e.0 (keys_of es) rising) later)
          ∙ sym (ap (λ b. cond b (by_hash es) ((hash_of e.1.0, (e.0, e.1.1)) ∷ remove_entry (nat_eq hash) (by_hash es))) other)
    ]

module _ {K X : Type 0} (test : K → Bool) where
  all_without : (P : K → Type 0) (es : List (K × X)) → AllByRecursion P (keys_of es) → AllByRecursion P (keys_of (remove_entry test es))
  all_without P [] all = tt
  all_without P (e ∷ es) all =
      elim (test e.0) as (λ b. AllByRecursion P (keys_of (cond b es (e ∷ remove_entry test es)))) [
        | true ↦ all.1
        | false ↦ (all.0, all_without P es all.1)
      ]

  distinct_without : (eq : K → K → Bool) (es : List (K × X)) → IsDistinct eq (keys_of es) → IsDistinct eq (keys_of (remove_entry test es))
  distinct_without eq [] apart = apart
  distinct_without eq (e ∷ es) apart =
      elim (test e.0) as (λ b. IsDistinct eq (keys_of (cond b es (e ∷ remove_entry test es)))) [
        | true ↦ IsDistinct-tail eq e.0 (keys_of es) apart
        | false ↦ IsDistinct-cons eq e.0 (keys_of (remove_entry test es)) (all_without (λ y. eq e.0 y ≡ false) es (IsDistinct-head eq e.0 (keys_of es) apart)) (distinct_without eq es (IsDistinct-tail eq e.0 (keys_of es) apart))
      ]

module _ (order now : OrderedEntries) (name : List ℕ) (place number : ℕ) (rising : IsStrictlySortedBy nat_cmp (keys_of order)) (found : oldest order name ≡ Some (place, number)) (gone : now ≡ remove_entry (is_at (nat_cmp place)) order) where
  pub removed_values : values_of now ≡ without_entry name (values_of order)
  removed_values = ap values_of (gone ∙ place_finds order name place number rising found) ∙ values_without name order

  pub removed_ranged : HaveByteNames (values_of order) → HaveByteNames (values_of now)
  removed_ranged ranged = let P : Entries → Type 0 = λ es. HaveByteNames es in subst P (sym removed_values) (all_without (bytes_eq name) AreBytes (values_of order) ranged)

  pub removed_below : (next : ℕ) → AreBelow next order → AreBelow next now
  removed_below next below = let P : OrderedEntries → Type 0 = λ o. AreBelow next o in subst P (sym gone) (all_without (is_at (nat_cmp place)) (λ p. nat_cmp p next ≡ Less) order below)

module _ (order now : OrderedEntries) (hash place number : ℕ) (rising : IsStrictlySortedBy nat_cmp (keys_of order)) (found : oldest_of_hash order hash ≡ Some (place, number)) (gone : now ≡ remove_entry (is_at (nat_cmp place)) order) where
  removed_hashes : by_hash now ≡ remove_entry (nat_eq hash) (by_hash order)
  removed_hashes = ap by_hash gone ∙ hashes_without order hash place number rising found

  pub removed_apart : IsDistinct nat_eq (keys_of (by_hash order)) → IsDistinct nat_eq (keys_of (by_hash now))
  removed_apart apart = let P : List (ℕ × (ℕ × ℕ)) → Type 0 = λ es. IsDistinct nat_eq (keys_of es) in subst P (sym removed_hashes) (distinct_without (nat_eq hash) nat_eq (by_hash order) apart)

  pub removed_hashed : IsDistinct nat_eq (keys_of (by_hash order)) → (other : ℕ) → oldest_of_hash now other ≡ cond (nat_eq hash other) None (oldest_of_hash order other)
  removed_hashed apart other =
      ap (lookup (nat_eq other)) removed_hashes
      ∙ lookup-remove_entry nat_eq_equiv (nat_eq hash) (λ x y same. nat_eq_equiv.congr hash x y same) other (by_hash order) apart

-- ---- an entry is appended

last_place : (es : OrderedEntries) (place : ℕ) (v : List ℕ × ℕ) → AreBelow place es → insert_entry nat_cmp es place v ≡ es ++ (place, v) ∷ []
last_place [] place v below = refl
last_place (e ∷ es) place v below =
    let lower : e.0 < place = ranked e.0 place Less (sym below.0) in
    let greater : nat_cmp place e.0 ≡ Greater = sym (nat_cmp_is place e.0 Greater lower) in
    ap (λ o. match_ordering o ((place, v) ∷ e ∷ es) ((e.0, v) ∷ es) (e ∷ insert_entry nat_cmp es place v)) greater
    ∙ ap (λ rest. e ∷ rest) (last_place es place v below.1)

pub inserted_last : (es now : OrderedEntries) (place : ℕ) (v : List ℕ × ℕ) → AreBelow place es → now ≡ insert_entry nat_cmp es place v → now ≡ es ++ (place, v) ∷ []
inserted_last es now place v below is = is ∙ last_place es place v below

-- the place after the others is removed again
gone_last : (es : OrderedEntries) (place : ℕ) (v : List ℕ × ℕ) → AreBelow place es → remove_entry (is_at (nat_cmp place)) (es ++ (place, v) ∷ []) ≡ es
gone_last [] place v below = ap (λ b. cond b [] ((place, v) ∷ [])) (tied place place refl)
gone_last (e ∷ es) place v below =
    let lower : e.0 < place = ranked e.0 place Less (sym below.0) in
    let differ : place ≢ e.0 = λ same. omega arith in
    ap (λ b. cond b (es ++ (place, v) ∷ []) (e ∷ remove_entry (is_at (nat_cmp place)) (es ++ (place, v) ∷ []))) (untied place e.0 differ)
    ∙ ap (λ rest. e ∷ rest) (gone_last es place v below.1)

pub undone_last : (es put now : OrderedEntries) (place : ℕ) (v : List ℕ × ℕ) → AreBelow place es → put ≡ es ++ (place, v) ∷ [] → now ≡ remove_entry (is_at (nat_cmp place)) put → now ≡ es
undone_last es put now place v below is gone = gone ∙ ap (remove_entry (is_at (nat_cmp place))) is ∙ gone_last es place v below

still_below : (x next : ℕ) → nat_cmp x next ≡ Less → nat_cmp x (next + 1) ≡ Less
still_below x next less =
    let lower : x < next = ranked x next Less (sym less) in
    sym (nat_cmp_is x (next + 1) Less (omega arith))

pub pushed_below : (es : OrderedEntries) (next : ℕ) (v : List ℕ × ℕ) → AreBelow next es → AreBelow (next + 1) (es ++ (next, v) ∷ [])
pushed_below [] next v below = (sym (nat_cmp_is next (next + 1) Less (omega arith)), tt)
pushed_below (e ∷ es) next v below = (still_below e.0 next below.0, pushed_below es next v below.1)

values_pushed : (es : OrderedEntries) (place number : ℕ) (name : List ℕ) → values_of (es ++ (place, (name, number)) ∷ []) ≡ values_of es ++ (name, number) ∷ []
values_pushed [] place number name = refl
values_pushed (e ∷ es) place number name = ap (λ rest. e.1 ∷ rest) (values_pushed es place number name)

pub put_values : (es now : OrderedEntries) (place number : ℕ) (name : List ℕ) → now ≡ es ++ (place, (name, number)) ∷ [] → values_of now ≡ values_of es ++ (name, number) ∷ []
put_values es now place number name is = ap values_of is ∙ values_pushed es place number name

ranged_pushed : (es : Entries) (name : List ℕ) (number : ℕ) → HaveByteNames es → AreBytes name → HaveByteNames (es ++ (name, number) ∷ [])
ranged_pushed [] name number ranged bytes = (bytes, tt)
ranged_pushed (e ∷ es) name number ranged bytes = (ranged.0, ranged_pushed es name number ranged.1 bytes)

pub put_ranged : (es now : OrderedEntries) (place number : ℕ) (name : List ℕ) → now ≡ es ++ (place, (name, number)) ∷ [] → AreBytes name → HaveByteNames (values_of es) → HaveByteNames (values_of now)
put_ranged es now place number name is bytes ranged =
    let P : Entries → Type 0 = λ es. HaveByteNames es in
    subst P (sym (put_values es now place number name is)) (ranged_pushed (values_of es) name number ranged bytes)

hashes_pushed : (es : OrderedEntries) (place number : ℕ) (name : List ℕ) → by_hash (es ++ (place, (name, number)) ∷ []) ≡ by_hash es ++ (hash_of name, (place, number)) ∷ []
hashes_pushed [] place number name = refl
hashes_pushed (e ∷ es) place number name = ap (λ rest. (hash_of e.1.0, (e.0, e.1.1)) ∷ rest) (hashes_pushed es place number name)

module _ {K X : Type 0} (test : K → Bool) (k : K) (v : X) where
  absent_any : (es : List (K × X)) → lookup test es ≡ None → list_any test (keys_of es) ≡ false
  absent_any [] absent = refl
  absent_any (e ∷ es) absent =
      elim (test e.0) as (λ b. cond b (Some e.1) (lookup test es) ≡ None → (b || list_any test (keys_of es)) ≡ false) [
        | true ↦ λ h. absurd (cc)
        | false ↦ λ h. absent_any es h
      ] absent

  found_last : (es : List (K × X)) → test k ≡ true → lookup test es ≡ None → lookup test (es ++ (k, v) ∷ []) ≡ Some v
  found_last [] is absent = ap (λ b. cond b (Some v) None) is
  found_last (e ∷ es) is absent =
      elim (test e.0) as (λ b. cond b (Some e.1) (lookup test es) ≡ None → cond b (Some e.1) (lookup test (es ++ (k, v) ∷ [])) ≡ Some v) [
        | true ↦ λ h. absurd (cc)
        | false ↦ λ h. found_last es is h
      ] absent

  found_other : (es : List (K × X)) → test k ≡ false → lookup test (es ++ (k, v) ∷ []) ≡ lookup test es
  found_other [] other = ap (λ b. cond b (Some v) None) other
  found_other (e ∷ es) other =
      elim (test e.0) as (λ b. cond b (Some e.1) (lookup test (es ++ (k, v) ∷ [])) ≡ cond b (Some e.1) (lookup test es)) [
        | true ↦ refl
        | false ↦ found_other es other
      ]

keys_pushed : {K X : Type 0} (es : List (K × X)) (k : K) (v : X) → keys_of (es ++ (k, v) ∷ []) ≡ keys_of es ++ k ∷ []
keys_pushed [] k v = refl
keys_pushed (e ∷ es) k v = ap (λ rest. e.0 ∷ rest) (keys_pushed es k v)

module _ (es now : OrderedEntries) (place number : ℕ) (name : List ℕ) (is : now ≡ es ++ (place, (name, number)) ∷ []) (absent : oldest_of_hash es (hash_of name) ≡ None) where
  put_hashes : by_hash now ≡ by_hash es ++ (hash_of name, (place, number)) ∷ []
  put_hashes = ap by_hash is ∙ hashes_pushed es place number name

  pub put_apart : IsDistinct nat_eq (keys_of (by_hash es)) → IsDistinct nat_eq (keys_of (by_hash now))
  put_apart apart =
      let P : List ℕ → Type 0 = λ hashes. IsDistinct nat_eq hashes in
      subst P (sym (ap keys_of put_hashes ∙ keys_pushed (by_hash es) (hash_of name) (place, number)))
      (IsDistinct-push nat_eq_equiv (keys_of (by_hash es)) (hash_of name) apart (absent_any (nat_eq (hash_of name)) (hash_of name) (place, number) (by_hash es) absent))

  pub put_hashed : (other : ℕ) → oldest_of_hash now other ≡ cond (nat_eq (hash_of name) other) (Some (place, number)) (oldest_of_hash es other)
  put_hashed other =
      ap (lookup (nat_eq other)) put_hashes
      ∙ elim (cases_Bool (nat_eq (hash_of name) other)) as (λ _. lookup (nat_eq other) (by_hash es ++ (hash_of name, (place, number)) ∷ []) ≡ cond (nat_eq (hash_of name) other) (Some (place, number)) (oldest_of_hash es other)) [
        | inl same ↦
            let equal : hash_of name ≡ other = eqb-true (hash_of name) other same in
            let flipped : nat_eq other (hash_of name) ≡ true = nat_eq_equiv.symm other (hash_of name) ∙ same in
            found_last (nat_eq other) (hash_of name) (place, number) (by_hash es) flipped (ap (oldest_of_hash es) (sym equal) ∙ absent)
            ∙ sym (cond-true (nat_eq (hash_of name) other) (Some (place, number)) (oldest_of_hash es other) same)
        | inr differ ↦
            found_other (nat_eq other) (hash_of name) (place, number) (by_hash es) (nat_eq_equiv.symm other (hash_of name) ∙ differ)
            ∙ sym (cond-false (nat_eq (hash_of name) other) (Some (place, number)) (oldest_of_hash es other) differ)
      ]

-- ---- the whole

pub new_IsIndexed : (order : OrderedEntries) (index : Index) → order ≡ [] → index ≡ [] → IsIndexed order index 0 false
unfolding IsStrictlySortedBy IsDistinct
new_IsIndexed order index none nothing =
    let P : OrderedEntries → Index → Type 0 = λ o i. IsIndexed o i 0 false in
    let empty : IsIndexed [] [] 0 false = record { rising = tt; below = tt; ranged = tt; apart = λ d. tt; named = λ d name. refl } in
    subst (λ (i : Index). P order i) (sym nothing) (subst (λ (o : OrderedEntries). P o []) (sym none) empty)

module _ (order now : OrderedEntries) (index after : Index) (next : ℕ) (doubled : Bool) (is : IsIndexed order index next doubled) (rising : IsStrictlySortedBy nat_cmp (keys_of now)) where
  -- a name that is put twice, or once the index is no longer used
  pub doubled_IsIndexed : (later number : ℕ) (name : List ℕ) → AreBytes name → later ≡ next + 1 → now ≡ order ++ (next, (name, number)) ∷ [] → IsIndexed now after later true
  doubled_IsIndexed later number name bytes more put = record {
    rising = rising;
    ranged = put_ranged order now next number name put bytes is.ranged;
    below = let P : ℕ → OrderedEntries → Type 0 = λ n o. AreBelow n o in subst (λ (o : OrderedEntries). P later o) (sym put) (subst (λ (n : ℕ). P n (order ++ (next, (name, number)) ∷ [])) (sym more) (pushed_below order next (name, number) is.below));
    apart = λ d. absurd (cc);
    named = λ d name. absurd (cc);
  }

  -- a new hash
  pub named_IsIndexed : (later number : ℕ) (name : List ℕ) → AreBytes name → doubled ≡ false → indexed_entry index (hash_of name) ≡ None → later ≡ next + 1 → now ≡ order ++ (next, (name, number)) ∷ [] →
      ((other : ℕ) → indexed_entry after other ≡ cond (nat_eq (hash_of name) other) (Some (next, number)) (indexed_entry index other)) → IsIndexed now after later doubled
  named_IsIndexed later number name bytes single lacks more put told =
      let absent : oldest_of_hash order (hash_of name) ≡ None = sym (is.named single (hash_of name)) ∙ lacks in
      record {
        rising = rising;
        ranged = put_ranged order now next number name put bytes is.ranged;
        below = let P : ℕ → OrderedEntries → Type 0 = λ n o. AreBelow n o in subst (λ (o : OrderedEntries). P later o) (sym put) (subst (λ (n : ℕ). P n (order ++ (next, (name, number)) ∷ [])) (sym more) (pushed_below order next (name, number) is.below));
        apart = λ d. put_apart order now next number name put absent (is.apart d);
        named = λ d other. told other ∙ ap (cond (nat_eq (hash_of name) other) (Some (next, number))) (is.named d other) ∙ sym (put_hashed order now next number name put absent other);
      }

  -- either, depending on the index
  pub put_IsIndexed : (later number : ℕ) (name : List ℕ) (alone : Bool) → AreBytes name → doubled ≡ false → later ≡ next + 1 → now ≡ order ++ (next, (name, number)) ∷ [] → (alone ≡ true → indexed_entry index (hash_of name) ≡ None) →
      ((other : ℕ) → indexed_entry after other ≡ cond (nat_eq (hash_of name) other) (Some (next, number)) (indexed_entry index other)) → IsIndexed now after later (not alone)
  put_IsIndexed later number name true bytes single more put lacks told =
      subst (λ (d : Bool). IsIndexed now after later d) single (named_IsIndexed later number name bytes single (lacks refl) more put told)
  put_IsIndexed later number name false bytes single more put lacks told = doubled_IsIndexed later number name bytes more put

  -- a name that is removed
  pub dropped_IsIndexed : (name : List ℕ) (place number : ℕ) → oldest order name ≡ Some (place, number) → now ≡ remove_entry (is_at (nat_cmp place)) order →
      ((other : ℕ) → indexed_entry after other ≡ cond (nat_eq (hash_of name) other) None (indexed_entry index other)) → IsIndexed now after next doubled
  dropped_IsIndexed name place number found gone told = record {
    rising = rising;
    ranged = removed_ranged order now name place number is.rising found gone is.ranged;
    below = removed_below order now name place number is.rising found gone next is.below;
    apart = λ d. removed_apart order now (hash_of name) place number is.rising (oldest_hashed order name place number (is.apart d) found) gone (is.apart d);
    named = λ d other. told other ∙ ap (cond (nat_eq (hash_of name) other) None) (is.named d other)
        ∙ sym (removed_hashed order now (hash_of name) place number is.rising (oldest_hashed order name place number (is.apart d) found) gone (is.apart d) other);
  }

-- an entry for which the index has no space is removed again
pub undone_IsIndexed : (order now : OrderedEntries) (index after : Index) (next : ℕ) (doubled : Bool) → IsIndexed order index next doubled → now ≡ order → after ≡ index → IsIndexed now after next doubled
undone_IsIndexed order now index after next doubled is same kept =
    let P : OrderedEntries → Index → Type 0 = λ o i. IsIndexed o i next doubled in
    subst (λ (i : Index). P now i) (sym kept) (subst (λ (o : OrderedEntries). P o index) (sym same) is)
