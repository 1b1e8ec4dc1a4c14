-- Records stay well formed.
use Rattle.std.proofs.Common.{◌≡◌, ◌≢◌, ℕ, ◌+◌, ◌<◌, ◌≤◌, true, false, ◌||◌, nat_lt, eq-eqb, List, [], ◌∷◌, ◌++◌, length, Option, Some, None, is_some, bytes_eq, sym, refl, ap, ◌∙◌, subst, ⊎_elim, arith}
use Rattle.std.specs.Prelude.{is_none}
use Rattle.std.specs.Option.{option_map_or}
use Rattle.std.proofs.Math.ListN.{length-append}
use Rattle.std.specs.List.{IsDistinct, list_any}
use Rattle.std.specs.Map.{keys_of}
use Rattle.std.proofs.lemmas.Bool.{cond-true, cond-false, cases_Bool, true≢false, or_parts, and_cases, leb-false, ltb-false}
use Rattle.std.proofs.lemmas.Cmp.{nat_list_eq_equiv}
use Rattle.std.proofs.lemmas.Map.Keys.{IsDistinct-push}
use Rattle.std.proofs.lemmas.Map.Made.{is_some-lookup}
use Rattle.plain_tree.proofs.ChildLemmas.{same_name, itself}
use Rattle.meta_files.specs.Records.{RecordList, record_of, version_of, with_record}
use Rattle.meta_files.proofs.RecordLemmas.{record_of-with_record, record_of-with_record_other}
use Rattle.meta_files.specs.declared.files.TheConstants.{MAX_RECORDS, MAX_RECORD_BYTES, LAST_VERSION}
use Rattle.mount_model.specs.PlainMount.{PlainMount}
use Rattle.mount_model.specs.RecordAnswers.{is_out_of_records}
use Rattle.mount_model.specs.WellFormed.{IsRecord, HasRecords}

module _ (name : List ℕ) (version : ℕ) (bytes : List ℕ) where
  keys_there : (rs : RecordList) → is_some (record_of rs name) ≡ true → keys_of (with_record rs name version bytes) ≡ keys_of rs
  keys_there [] there = absurd (true≢false (sym there))
  keys_there (r ∷ rs) there = ⊎_elim
      (λ same. ap keys_of (cond-true (bytes_eq r.0 name) ((name, (version, bytes)) ∷ rs) (r ∷ with_record rs name version bytes) same)
      ∙ ap (λ k. k ∷ keys_of rs) (sym (same_name r.0 name same)))
      (λ apart. ap keys_of (cond-false (bytes_eq r.0 name) ((name, (version, bytes)) ∷ rs) (r ∷ with_record rs name version bytes) apart)
      ∙ ap (λ ks. r.0 ∷ ks) (keys_there rs (sym (ap is_some (cond-false (bytes_eq r.0 name) (Some r.1) (record_of rs name) apart)) ∙ there)))
      (cases_Bool (bytes_eq r.0 name))

  keys_new : (rs : RecordList) → is_some (record_of rs name) ≡ false → keys_of (with_record rs name version bytes) ≡ keys_of rs ++ name ∷ []
  keys_new [] new = refl
  keys_new (r ∷ rs) new = ⊎_elim
      (λ same. absurd (true≢false (sym (ap is_some (cond-true (bytes_eq r.0 name) (Some r.1) (record_of rs name) same)) ∙ new)))
      (λ apart. ap keys_of (cond-false (bytes_eq r.0 name) ((name, (version, bytes)) ∷ rs) (r ∷ with_record rs name version bytes) apart)
      ∙ ap (λ ks. r.0 ∷ ks) (keys_new rs (sym (ap is_some (cond-false (bytes_eq r.0 name) (Some r.1) (record_of rs name) apart)) ∙ new)))
      (cases_Bool (bytes_eq r.0 name))

  keys_length : (rs : RecordList) → length (keys_of rs) ≡ length rs
  keys_length [] = refl
  keys_length (r ∷ rs) = let rest = keys_length rs in omega arith

  any_flip : (ks : List (List ℕ)) → list_any (bytes_eq name) ks ≡ list_any (λ k. bytes_eq k name) ks
  any_flip [] = refl
  any_flip (k ∷ ks) = λ i. nat_list_eq_equiv.symm name k i || any_flip ks i

  distinct_after : (rs : RecordList) → IsDistinct bytes_eq (keys_of rs) → IsDistinct bytes_eq (keys_of (with_record rs name version bytes))
  distinct_after rs distinct = ⊎_elim
      (λ there. subst (IsDistinct bytes_eq) (sym (keys_there rs there)) distinct)
      (λ new. subst (IsDistinct bytes_eq) (sym (keys_new rs new))
      (IsDistinct-push nat_list_eq_equiv (keys_of rs) name distinct (any_flip (keys_of rs) ∙ (sym (is_some-lookup (λ k. bytes_eq k name) rs) ∙ new))))
      (cases_Bool (is_some (record_of rs name)))

  count_after : (rs : RecordList) → (is_some (record_of rs name) ≡ false → length rs < MAX_RECORDS) → length rs ≤ MAX_RECORDS → length (with_record rs name version bytes) ≤ MAX_RECORDS
  count_after rs room few = ⊎_elim
      (λ there. let same : length (keys_of (with_record rs name version bytes)) ≡ length (keys_of rs) = ap length (keys_there rs there) in
      omega (arith, keys_length rs, keys_length (with_record rs name version bytes)))
      (λ new. let less = room new in let one : length (keys_of (with_record rs name version bytes)) ≡ length (keys_of rs ++ name ∷ []) = ap length (keys_new rs new) in
      omega (arith, keys_length rs, keys_length (with_record rs name version bytes), length-append (keys_of rs) (name ∷ [])))
      (cases_Bool (is_some (record_of rs name)))

  each_after : (rs : RecordList) → IsRecord (version, bytes) → ((other : List ℕ) (kept : ℕ × List ℕ) → record_of rs other ≡ Some kept → IsRecord kept)
      → (other : List ℕ) (kept : ℕ × List ℕ) → record_of (with_record rs name version bytes) other ≡ Some kept → IsRecord kept
  each_after rs new old other kept found = ⊎_elim
      (λ same. let here : Some (version, bytes) ≡ Some kept = sym (record_of-with_record rs name version bytes)
      ∙ (ap (record_of (with_record rs name version bytes)) (same_name name other same) ∙ found) in
      let is : (version, bytes) ≡ kept = cc in subst IsRecord is new)
      (λ apart. old other kept (sym (record_of-with_record_other rs name version bytes other (λ e. true≢false (sym (itself name) ∙ (ap (bytes_eq name) e ∙ apart)))) ∙ found))
      (cases_Bool (bytes_eq name other))

-- a version is at most the last one
version_below : (o : Option (ℕ × List ℕ)) → ((kept : ℕ × List ℕ) → o ≡ Some kept → IsRecord kept) → option_map_or (λ found. found.0) o 0 ≤ LAST_VERSION
version_below None each = omega arith
version_below (Some kept) each = (each kept refl).last

pub HasRecords-stored : (m : PlainMount) (name bytes : List ℕ) → HasRecords m.records → nat_lt MAX_RECORD_BYTES (length bytes) ≡ false → is_out_of_records m name ≡ false
    → HasRecords (with_record m.records name (version_of m.records name + 1) bytes)
HasRecords-stored m name bytes well small within =
    let parts = or_parts _ _ within in
    let differs : version_of m.records name ≢ LAST_VERSION = λ is. true≢false (sym (eq-eqb (version_of m.records name) LAST_VERSION is) ∙ parts.1) in
    let below : version_of m.records name ≤ LAST_VERSION = version_below (record_of m.records name) (well.each name) in
    let fits : length bytes ≤ MAX_RECORD_BYTES = ltb-false MAX_RECORD_BYTES (length bytes) small in
    record {
      few = count_after name (version_of m.records name + 1) bytes m.records
          (λ new. ⊎_elim
          (λ some. absurd (none_some (record_of m.records name) some new))
          (λ few. leb-false MAX_RECORDS (length m.records) few)
          (and_cases _ _ parts.0))
          well.few;
      distinct = distinct_after name (version_of m.records name + 1) bytes m.records well.distinct;
      each = each_after name (version_of m.records name + 1) bytes m.records
          (record { stored = omega arith; last = omega (arith, differs, below); size = fits }) well.each;
    }
  where
    none_some : (o : Option (ℕ × List ℕ)) → is_none o ≡ false → is_some o ≡ false → ⊥
    none_some None none new = true≢false none
    none_some (Some kept) none new = true≢false new

no_records : IsDistinct bytes_eq []
unfolding IsDistinct
no_records = tt

pub HasRecords-empty : HasRecords []
HasRecords-empty = record {
  few = omega arith;
  distinct = no_records;
  each = λ name kept found. let none : None ≡ Some kept = found in absurd (cc);
}
