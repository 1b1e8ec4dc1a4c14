-- Records, once one is written.
use Rattle.std.proofs.Common.{◌≡◌, ◌≢◌, ℕ, true, false, cond, List, [], ◌∷◌, Some, None, bytes_eq, sym, refl}
use Rattle.std.proofs.Common.{ap, ◌∙◌, ⊎_elim}
use Rattle.std.proofs.lemmas.Bool.{cases_Bool, cond-true, cond-false, false_from_ne_true}
use Rattle.std.proofs.lemmas.Slice.Eq.{bytes_eq-Decides}
use Rattle.meta_files.specs.Records.{RecordList, record_of, with_record}

same-refl : (name : List ℕ) → bytes_eq name name ≡ true
same-refl name = (bytes_eq-Decides name name).1 refl

pub record_of-with_record : (rs : RecordList) (name : List ℕ) (version : ℕ) (bytes : List ℕ)
    → record_of (with_record rs name version bytes) name ≡ Some (version, bytes)
record_of-with_record [] name version bytes =
    cond-true (bytes_eq name name) (Some (version, bytes)) None (same-refl name)
record_of-with_record (r ∷ rs) name version bytes = ⊎_elim
    (λ here. ap (λ l. record_of l name) (cond-true (bytes_eq r.0 name) ((name, (version, bytes)) ∷ rs)
    (r ∷ with_record rs name version bytes) here)
    ∙ cond-true (bytes_eq name name) (Some (version, bytes)) (record_of rs name) (same-refl name))
    (λ apart. ap (λ l. record_of l name) (cond-false (bytes_eq r.0 name) ((name, (version, bytes)) ∷ rs)
    (r ∷ with_record rs name version bytes) apart)
    ∙ (cond-false (bytes_eq r.0 name) (Some r.1) (record_of (with_record rs name version bytes) name) apart
    ∙ record_of-with_record rs name version bytes))
    (cases_Bool (bytes_eq r.0 name))

pub record_of-with_record_other : (rs : RecordList) (name : List ℕ) (version : ℕ) (bytes : List ℕ)
    (other : List ℕ) → name ≢ other → record_of (with_record rs name version bytes) other ≡ record_of rs other
record_of-with_record_other rs name version bytes other differ = go rs
  where
    apart : bytes_eq name other ≡ false
    apart = false_from_ne_true (bytes_eq name other) (λ same. differ ((bytes_eq-Decides name other).0 same))

    go : (rs : RecordList) → record_of (with_record rs name version bytes) other ≡ record_of rs other
    go [] = cond-false (bytes_eq name other) (Some (version, bytes)) None apart
    go (r ∷ rs) = ⊎_elim
        (λ here. ap (λ l. record_of l other) (cond-true (bytes_eq r.0 name) ((name, (version, bytes)) ∷ rs)
        (r ∷ with_record rs name version bytes) here)
        ∙ (cond-false (bytes_eq name other) (Some (version, bytes)) (record_of rs other) apart
        ∙ sym (cond-false (bytes_eq r.0 other) (Some r.1) (record_of rs other)
        (ap (λ n. bytes_eq n other) ((bytes_eq-Decides r.0 name).0 here) ∙ apart))))
        (λ elsewhere. ap (λ l. record_of l other)
        (cond-false (bytes_eq r.0 name) ((name, (version, bytes)) ∷ rs)
        (r ∷ with_record rs name version bytes) elsewhere)
        ∙ ap (λ o. cond (bytes_eq r.0 other) (Some r.1) o) (go rs))
        (cases_Bool (bytes_eq r.0 name))
