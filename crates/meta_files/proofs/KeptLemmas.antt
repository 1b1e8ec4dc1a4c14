-- Records as they are stored, looked up and written by name.
use Rattle.std.proofs.Common.{◌≡◌, ℕ, zero, suc, ◌+◌, ◌<◌, ◌≤◌, true, false, cond, not, List, [], ◌∷◌, ◌++◌}
use Rattle.std.proofs.Common.{length, get_or, set, Option, Some, None, is_some, IfSome, Ok, Err, is_ok}
use Rattle.std.proofs.Common.{position, sym, refl, ap, ◌∙◌, subst, ⊎_elim, arith, nat_lt, bytes_eq}
use Rattle.std.specs.List.{position_or_len}
use Rattle.std.proofs.lemmas.Slice.Eq.{bytes_eq-Decides}
use Rattle.std.proofs.lemmas.Bool.{cases_Bool, cond-true, cond-false, true≢false, le-ltb}
use Rattle.std.proofs.lemmas.Grind.{common_steps}
use Rattle.std.proofs.lemmas.List.Quantifiers.{position-Some}
use Rattle.std.proofs.lemmas.List.{length-map}
use Rattle.meta_files.specs.declared.files.Record.{Record}
use Rattle.meta_files.specs.declared.files.TheConstants.{MAX_RECORD_BYTES}
use Rattle.meta_files.specs.declared.fault.StoreFault.{StoreFault}
use Rattle.meta_files.specs.Records.{RecordList, record_of, with_record}
use Rattle.meta_files.specs.Indexed.{place_in}
use Rattle.meta_files.specs.Kept.{pair_of, pairs_of, rewrite_fault, append_fault}
use Rattle.meta_files.specs.Faults.{store_fault}

-- ---- a record that is there

found_at : (name : List ℕ) (xs : List Record) (i : ℕ) (d : Record) → i < length xs
    → bytes_eq (get_or xs i d).name name ≡ true
    → ((k : ℕ) → k < i → bytes_eq (get_or xs k d).name name ≡ false)
    → record_of (pairs_of xs) name ≡ Some ((get_or xs i d).version, (get_or xs i d).bytes)
found_at name [] i d within here before = absurd (omega arith)
found_at name (x ∷ xs) zero d within here before =
    cond-true (bytes_eq x.name name) (Some (x.version, x.bytes)) (record_of (pairs_of xs) name) here
found_at name (x ∷ xs) (suc i) d within here before =
    cond-false (bytes_eq x.name name) (Some (x.version, x.bytes)) (record_of (pairs_of xs) name)
    (before 0 (omega arith))
    ∙ found_at name xs i d (omega arith) here (λ k l. before (suc k) (omega arith))

rewritten_at : (name : List ℕ) (version : ℕ) (bytes : List ℕ) (xs : List Record) (i : ℕ) (d : Record)
    → i < length xs → bytes_eq (get_or xs i d).name name ≡ true
    → ((k : ℕ) → k < i → bytes_eq (get_or xs k d).name name ≡ false)
    → pairs_of (set xs i (record (get_or xs i d) { version = version; bytes = bytes }))
    ≡ with_record (pairs_of xs) name version bytes
rewritten_at name version bytes [] i d within here before = absurd (omega arith)
rewritten_at name version bytes (x ∷ xs) zero d within here before =
    ap (λ n. (n, (version, bytes)) ∷ pairs_of xs) ((bytes_eq-Decides x.name name).0 here)
    ∙ sym (cond-true (bytes_eq x.name name) ((name, (version, bytes)) ∷ pairs_of xs)
    (pair_of x ∷ with_record (pairs_of xs) name version bytes) here)
rewritten_at name version bytes (x ∷ xs) (suc i) d within here before =
    ap (λ rs. pair_of x ∷ rs) (rewritten_at name version bytes xs i d (omega arith) here
    (λ k l. before (suc k) (omega arith)))
    ∙ sym (cond-false (bytes_eq x.name name) ((name, (version, bytes)) ∷ pairs_of xs)
    (pair_of x ∷ with_record (pairs_of xs) name version bytes) (before 0 (omega arith)))

module _ (name : List ℕ) (xs : List Record) (i : ℕ) (d : Record)
    (there : position (λ kept. bytes_eq kept.name name) xs ≡ Some i) where
  pub record_of_Some : record_of (pairs_of xs) name ≡ Some ((get_or xs i d).version, (get_or xs i d).bytes)
  record_of_Some = let p = position-Some (λ kept. bytes_eq kept.name name) xs i d there in
      found_at name xs i d p.0 p.1 p.2

  pub with_record_there : (version : ℕ) (bytes : List ℕ)
      → pairs_of (set xs i (record (get_or xs i d) { version = version; bytes = bytes }))
      ≡ with_record (pairs_of xs) name version bytes
  with_record_there version bytes =
      let p = position-Some (λ kept. bytes_eq kept.name name) xs i d there in
      rewritten_at name version bytes xs i d p.0 p.1 p.2

-- ---- a record that isn't

none_before : (name : List ℕ) (xs : List Record) → position (λ kept. bytes_eq kept.name name) xs ≡ None
    → length xs ≤ position_or_len (λ kept. bytes_eq kept.name name) xs
none_before name xs none = grind (arith, common_steps)

not_first : (name : List ℕ) (x : Record) (xs : List Record)
    → length (x ∷ xs) ≤ position_or_len (λ kept. bytes_eq kept.name name) (x ∷ xs)
    → (bytes_eq x.name name ≡ false) × (length xs ≤ position_or_len (λ kept. bytes_eq kept.name name) xs)
not_first name x xs long =
    let rest = position_or_len (λ kept. bytes_eq kept.name name) xs in ⊎_elim
    (λ here. let at_once : position_or_len (λ kept. bytes_eq kept.name name) (x ∷ xs) ≡ 0 =
    ap (λ b. cond {A = ℕ} (not b) (1 + rest) 0) here in absurd (omega arith))
    (λ other. let later : position_or_len (λ kept. bytes_eq kept.name name) (x ∷ xs) ≡ 1 + rest =
    ap (λ b. cond {A = ℕ} (not b) (1 + rest) 0) other in (other, omega arith))
    (cases_Bool (bytes_eq x.name name))

absent : (name : List ℕ) (xs : List Record) → length xs ≤ position_or_len (λ kept. bytes_eq kept.name name) xs
    → record_of (pairs_of xs) name ≡ None
absent name [] long = refl
absent name (x ∷ xs) long = let n = not_first name x xs long in
    cond-false (bytes_eq x.name name) (Some (x.version, x.bytes)) (record_of (pairs_of xs) name) n.0
    ∙ absent name xs n.1

behind : (name : List ℕ) (version : ℕ) (bytes : List ℕ) (xs : List Record)
    → length xs ≤ position_or_len (λ kept. bytes_eq kept.name name) xs
    → pairs_of (xs ++ record { name = name; version = version; bytes = bytes } ∷ [])
    ≡ with_record (pairs_of xs) name version bytes
behind name version bytes [] long = refl
behind name version bytes (x ∷ xs) long = let n = not_first name x xs long in
    ap (λ rs. pair_of x ∷ rs) (behind name version bytes xs n.1)
    ∙ sym (cond-false (bytes_eq x.name name) ((name, (version, bytes)) ∷ pairs_of xs)
    (pair_of x ∷ with_record (pairs_of xs) name version bytes) n.0)

module _ (name : List ℕ) (xs : List Record) (gone : position (λ kept. bytes_eq kept.name name) xs
    ≡ None) where
  pub record_of_None : record_of (pairs_of xs) name ≡ None
  record_of_None = absent name xs (none_before name xs gone)

  pub with_record_new : (version : ℕ) (bytes : List ℕ)
      → pairs_of (xs ++ record { name = name; version = version; bytes = bytes } ∷ [])
      ≡ with_record (pairs_of xs) name version bytes
  with_record_new version bytes = behind name version bytes xs (none_before name xs gone)

-- ---- which fault is returned

pub store_fault_there : (rs : RecordList) (name : List ℕ) (expected : ℕ) (bytes : List ℕ) (r : ℕ × List ℕ)
    → length bytes ≤ MAX_RECORD_BYTES → record_of rs name ≡ Some r
    → store_fault rs name expected bytes ≡ rewrite_fault r.0 expected
store_fault_there rs name expected bytes r fits there =
    let small : nat_lt MAX_RECORD_BYTES (length bytes) ≡ false =
    le-ltb MAX_RECORD_BYTES (length bytes) fits in rw (small, there) refl

pub store_fault_new : (xs : List Record) (name : List ℕ) (expected : ℕ) (bytes : List ℕ)
    → length bytes ≤ MAX_RECORD_BYTES → record_of (pairs_of xs) name ≡ None
    → store_fault (pairs_of xs) name expected bytes ≡ append_fault (length xs) expected
store_fault_new xs name expected bytes fits gone =
    let small : nat_lt MAX_RECORD_BYTES (length bytes) ≡ false =
    le-ltb MAX_RECORD_BYTES (length bytes) fits in rw (small, gone, length-map) refl

-- ---- as the calls see it: rs is the value in clauses of the records xs

module _ (rs : RecordList) (xs : List Record) (name : List ℕ) (view : pairs_of xs ≡ rs) where
  pub seen_None : place_in xs name ≡ None → record_of rs name ≡ None
  seen_None gone = subst (λ l. record_of l name ≡ None) view (record_of_None name xs gone)

  pub seen_new : place_in xs name ≡ None → (version : ℕ) (bytes : List ℕ) (after : List Record)
      → after ≡ xs ++ record { name = name; version = version; bytes = bytes } ∷ []
      → pairs_of after ≡ with_record rs name version bytes
  seen_new gone version bytes after is = ap pairs_of is ∙ (with_record_new name xs gone version bytes
      ∙ ap (λ l. with_record l name version bytes) view)

  pub seen_new_fault : (expected : ℕ) (bytes : List ℕ) → length bytes ≤ MAX_RECORD_BYTES
      → place_in xs name ≡ None → store_fault rs name expected bytes ≡ append_fault (length xs) expected
  seen_new_fault expected bytes fits gone = ap (λ l. store_fault l name expected bytes) (sym view)
      ∙ store_fault_new xs name expected bytes fits (record_of_None name xs gone)

  module _ (i : ℕ) (there : place_in xs name ≡ Some i) where
    pub seen_Some : (kept : Record) → kept ≡ get_or xs i kept
        → record_of rs name ≡ Some (kept.version, kept.bytes)
    seen_Some kept is = ap (λ l. record_of l name) (sym view) ∙ (record_of_Some name xs i kept there
        ∙ ap (λ (k : Record). Some (k.version, k.bytes)) (sym is))

    pub seen_there : (kept : Record) → kept ≡ get_or xs i kept → (version : ℕ) (bytes : List ℕ)
        → pairs_of (set xs i (record kept { version = version; bytes = bytes }))
        ≡ with_record rs name version bytes
    seen_there kept is version bytes =
        ap (λ (k : Record). pairs_of (set xs i (record k { version = version; bytes = bytes }))) is
        ∙ (with_record_there name xs i kept there version bytes
        ∙ ap (λ l. with_record l name version bytes) view)

    pub seen_fault : (kept : Record) → kept ≡ get_or xs i kept → (expected : ℕ) (bytes : List ℕ)
        → length bytes ≤ MAX_RECORD_BYTES → store_fault rs name expected bytes
        ≡ rewrite_fault kept.version expected
    seen_fault kept is expected bytes fits =
        store_fault_there rs name expected bytes (kept.version, kept.bytes) fits (seen_Some kept is)

-- if a version was returned, no fault was expected
pub None-from_Ok : (due : Option StoreFault) (version : ℕ) → IfSome due (λ fault. Ok version ≡ Err fault)
    → due ≡ None
None-from_Ok None version none = refl
None-from_Ok (Some fault) version bad = absurd (true≢false (ap is_ok bad))

-- a record that is there isn't absent
pub not_absent : {X : Type 0} (x : X) (o : Option X) → o ≡ Some x → o ≡ None → ⊥
not_absent x o there absent = true≢false (ap is_some (sym there ∙ absent))
