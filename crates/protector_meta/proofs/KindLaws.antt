-- The line of a protector's kind: it is read from the text that spells it, and from no other text.
use Rattle.std.proofs.Common.{◌≡◌, ℕ, ◌^◌, ◌≤◌, ◌*◌, ◌==◌, Bool, true, false, List, [], ◌∷◌, ◌++◌, length, Option, Some, None, Result, Ok, Err, refl, sym, ap, ◌∙◌, subst, arith}
use Rattle.std.specs.Prelude.{nat_le, if◌then◌else◌, is_ok, slice_get, codes}
use Rattle.std.specs.Option.{option_map}
use Rattle.std.specs.Int.{is_in_range}
use Rattle.std.specs.Str.{bytes_eq}
use Rattle.std.specs.Cmp.Lexicographic.{same_text}
use Rattle.std.proofs.lemmas.Bool.{and_parts, eqb-true, leb-true}
use Rattle.hex.specs.Hex.{encode_lower}
use Rattle.text_words.specs.Digits.{lower_hex_bytes_of_length}
use Rattle.text_words.specs.Numbers.{decimal_of, number_below}
use Rattle.text_words.specs.Words.{words_of}
use Rattle.text_words.proofs.NumberLemmas.{number_below-decimal_of, decimal_of-number_below}
use Rattle.argon_kdf.specs.CostLimits.{checked_costs}
use Rattle.argon_kdf.specs.declared.costs.Costs.{Costs}
use Rattle.argon_kdf.specs.declared.costs.CostFault.{CostFault}
use Rattle.argon_kdf.specs.declared.costs.CostFault.TheVariants.{Passes, Lanes, Kib}
use Rattle.protector_meta.specs.ProtectorText.{stretching_text, kind_text, IsKind}
use Rattle.protector_meta.specs.ProtectorLines.{number_word, digits_word, stretching_of, stretching_value, kind_value}
use Rattle.protector_meta.specs.LineValues.{word_value}
use Rattle.protector_meta.specs.Stretching.{IsStretching}
use Rattle.protector_meta.specs.declared.protector.ProtectorKind.{ProtectorKind}
use Rattle.protector_meta.specs.declared.protector.ProtectorKind.TheVariants.{Raw, Pass}
use Rattle.text_words.proofs.PieceLemmas.{is_free_of}
use Rattle.text_words.proofs.WordLemmas.{chose, digits_again, digits_are_free, digits_found, number_is_free}
use Rattle.protector_meta.proofs.WordLaws.{went_on, word_value_again, word_value_found}
use Rattle.protector_meta.proofs.FourWords.{four, four_words_again, four_words_are_free, four_words_found}

-- ---- costs

costs_small : (c : Costs) → checked_costs c ≡ Ok tt → (c.passes ≤ 16) × (c.lanes ≤ 8) × (c.kib ≤ 65536)
costs_small c h =
    let all = within (is_in_range 1 16 c.passes) (is_in_range 1 8 c.lanes) (is_in_range (8 * c.lanes) 65536 c.kib) h in
    (top 1 16 c.passes all.0, top 1 8 c.lanes all.1, top (8 * c.lanes) 65536 c.kib all.2)
  where
    within : (a b d : Bool) → (let r : Result (Unit {0}) CostFault = if a then if b then if d then Ok tt else Err Kib else Err Lanes else Err Passes in r ≡ Ok tt) → (a ≡ true) × (b ≡ true) × (d ≡ true)
    within true true true h = (refl, refl, refl)
    within true true false h = absurd (cc h)
    within true false d h = absurd (cc h)
    within false b d h = absurd (cc h)

    top : (lo hi n : ℕ) → is_in_range lo hi n ≡ true → n ≤ hi
    top lo hi n h = leb-true _ _ (and_parts (nat_le lo n) (nat_le n hi) h).1

checked : (c : Costs) → is_ok (checked_costs c) ≡ true → checked_costs c ≡ Ok tt
checked c h = of (checked_costs c) h
  where
    of : (r : Result (Unit {0}) CostFault) → is_ok r ≡ true → r ≡ Ok tt
    of (Ok tt) h = refl
    of (Err e) h = absurd (cc h)

-- ---- how a passphrase is stretched

record Parts (a b c : Option ℕ) (d : Option (List ℕ)) (s : Costs × List ℕ) : Type 0 where
  pub passes : a ≡ Some s.0.passes
  pub kib : b ≡ Some s.0.kib
  pub lanes : c ≡ Some s.0.lanes
  pub salt : d ≡ Some s.1
  pub fits : checked_costs s.0 ≡ Ok tt

stretching_parts : (a b c : Option ℕ) (d : Option (List ℕ)) (s : Costs × List ℕ) → stretching_of a b c d ≡ Some s → Parts a b c d s
stretching_parts (Some p) (Some k) (Some l) (Some salt) s h =
    let costs : Costs = record { passes = p; kib = k; lanes = l } in
    let taken = chose (is_ok (checked_costs costs)) (Some (costs, salt)) s h in
    let same : (costs, salt) ≡ s = cc (taken.1) in
    record {
      passes = ap (λ (x : Costs × List ℕ). Some x.0.passes) same;
      kib = ap (λ (x : Costs × List ℕ). Some x.0.kib) same;
      lanes = ap (λ (x : Costs × List ℕ). Some x.0.lanes) same;
      salt = ap (λ (x : Costs × List ℕ). Some x.1) same;
      fits = subst (λ (x : Costs × List ℕ). checked_costs x.0 ≡ Ok tt) same (checked costs taken.0);
    }
stretching_parts None b c d s h = absurd (cc h)
stretching_parts (Some p) None c d s h = absurd (cc h)
stretching_parts (Some p) (Some k) None d s h = absurd (cc h)
stretching_parts (Some p) (Some k) (Some l) None s h = absurd (cc h)

number_found : (place : ℕ) (text : List ℕ) (n : ℕ) → number_word place text ≡ Some n → slice_get (words_of text) place ≡ Some (decimal_of n)
number_found place text n h =
    let on = went_on (number_below (2 ^ 32)) (slice_get (words_of text) place) n h in
    on.1 ∙ ap Some (decimal_of-number_below (2 ^ 32) on.0 n (omega arith) on.2)

stretching_found : (text : List ℕ) (s : Costs × List ℕ) → stretching_value text ≡ Some s → (text ≡ stretching_text s) × IsStretching s
stretching_found text s h =
    let taken = chose (length (words_of text) == 4) (stretching_of (number_word 0 text) (number_word 1 text) (number_word 2 text) (digits_word 16 3 text)) s h in
    let parts = stretching_parts (number_word 0 text) (number_word 1 text) (number_word 2 text) (digits_word 16 3 text) s taken.1 in
    let salt = went_on (lower_hex_bytes_of_length 16) (slice_get (words_of text) 3) s.1 parts.salt in
    let digits = digits_found 16 salt.0 s.1 salt.2 in
    let words = four (words_of text) (decimal_of s.0.passes) (decimal_of s.0.kib) (decimal_of s.0.lanes) (encode_lower s.1) (eqb-true _ _ taken.0)
    (number_found 0 text s.0.passes parts.passes) (number_found 1 text s.0.kib parts.kib) (number_found 2 text s.0.lanes parts.lanes) (salt.1 ∙ ap Some digits.0) in
    (four_words_found text (decimal_of s.0.passes) (decimal_of s.0.kib) (decimal_of s.0.lanes) (encode_lower s.1) words, (parts.fits, (digits.1, digits.2)))

words_of_stretching : (s : Costs × List ℕ) → IsKind (Pass s) → words_of (stretching_text s) ≡ decimal_of s.0.passes ∷ decimal_of s.0.kib ∷ decimal_of s.0.lanes ∷ encode_lower s.1 ∷ []
words_of_stretching s h =
    let small = costs_small s.0 h.0 in
    four_words_again (decimal_of s.0.passes) (decimal_of s.0.kib) (decimal_of s.0.lanes) (encode_lower s.1)
    (number_is_free 32 s.0.passes (omega arith) (omega (arith, small.0))) (number_is_free 32 s.0.kib (omega arith) (omega (arith, small.2)))
    (number_is_free 32 s.0.lanes (omega arith) (omega (arith, small.1))) (digits_are_free 32 s.1 (omega arith) h.1.1)

stretching_again : (s : Costs × List ℕ) → IsKind (Pass s) → stretching_value (stretching_text s) ≡ Some s
stretching_again s h =
    let small = costs_small s.0 h.0 in
    let words = words_of_stretching s h in
    let passes : number_below (2 ^ 32) (decimal_of s.0.passes) ≡ Some s.0.passes = number_below-decimal_of (2 ^ 32) s.0.passes (omega (arith, small.0)) (omega (arith, small.0)) in
    let kib : number_below (2 ^ 32) (decimal_of s.0.kib) ≡ Some s.0.kib = number_below-decimal_of (2 ^ 32) s.0.kib (omega (arith, small.2)) (omega (arith, small.2)) in
    let lanes : number_below (2 ^ 32) (decimal_of s.0.lanes) ≡ Some s.0.lanes = number_below-decimal_of (2 ^ 32) s.0.lanes (omega (arith, small.1)) (omega (arith, small.1)) in
    let salt = digits_again 16 s.1 h.1.0 h.1.1 in
    let fits = h.0 in
    rw (words, passes, kib, lanes, salt, fits) refl

-- ---- the kind

pub kind_found : (text : List ℕ) (kind : ProtectorKind) → kind_value text ≡ Some kind → (text ≡ kind_text kind) × IsKind kind
kind_found text kind h = of (bytes_eq text (codes "raw")) refl h
  where
    pass : (o : Option (Costs × List ℕ)) (kind : ProtectorKind) → option_map Pass o ≡ Some kind → (s : Costs × List ℕ) × (o ≡ Some s) × (Pass s ≡ kind)
    pass None kind h = absurd (cc h)
    pass (Some s) kind h = (s, refl, cc h)

    of : (b : Bool) → bytes_eq text (codes "raw") ≡ b → (let o : Option ProtectorKind = if b then Some Raw else option_map Pass (word_value (codes "pass ") stretching_value text) in o ≡ Some kind) → (text ≡ kind_text kind) × IsKind kind
    of true e h =
        let raw : Raw ≡ kind = cc h in
        (same_text text (codes "raw") (sym e) ∙ ap kind_text raw, subst IsKind raw tt)
    of false e h =
        let p = pass (word_value (codes "pass ") stretching_value text) kind h in
        let w = word_value_found (codes "pass ") stretching_value text p.0 p.1 in
        let stretching = stretching_found w.0 p.0 w.2 in
        (w.1 ∙ ap (λ (rest : List ℕ). codes "pass " ++ rest) stretching.0 ∙ ap kind_text p.2, subst IsKind p.2 stretching.1)

pub kind_again : (kind : ProtectorKind) → IsKind kind → kind_value (kind_text kind) ≡ Some kind
kind_again Raw h = refl
kind_again (Pass s) h =
    ap (option_map Pass) (word_value_again (codes "pass ") stretching_value (stretching_text s) s (stretching_again s h))

pub kind_is_free : (kind : ProtectorKind) → IsKind kind → is_free_of 10 (kind_text kind) ≡ true
kind_is_free Raw h = refl
kind_is_free (Pass s) h =
    let small = costs_small s.0 h.0 in
    four_words_are_free (decimal_of s.0.passes) (decimal_of s.0.kib) (decimal_of s.0.lanes) (encode_lower s.1)
    (number_is_free 10 s.0.passes (omega arith) (omega (arith, small.0))) (number_is_free 10 s.0.kib (omega arith) (omega (arith, small.2)))
    (number_is_free 10 s.0.lanes (omega arith) (omega (arith, small.1))) (digits_are_free 10 s.1 (omega arith) h.1.1)
