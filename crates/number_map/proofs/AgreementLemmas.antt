-- Maps that agree under a function of the numbers and values have entries that do.
use Rattle.std.proofs.Common.{◌≡◌, ℕ, Bool, true, false, cond, ◌&&◌, T, Option, Some, List, [], ◌∷◌, map, refl, sym, ap, subst, ◌∙◌, option_map}
use Rattle.std.specs.Ordering.{nat_cmp, eq_by_cmp, is_lt}
use Rattle.std.specs.FinMap.{get-entries, entries_sorted, from_sorted, get-from_sorted, entries-from_sorted}
use Rattle.std.specs.FinMap.Entries.{find, is_sorted, below_all}
use Rattle.number_map.specs.Numbered.{NumberedValues, get, entries, AgreesUnder}
use Rattle.number_map.proofs.NumberedLemmas.{same_numbered}
use Rattle.number_map.proofs.NumberTests.{same_of_tied}

module _ {V W : Type 0} (f : ℕ → V → W) where
  -- the entries with f of each number and value
  abbrev pub mapped : List (ℕ × V) → List (ℕ × W)
  mapped es = map (λ e. (e.0, f e.0 e.1)) es

  below_mapped : (x : ℕ) (es : List (ℕ × V)) → below_all nat_cmp x (mapped es) ≡ below_all nat_cmp x es
  below_mapped x [] = refl
  below_mapped x (e ∷ es) = ap (λ b. is_lt (nat_cmp x e.0) && b) (below_mapped x es)

  sorted_mapped : (es : List (ℕ × V)) → is_sorted nat_cmp (mapped es) ≡ is_sorted nat_cmp es
  sorted_mapped [] = refl
  sorted_mapped (e ∷ es) = λ i. below_mapped e.0 es i && sorted_mapped es i

  by_test : (q : ℕ) (e : ℕ × V) (rest : Option V) (b : Bool) → eq_by_cmp nat_cmp q e.0 ≡ b
      → cond b (Some (f e.0 e.1)) (option_map (f q) rest) ≡ option_map (f q) (cond b (Some e.1) rest)
  by_test q e rest true here = ap (λ k. Some (f k e.1)) (sym (same_of_tied q e.0 here))
  by_test q e rest false apart = refl

  find_mapped : (q : ℕ) (es : List (ℕ × V)) → find nat_cmp q (mapped es) ≡ option_map (f q) (find nat_cmp q es)
  find_mapped q [] = refl
  find_mapped q (e ∷ es) =
      ap (cond (eq_by_cmp nat_cmp q e.0) (Some (f e.0 e.1))) (find_mapped q es)
      ∙ by_test q e (find nat_cmp q es) (eq_by_cmp nat_cmp q e.0) refl

  pub agree_entries_by : (plain : NumberedValues V) (stored : NumberedValues W) → ((q : ℕ) → get stored q ≡ option_map (f q) (get plain q)) → entries stored ≡ mapped (entries plain)
  agree_entries_by plain stored agree =
      let sorted : T (is_sorted nat_cmp (mapped (entries plain))) = subst T (sym (sorted_mapped (entries plain))) (entries_sorted plain) in
      let made : NumberedValues W = from_sorted (mapped (entries plain)) in
      let same : stored ≡ made
      = same_numbered stored made
      (λ q. agree q ∙ ap (option_map (f q)) (get-entries plain q)
      ∙ sym (get-from_sorted nat_cmp (mapped (entries plain)) q sorted ∙ find_mapped q (entries plain))) in
      ap entries same ∙ entries-from_sorted nat_cmp (mapped (entries plain)) sorted

-- if the function depends only on the value
pub agree_entries : {V W : Type 0} (f : V → W) (plain : NumberedValues V) (stored : NumberedValues W) → AgreesUnder f plain stored
    → entries stored ≡ map (λ e. (e.0, f e.1)) (entries plain)
agree_entries f plain stored agree = agree_entries_by (λ _. f) plain stored agree
