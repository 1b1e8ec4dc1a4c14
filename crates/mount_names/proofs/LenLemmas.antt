-- Maps that agree number by number have the same number of entries, also if what the one has depends on the
-- number.
use Rattle.std.proofs.Common.{◌≡◌, ℕ, suc, Bool, true, false, cond, ◌&&◌, T, List, [], ◌∷◌, length, map, Option, Some, None, option_map, refl, sym, ap, subst, ◌∙◌}
use Rattle.std.specs.Ordering.{nat_cmp, eq_by_cmp, is_lt}
use Rattle.std.specs.FinMap.{get-entries, entries_sorted, from_sorted, get-from_sorted, len-entries}
use Rattle.std.specs.FinMap.Entries.{find, is_sorted, below_all}
use Rattle.number_map.specs.Numbered.{NumberedValues, get, entries, len}
use Rattle.number_map.proofs.AgreementLemmas.{agree_entries}
use Rattle.plain_tree.specs.Facts.{AgreesBy}
use Rattle.plain_tree.specs.NodesByNumber.{children, context_at}
use Rattle.disk_tree.specs.DiskTree.{Disk, children as stored_entries}
use Rattle.mount_model.specs.PlainMount.{PlainMount}
use Rattle.mount_model.specs.WellFormed.{IsWellFormed}
use Rattle.mount_state.specs.Stored.{stored_form, stored_node}
use Rattle.mount_state.specs.Represents.{RepresentsTree}
use Rattle.mount_state.proofs.EntryLemmas.{children_stand}

abbrev zeroed : {X : Type 0} → ℕ × X → ℕ × ℕ
zeroed e = (e.0, 0)

-- the same numbers, each with 0
module _ {V : Type 0} where
  abbrev blank : List (ℕ × V) → List (ℕ × ℕ)
  blank es = map (λ e. (e.0, 0)) es

  abbrev zero_of : V → ℕ
  zero_of v = 0

  below_blank : (x : ℕ) (es : List (ℕ × V)) → below_all nat_cmp x (blank es) ≡ below_all nat_cmp x es
  below_blank x [] = refl
  below_blank x (e ∷ es) = ap (λ b. is_lt (nat_cmp x e.0) && b) (below_blank x es)

  sorted_blank : (es : List (ℕ × V)) → is_sorted nat_cmp (blank es) ≡ is_sorted nat_cmp es
  sorted_blank [] = refl
  sorted_blank (e ∷ es) = λ i. below_blank e.0 es i && sorted_blank es i

  by_test : (b : Bool) (v : V) (rest : Option V) → cond b (Some 0) (option_map zero_of rest) ≡ option_map zero_of (cond b (Some v) rest)
  by_test true v rest = refl
  by_test false v rest = refl

  find_blank : (q : ℕ) (es : List (ℕ × V)) → find nat_cmp q (blank es) ≡ option_map zero_of (find nat_cmp q es)
  find_blank q [] = refl
  find_blank q (e ∷ es) =
      ap (cond (eq_by_cmp nat_cmp q e.0) (Some 0)) (find_blank q es) ∙ by_test (eq_by_cmp nat_cmp q e.0) e.1 (find nat_cmp q es)

  abbrev blank_map : NumberedValues V → NumberedValues ℕ
  blank_map m = from_sorted (blank (entries m))

  blank_get : (m : NumberedValues V) (q : ℕ) → get (blank_map m) q ≡ option_map zero_of (get m q)
  blank_get m q =
      get-from_sorted nat_cmp (blank (entries m)) q (subst T (sym (sorted_blank (entries m))) (entries_sorted m))
      ∙ find_blank q (entries m) ∙ ap (option_map zero_of) (sym (get-entries m q))

length_mapped : {A B : Type 0} (f : A → B) (xs : List A) → length (map f xs) ≡ length xs
length_mapped f [] = refl
length_mapped f (x ∷ xs) = ap (λ n. suc n) (length_mapped f xs)

module _ {V W : Type 0} (f : ℕ → V → W) (plain : NumberedValues V) (stored : NumberedValues W) (agree : AgreesBy f plain stored) where
  twice : (q : ℕ) (o : Option V) → option_map (zero_of {V = W}) (option_map (f q) o) ≡ option_map (zero_of {V = V}) o
  twice q None = refl
  twice q (Some v) = refl

  pub agree_len : len stored ≡ len plain
  agree_len =
      let one = agree_entries (zero_of {V = V}) plain (blank_map plain) (blank_get plain) in
      let two = agree_entries (zero_of {V = W}) stored (blank_map plain) (λ q. blank_get plain q ∙ (sym (twice q (get plain q)) ∙ ap (option_map (zero_of {V = W})) (sym (agree q)))) in
      let first : length (blank (entries plain)) ≡ length (entries plain) = length_mapped (zeroed {X = V}) (entries plain) in
      let second : length (blank (entries stored)) ≡ length (entries stored) = length_mapped (zeroed {X = W}) (entries stored) in
      let same : length (blank (entries stored)) ≡ length (blank (entries plain)) = ap (λ (es : List (ℕ × ℕ)). length es) (sym two ∙ one) in
      len-entries stored ∙ (sym second ∙ (same ∙ (first ∙ sym (len-entries plain))))

-- a directory has as many entries on the disk as in the mount, and there are as many nodes
module _ (disk : Disk) (next : ℕ) (m : PlainMount) (well : IsWellFormed m) (tree : RepresentsTree disk next m) where
  pub entries_len : (d : ℕ) → length (stored_entries disk d) ≡ length (children m.nodes d)
  entries_len d = ap length (children_stand disk next m well tree d) ∙ length_mapped (λ e. (stored_form m.raws d (context_at m.nodes d) e.0, e.1)) (children m.nodes d)

  pub nodes_len : len disk ≡ len m.nodes
  nodes_len = agree_len (stored_node m.raws) m.nodes disk tree.nodes
