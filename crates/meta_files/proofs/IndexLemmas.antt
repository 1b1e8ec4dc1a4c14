-- The index of the records, after each change.
use Rattle.std.proofs.Common.{◌≡◌, ℕ, Bool, true, false, cond, not, Option, Some, None, List, [], ◌∷◌, ◌++◌}
use Rattle.std.proofs.Common.{length, inl, inr, sym, ap, ◌∙◌, arith, Ordering}
use Rattle.std.proofs.lemmas.Bool.{cases_Bool, cond-true, cond-false}
use Rattle.std.proofs.lemmas.Grind.{common_steps}
use Rattle.std.proofs.lemmas.List.Sums.{prefix_len-le-length}
use Rattle.std.specs.Cmp.{eq_by_cmp_equiv}
use Rattle.std.specs.Cmp.Lexicographic.{slice_cmp, bytes_decides, nat_list_cmp_total, nat_list_eq_equiv}
use Rattle.std.specs.Cmp.Lexicographic.{texts_ties}
use Rattle.std.specs.Map.{lookup, IsKeyTest, AreApart, KeepsOthers}
use Rattle.std.specs.Ordering.{nat_cmp, is_eq, eq_by_cmp}
use Rattle.std.specs.Str.{bytes_eq}
use Rattle.std.specs.BTreeMap.{BTreeMap, UpdatesBy, is_at}
use Rattle.std.specs.declared.vec.Vec.{Vec}
use Rattle.std.specs.declared.alloc.Global.{Global}
use Rattle.meta_files.specs.declared.files.Record.{Record}
use Rattle.meta_files.specs.Indexed.{Index, indexed, place_in, IsIndexed}

-- ---- one name is put or removed

is_eq_bytes : (xs ys : List ℕ) → is_eq (slice_cmp nat_cmp xs ys) ≡ bytes_eq xs ys
is_eq_bytes xs ys = sym (texts_ties xs ys)

apart_names : (name other key : List ℕ) → bytes_eq name other ≡ false → bytes_eq name key ≡ true
    → bytes_eq other key ≡ false
apart_names name other key differ same =
    nat_list_eq_equiv.symm other key ∙ sym (nat_list_eq_equiv.congr name key other same) ∙ differ

other_entries : {K X : Type 0} (eq : K → K → Bool) (test : K → Bool) (old new : List (K × X))
    → KeepsOthers eq test old new → (other : K → Bool) → IsKeyTest eq other → AreApart test other
    → lookup other new ≡ lookup other old
unfolding KeepsOthers
other_entries eq test old new h = h

abbrev pub vec_cmp : Vec ℕ Global → Vec ℕ Global → Ordering
vec_cmp x y = slice_cmp nat_cmp x.items y.items

-- the value under each name after an insertion or a removal
pub index_updates : (m n : BTreeMap (Vec ℕ Global) ℕ) (name : List ℕ) (w : Option ℕ)
    → UpdatesBy vec_cmp (λ k. slice_cmp nat_cmp name k.items) m n w →
    (other : List ℕ) → indexed n.entries other ≡ cond (bytes_eq name other) w (indexed m.entries other)
index_updates m n name w updates other =
    elim (cases_Bool (bytes_eq name other)) as (λ _. indexed n.entries other
    ≡ cond (bytes_eq name other) w (indexed m.entries other)) [
      | inl same ↦
          let equal : name ≡ other = (bytes_decides name other).0 same in
          ap (indexed n.entries) (sym equal) ∙ updates.1
          ∙ sym (cond-true (bytes_eq name other) w (indexed m.entries other) same)
      | inr differ ↦
          other_entries (eq_by_cmp vec_cmp) (is_at
          (λ k. slice_cmp nat_cmp name k.items)) m.entries n.entries updates.3
          (λ k. is_eq (slice_cmp nat_cmp other k.items))
          (λ x y. (eq_by_cmp_equiv nat_list_cmp_total).congr other x.items y.items)
          (λ k same. is_eq_bytes other k.items ∙ apart_names name other k.items differ
          (sym (is_eq_bytes name k.items) ∙ same))
          ∙ sym (cond-false (bytes_eq name other) w (indexed m.entries other) differ)
    ]

-- ---- a record is appended

pushed_here : (xs : List Record) (kept : Record) (other : List ℕ) → bytes_eq kept.name other ≡ true
    → place_in xs other ≡ None → place_in (xs ++ kept ∷ []) other ≡ Some (length xs)
pushed_here xs kept other same absent =
    let bound = prefix_len-le-length (λ (x : Record). not (bytes_eq x.name other)) xs in
    grind (arith, common_steps)

pushed_other : (xs : List Record) (kept : Record) (other : List ℕ) → bytes_eq kept.name other ≡ false
    → place_in (xs ++ kept ∷ []) other ≡ place_in xs other
pushed_other xs kept other differ = grind (arith, common_steps)

-- its name has its place, and the others have theirs
place_in-push : (xs : List Record) (kept : Record) (other : List ℕ) → place_in xs kept.name ≡ None
    → place_in (xs ++ kept ∷ []) other ≡ cond (bytes_eq kept.name other) (Some (length xs))
    (place_in xs other)
place_in-push xs kept other absent =
    elim (cases_Bool (bytes_eq kept.name other)) as
    (λ _. place_in (xs ++ kept ∷ []) other ≡ cond (bytes_eq kept.name other) (Some (length xs))
    (place_in xs other)) [
      | inl same ↦
          let equal : kept.name ≡ other = (bytes_decides kept.name other).0 same in
          pushed_here xs kept other same (ap (place_in xs) (sym equal) ∙ absent)
          ∙ sym (cond-true (bytes_eq kept.name other) (Some (length xs)) (place_in xs other) same)
      | inr differ ↦
          pushed_other xs kept other differ
          ∙ sym (cond-false (bytes_eq kept.name other) (Some (length xs)) (place_in xs other) differ)
    ]

pub pushed_IsIndexed : (xs now : List Record) (index after : Index) (kept : Record) (name : List ℕ)
    (place : ℕ) → kept.name ≡ name → place ≡ length xs → now ≡ xs ++ kept ∷ [] → place_in xs name ≡ None →
    ((other : List ℕ) → indexed after other ≡ cond (bytes_eq name other) (Some place) (indexed index other))
    → IsIndexed xs index → IsIndexed now after
pushed_IsIndexed xs now index after kept name place named last put absent told is other =
    told other ∙ ap (λ p. cond (bytes_eq name other) (Some p) (indexed index other)) last
    ∙ ap (cond (bytes_eq name other) (Some (length xs))) (is other)
    ∙ ap (λ (n : List ℕ). cond (bytes_eq n other) (Some (length xs)) (place_in xs other)) (sym named)
    ∙ sym (ap (λ (l : List Record). place_in l other) put
    ∙ place_in-push xs kept other (ap (place_in xs) named ∙ absent))
