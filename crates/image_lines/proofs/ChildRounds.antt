-- The second round, line by line.
use Rattle.std.proofs.Common.{inl, inr, ◌≡◌, ℕ, ◌<◌, ◌≤◌, ◌+◌, ◌==◌, Bool, true, false, List, [], ◌∷◌, ◌++◌, length, get_or, replicate, Option, Some, None, refl, sym, ap, ◌∙◌, subst, arith}
use Rattle.std.specs.Prelude.{IsTrue, ◌↔◌, if◌then◌else◌}
use Rattle.std.specs.Bool.{OnTrue}
use Rattle.std.specs.List.{after_first, position_or_len}
use Rattle.std.proofs.lemmas.Bool.{eqb-true, eqb-false, cases_lt}
use Rattle.std.proofs.lemmas.List.{nil_from_length, get_or-replicate, length-replicate, drop_all}
use Rattle.text_words.specs.Lines.{is_line_feed, pieces_of}
use Rattle.image_lines.specs.declared.round_of_lines.NodePlace.{NodePlace}
use Rattle.image_lines.specs.Lines.{entry_of_line}
use Rattle.image_lines.specs.ChildFaults.{after_entry, child_fault_from, may_name_child}
use Rattle.image_lines.specs.Places.{numbers_at}
use Rattle.image_lines.specs.Marks.{AreMarked, GoesOn}
use Rattle.image_lines.proofs.RoundLemmas.{shorter}
use Rattle.image_lines.proofs.SearchLemmas.{length-numbers}

-- what the lines before this number have referred to, and what is left
pub record SoFar (numbers text rest : List ℕ) (number : ℕ) (marks : List Bool) : Type 0 where
  pub earlier : List ℕ
  pub marked : AreMarked numbers earlier marks
  pub told : child_fault_from 1 numbers [] (pieces_of text) ≡ child_fault_from number numbers earlier (pieces_of rest)
  pub counted : number + length rest ≤ length text + 1

pub so_far-none : (numbers text : List ℕ) (marks : List Bool) → AreMarked numbers [] marks → SoFar numbers text text 1 marks
so_far-none numbers text marks are = record { earlier = []; marked = are; told = refl; counted = omega arith }

-- no marks at first
pub unmarked : (places : List NodePlace) (marks : List Bool) → marks ≡ replicate (length places) false → AreMarked (numbers_at places) [] marks
unmarked places marks is =
    let long = length-numbers places in
    record {
      long = ap length is ∙ length-replicate (length places) false ∙ sym long;
      each = λ i lt. ap (λ l. get_or l i false) is ∙ get_or-replicate (length places) i false false (omega (arith, long, lt));
    }

-- ---- one line

last : (number : ℕ) (numbers earlier : List ℕ) → child_fault_from number numbers earlier ([] ∷ []) ≡ None
unfolding child_fault_from entry_of_line
last number numbers earlier = refl

-- going over a line, whether a line feed ended it or not
abbrev GoesOver : List ℕ → List ℕ → List ℕ → List ℕ → Type 0
GoesOver numbers old line rest =
    (k : ℕ) (earlier : List ℕ) → child_fault_from k numbers earlier (pieces_of old) ≡ after_entry k numbers earlier (entry_of_line line) (λ more. child_fault_from (k + 1) numbers more (pieces_of rest))

over_ended : (numbers old line rest : List ℕ) → pieces_of old ≡ line ∷ pieces_of rest → GoesOver numbers old line rest
unfolding child_fault_from
over_ended numbers old line rest cut k earlier = ap (child_fault_from k numbers earlier) cut

over_unended : (numbers old line rest : List ℕ) → pieces_of old ≡ line ∷ [] → rest ≡ [] → GoesOver numbers old line rest
unfolding child_fault_from
over_unended numbers old line rest cut none k earlier =
    ap (child_fault_from k numbers earlier) cut
    ∙ ap (after_entry k numbers earlier (entry_of_line line)) (λ i more. sym (ap (λ l. child_fault_from (k + 1) numbers more (pieces_of l)) none ∙ last (k + 1) numbers more) i)

pub none_behind : (old rest : List ℕ) (ended : Bool) → rest ≡ after_first is_line_feed old → (IsTrue ended ↔ (position_or_len is_line_feed old < length old)) → ended ≡ false → rest ≡ []
none_behind old rest ended is exact open_end = is ∙ drop_all (position_or_len is_line_feed old + 1) old (omega (arith, beyond))
  where
    beyond : length old ≤ position_or_len is_line_feed old
    beyond = elim (cases_lt (position_or_len is_line_feed old) (length old)) [
      | inl inside ↦ absurd (cc (sym open_end ∙ exact.1 inside))
      | inr outside ↦ outside
    ]

pub goes_over : (numbers old line rest : List ℕ) (ended : Bool) → pieces_of old ≡ line ∷ (if ended then pieces_of rest else []) → (ended ≡ false → rest ≡ []) → GoesOver numbers old line rest
goes_over numbers old line rest true cut none = over_ended numbers old line rest cut
goes_over numbers old line rest false cut none = over_unended numbers old line rest cut (none refl)

pub less_behind : (old line rest : List ℕ) (ended : Bool) → old ≡ line ++ (if ended then 10 ∷ rest else []) → (ended ≡ false → rest ≡ []) → (length old == 0) ≡ false → length rest < length old
less_behind old line rest true whole none some = shorter old line rest whole
less_behind old line rest false whole none some =
    let empty = ap length (none refl) in
    let differs = eqb-false (length old) 0 some in
    grind (arith, empty, differs)

module _ (numbers text old line rest : List ℕ) (number : ℕ) (marks : List Bool) (so : SoFar numbers text old number marks) (over : GoesOver numbers old line rest) (less : length rest < length old) where
  counted : number + 1 + length rest ≤ length text + 1
  counted = omega (arith, so.counted, less)

  -- a line that is no entry's
  pub over_other : (new : List Bool) → entry_of_line line ≡ None → AreMarked numbers so.earlier new → SoFar numbers text rest (number + 1) new
  over_other new none are = record {
    earlier = so.earlier;
    marked = are;
    told = so.told ∙ over number so.earlier ∙ rw none refl;
    counted = counted;
  }

  -- an entry that may refer to its child
  pub over_entry : (name : List ℕ) (child : ℕ) (new : List Bool) → entry_of_line line ≡ Some (name, child) → true ≡ may_name_child numbers so.earlier child
      → AreMarked numbers (child ∷ so.earlier) new → SoFar numbers text rest (number + 1) new
  over_entry name child new is fits are =
      let may = sym fits in
      record {
        earlier = child ∷ so.earlier;
        marked = are;
        told = so.told ∙ over number so.earlier ∙ rw (is, may) refl;
        counted = counted;
      }

  -- and one that may not
  pub at_entry : (name : List ℕ) (child : ℕ) → entry_of_line line ≡ Some (name, child) → false ≡ may_name_child numbers so.earlier child
      → child_fault_from 1 numbers [] (pieces_of text) ≡ Some number
  at_entry name child is unfit =
      let stops = sym unfit in
      so.told ∙ over number so.earlier ∙ rw (is, stops) refl

module _ (numbers text old line rest : List ℕ) (number : ℕ) (marks : List Bool) (so : SoFar numbers text old number marks) (over : GoesOver numbers old line rest) (less : length rest < length old) (new : List Bool) where
  pub went_over : (answer : Bool) → GoesOn numbers so.earlier (entry_of_line line) new answer → answer ≡ true → SoFar numbers text rest (number + 1) new
  went_over answer on passes = go (entry_of_line line) refl on
    where
      go : (o : Option (List ℕ × ℕ)) → entry_of_line line ≡ o → GoesOn numbers so.earlier o new answer → SoFar numbers text rest (number + 1) new
      go None is on = over_other numbers text old line rest number marks so over less new is on.1
      go (Some e) is on =
          over_entry numbers text old line rest number marks so over less e.0 e.1 new is (sym passes ∙ on.0)
          (subst (λ b. OnTrue b (AreMarked numbers (e.1 ∷ so.earlier) new)) passes on.1)

  pub stopped : (answer : Bool) → GoesOn numbers so.earlier (entry_of_line line) new answer → answer ≡ false → child_fault_from 1 numbers [] (pieces_of text) ≡ Some number
  stopped answer on fails = go (entry_of_line line) refl on
    where
      go : (o : Option (List ℕ × ℕ)) → entry_of_line line ≡ o → GoesOn numbers so.earlier o new answer → child_fault_from 1 numbers [] (pieces_of text) ≡ Some number
      go None is on = absurd (cc (sym on.0 ∙ fails))
      go (Some e) is on = at_entry numbers text old line rest number marks so over less e.0 e.1 is (sym fails ∙ on.0)

pub at_end : (numbers text rest : List ℕ) (number : ℕ) (marks : List Bool) → SoFar numbers text rest number marks → (length rest == 0) ≡ true
    → child_fault_from 1 numbers [] (pieces_of text) ≡ None
at_end numbers text rest number marks so none =
    so.told ∙ ap (λ l. child_fault_from number numbers so.earlier (pieces_of l)) (nil_from_length rest (eqb-true (length rest) 0 none)) ∙ last number numbers so.earlier
