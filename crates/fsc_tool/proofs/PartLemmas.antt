-- Where the separating line is in a text, from its first line on.
use Rattle.std.proofs.Common.{◌≡◌, ℕ, ◌+◌, ◌-◌, ◌≤◌, ◌==◌, Bool, true, false, List, [], ◌∷◌, ◌++◌, length, take, drop, Option, None, Some, refl, sym, ap, ap₂, ◌∙◌, arith, length-append}
use Rattle.std.specs.Option.{option_map}
use Rattle.std.specs.Prelude.{if◌then◌else◌}
use Rattle.std.specs.Str.{bytes_eq}
use Rattle.std.proofs.lemmas.Bool.Decides.{Decides-eqb}
use Rattle.std.proofs.lemmas.Slice.Eq.{bytes_eq-Decides}
use Rattle.image_lines.proofs.RoundLemmas.{dropped}
use Rattle.std.proofs.lemmas.List.Splits.{length-slice_split}
use Rattle.text_words.specs.Lines.{is_line_feed, pieces_of}
use Rattle.fsc_tool.specs.Splitting.{bytes_before, split_input, split_input_at, parting}

-- a text has one piece or more
some_piece : (text : List ℕ) → pieces_of text ≡ [] → ⊥
some_piece text none = let long = length-slice_split is_line_feed text in let is = ap length none in omega (arith, long, is)

rest_after_entry_line : (line : List ℕ) (pieces : List (List ℕ)) → (pieces ≡ [] → ⊥)
    → bytes_before (line ∷ pieces) ≡ (if bytes_eq line parting then Some 0 else option_map (λ bytes. length line + 1 + bytes) (bytes_before pieces))
unfolding bytes_before
rest_after_entry_line line [] some = absurd (some refl)
rest_after_entry_line line (next ∷ more) some = refl

-- a line that separates
pub parts_here : (line text : List ℕ) → bytes_eq line parting ≡ true → bytes_before (line ∷ pieces_of text) ≡ Some 0
parts_here line text is =
    rest_after_entry_line line (pieces_of text) (some_piece text)
    ∙ ap (λ (b : Bool). if b then Some 0 else option_map (λ (bytes : ℕ). length line + 1 + bytes) (bytes_before (pieces_of text))) is

-- and one that doesn't
pub parts_behind : (line text : List ℕ) → bytes_eq line parting ≡ false
    → bytes_before (line ∷ pieces_of text) ≡ option_map (λ bytes. length line + 1 + bytes) (bytes_before (pieces_of text))
parts_behind line text is =
    rest_after_entry_line line (pieces_of text) (some_piece text)
    ∙ ap (λ (b : Bool). if b then Some 0 else option_map (λ (bytes : ℕ). length line + 1 + bytes) (bytes_before (pieces_of text))) is

-- a last piece without a line feed
pub parts_nothing : (last : List ℕ) → bytes_before (last ∷ []) ≡ None
unfolding bytes_before
parts_nothing last = refl

-- ---- a text without a separating line before the rest

abbrev IsSo : List ℕ → List ℕ → Type 0
IsSo text rest = bytes_before (pieces_of text) ≡ option_map (λ bytes. length text - length rest + bytes) (bytes_before (pieces_of rest))

module _ (text rest : List ℕ) (so : IsSo text rest) where
  pub end_of_record : (length rest == 0) ≡ true → None ≡ split_input text
  end_of_record none = at rest so none
    where
      at : (rest : List ℕ) → IsSo text rest → (length rest == 0) ≡ true → None ≡ split_input text
      at [] so none =
          sym (ap (option_map (split_input_at text)) (so ∙ ap (option_map (λ (bytes : ℕ). length text - 0 + bytes)) (parts_nothing [])))
      at (b ∷ bs) so none = let zero = (Decides-eqb (length (b ∷ bs)) 0).0 none in absurd (omega (arith, zero))

  module _ (line more : List ℕ) (ended : Bool) (pieces : pieces_of rest ≡ line ∷ (if ended then pieces_of more else [])) where
    pub nothing_ended : ended ≡ false → None ≡ split_input text
    nothing_ended left =
        let last : pieces_of rest ≡ line ∷ [] = pieces ∙ ap (λ (e : Bool). line ∷ (if e then pieces_of more else [])) left in
        sym (ap (option_map (split_input_at text))
        (so ∙ ap (λ (ps : List (List ℕ)). option_map (λ (bytes : ℕ). length text - length rest + bytes) (bytes_before ps)) last
        ∙ ap (option_map (λ (bytes : ℕ). length text - length rest + bytes)) (parts_nothing line)))

    first : ended ≡ true → pieces_of rest ≡ line ∷ pieces_of more
    first closed = pieces ∙ ap (λ (e : Bool). line ∷ (if e then pieces_of more else [])) closed

    module _ (end : rest ≡ drop (length text - length rest) text) (within : length rest ≤ length text)
        (closed : ended ≡ true) (whole : rest ≡ line ++ (if ended then 10 ∷ more else [])) where
      cut : rest ≡ line ++ 10 ∷ more
      cut = whole ∙ ap (λ (e : Bool). line ++ (if e then 10 ∷ more else [])) closed

      pub behind_is : more ≡ drop (length text - length more) text
      behind_is = dropped text rest line more end cut within

      long : length rest ≡ length line + length (10 ∷ more)
      long = ap length cut ∙ length-append line (10 ∷ more)

      pub shorter_is : length more ≤ length text
      shorter_is = let size = long in omega (arith, size, within)

      pub parts_in : bytes_eq line parting ≡ true → Some (take (length text - length rest) text, more) ≡ split_input text
      parts_in is =
          let three = ap length ((bytes_eq-Decides line parting).0 is) in
          let size = long in
          let at : length text - length more ≡ length text - length rest + 0 + 4 = omega (arith, three, size, within) in
          let here : length text - length rest ≡ length text - length rest + 0 = omega arith in
          let found : bytes_before (pieces_of text) ≡ Some (length text - length rest + 0) =
          so ∙ ap (λ (ps : List (List ℕ)). option_map (λ (bytes : ℕ). length text - length rest + bytes) (bytes_before ps)) (first closed)
          ∙ ap (option_map (λ (bytes : ℕ). length text - length rest + bytes)) (parts_here line more is) in
          ap₂ (λ (n : ℕ) (log : List ℕ). Some (take n text, log)) here (behind_is ∙ ap (λ (n : ℕ). drop n text) at)
          ∙ sym (ap (option_map (split_input_at text)) found)

      pub goes_on : bytes_eq line parting ≡ false → IsSo text more
      goes_on is =
          so ∙ ap (λ (ps : List (List ℕ)). option_map (λ (bytes : ℕ). length text - length rest + bytes) (bytes_before ps)) (first closed)
          ∙ ap (option_map (λ (bytes : ℕ). length text - length rest + bytes)) (parts_behind line more is)
          ∙ counted (bytes_before (pieces_of more))
        where
          counted : (found : Option ℕ)
              → option_map (λ (bytes : ℕ). length text - length rest + bytes) (option_map (λ (bytes : ℕ). length line + 1 + bytes) found)
              ≡ option_map (λ (bytes : ℕ). length text - length more + bytes) found
          counted None = refl
          counted (Some bytes) =
              let size = long in
              let count : length text - length rest + (length line + 1 + bytes) ≡ length text - length more + bytes = omega (arith, size, within) in
              ap (λ (n : ℕ). Some n) count
