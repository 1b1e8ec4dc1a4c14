-- The entries and blocks of the lines of a text, line by line.
use Rattle.std.proofs.Common.{◌≡◌, ℕ, ◌<◌, ◌≤◌, ◌-◌, Bool, true, false, List, [], ◌∷◌, ◌++◌, length, drop, Some, None, refl, sym, ap, ◌∙◌, arith, append-nil}
use Rattle.std.specs.Prelude.{if◌then◌else◌}
use Rattle.std.proofs.lemmas.List.{drop_all}
use Rattle.text_words.specs.Lines.{pieces_of}
use Rattle.image_lines.specs.Lines.{entry_of_line, block_of_line}
use Rattle.image_lines.specs.Nodes.{IsRestOf}
use Rattle.image_lines.specs.WordForms.{entries_at, blocks_at}
use Rattle.image_lines.proofs.RoundLemmas.{dropped, shorter}

-- after the end of a text there is nothing
entries_behind : (ended : Bool) (rest : List ℕ) → (ended ≡ false → rest ≡ []) → entries_at (if ended then pieces_of rest else []) ≡ entries_at (pieces_of rest)
unfolding entries_at entry_of_line
entries_behind true rest none = refl
entries_behind false rest none = ap (λ l. entries_at (pieces_of l)) (sym (none refl))

blocks_behind : (ended : Bool) (rest : List ℕ) → (ended ≡ false → rest ≡ []) → blocks_at (if ended then pieces_of rest else []) ≡ blocks_at (pieces_of rest)
unfolding blocks_at block_of_line
blocks_behind true rest none = refl
blocks_behind false rest none = ap (λ l. blocks_at (pieces_of l)) (sym (none refl))

pub one_entry : (text bytes rest : List ℕ) (ended : Bool) (e : List ℕ × ℕ) → pieces_of text ≡ bytes ∷ (if ended then pieces_of rest else []) → (ended ≡ false → rest ≡ [])
    → entry_of_line bytes ≡ Some e → entries_at (pieces_of text) ≡ e ∷ entries_at (pieces_of rest)
unfolding entries_at
one_entry text bytes rest ended e cut none told = rw (cut, told) (ap (λ es. e ∷ es) (entries_behind ended rest none))

pub no_entry : (text bytes : List ℕ) (more : List (List ℕ)) → pieces_of text ≡ bytes ∷ more → entry_of_line bytes ≡ None → entries_at (pieces_of text) ≡ []
unfolding entries_at
no_entry text bytes more cut told = rw (cut, told) refl

pub one_block : (text bytes rest : List ℕ) (ended : Bool) (block : List ℕ) → pieces_of text ≡ bytes ∷ (if ended then pieces_of rest else []) → (ended ≡ false → rest ≡ [])
    → block_of_line bytes ≡ Some block → blocks_at (pieces_of text) ≡ block ∷ blocks_at (pieces_of rest)
unfolding blocks_at
one_block text bytes rest ended block cut none told = rw (cut, told) (ap (λ bs. block ∷ bs) (blocks_behind ended rest none))

pub no_block : (text bytes : List ℕ) (more : List (List ℕ)) → pieces_of text ≡ bytes ∷ more → block_of_line bytes ≡ None → blocks_at (pieces_of text) ≡ []
unfolding blocks_at
no_block text bytes more cut told = rw (cut, told) refl

-- an entry's line isn't empty
not_empty : (bytes : List ℕ) (e : List ℕ × ℕ) → entry_of_line bytes ≡ Some e → 0 < length bytes
unfolding entry_of_line
not_empty [] e told = absurd (cc told)
not_empty (b ∷ bytes) e told = omega arith

pub shorter_behind : (text bytes rest : List ℕ) (ended : Bool) (e : List ℕ × ℕ) → text ≡ bytes ++ (if ended then 10 ∷ rest else []) → (ended ≡ false → rest ≡ [])
    → entry_of_line bytes ≡ Some e → length rest < length text
shorter_behind text bytes rest true e whole none told = shorter text bytes rest whole
shorter_behind text bytes rest false e whole none told =
    let some = not_empty bytes e told in
    let same = ap length (whole ∙ append-nil bytes) in
    let nothing = ap length (none refl) in
    omega arith

pub rest_behind : (text old bytes rest : List ℕ) (ended : Bool) → old ≡ bytes ++ (if ended then 10 ∷ rest else []) → (ended ≡ false → rest ≡ [])
    → IsRestOf text old → length old ≤ length text → IsRestOf text rest
rest_behind text old bytes rest true whole none end within = dropped text old bytes rest end whole within
rest_behind text old bytes rest false whole none end within =
    let nothing : rest ≡ [] = none refl in
    nothing ∙ sym (drop_all (length text - 0) text (omega arith)) ∙ ap (λ (r : List ℕ). drop (length text - length r) text) (sym nothing)
