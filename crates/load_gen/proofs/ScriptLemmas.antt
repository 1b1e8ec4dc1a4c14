-- A generated script is one that can be written.
use Rattle.std.proofs.Common.{◌≡◌, ℕ, zero, suc, ◌+◌, ◌-◌, ◌*◌, ◌<◌, ◌≤◌, List, [], ◌∷◌, ◌++◌, length, Ok, refl, sym, ap, ◌∙◌, arith, subst, append_assoc, append-nil}
use Rattle.script_lang.specs.Script.{parsed_script}
use Rattle.script_lang.specs.Spelled.{FollowInOrder, HaveSpace, IsWritable, IsSpelled}
use Rattle.script_lang.specs.Writing.{first_free_line}
use Rattle.script_lang.specs.declared.commands.Section.{Section}
use Rattle.script_lang.proofs.RoundTrip.{IsSpelled-writable, parsed_script-spelled}
use Rattle.load_gen.specs.Numbers.{number_after}
use Rattle.load_gen.specs.Callers.{verbs, in_lines, section}
use Rattle.load_gen.specs.Generated.{sections, generated_script, generated_text}
use Rattle.load_gen.proofs.AskedLemmas.{All-askable}
use Rattle.load_gen.proofs.CallerLemmas.{length-verbs, StandBehind-in_lines, first_free_line-in_lines}

length-sections : (count c x : ℕ) → length (sections count c x) ≡ count
unfolding sections
length-sections zero c x = refl
length-sections (suc count) c x = let more = length-sections count (c + 1) (number_after 200 x) in omega arith

HaveSpace-sections : (count c x : ℕ) → c + count ≤ 8 → HaveSpace (208 * c + 1) (sections count c x)
unfolding sections
HaveSpace-sections zero c x few = tt
HaveSpace-sections (suc count) c x few =
    let first : 208 * c + 1 + 1 ≡ 208 * c + 2 = omega arith in
    let long = length-verbs c x in
    let numbers_after : first_free_line (208 * c + 1 + 1) (in_lines (208 * c + 2) (verbs c x)) ≡ 208 * (c + 1) + 1 =
    ap (λ n. first_free_line n (in_lines (208 * c + 2) (verbs c x))) first ∙ first_free_line-in_lines (208 * c + 2) (verbs c x) ∙ omega arith in (
      omega arith,
      (
        subst (λ n. FollowInOrder n (in_lines (208 * c + 2) (verbs c x))) (sym first) (StandBehind-in_lines (208 * c + 2) (verbs c x) (All-askable c x (omega arith))),
        subst (λ n. HaveSpace n (sections count (c + 1) (number_after 200 x))) (sym numbers_after) (HaveSpace-sections count (c + 1) (number_after 200 x) (omega arith)),
      ),
    )

IsWritable-generated : (number : ℕ) → IsWritable (generated_script number)
unfolding generated_script
IsWritable-generated number = let few = length-sections 8 0 number in (omega arith, HaveSpace-sections 8 0 number (omega arith))

pub IsSpelled-generated : (number : ℕ) → IsSpelled (generated_script number)
IsSpelled-generated number = (IsSpelled-writable (generated_script number)).1 (IsWritable-generated number)

pub parsed_script-generated : (number : ℕ) → parsed_script (generated_text number) ≡ Ok (generated_script number)
parsed_script-generated number = parsed_script-spelled (generated_script number) (IsSpelled-generated number)

-- ---- one caller after the other

-- the section of one caller more
pub sections_go_on : (made made' whole : List Section) (c x x' : ℕ) → c < 8 → x' ≡ number_after 200 x
    → made' ≡ made ++ section c x ∷ [] → made ++ sections (8 - c) c x ≡ whole
    → made' ++ sections (8 - (c + 1)) (c + 1) x' ≡ whole
unfolding sections
sections_go_on made made' whole c x x' within on grown before =
    let left : 8 - c ≡ suc (8 - (c + 1)) = omega arith in
    ap (λ l. l ++ sections (8 - (c + 1)) (c + 1) x') grown
    ∙ append_assoc made (section c x ∷ []) (sections (8 - (c + 1)) (c + 1) x')
    ∙ ap (λ y. made ++ section c x ∷ sections (8 - (c + 1)) (c + 1) y) on
    ∙ ap (λ n. made ++ sections n c x) (sym left)
    ∙ before

-- and all of them
pub sections_whole : (made whole : List Section) (c x : ℕ) → 8 ≤ c → made ++ sections (8 - c) c x ≡ whole → made ≡ whole
unfolding sections
sections_whole made whole c x all before =
    let none : 8 - c ≡ 0 = omega arith in
    sym (append-nil made) ∙ ap (λ n. made ++ sections n c x) (sym none) ∙ before
