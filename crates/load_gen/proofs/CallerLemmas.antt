-- The commands of a caller, their number, and the lines in which they are.
use Rattle.std.proofs.Common.{◌≡◌, ℕ, zero, suc, ◌+◌, ◌-◌, ◌<◌, ◌≤◌, List, [], ◌∷◌, ◌++◌, length, refl, sym, ap, ◌∙◌, arith, length-append, append_assoc, append-nil}
use Rattle.std.specs.List.{All}
use Rattle.std.proofs.lemmas.List.Elements.{All-head, All-tail}
use Rattle.script_lang.specs.CommandTasks.{IsAskable}
use Rattle.script_lang.specs.Spelled.{FollowInOrder}
use Rattle.script_lang.specs.Writing.{first_free_line}
use Rattle.script_lang.specs.declared.verb.Verb.{Verb}
use Rattle.script_lang.specs.declared.verb.Verb.TheVariants as verb
use Rattle.load_gen.specs.Numbers.{next, number_after, upper_31_bits}
use Rattle.load_gen.specs.Operations.{operation}
use Rattle.load_gen.specs.Words.{raw_key}
use Rattle.load_gen.specs.Callers.{first_verbs, operations, last_verbs, verbs, in_lines}

-- ---- the number of commands

length-operations : (count c x : ℕ) → length (operations count c x) ≡ count
unfolding operations
length-operations zero c x = refl
length-operations (suc count) c x = let more = length-operations count c (next x) in omega arith

pub length-verbs : (c x : ℕ) → length (verbs c x) ≡ 207
unfolding verbs
length-verbs c x =
    omega (arith, length-append (first_verbs c) (operations 200 c x ++ last_verbs c), length-append (operations 200 c x) (last_verbs c), length-operations 200 c x)

-- ---- their lines

pub StandBehind-in_lines : (n : ℕ) (verbs : List Verb) → All IsAskable verbs → FollowInOrder n (in_lines n verbs)
StandBehind-in_lines n [] h = tt
StandBehind-in_lines n (verb ∷ more) h =
    (omega arith, (All-head IsAskable verb more h, StandBehind-in_lines (n + 1) more (All-tail IsAskable verb more h)))

pub first_free_line-in_lines : (n : ℕ) (verbs : List Verb) → first_free_line n (in_lines n verbs) ≡ n + length verbs
first_free_line-in_lines n [] = omega arith
first_free_line-in_lines n (verb ∷ more) = let numbers_after = first_free_line-in_lines (n + 1) more in omega arith

-- ---- one command after the other

pub operations-next : (left c x : ℕ) → operations (suc left) c x ≡ operation c (upper_31_bits (next x)) ∷ operations left c (next x)
unfolding operations
operations-next left c x = refl

pub operations-none : (c x : ℕ) → operations 0 c x ≡ []
unfolding operations
operations-none c x = refl

pub number_after-next : (left x : ℕ) → number_after (suc left) x ≡ number_after left (next x)
unfolding number_after
number_after-next left x = refl

pub number_after-none : (x : ℕ) → number_after 0 x ≡ x
unfolding number_after
number_after-none x = refl

-- the command of one number more
pub goes_on : (made made' whole : List Verb) (i c x x' : ℕ) → i < 200 → x' ≡ next x
    → made' ≡ made ++ operation c (upper_31_bits x') ∷ [] → made ++ operations (200 - i) c x ≡ whole
    → made' ++ operations (200 - (i + 1)) c x' ≡ whole
goes_on made made' whole i c x x' within on grown before =
    let left : 200 - i ≡ suc (200 - (i + 1)) = omega arith in
    ap (λ l. l ++ operations (200 - (i + 1)) c x') grown
    ∙ append_assoc made (operation c (upper_31_bits x') ∷ []) (operations (200 - (i + 1)) c x')
    ∙ ap (λ y. made ++ operation c (upper_31_bits y) ∷ operations (200 - (i + 1)) c y) on
    ∙ ap (λ l. made ++ l) (sym (operations-next (200 - (i + 1)) c x) ∙ ap (λ n. operations n c x) (sym left))
    ∙ before

pub number_goes_on : (i x x' last : ℕ) → i < 200 → x' ≡ next x → number_after (200 - i) x ≡ last → number_after (200 - (i + 1)) x' ≡ last
number_goes_on i x x' last within on before =
    let left : 200 - i ≡ suc (200 - (i + 1)) = omega arith in
    ap (number_after (200 - (i + 1))) on ∙ sym (number_after-next (200 - (i + 1)) x) ∙ ap (λ n. number_after n x) (sym left) ∙ before

-- and all of them
pub verbs_whole : (made made' made'' : List Verb) (i c x x' : ℕ) → 200 ≤ i
    → made ++ operations (200 - i) c x ≡ first_verbs c ++ operations 200 c x'
    → made' ≡ made ++ verb.Close 0 ∷ [] → made'' ≡ made' ++ verb.RemoveKey (raw_key c) ∷ [] → made'' ≡ verbs c x'
unfolding verbs
verbs_whole made made' made'' i c x x' all before closed removed =
    let none : 200 - i ≡ 0 = omega arith in
    let whole : made ≡ first_verbs c ++ operations 200 c x' =
    sym (append-nil made) ∙ ap (λ l. made ++ l) (sym (operations-none c x)) ∙ ap (λ n. made ++ operations n c x) (sym none) ∙ before in
    removed
    ∙ ap (λ l. l ++ verb.RemoveKey (raw_key c) ∷ []) closed
    ∙ append_assoc made (verb.Close 0 ∷ []) (verb.RemoveKey (raw_key c) ∷ [])
    ∙ ap (λ l. l ++ last_verbs c) whole
    ∙ append_assoc (first_verbs c) (operations 200 c x') (last_verbs c)

pub number_whole : (i x last : ℕ) → 200 ≤ i → number_after (200 - i) x ≡ last → x ≡ last
number_whole i x last all before =
    let none : 200 - i ≡ 0 = omega arith in
    sym (number_after-none x) ∙ ap (λ n. number_after n x) (sym none) ∙ before
