-- The parts of a path, one by one, as they are read and as they are written.
use Rattle.std.proofs.Common.{◌≡◌, ◌≢◌, ℕ, ◌-◌, suc, take_all, length-drop, ◌<◌, ◌≤◌, ◌+◌, ◌==◌, Bool, true, false, List, [], ◌∷◌, ◌++◌, length, take, drop, get_or, Option, Some, None, refl, sym, ap, ◌∙◌, arith, append_assoc, append-nil}
use Rattle.std.specs.Global.{Global}
use Rattle.std.specs.Prelude.{IfOk, Result, Ok, Err, String, string_bytes, codes, nat_le, if◌then◌else◌}
use Rattle.std.specs.List.{slice_split}
use Rattle.std.specs.Option.{option_map}
use Rattle.std.proofs.lemmas.Bool.{eqb-true, eqb-false, ne_eqb, le-leb, leb-true}
use Rattle.std.proofs.lemmas.Bool.Decides.{nat_tests}
use Rattle.std.proofs.lemmas.List.{at_drop_more, take_more, drop_all}
use Rattle.script_words.specs.Path.{is_slash, part_of, before_parts, parts_of, few_parts, path_of, IsPath}
use Rattle.script_words.specs.PathText.{part_text, parts_text, path_text}
use Rattle.script_words.specs.declared.limits.TheConstants.{MAX_PARTS}
use Rattle.script_words.specs.declared.path.ScriptPart.{ScriptPart}
use Rattle.script_words.proofs.PathLemmas.{path_of-path_text}

-- ---- reading parts one by one

-- the parts that are read, before those that are left
abbrev pub onto : List ScriptPart → Option (List ScriptPart) → Option (List ScriptPart)
onto done more = option_map (λ parts. done ++ parts) more

pub onto-more : (done : List ScriptPart) (texts : List (List ℕ)) (n : ℕ) (text : List ℕ) (part : ScriptPart)
    → n < length texts → text ≡ get_or texts n text → Some part ≡ part_of text
    → onto (done ++ part ∷ []) (parts_of (drop (n + 1) texts)) ≡ onto done (parts_of (drop n texts))
onto-more done texts n text part within at read =
    rw (at_drop_more parts_of texts n text within, ← at, ← read) (by_rest (parts_of (drop (n + 1) texts)))
  where
    by_rest : (more : Option (List ScriptPart)) → onto (done ++ part ∷ []) more ≡ onto done (before_parts (Some part) more)
    by_rest None = refl
    by_rest (Some parts) = ap Some (append_assoc done (part ∷ []) parts)

pub onto-refused : (done : List ScriptPart) (texts : List (List ℕ)) (n : ℕ) (text : List ℕ)
    → n < length texts → text ≡ get_or texts n text → None ≡ part_of text
    → onto done (parts_of (drop n texts)) ≡ None
onto-refused done texts n text within at read =
    rw (at_drop_more parts_of texts n text within, ← at, ← read) refl

-- ---- writing parts one by one

pub parts_text-push : (parts : List ScriptPart) (part : ScriptPart) → parts_text (parts ++ part ∷ []) ≡ parts_text parts ++ (47 ∷ part_text part)
parts_text-push [] part = ap (λ text. 47 ∷ text) (append-nil (part_text part))
parts_text-push (first ∷ parts) part =
    ap (λ text. 47 ∷ text)
    (ap (λ text. part_text first ++ text) (parts_text-push parts part) ∙ sym (append_assoc (part_text first) (parts_text parts) (47 ∷ part_text part)))

pub path_text-empty : (path : List ScriptPart) → length path ≡ 0 → path_text path ≡ codes "/"
unfolding path_text
path_text-empty [] none = refl
path_text-empty (part ∷ parts) none = absurd (omega arith)

pub path_text-nonempty : (path : List ScriptPart) → length path ≢ 0 → path_text path ≡ parts_text path
unfolding path_text
path_text-nonempty [] some = absurd (some refl)
path_text-nonempty (part ∷ parts) some = refl

-- ---- the ends of reading

pub few_parts-many : (texts : List (List ℕ)) (n : ℕ) → MAX_PARTS ≤ n → n < length texts → None ≡ few_parts texts
few_parts-many texts n many within = by_test (nat_le (length texts) MAX_PARTS) refl
  where
    by_test : (few : Bool) → nat_le (length texts) MAX_PARTS ≡ few → (let o : Option (List ScriptPart) = if few then parts_of texts else None in None ≡ o)
    by_test true few = absurd (omega (arith, leb-true (length texts) MAX_PARTS few))
    by_test false few = refl

pub few_parts-refused : (done : List ScriptPart) (texts : List (List ℕ)) (n : ℕ) (text : List ℕ)
    → onto done (parts_of (drop n texts)) ≡ parts_of texts → n < length texts → text ≡ get_or texts n text → None ≡ part_of text
    → None ≡ few_parts texts
few_parts-refused done texts n text told within at read = by_test (nat_le (length texts) MAX_PARTS)
  where
    by_test : (few : Bool) → (let o : Option (List ScriptPart) = if few then parts_of texts else None in None ≡ o)
    by_test true = sym (onto-refused done texts n text within at read) ∙ told
    by_test false = refl

pub few_parts-all : (done : List ScriptPart) (texts : List (List ℕ)) (n : ℕ)
    → onto done (parts_of (drop n texts)) ≡ parts_of texts → n ≡ length texts → n ≤ MAX_PARTS → Some done ≡ few_parts texts
few_parts-all done texts n told whole few =
    let none : drop n texts ≡ [] = drop_all n texts (omega arith) in
    let all : Some done ≡ parts_of texts = ap Some (sym (append-nil done)) ∙ ap (λ more. onto done (parts_of more)) (sym none) ∙ told in
    rw (le-leb (length texts) MAX_PARTS (omega arith)) all

-- a text that doesn't begin with `/`
pub path_of-empty : (text : List ℕ) → (length text == 0) ≡ true → None ≡ path_of text
unfolding path_of
path_of-empty [] none = refl
path_of-empty (first ∷ rest) none = absurd (omega (arith, eqb-true (suc (length rest)) 0 none))

pub path_of-none : (text : List ℕ) → (get_or text 0 0 ≡ 47 → ⊥) → None ≡ path_of text
unfolding path_of
path_of-none [] other = refl
path_of-none (first ∷ rest) other = rw (ne_eqb first 47 other) refl

pub path_of-root : (text : List ℕ) → get_or text 0 0 ≡ 47 → length text ≡ 1 → Some [] ≡ path_of text
unfolding path_of
path_of-root [] slash one = absurd (omega arith)
path_of-root (first ∷ []) slash one = rw slash refl
path_of-root (first ∷ b ∷ rest) slash one = absurd (omega arith)

suc-ne-zero : (n : ℕ) → (suc n == 0) ≡ false
suc-ne-zero n = grind (arith, nat_tests)

path_of-pieces : (text : List ℕ) → get_or text 0 0 ≡ 47 → length text ≢ 0 → length text ≢ 1
    → path_of text ≡ few_parts (slice_split is_slash (drop 1 text))
unfolding path_of
path_of-pieces [] slash some more = absurd (some refl)
path_of-pieces (first ∷ []) slash some more = absurd (more refl)
path_of-pieces (first ∷ b ∷ rest) slash some more = rw (slash, suc-ne-zero (length rest)) refl

-- what is read of the pieces after the first `/` is what the text spells
pub path_of-read : (text : List ℕ) (read : Option (List ScriptPart)) → get_or text 0 0 ≡ 47 → (length text == 0) ≡ false → length text ≢ 1
    → read ≡ few_parts (slice_split is_slash (take (length text - 1) (drop 1 text))) → read ≡ path_of text
path_of-read text read slash some more told =
    let whole : take (length text - 1) (drop 1 text) ≡ drop 1 text = take_all _ _ (omega (arith, length-drop {A = ℕ})) in
    told ∙ ap (λ pieces. few_parts (slice_split is_slash pieces)) whole ∙ sym (path_of-pieces text slash (eqb-false (length text) 0 some) more)

-- a text that is what is written of a path spells it
pub reads_back : {E : Type 0} (path parts : List ScriptPart) (result : Result (String Global) E) → parts ≡ path → IsPath parts
    → IfOk result (λ text. string_bytes text ≡ path_text parts) → IfOk result (λ text. path_of (string_bytes text) ≡ Some path)
reads_back path parts (Ok text) same is written = ap path_of written ∙ path_of-path_text parts is ∙ ap Some same
reads_back path parts (Err error) same is written = tt

-- one part more is written
pub parts_text-more : (parts : List ScriptPart) (i : ℕ) (part : ScriptPart) (before slash after : List ℕ)
    → before ≡ parts_text (take i parts) → i < length parts → part ≡ get_or parts i part
    → slash ≡ before ++ 47 ∷ [] → after ≡ slash ++ part_text part → after ≡ parts_text (take (i + 1) parts)
parts_text-more parts i part before slash after so_far within at e f =
    let behind : after ≡ parts_text (take i parts) ++ (47 ∷ part_text part) =
    f ∙ ap (λ text. text ++ part_text part) e ∙ append_assoc before (47 ∷ []) (part_text part) ∙ ap (λ text. text ++ (47 ∷ part_text part)) so_far in
    let last : take (i + 1) parts ≡ take i parts ++ part ∷ [] =
    take_more parts i part within ∙ ap (λ x. take i parts ++ x ∷ []) (sym at) in
    behind ∙ sym (parts_text-push (take i parts) part) ∙ ap parts_text (sym last)

pub path_text-of_none : {E : Type 0} (path : List ScriptPart) (result : Result (String Global) E) → true ≡ (length path == 0)
    → IfOk result (λ text. string_bytes text ≡ 47 ∷ []) → IfOk result (λ text. string_bytes text ≡ path_text path)
path_text-of_none path (Ok text) none written = written ∙ sym (path_text-empty path (eqb-true (length path) 0 (sym none)))
path_text-of_none path (Err error) none written = tt
