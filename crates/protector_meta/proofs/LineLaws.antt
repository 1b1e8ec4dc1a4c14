-- Reading a record line by line: a line that was read is in the text, and a line in the text is read.
-- Writing its lines.
use Rattle.std.proofs.Common.{◌≡◌, ℕ, suc, ◌<◌, ◌≤◌, ◌+◌, ◌-◌, Bool, true, false, not, ltb, append_assoc, List, [], ◌∷◌, ◌++◌, length, map, take, drop, get_or, Option, Some, None, Result, Ok, Err, refl, sym, ap, ◌∙◌, arith, add-one}
use Rattle.std.specs.Prelude.{if◌then◌else◌}
use Rattle.std.specs.List.{before_first, after_first, flat_map, position_or_len}
use Rattle.std.proofs.lemmas.Bool.{and_parts, eqb-true, lt-ltb, ltb-true}
use Rattle.std.proofs.lemmas.List.{take_at}
use Rattle.std.proofs.lemmas.List.Sums.{split_at_first, passes_at_first, fails_before_first}
use Rattle.std.proofs.lemmas.List.Splits.{slice_split_first, slice_split_none, length-slice_split}
use Rattle.text_words.specs.Lines.{is_line_feed, pieces_of}
use Rattle.text_words.specs.Lines.{ended}
use Rattle.protector_meta.specs.RecordLines.{ended_lines}
use Rattle.protector_meta.specs.Reading.{◌>>=◌, line_at, required_value, value_at}
use Rattle.protector_meta.specs.declared.fault.MetaFault.{MetaFault}
use Rattle.protector_meta.specs.declared.fault.MetaFault.TheVariants.{Bad}
use Rattle.text_words.proofs.PieceLemmas.{is_free_of}

feed_after : (line rest : List ℕ) → is_free_of 10 line ≡ true → position_or_len is_line_feed (line ++ 10 ∷ rest) ≡ length line
feed_after [] rest h = refl
feed_after (b ∷ line) rest h =
    let parts = and_parts (not (is_line_feed b)) (is_free_of 10 line) h in
    rw (parts.0, feed_after line rest parts.1) (omega arith)

-- ---- one line

test_true : {A : Type 0} (b : Bool) (x y : A) (e : MetaFault) → (let r : Result A MetaFault = if b then Ok x else Err e in r ≡ Ok y) → (b ≡ true) × (x ≡ y)
test_true true x y e h = (refl, cc)
test_true false x y e h = absurd (cc h)

pub line_again : (number : ℕ) (line rest : List ℕ) → is_free_of 10 line ≡ true → line_at number (line ++ 10 ∷ rest) ≡ Ok (line, rest)
line_again number line rest h =
    let place = feed_after line rest h in
    let front : before_first is_line_feed (line ++ 10 ∷ rest) ≡ line = rw place (take_at line (10 ∷ rest) (length line) refl) in
    let back : after_first is_line_feed (line ++ 10 ∷ rest) ≡ rest = rw place (rest_after line rest) in
    let inside : ltb (position_or_len is_line_feed (line ++ 10 ∷ rest)) (length (line ++ 10 ∷ rest)) ≡ true = rw place (lt-ltb _ _ (longer line rest)) in
    chosen _ _ _ _ _ inside front back
  where
    rest_after : (line rest : List ℕ) → drop (length line + 1) (line ++ 10 ∷ rest) ≡ rest
    rest_after [] rest = refl
    rest_after (b ∷ line) rest = rw add-one (ap (λ n. drop n (line ++ 10 ∷ rest)) (sym add-one-plain) ∙ rest_after line rest)
      where
        add-one-plain : length line + 1 ≡ suc (length line)
        add-one-plain = omega arith

    longer : (line rest : List ℕ) → length line < length (line ++ 10 ∷ rest)
    longer [] rest = omega arith
    longer (b ∷ line) rest = let more = longer line rest in omega arith

    chosen : (b : Bool) (x y line rest : List ℕ) → b ≡ true → x ≡ line → y ≡ rest → (let r : Result (List ℕ × List ℕ) MetaFault = if b then Ok (x, y) else Err (Bad number) in r ≡ Ok (line, rest))
    chosen b x y line rest hb hx hy = rw (hb, hx, hy) refl

pub line_found : (number : ℕ) (text : List ℕ) (x : List ℕ × List ℕ) → line_at number text ≡ Ok x → text ≡ x.0 ++ 10 ∷ x.1
line_found number text x h =
    let taken = test_true (ltb (position_or_len is_line_feed text) (length text)) (before_first is_line_feed text, after_first is_line_feed text) x (Bad number) h in
    let inside = ltb-true (position_or_len is_line_feed text) (length text) taken.0 in
    let feed : get_or text (position_or_len is_line_feed text) 0 ≡ 10 = eqb-true _ _ (passes_at_first is_line_feed text 0 inside) in
    split_at_first is_line_feed text 0 inside
    ∙ ap (λ (b : ℕ). before_first is_line_feed text ++ b ∷ after_first is_line_feed text) feed
    ∙ ap (λ (p : List ℕ × List ℕ). p.0 ++ 10 ∷ p.1) taken.1

-- ---- the value of a line

pub value_again : {A : Type 0} (value : List ℕ → Option A) (number : ℕ) (line rest : List ℕ) (x : A) → is_free_of 10 line ≡ true → value line ≡ Some x
    → value_at value number (line ++ 10 ∷ rest) ≡ Ok (x, rest)
value_again value number line rest x plain h = rw (line_again number line rest plain, h) refl

-- the parts of a value that was read: the line, what follows it, the value of the line, and the rest
pub record Found {A B : Type 0} (value : List ℕ → Option A) (text : List ℕ) (next : A → List ℕ → Result B MetaFault) (y : B) : Type 0 where
  pub line : List ℕ
  pub rest : List ℕ
  pub of : A
  pub parts : text ≡ line ++ 10 ∷ rest
  pub valued : value line ≡ Some of
  pub went_on : next of rest ≡ Ok y

pub value_found : {A B : Type 0} (value : List ℕ → Option A) (number : ℕ) (text : List ℕ) (next : A → List ℕ → Result B MetaFault) (y : B)
    → (value_at value number text >>= λ x. next x.0 x.1) ≡ Ok y → Found value text next y
value_found {A = A} value number text next y h = at (line_at number text) refl h
  where
    valued : (line rest : List ℕ) (o : Option A) → value line ≡ o → text ≡ line ++ 10 ∷ rest → (required_value o number rest >>= λ x. next x.0 x.1) ≡ Ok y → Found value text next y
    valued line rest None e parts h = absurd (cc h)
    valued line rest (Some x) e parts h = record { line = line; rest = rest; of = x; parts = parts; valued = e; went_on = h }

    at : (r : Result (List ℕ × List ℕ) MetaFault) → line_at number text ≡ r → (r >>= (λ x. required_value (value x.0) number x.1) >>= λ x. next x.0 x.1) ≡ Ok y → Found value text next y
    at (Err e) is h = absurd (cc h)
    at (Ok x) is h = valued x.0 x.1 (value x.0) refl (line_found number text x is) h

-- ---- the lines that a line feed ends

shorter : {X : Type 0} (x : X) (xs : List X) (k : ℕ) → length xs ≡ k + 1 → take (length (x ∷ xs) - 1) (x ∷ xs) ≡ x ∷ take (length xs - 1) xs
shorter x [] k h = absurd (omega arith)
shorter x (y ∷ ys) k h =
    let more : length (x ∷ y ∷ ys) - 1 ≡ suc (length ys) = omega arith in
    let less : length (y ∷ ys) - 1 ≡ length ys = omega arith in
    ap (λ (n : ℕ). take n (x ∷ y ∷ ys)) more ∙ sym (ap (λ (n : ℕ). x ∷ take n (y ∷ ys)) less)

pub ended_more : (text : List ℕ) → position_or_len is_line_feed text < length text → ended_lines text ≡ before_first is_line_feed text ∷ ended_lines (after_first is_line_feed text)
ended_more text inside =
    ap (λ (ps : List (List ℕ)). take (length ps - 1) ps) (slice_split_first is_line_feed text 0 inside)
    ∙ shorter (before_first is_line_feed text) (pieces_of (after_first is_line_feed text)) _ (length-slice_split is_line_feed (after_first is_line_feed text))

pub ended_none : (text : List ℕ) → length text ≤ position_or_len is_line_feed text → ended_lines text ≡ []
ended_none text outside =
    ap (λ (ps : List (List ℕ)). take (length ps - 1) ps) (slice_split_none is_line_feed text (λ k d lt. fails_before_first is_line_feed text k d (omega arith)))

-- ---- writing

-- the text of lines that values give
pub ended-map : {A : Type 0} (f : A → List ℕ) (xs : List A) → ended (map f xs) ≡ flat_map (λ x. f x ++ 10 ∷ []) xs
ended-map f [] = refl
ended-map f (x ∷ xs) = ap (λ l. f x ++ 10 ∷ l) (ended-map f xs) ∙ sym (append_assoc (f x) (10 ∷ []) (flat_map (λ x. f x ++ 10 ∷ []) xs))

-- a line that is written after others
pub ended-push : (lines : List (List ℕ)) (line old new : List ℕ) → old ≡ ended lines → new ≡ old ++ line ++ 10 ∷ [] → new ≡ ended (lines ++ line ∷ [])
ended-push lines line old new h e = e ∙ ap (λ (t : List ℕ). t ++ line ++ 10 ∷ []) h ∙ last lines
  where
    last : (lines : List (List ℕ)) → ended lines ++ line ++ 10 ∷ [] ≡ ended (lines ++ line ∷ [])
    last [] = refl
    last (first ∷ lines) =
        ap (λ (t : List ℕ). t ++ 10 ∷ []) (append_assoc first (10 ∷ ended lines) line)
        ∙ append_assoc first (10 ∷ (ended lines ++ line)) (10 ∷ [])
        ∙ ap (λ (t : List ℕ). first ++ 10 ∷ t) (last lines)
