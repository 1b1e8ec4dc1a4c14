-- Readers of a record's lines: each value found is in the text, each value in the text is found, and
-- reading stops at the first line at fault.
use Rattle.std.proofs.Common.{◌≡◌, ℕ, ◌+◌, ltb, List, [], ◌∷◌, ◌++◌, length, true, false, Option, Some, None, Result, Ok, Err, refl, sym, ap, ◌∙◌, subst, arith, inl, inr}
use Rattle.std.specs.List.{before_first, after_first, position_or_len}
use Rattle.std.proofs.lemmas.Bool.{cases_lt, lt-ltb, le-ltb}
use Rattle.std.proofs.lemmas.Option.{same_Some}
use Rattle.text_words.specs.Lines.{ended, is_line_feed}
use Rattle.text_words.proofs.PieceLemmas.{is_free_of}
use Rattle.protector_meta.specs.declared.fault.MetaFault.{MetaFault}
use Rattle.protector_meta.specs.declared.fault.MetaFault.TheVariants.{Bad, NoMemory}
use Rattle.protector_meta.specs.Reading.{◌>>=◌, required_value, value_at}
use Rattle.protector_meta.specs.RecordLines.{Begins, IsFirstBad, RecordTest, NamesFirstBadLine, ended_lines}
use Rattle.protector_meta.proofs.LineLaws.{ended_more, ended_none, value_again, value_found}

-- ---- the line at which reading stops

-- for lines from this place on: the fault names the first line with which no record continues, or that is
-- missing
pub record Stops (IsRest : RecordTest) (place : ℕ) (lines : List (List ℕ)) (e : MetaFault) : Type 0 where
  pub before : List (List ℕ)
  pub others : List (List ℕ)
  pub parts : lines ≡ before ++ others
  pub told : e ≡ Bad (place + length before)
  pub fit : Begins IsRest before
  pub unfit : (line : List ℕ) (more : List (List ℕ)) → others ≡ line ∷ more → Begins IsRest (before ++ line ∷ []) → ⊥

pub stops_alike : (A B : RecordTest) (place : ℕ) (lines : List (List ℕ)) (e : MetaFault) → ((ls : List (List ℕ)) → A ls → B ls) → ((ls : List (List ℕ)) → B ls → A ls)
    → Stops A place lines e → Stops B place lines e
stops_alike A B place lines e to from s = record {
  before = s.before;
  others = s.others;
  parts = s.parts;
  told = s.told;
  fit = (s.fit.0, to (s.before ++ s.fit.0) s.fit.1);
  unfit = λ line more is begun. s.unfit line more is (begun.0, from ((s.before ++ line ∷ []) ++ begun.0) begun.1);
}

-- at the first of the lines
pub stops_here : (IsRest : RecordTest) (place : ℕ) (lines : List (List ℕ)) (e : MetaFault) → e ≡ Bad place → Begins IsRest []
    → ((line : List ℕ) (more : List (List ℕ)) → lines ≡ line ∷ more → Begins IsRest (line ∷ []) → ⊥) → Stops IsRest place lines e
stops_here IsRest place lines e is some unfit =
    let first : place ≡ place + 0 = omega arith in
    record { before = []; others = lines; parts = refl; told = is ∙ ap Bad first; fit = some; unfit = unfit }

-- the same after the first of the lines
pub stops_behind : (A B : RecordTest) (line : List ℕ) (lines : List (List ℕ)) (place : ℕ) (e : MetaFault)
    → ((ls : List (List ℕ)) → B ls → A (line ∷ ls)) → ((ls : List (List ℕ)) → A (line ∷ ls) → B ls) → Stops B (place + 1) lines e → Stops A place (line ∷ lines) e
stops_behind A B line lines place e to from s =
    let counted : place + 1 + length s.before ≡ place + length (line ∷ s.before) = omega arith in
    record {
      before = line ∷ s.before;
      others = s.others;
      parts = ap (λ ls. line ∷ ls) s.parts;
      told = s.told ∙ ap Bad counted;
      fit = (s.fit.0, to (s.before ++ s.fit.0) s.fit.1);
      unfit = λ l more is begun. s.unfit l more is (begun.0, from ((s.before ++ l ∷ []) ++ begun.0) begun.1);
    }

-- as a caller sees it
pub stops_told : (IsRecord : RecordTest) (text : List ℕ) (e : MetaFault) → Stops IsRecord 1 (ended_lines text) e → NamesFirstBadLine IsRecord text e
stops_told IsRecord text (Bad place) s =
    let is : place ≡ 1 + length s.before = cc s.told in
    record { before = s.before; others = s.others; parts = s.parts; counted = omega arith; fit = s.fit; unfit = s.unfit }
stops_told IsRecord text NoMemory s = cc s.told

-- a text has one first line at fault: which lines begin a record determines the lines before it
same_length : (IsRest : RecordTest) (xs others ys more : List (List ℕ)) → xs ++ others ≡ ys ++ more → Begins IsRest xs → Begins IsRest ys
    → ((line : List ℕ) (ls : List (List ℕ)) → others ≡ line ∷ ls → Begins IsRest (xs ++ line ∷ []) → ⊥)
    → ((line : List ℕ) (ls : List (List ℕ)) → more ≡ line ∷ ls → Begins IsRest (ys ++ line ∷ []) → ⊥) → length xs ≡ length ys
same_length IsRest [] others [] more same fit_xs fit_ys unfit_xs unfit_ys = refl
same_length IsRest [] others (y ∷ ys) more same fit_xs fit_ys unfit_xs unfit_ys = absurd (unfit_xs y (ys ++ more) same (ys ++ fit_ys.0, fit_ys.1))
same_length IsRest (x ∷ xs) others [] more same fit_xs fit_ys unfit_xs unfit_ys = absurd (unfit_ys x (xs ++ others) (sym same) (xs ++ fit_xs.0, fit_xs.1))
same_length IsRest (x ∷ xs) others (y ∷ ys) more same fit_xs fit_ys unfit_xs unfit_ys =
    let first : y ≡ x = cc same in
    let rest : xs ++ others ≡ ys ++ more = cc same in
    let as_x = λ (ls : List (List ℕ)) (is : IsRest (y ∷ ls)). subst (λ l. IsRest (l ∷ ls)) first is in
    let as_y = λ (ls : List (List ℕ)) (is : IsRest (x ∷ ls)). subst (λ l. IsRest (l ∷ ls)) (sym first) is in
    let shorter : length xs ≡ length ys =
    same_length (λ ls. IsRest (x ∷ ls)) xs others ys more rest fit_xs (fit_ys.0, as_x (ys ++ fit_ys.0) fit_ys.1) unfit_xs
    (λ line ls is begun. unfit_ys line ls is (begun.0, as_y ((ys ++ line ∷ []) ++ begun.0) begun.1)) in
    omega arith

pub only_one : (IsRecord : RecordTest) (text : List ℕ) (e : MetaFault) (place : ℕ) → NamesFirstBadLine IsRecord text e → IsFirstBad IsRecord text place → e ≡ Bad place
only_one IsRecord text (Bad n) place a b =
    let long = same_length IsRecord a.before a.others b.before b.others (sym a.parts ∙ b.parts) a.fit b.fit a.unfit b.unfit in
    let same : n ≡ place = omega (arith, a.counted, b.counted) in
    ap Bad same
only_one IsRecord text NoMemory place a b = absurd a

-- ---- readers

-- a reader of the part of a record from this place on; for each value it defines which lines that part
-- can be
pub record Reads {P : Type 0} (IsRest : P → RecordTest) (place : ℕ) (read : List ℕ → Result P MetaFault) : Type 0 where
  pub some : (p : P) × ((lines : List (List ℕ)) × IsRest p lines)
  pub found : (text : List ℕ) (p : P) → read text ≡ Ok p → (lines : List (List ℕ)) × ((text ≡ ended lines) × IsRest p lines)
  pub again : (p : P) (lines : List (List ℕ)) → IsRest p lines → read (ended lines) ≡ Ok p
  pub stops : (text : List ℕ) (e : MetaFault) → read text ≡ Err e → Stops (λ lines. (p : P) × IsRest p lines) place (ended_lines text) e

-- a line and its value: each value in form has one line, and each line with a value is that of the value
pub record Spells {A : Type 0} (value : List ℕ → Option A) (Is : A → Type 0) (line_of : A → List ℕ) : Type 0 where
  pub some : (x : A) × Is x
  pub found : (line : List ℕ) (x : A) → value line ≡ Some x → (line ≡ line_of x) × Is x
  pub again : (x : A) → Is x → value (line_of x) ≡ Some x
  pub free : (x : A) → Is x → is_free_of 10 (line_of x) ≡ true

-- the line of a value in form, and the lines that follow it for that value
abbrev pub Then : {A P : Type 0} → (A → Type 0) → (A → List ℕ) → (A → P → RecordTest) → P → RecordTest
Then {A = A} Is line_of IsRest p lines = (x : A) × ((rest : List (List ℕ)) × ((lines ≡ line_of x ∷ rest) × (Is x × IsRest x p rest)))

module _ {A P : Type 0} {value : List ℕ → Option A} {Is : A → Type 0} {line_of : A → List ℕ} {IsRest : A → P → RecordTest} {next : A → List ℕ → Result P MetaFault} (place : ℕ)
    (spells : Spells value Is line_of) (reads : (x : A) → Reads (IsRest x) (place + 1) (next x)) where
  abbrev read : List ℕ → Result P MetaFault
  read text = value_at value place text >>= λ x. next x.0 x.1

  abbrev IsAny : RecordTest
  IsAny lines = (p : P) × Then Is line_of IsRest p lines

  some : (p : P) × ((lines : List (List ℕ)) × Then Is line_of IsRest p lines)
  some =
      let x = spells.some.0 in
      let more = (reads x).some in
      (more.0, (line_of x ∷ more.1.0, (x, (more.1.0, (refl, (spells.some.1, more.1.1))))))

  begun : Begins IsAny []
  begun = (some.1.0, (some.0, some.1.1))

  found : (text : List ℕ) (p : P) → read text ≡ Ok p → (lines : List (List ℕ)) × ((text ≡ ended lines) × Then Is line_of IsRest p lines)
  found text p h =
      let f = value_found value place text next p h in
      let line = spells.found f.line f.of f.valued in
      let more = (reads f.of).found f.rest p f.went_on in (
        line_of f.of ∷ more.0,
        (
          f.parts ∙ ap (λ l. l ++ 10 ∷ f.rest) line.0 ∙ ap (λ r. line_of f.of ++ 10 ∷ r) more.1.0,
          (f.of, (more.0, (refl, (line.1, more.1.1)))),
        ),
      )

  again : (p : P) (lines : List (List ℕ)) → Then Is line_of IsRest p lines → read (ended lines) ≡ Ok p
  again p lines (x, (rest, (are, (is, goes_on)))) =
      ap (λ ls. read (ended ls)) are
      ∙ ap (λ (r : Result (A × List ℕ) MetaFault). r >>= λ x. next x.0 x.1) (value_again value place (line_of x) (ended rest) x (spells.free x is) (spells.again x is))
      ∙ (reads x).again p rest goes_on

  -- the value of a line with which a record continues
  valued_so : (line : List ℕ) (lines : List (List ℕ)) (x : A) (rest : List (List ℕ)) → line ∷ lines ≡ line_of x ∷ rest → Is x → value line ≡ Some x
  valued_so line lines x rest are is =
      let same : line ≡ line_of x = cc are in
      ap value same ∙ spells.again x is

  goes_on_so : (line : List ℕ) (lines : List (List ℕ)) (x : A) → value line ≡ Some x → IsAny (line ∷ lines) → (p : P) × IsRest x p lines
  goes_on_so line lines x valued (p, (y, (rest, (are, (is, goes_on))))) =
      let same : y ≡ x = same_Some y x (sym (valued_so line lines y rest are is) ∙ valued) in
      let rest_is : rest ≡ lines = cc are in
      (p, subst (λ z. IsRest z p lines) same (subst (IsRest y p) rest_is goes_on))

  refused : (line : List ℕ) (lines : List (List ℕ)) → value line ≡ None → IsAny (line ∷ lines) → ⊥
  refused line lines none (p, (x, (rest, (are, (is, goes_on))))) = absurd (cc (none, valued_so line lines x rest are is))

  valued : (line rest : List ℕ) (o : Option A) (e : MetaFault) → value line ≡ o → (required_value o place rest >>= λ x. next x.0 x.1) ≡ Err e
      → Stops IsAny place (line ∷ ended_lines rest) e
  valued line rest None e is h =
      stops_here IsAny place (line ∷ ended_lines rest) e (cc h) begun
      (λ l more same go_on. refused l go_on.0 (let first : l ≡ line = cc same in ap value first ∙ is) go_on.1)
  valued line rest (Some x) e is h =
      let told = spells.found line x is in
      stops_behind IsAny (λ lines. (p : P) × IsRest x p lines) line (ended_lines rest) place e
      (λ ls go_on. (go_on.0, (x, (ls, (ap (λ l. l ∷ ls) told.0, (told.1, go_on.1))))))
      (λ ls. goes_on_so line ls x is)
      ((reads x).stops rest e h)

  stops : (text : List ℕ) (e : MetaFault) → read text ≡ Err e → Stops IsAny place (ended_lines text) e
  stops text e h =
      elim (cases_lt (position_or_len is_line_feed text) (length text)) [
        | inl inside ↦
            let ended : ltb (position_or_len is_line_feed text) (length text) ≡ true = lt-ltb _ _ inside in
            rw (ended_more text inside) (valued (before_first is_line_feed text) (after_first is_line_feed text) (value (before_first is_line_feed text)) e refl (rw ended at h))
        | inr outside ↦
            let open_end : ltb (position_or_len is_line_feed text) (length text) ≡ false = le-ltb _ _ outside in
            rw (ended_none text outside) (stops_here IsAny place [] e (cc (rw open_end at h)) begun (λ l more same. absurd (cc same)))
      ]

  pub line_then : Reads (Then Is line_of IsRest) place read
  line_then = record { some = some; found = found; again = again; stops = stops }

-- ---- whole records

-- a reader of whole records, if the lines of each step are those of the records of values in form
module _ {P : Type 0} {IsWhole : P → RecordTest} {read : List ℕ → Result P MetaFault} {IsValue : P → Type 0} {lines_of : P → List (List ℕ)} (reads : Reads IsWhole 1 read)
    (told : (p : P) (lines : List (List ℕ)) → IsWhole p lines → IsValue p × (lines ≡ lines_of p)) (whole : (p : P) → IsValue p → IsWhole p (lines_of p)) where
  pub record_found : (text : List ℕ) (p : P) → read text ≡ Ok p → IsValue p × (text ≡ ended (lines_of p))
  record_found text p h =
      let found = reads.found text p h in
      let is = told p found.0 found.1.1 in
      (is.0, found.1.0 ∙ ap ended is.1)

  pub record_again : (p : P) → IsValue p → read (ended (lines_of p)) ≡ Ok p
  record_again p is = reads.again p (lines_of p) (whole p is)

  pub record_bad : (text : List ℕ) (e : MetaFault) → read text ≡ Err e → NamesFirstBadLine (λ lines. (p : P) × (IsValue p × (lines ≡ lines_of p))) text e
  record_bad text e h =
      let IsRecord : RecordTest = λ lines. (p : P) × (IsValue p × (lines ≡ lines_of p)) in
      stops_told IsRecord text e (stops_alike (λ lines. (p : P) × IsWhole p lines) IsRecord 1 (ended_lines text) e
      (λ ls any. (any.0, told any.0 ls any.1))
      (λ ls any. (any.0, subst (IsWhole any.0) (sym any.1.1) (whole any.0 any.1.0)))
      (reads.stops text e h))
