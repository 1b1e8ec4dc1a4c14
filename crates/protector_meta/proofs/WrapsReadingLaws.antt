-- Reading the wraps, one line after another.
use Rattle.std.proofs.Common.{◌≡◌, ℕ, suc, ◌+◌, ◌-◌, ◌<◌, ◌≤◌, ◌==◌, Bool, true, false, ◌&&◌, List, [], ◌∷◌, ◌++◌, length, take, map, Option, Some, None, Result, Ok, Err, refl, sym, ap, ◌∙◌, subst, lit≤, arith, append_assoc, append-nil, length-append, ◌⊎◌, inl, inr}
use Rattle.std.specs.Prelude.{nat_lt, nat_le, is_none, if◌then◌else◌}
use Rattle.std.specs.List.{AllByRecursion}
use Rattle.std.specs.Option.{ok_or}
use Rattle.std.proofs.lemmas.Bool.{and_parts, cases_Bool, cond-true, cond-false, eqb-true, lt-ltb, or_parts, or_from, lt-leb, ltb-true, leb-false}
use Rattle.std.proofs.lemmas.Cmp.{nat_list_eq_equiv}
use Rattle.std.proofs.lemmas.List.{nil_from_length}
use Rattle.std.proofs.lemmas.Option.{same_Some}
use Rattle.std.proofs.lemmas.List.Folds.{list_any-append}
use Rattle.text_words.specs.Lines.{pieces_of}
use Rattle.protector_meta.specs.declared.fault.MetaFault.{MetaFault}
use Rattle.protector_meta.specs.declared.fault.MetaFault.TheVariants.{Bad, NoMemory}
use Rattle.protector_meta.specs.declared.wraps.Wrap.{Wrap}
use Rattle.protector_meta.specs.Wraps.{AreDistinct, AreWraps, adding_fault, is_for, is_listed}
use Rattle.protector_meta.specs.Reading.{◌>>=◌}
use Rattle.protector_meta.specs.RecordLines.{Begins, RecordTest}
use Rattle.protector_meta.specs.PolicyText.{wrap_line}
use Rattle.protector_meta.specs.PolicyRecords.{IsWrap}
use Rattle.protector_meta.specs.WrapLines.{next_wrap, wrap_value}
use Rattle.protector_meta.specs.PolicyReading.{GivesInMemory, wraps_from}
use Rattle.text_words.proofs.PieceLemmas.{first_piece}
use Rattle.protector_meta.proofs.Readers.{Stops, stops_behind, stops_here}
use Rattle.protector_meta.proofs.WrapLemmas.{AreDistinct-push}
use Rattle.protector_meta.proofs.WrapLineLaws.{wrap_spelled, zero_wrap, zero_wrap_is}

-- ---- one step

pub at_line : (number : ℕ) (wraps : List Wrap) (text line rest : List ℕ) → pieces_of text ≡ line ∷ pieces_of rest
    → wraps_from number wraps (pieces_of text) ≡ (ok_or (next_wrap wraps line) (Bad number) >>= λ wrap. wraps_from (number + 1) (wraps ++ wrap ∷ []) (pieces_of rest))
unfolding wraps_from
at_line number wraps text line rest cut =
    let p = first_piece rest in
    rw (cut, p.1.1) refl

pub at_wrap : (number next : ℕ) (wraps after : List Wrap) (wrap : Wrap) (text line rest : List ℕ) → pieces_of text ≡ line ∷ pieces_of rest
    → next_wrap wraps line ≡ Some wrap → after ≡ wraps ++ wrap ∷ [] → next ≡ number + 1
    → wraps_from number wraps (pieces_of text) ≡ wraps_from next after (pieces_of rest)
at_wrap number next wraps after wrap text line rest cut is pushed counted =
    at_line number wraps text line rest cut ∙ rw (is, pushed, counted) refl

pub at_fault : (number : ℕ) (wraps : List Wrap) (text line rest : List ℕ) → pieces_of text ≡ line ∷ pieces_of rest
    → next_wrap wraps line ≡ None → wraps_from number wraps (pieces_of text) ≡ Err (Bad number)
at_fault number wraps text line rest cut none = at_line number wraps text line rest cut ∙ rw none refl

-- a text in which no line ends
pub at_piece : (number : ℕ) (wraps : List Wrap) (text piece : List ℕ) → pieces_of text ≡ piece ∷ []
    → ((length piece == 0) && nat_lt 0 (length wraps)) ≡ false → wraps_from number wraps (pieces_of text) ≡ Err (Bad number)
unfolding wraps_from
at_piece number wraps text piece cut unended =
    ap (wraps_from number wraps) cut ∙ cond-false ((length piece == 0) && nat_lt 0 (length wraps)) (Ok wraps) (Err (Bad number)) unended

pub at_end : (number : ℕ) (wraps : List Wrap) → 0 < length wraps → wraps_from number wraps ([] ∷ []) ≡ Ok wraps
unfolding wraps_from
at_end number wraps some = cond-true (nat_lt 0 (length wraps)) (Ok wraps) (Err (Bad number)) (lt-ltb 0 (length wraps) some)

-- the next wrap is that of the line
pub of_line : (wraps : List Wrap) (line : List ℕ) (wrap : Wrap) → next_wrap wraps line ≡ Some wrap → wrap_value line ≡ Some wrap
of_line wraps line wrap h = go (wrap_value line) refl
  where
    go : (o : Option Wrap) → wrap_value line ≡ o → wrap_value line ≡ Some wrap
    go None e = absurd (cc (rw e at h))
    go (Some w) e =
        elim (cases_Bool (is_none (adding_fault w.protector wraps))) [
          | inl fits ↦ e ∙ (sym (cond-true (is_none (adding_fault w.protector wraps)) (Some w) None fits) ∙ (rw e at h))
          | inr unfit ↦ absurd (cc (sym (cond-false (is_none (adding_fault w.protector wraps)) (Some w) None unfit) ∙ (rw e at h)))
        ]

-- any wrap can be the first
pub first_next : (line : List ℕ) → next_wrap [] line ≡ wrap_value line
first_next line = go (wrap_value line) refl
  where
    go : (o : Option Wrap) → wrap_value line ≡ o → next_wrap [] line ≡ wrap_value line
    go None e = rw e refl
    go (Some w) e = rw e refl

pub taken : (wraps : List Wrap) (line : List ℕ) (wrap : Wrap) → wrap_value line ≡ Some wrap → is_listed wrap.protector wraps ≡ false → length wraps < 16
    → next_wrap wraps line ≡ Some wrap
taken wraps line wrap is new room =
    let below : nat_le 16 (length wraps) ≡ false = lt-leb 16 (length wraps) room in
    rw (is, new, below) refl

-- the next wrap finds a free slot
wrap_space : (wraps : List Wrap) (line : List ℕ) (wrap : Wrap) → next_wrap wraps line ≡ Some wrap → (is_listed wrap.protector wraps ≡ false) × (length wraps < 16)
wrap_space wraps line wrap h = go (is_listed wrap.protector wraps) (nat_le 16 (length wraps)) refl refl
  where
    told : (if is_none (adding_fault wrap.protector wraps) then Some wrap else None) ≡ Some wrap
    told = rw (of_line wraps line wrap h) at h

    go : (listed full : Bool) → is_listed wrap.protector wraps ≡ listed → nat_le 16 (length wraps) ≡ full → (is_listed wrap.protector wraps ≡ false) × (length wraps < 16)
    go false false e f = (e, leb-false 16 (length wraps) f)
    go true full e f = absurd (cc (rw e at told))
    go false true e f = absurd (cc (rw (e, f) at told))

-- the last piece, after which no line ends
last_piece : (number : ℕ) (wraps : List Wrap) (last : List ℕ) (r : Result (List Wrap) MetaFault) → wraps_from number wraps (last ∷ []) ≡ r
    → ((r ≡ Ok wraps) × ((last ≡ []) × (0 < length wraps))) ⊎ (r ≡ Err (Bad number))
unfolding wraps_from
last_piece number wraps last r h =
    elim (cases_Bool ((length last == 0) && nat_lt 0 (length wraps))) [
      | inl ended ↦
          let parts = and_parts (length last == 0) (nat_lt 0 (length wraps)) ended in
          inl (
            sym h ∙ cond-true ((length last == 0) && nat_lt 0 (length wraps)) (Ok wraps) (Err (Bad number)) ended,
            (nil_from_length last (eqb-true (length last) 0 parts.0), ltb-true 0 (length wraps) parts.1),
          )
      | inr unended ↦ inr (sym h ∙ cond-false ((length last == 0) && nat_lt 0 (length wraps)) (Ok wraps) (Err (Bad number)) unended)
    ]

-- ---- each wrap that was read is in the text

-- the result is the wraps of the lines after the earlier ones, and they are 1 to 16 for different
-- protectors
pub wraps_found : (number : ℕ) (wraps : List Wrap) (pieces : List (List ℕ)) (all : List Wrap) → AreDistinct wraps → length wraps ≤ 16 → wraps_from number wraps pieces ≡ Ok all
    → (more : List Wrap) × ((all ≡ wraps ++ more) × ((pieces ≡ map wrap_line more ++ [] ∷ []) × (AreWraps (wraps ++ more) × AllByRecursion IsWrap more)))
unfolding wraps_from
wraps_found number wraps [] all distinct few h = absurd (cc h)
wraps_found number wraps (last ∷ []) all distinct few h =
    elim (last_piece number wraps last (Ok all) h) [
      | inl whole ↦
          let all_are : all ≡ wraps = cc whole.0 in
          let kept : AreWraps wraps = record { some = omega (arith, whole.1.1); few = few; distinct = distinct } in
          let same : wraps ≡ wraps ++ [] = sym (append-nil wraps) in
          ([], (all_are ∙ same, (ap (λ l. l ∷ []) whole.1.0, (subst AreWraps same kept, tt))))
      | inr fault ↦ absurd (cc fault)
    ]
wraps_found number wraps (line ∷ next ∷ more) all distinct few h =
    go (next_wrap wraps line) refl (λ wrap. wraps_found (number + 1) (wraps ++ wrap ∷ []) (next ∷ more) all)
  where
    go : (o : Option Wrap) → next_wrap wraps line ≡ o
        → ((wrap : Wrap) → AreDistinct (wraps ++ wrap ∷ []) → length (wraps ++ wrap ∷ []) ≤ 16 → wraps_from (number + 1) (wraps ++ wrap ∷ []) (next ∷ more) ≡ Ok all
        → (rest : List Wrap) × ((all ≡ (wraps ++ wrap ∷ []) ++ rest) × ((next ∷ more ≡ map wrap_line rest ++ [] ∷ []) × (AreWraps ((wraps ++ wrap ∷ []) ++ rest) × AllByRecursion IsWrap rest))))
        → (rest : List Wrap) × ((all ≡ wraps ++ rest) × ((line ∷ next ∷ more ≡ map wrap_line rest ++ [] ∷ []) × (AreWraps (wraps ++ rest) × AllByRecursion IsWrap rest)))
    go None e later = absurd (cc (rw e at h))
    go (Some wrap) e later =
        let room = wrap_space wraps line wrap e in
        let found = later wrap (AreDistinct-push wraps wrap distinct room.0) (omega (arith, length-append wraps (wrap ∷ []), room.1)) (rw e at h) in
        let told = wrap_spelled.found line wrap (of_line wraps line wrap e) in
        let same : (wraps ++ wrap ∷ []) ++ found.0 ≡ wraps ++ wrap ∷ found.0 = append_assoc wraps (wrap ∷ []) found.0 in (
          wrap ∷ found.0,
          (
            found.1.0 ∙ same,
            (
              ap (λ l. line ∷ l) found.1.1.0 ∙ ap (λ l. l ∷ (map wrap_line found.0 ++ [] ∷ [])) told.0,
              (subst AreWraps same found.1.1.1.0, (told.1, found.1.1.1.1)),
            ),
          ),
        )

-- ---- each wrap in the text is read

at_pieces : (number : ℕ) (wraps : List Wrap) (line : List ℕ) (pieces : List (List ℕ)) → 0 < length pieces
    → wraps_from number wraps (line ∷ pieces) ≡ (ok_or (next_wrap wraps line) (Bad number) >>= λ wrap. wraps_from (number + 1) (wraps ++ wrap ∷ []) pieces)
unfolding wraps_from
at_pieces number wraps line [] some = absurd (omega arith)
at_pieces number wraps line (next ∷ more) some = refl

not_before : (earlier : List Wrap) (w : Wrap) (later : List Wrap) → AreDistinct (earlier ++ w ∷ later) → is_listed w.protector earlier ≡ false
not_before [] w later distinct = refl
not_before (x ∷ earlier) w later distinct =
    let rest_after = or_parts (is_listed x.protector earlier) (is_listed x.protector (w ∷ later)) (sym (list_any-append (is_for x.protector) earlier (w ∷ later)) ∙ distinct.0) in
    let apart = or_parts (is_for x.protector w) (is_listed x.protector later) rest_after.1 in
    or_from (is_for w.protector x) (is_listed w.protector earlier) (nat_list_eq_equiv.symm x.protector w.protector ∙ apart.0) (not_before earlier w later distinct.1)

pub wraps_again : (number : ℕ) (earlier more : List Wrap) → AreDistinct (earlier ++ more) → length (earlier ++ more) ≤ 16 → 0 < length (earlier ++ more)
    → AllByRecursion IsWrap more → wraps_from number earlier (map wrap_line more ++ [] ∷ []) ≡ Ok (earlier ++ more)
wraps_again number earlier [] distinct few some each =
    at_end number earlier (subst (λ l. 0 < length l) (append-nil earlier) some) ∙ ap Ok (sym (append-nil earlier))
wraps_again number earlier (w ∷ more) distinct few some each =
    let assoc : (earlier ++ w ∷ []) ++ more ≡ earlier ++ w ∷ more = append_assoc earlier (w ∷ []) more in
    let room : length earlier < 16 = omega (arith, length-append earlier (w ∷ more)) in
    let next = taken earlier (wrap_line w) w (wrap_spelled.again w each.0) (not_before earlier w more distinct) room in
    at_pieces number earlier (wrap_line w) (map wrap_line more ++ [] ∷ []) (omega (arith, length-append (map wrap_line more) ([] ∷ [])))
    ∙ rw next (wraps_again (number + 1) (earlier ++ w ∷ []) more (subst AreDistinct (sym assoc) distinct) (subst (λ l. length l ≤ 16) (sym assoc) few) (subst (λ l. 0 < length l) (sym assoc) some) each.1
    ∙ ap Ok assoc)

-- ---- the line at fault

-- lines of wraps that can follow these
abbrev pub AreMore : List Wrap → RecordTest
AreMore wraps lines = (more : List Wrap) × ((lines ≡ map wrap_line more) × (AreWraps (wraps ++ more) × AllByRecursion IsWrap more))

pub zero_wrap_alone : AreWraps (zero_wrap ∷ [])
zero_wrap_alone = record { some = lit≤ tt; few = lit≤ tt; distinct = (refl, tt) }

begun : (wraps : List Wrap) → AreDistinct wraps → length wraps ≤ 16 → Begins (AreMore wraps) []
begun [] distinct few = (wrap_line zero_wrap ∷ [], (zero_wrap ∷ [], (refl, (zero_wrap_alone, (zero_wrap_is, tt)))))
begun (w ∷ wraps) distinct few =
    let kept : AreWraps (w ∷ wraps) = record { some = omega arith; few = few; distinct = distinct } in
    ([], ([], (refl, (subst AreWraps (sym (append-nil (w ∷ wraps))) kept, tt))))

-- a line with which lines of wraps continue spells the next wrap
next_so : (wraps : List Wrap) (line : List ℕ) (lines : List (List ℕ)) → AreMore wraps (line ∷ lines)
    → (wrap : Wrap) × ((next_wrap wraps line ≡ Some wrap) × AreMore (wraps ++ wrap ∷ []) lines)
next_so wraps line lines ([], (are, more)) = absurd (cc are)
next_so wraps line lines (w ∷ later, (are, (kept, each))) =
    let first : line ≡ wrap_line w = cc are in
    let rest : lines ≡ map wrap_line later = cc are in
    let room : length wraps < 16 = omega (arith, length-append wraps (w ∷ later), kept.few) in (
      w,
      (
        taken wraps line w (ap wrap_value first ∙ wrap_spelled.again w each.0) (not_before wraps w later kept.distinct) room,
        (later, (rest, (subst AreWraps (sym (append_assoc wraps (w ∷ []) later)) kept, each.1))),
      ),
    )

pub wraps_stop : (number : ℕ) (wraps : List Wrap) (pieces : List (List ℕ)) (e : MetaFault) → AreDistinct wraps → length wraps ≤ 16
    → wraps_from number wraps pieces ≡ Err e → Stops (AreMore wraps) number (take (length pieces - 1) pieces) e
unfolding wraps_from
wraps_stop number wraps [] e distinct few h = stops_here (AreMore wraps) number [] e (cc h) (begun wraps distinct few) (λ line more is. absurd (cc is))
wraps_stop number wraps (last ∷ []) e distinct few h =
    elim (last_piece number wraps last (Err e) h) [
      | inl whole ↦ absurd (cc whole.0)
      | inr fault ↦ stops_here (AreMore wraps) number [] e (cc fault) (begun wraps distinct few) (λ line more same. absurd (cc same))
    ]
wraps_stop number wraps (line ∷ next ∷ more) e distinct few h =
    let shorter : length (line ∷ next ∷ more) - 1 ≡ suc (length (next ∷ more) - 1) = omega arith in
    rw shorter (go (next_wrap wraps line) refl (λ wrap. wraps_stop (number + 1) (wraps ++ wrap ∷ []) (next ∷ more) e))
  where
    rest : List (List ℕ)
    rest = take (length (next ∷ more) - 1) (next ∷ more)

    go : (o : Option Wrap) → next_wrap wraps line ≡ o
        → ((wrap : Wrap) → AreDistinct (wraps ++ wrap ∷ []) → length (wraps ++ wrap ∷ []) ≤ 16 → wraps_from (number + 1) (wraps ++ wrap ∷ []) (next ∷ more) ≡ Err e
        → Stops (AreMore (wraps ++ wrap ∷ [])) (number + 1) (take (length (next ∷ more) - 1) (next ∷ more)) e)
        → Stops (AreMore wraps) number (line ∷ take (length (next ∷ more) - 1) (next ∷ more)) e
    go None is later =
        stops_here (AreMore wraps) number (line ∷ rest) e (cc (rw is at h)) (begun wraps distinct few)
        (λ l others same go_on.
        let first : line ≡ l = cc same in
        absurd (cc (is, ap (next_wrap wraps) first, (next_so wraps l go_on.0 go_on.1).1.0)))
    go (Some wrap) is later =
        let room = wrap_space wraps line wrap is in
        let told = wrap_spelled.found line wrap (of_line wraps line wrap is) in
        stops_behind (AreMore wraps) (AreMore (wraps ++ wrap ∷ [])) line rest number e
        (λ ls go_on. (wrap ∷ go_on.0, (ap (λ l. l ∷ ls) told.0 ∙ ap (λ r. wrap_line wrap ∷ r) go_on.1.0, (subst AreWraps (append_assoc wraps (wrap ∷ []) go_on.0) go_on.1.1.0, (told.1, go_on.1.1.1)))))
        (λ ls go_on.
        let on = next_so wraps line ls go_on in
        let same : on.0 ≡ wrap = same_Some on.0 wrap (sym on.1.0 ∙ is) in
        subst (λ w. AreMore (wraps ++ w ∷ []) ls) same on.1.1)
        (later wrap (AreDistinct-push wraps wrap distinct room.0) (omega (arith, length-append wraps (wrap ∷ []), room.1)) (rw is at h))

-- ---- as the code sees it

pub refused_by : (fault : MetaFault) (number : ℕ) (read : Result (List Wrap) MetaFault)
    → (fault ≡ NoMemory) ⊎ ((fault ≡ Bad number) × (read ≡ Err (Bad number))) → GivesInMemory (λ wraps. wraps) (Err fault) read
refused_by fault number read (inl none) = rw none tt
refused_by fault number read (inr (bad, is)) = rw bad is

pub at_empty : (number : ℕ) (wraps : List Wrap) (rest : List ℕ) → 0 < length wraps → (length rest == 0) ≡ true → wraps_from number wraps (pieces_of rest) ≡ Ok wraps
at_empty number wraps rest some none =
    ap (λ l. wraps_from number wraps (pieces_of l)) (nil_from_length rest (eqb-true (length rest) 0 none)) ∙ at_end number wraps some
