-- A policy's record is read as the policy, no other text is read, and a fault names the first line at
-- fault.
use Rattle.std.proofs.Common.{◌≡◌, ℕ, Bool, true, false, List, [], ◌∷◌, ◌++◌, map, Option, Some, None, Result, Ok, Err, IfOk, IfErr, refl, sym, ap, ◌∙◌, subst, ◌⊎◌, inl, inr, lit≤, append_assoc}
use Rattle.std.specs.Prelude.{codes, if◌then◌else◌}
use Rattle.std.specs.List.{AllByRecursion, flat_map}
use Rattle.std.specs.Str.{bytes_eq}
use Rattle.std.specs.Cmp.Lexicographic.{same_text}
use Rattle.std.proofs.lemmas.List.Elements.{All-from_recursion, recursion_from_All}
use Rattle.std.proofs.lemmas.Option.{same_Some}
use Rattle.hex.specs.Hex.{encode_lower}
use Rattle.text_words.specs.Lines.{pieces_of, ended}
use Rattle.short_bytes.specs.Label.{IsLabel}
use Rattle.protector_meta.specs.declared.fault.MetaFault.{MetaFault}
use Rattle.protector_meta.specs.declared.fault.MetaFault.TheVariants.{Bad, NoMemory}
use Rattle.protector_meta.specs.declared.wraps.Wrap.{Wrap}
use Rattle.protector_meta.specs.declared.policy_file.Options.{Options}
use Rattle.protector_meta.specs.declared.policy_file.PolicyFile.{PolicyFile}
use Rattle.protector_meta.specs.Wraps.{AreWraps}
use Rattle.protector_meta.specs.Reading.{◌>>=◌}
use Rattle.protector_meta.specs.RecordLines.{IsFirstBad, RecordTest, NamesFirstBadLine, ended_lines}
use Rattle.byte_words.specs.Bytes.{AreBytesOfLength}
use Rattle.protector_meta.specs.PolicyText.{option_lines, options_line, policy_lines, policy_text, version_line, wrap_line}
use Rattle.protector_meta.specs.PolicyRecords.{IsPolicyFile, IsPolicyRecord, IsWrap}
use Rattle.protector_meta.specs.PolicyLines.{head_value}
use Rattle.protector_meta.specs.PolicyReading.{GivesInMemory, after_id, policy_read, with_wraps, wraps_from}
use Rattle.text_words.proofs.PieceLemmas.{AreLines, ended-append, ended-from_pieces, is_free_of, pieces_of-ended}
use Rattle.protector_meta.proofs.LineLaws.{ended-map, ended-push}
use Rattle.protector_meta.proofs.Readers.{Reads, Spells, Stops, Then, line_then, only_one, record_again, record_bad, record_found, stops_alike}
use Rattle.protector_meta.proofs.SharedLines.{digits_spelled, name_spelled}
use Rattle.protector_meta.proofs.OptionsLaws.{options_spelled}
use Rattle.protector_meta.proofs.WrapLineLaws.{wrap_spelled, zero_wrap, zero_wrap_is}
use Rattle.protector_meta.proofs.WrapsReadingLaws.{AreMore, wraps_again, wraps_found, wraps_stop, zero_wrap_alone}

abbrev made : List ℕ → List ℕ → Option Options → List Wrap → PolicyFile
made name id options wraps = record { name = name; id = record { 0 = id }; options = options; wraps = wraps }

-- ---- the lines before the wraps

abbrev head_of : Bool → List ℕ
head_of has = if has then codes "fsc-policy 2" else codes "fsc-policy 1"

head_found : (line : List ℕ) (has : Bool) → head_value line ≡ Some has → (line ≡ head_of has) × Unit {0}
head_found line has h = of (bytes_eq line (codes "fsc-policy 1")) (bytes_eq line (codes "fsc-policy 2")) refl refl
  where
    of : (one two : Bool) → bytes_eq line (codes "fsc-policy 1") ≡ one → bytes_eq line (codes "fsc-policy 2") ≡ two → (line ≡ head_of has) × Unit {0}
    of true two e f =
        let none : false ≡ has = same_Some false has (rw e at h) in
        (same_text line (codes "fsc-policy 1") (sym e) ∙ ap head_of none, tt)
    of false true e f =
        let some : true ≡ has = same_Some true has (rw (e, f) at h) in
        (same_text line (codes "fsc-policy 2") (sym f) ∙ ap head_of some, tt)
    of false false e f = absurd (cc (rw (e, f) at h))

head_again : (has : Bool) → Unit {0} → head_value (head_of has) ≡ Some has
head_again true _ = refl
head_again false _ = refl

head_is_free : (has : Bool) → Unit {0} → is_free_of 10 (head_of has) ≡ true
head_is_free true _ = refl
head_is_free false _ = refl

head_spelled : Spells head_value (λ has. Unit {0}) head_of
head_spelled = record { some = (false, tt); found = head_found; again = head_again; free = head_is_free }

-- ---- the wraps

wrap_lines_are_lines : (wraps : List Wrap) → AllByRecursion IsWrap wraps → AreLines (map wrap_line wraps)
wrap_lines_are_lines [] each = tt
wrap_lines_are_lines (w ∷ wraps) each = (wrap_spelled.free w each.0, wrap_lines_are_lines wraps each.1)

-- the lines of the policy's wraps, given what the lines before them spell
abbrev IsTail : List ℕ → List ℕ → Option Options → PolicyFile → RecordTest
IsTail name id options p lines =
    (wraps : List Wrap) × ((made name id options wraps ≡ p) × ((lines ≡ map wrap_line wraps) × (AreWraps wraps × AllByRecursion IsWrap wraps)))

module _ (name id : List ℕ) (options : Option Options) (first : ℕ) where
  abbrev made_of : Result (List Wrap) MetaFault → Result PolicyFile MetaFault
  made_of r = r >>= λ wraps. let p : PolicyFile = made name id options wraps in Ok p

  tail_found : (text : List ℕ) (p : PolicyFile) → with_wraps name id options first text ≡ Ok p → (lines : List (List ℕ)) × ((text ≡ ended lines) × IsTail name id options p lines)
  tail_found text p h = go (wraps_from first [] (pieces_of text)) refl
    where
      go : (r : Result (List Wrap) MetaFault) → wraps_from first [] (pieces_of text) ≡ r → (lines : List (List ℕ)) × ((text ≡ ended lines) × IsTail name id options p lines)
      go (Err e) is = absurd (cc (rw is at h))
      go (Ok wraps) is =
          let same : (let r : Result PolicyFile MetaFault = Ok (made name id options wraps) in r ≡ Ok p) = rw is at h in
          let found = wraps_found first [] (pieces_of text) wraps tt (lit≤ tt) is in (
            map wrap_line found.0,
            (
              ended-from_pieces text (map wrap_line found.0) found.1.1.0,
              (found.0, (ap (made name id options) (sym found.1.0) ∙ cc same, (refl, found.1.1.1))),
            ),
          )

  tail_again : (p : PolicyFile) (lines : List (List ℕ)) → IsTail name id options p lines → with_wraps name id options first (ended lines) ≡ Ok p
  tail_again p lines (wraps, (same, (are, (kept, each)))) =
      ap (λ ls. with_wraps name id options first (ended ls)) are
      ∙ ap (λ ps. made_of (wraps_from first [] ps)) (pieces_of-ended (map wrap_line wraps) (wrap_lines_are_lines wraps each))
      ∙ ap made_of (wraps_again first [] wraps kept.distinct kept.few kept.some each)
      ∙ ap Ok same

  tail_stops : (text : List ℕ) (e : MetaFault) → with_wraps name id options first text ≡ Err e
      → Stops (λ lines. (p : PolicyFile) × IsTail name id options p lines) first (ended_lines text) e
  tail_stops text e h = go (wraps_from first [] (pieces_of text)) refl
    where
      go : (r : Result (List Wrap) MetaFault) → wraps_from first [] (pieces_of text) ≡ r
          → Stops (λ lines. (p : PolicyFile) × IsTail name id options p lines) first (ended_lines text) e
      go (Ok wraps) is = absurd (cc (rw is at h))
      go (Err fault) is =
          let told : (let r : Result PolicyFile MetaFault = Err fault in r ≡ Err e) = rw is at h in
          let same : fault ≡ e = cc told in
          stops_alike (AreMore []) (λ lines. (p : PolicyFile) × IsTail name id options p lines) first (ended_lines text) e
          (λ ls more. (made name id options more.0, (more.0, (refl, more.1))))
          (λ ls any. (any.1.0, any.1.1.1))
          (wraps_stop first [] (pieces_of text) e tt (lit≤ tt) (is ∙ ap Err same))

  tail_reads : Reads (IsTail name id options) first (with_wraps name id options first)
  tail_reads = record {
    some = (made name id options (zero_wrap ∷ []), (wrap_line zero_wrap ∷ [], (zero_wrap ∷ [], (refl, (refl, (zero_wrap_alone, (zero_wrap_is, tt)))))));
    found = tail_found;
    again = tail_again;
    stops = tail_stops;
  }

-- ---- the lines of a record, one after another

abbrev IsBehind : Bool → List ℕ → List ℕ → PolicyFile → RecordTest
IsBehind false name id = IsTail name id None
IsBehind true name id = Then (λ o. Unit {0}) options_line (λ o. IsTail name id (Some o))

abbrev IsWhole : PolicyFile → RecordTest
IsWhole =
    Then (λ has. Unit {0}) head_of (λ has.
    Then IsLabel (λ name. codes "name " ++ name) (λ name.
    Then (AreBytesOfLength 16) (λ id. codes "id " ++ encode_lower id) (λ id.
    IsBehind has name id)))

behind_reads : (has : Bool) (name id : List ℕ) → Reads (IsBehind has name id) 4 (after_id has name id)
behind_reads false name id = tail_reads name id None 4
behind_reads true name id = line_then 4 options_spelled (λ o. tail_reads name id (Some o) 5)

reads : Reads IsWhole 1 policy_read
unfolding policy_read
reads =
    line_then 1 head_spelled (λ has.
    line_then 2 name_spelled (λ name.
    line_then 3 (digits_spelled (codes "id ") 16 refl) (λ id.
    behind_reads has name id)))

-- the lines that are read are those of the record
of_made : (name id : List ℕ) (options : Option Options) (wraps : List Wrap) (p : PolicyFile) (lines : List (List ℕ)) → made name id options wraps ≡ p
    → IsLabel name → AreBytesOfLength 16 id → AreWraps wraps → AllByRecursion IsWrap wraps → lines ≡ policy_lines (made name id options wraps)
    → IsPolicyFile p × (lines ≡ policy_lines p)
of_made name id options wraps p lines same is_name is_id kept each are =
    subst (λ (q : PolicyFile). IsPolicyFile q × (lines ≡ policy_lines q)) same (record { name = is_name; id = is_id; wraps = kept; each = All-from_recursion IsWrap wraps each }, are)

told : (p : PolicyFile) (lines : List (List ℕ)) → IsWhole p lines → IsPolicyFile p × (lines ≡ policy_lines p)
told p lines (false, (r0, (e0, (_, (name, (r1, (e1, (is_name, (id, (r2, (e2, (is_id, (wraps, (same, (e3, (kept, each)))))))))))))))) =
    of_made name id None wraps p lines same is_name is_id kept each
    (e0 ∙ ap (λ ls. codes "fsc-policy 1" ∷ ls) (e1 ∙ ap (λ ls. (codes "name " ++ name) ∷ ls) (e2 ∙ ap (λ ls. (codes "id " ++ encode_lower id) ∷ ls) e3)))
told p lines (true, (r0, (e0, (_, (name, (r1, (e1, (is_name, (id, (r2, (e2, (is_id, (o, (r3, (e3, (_, (wraps, (same, (e4, (kept, each)))))))))))))))))))) =
    of_made name id (Some o) wraps p lines same is_name is_id kept each
    (e0 ∙ ap (λ ls. codes "fsc-policy 2" ∷ ls) (e1 ∙ ap (λ ls. (codes "name " ++ name) ∷ ls) (e2 ∙ ap (λ ls. (codes "id " ++ encode_lower id) ∷ ls) (e3 ∙ ap (λ ls. options_line o ∷ ls) e4))))

whole : (p : PolicyFile) → IsPolicyFile p → IsWhole p (policy_lines p)
whole p is = of p.name p.id.0 p.options p.wraps is.name is.id is.wraps (recursion_from_All IsWrap p.wraps is.each)
  where
    of : (name id : List ℕ) (options : Option Options) (wraps : List Wrap) → IsLabel name → AreBytesOfLength 16 id → AreWraps wraps → AllByRecursion IsWrap wraps
        → IsWhole (made name id options wraps) (policy_lines (made name id options wraps))
    of name id None wraps is_name is_id kept each = (false, (_, (refl, (tt, (name, (_, (refl, (is_name, (id, (_, (refl, (is_id, (wraps, (refl, (refl, (kept, each))))))))))))))))
    of name id (Some o) wraps is_name is_id kept each =
        (true, (_, (refl, (tt, (name, (_, (refl, (is_name, (id, (_, (refl, (is_id, (o, (_, (refl, (tt, (wraps, (refl, (refl, (kept, each))))))))))))))))))))

pub policy_found : (text : List ℕ) (p : PolicyFile) → policy_read text ≡ Ok p → IsPolicyFile p × (text ≡ policy_text p)
policy_found = record_found reads told whole

pub policy_again : (p : PolicyFile) → IsPolicyFile p → policy_read (policy_text p) ≡ Ok p
policy_again = record_again reads told whole

pub policy_bad : (text : List ℕ) (e : MetaFault) → policy_read text ≡ Err e → NamesFirstBadLine IsPolicyRecord text e
policy_bad = record_bad reads told whole

-- ---- as a caller sees it

pub seen_found : (text : List ℕ) (r : Result PolicyFile MetaFault) → GivesInMemory (λ p. p) r (policy_read text) → IfOk r (λ p. IsPolicyFile p × (text ≡ policy_text p))
seen_found text (Ok p) gives = policy_found text p gives
seen_found text (Err e) gives = tt

pub seen_every : (text : List ℕ) (r : Result PolicyFile MetaFault) → GivesInMemory (λ p. p) r (policy_read text)
    → (p : PolicyFile) → IsPolicyFile p → text ≡ policy_text p → (r ≡ Ok p) ⊎ (r ≡ Err NoMemory)
seen_every text (Ok q) gives p is same = inl (sym gives ∙ (ap policy_read same ∙ policy_again p is))
seen_every text (Err NoMemory) gives p is same = inr refl
seen_every text (Err (Bad line)) gives p is same = absurd (cc (sym gives ∙ (ap policy_read same ∙ policy_again p is)))

pub seen_bad : (text : List ℕ) (r : Result PolicyFile MetaFault) → GivesInMemory (λ p. p) r (policy_read text)
    → IfErr r (λ fault. (fault ≡ NoMemory) ⊎ NamesFirstBadLine IsPolicyRecord text fault)
seen_bad text (Ok p) gives = tt
seen_bad text (Err NoMemory) gives = inl refl
seen_bad text (Err (Bad number)) gives = inr (policy_bad text (Bad number) gives)

pub seen_only : (text : List ℕ) (r : Result PolicyFile MetaFault) → GivesInMemory (λ p. p) r (policy_read text)
    → IfErr r (λ fault. (line : ℕ) → IsFirstBad IsPolicyRecord text line → (fault ≡ NoMemory) ⊎ (fault ≡ Bad line))
seen_only text (Ok p) gives = tt
seen_only text (Err NoMemory) gives = λ line is. inl refl
seen_only text (Err (Bad number)) gives = λ line is. inr (only_one IsPolicyRecord text (Bad number) line (policy_bad text (Bad number) gives) is)

pub seen_none : (text : List ℕ) (r : Result PolicyFile MetaFault) → GivesInMemory (λ p. p) r (policy_read text)
    → (line : ℕ) (p : PolicyFile) → r ≡ Err (Bad line) → IsPolicyFile p → text ≡ policy_text p → ⊥
seen_none text r gives line p h is same = elim (seen_every text r gives p is same) [ inl ok ↦ cc | inr none ↦ cc ]

-- ---- writing

-- the lines, written one after the other
pub written : (p : PolicyFile) (name t₀ t₁ t₂ t₃ t₄ t₅ : List ℕ) → name ≡ p.name
    → t₀ ≡ [] → t₁ ≡ t₀ ++ version_line p.options ++ 10 ∷ [] → t₂ ≡ t₁ ++ (codes "name " ++ name) ++ 10 ∷ [] → t₃ ≡ t₂ ++ (codes "id " ++ encode_lower p.id.0) ++ 10 ∷ []
    → t₄ ≡ t₃ ++ ended (option_lines p.options) → t₅ ≡ t₄ ++ flat_map (λ wrap. wrap_line wrap ++ 10 ∷ []) p.wraps → t₅ ≡ policy_text p
written p name t₀ t₁ t₂ t₃ t₄ t₅ en e₀ e₁ e₂ e₃ e₄ e₅ =
    let head = version_line p.options in
    let named = codes "name " ++ p.name in
    let identified = codes "id " ++ encode_lower p.id.0 in
    let front : List (List ℕ) = head ∷ named ∷ identified ∷ [] in
    let options : List (List ℕ) = option_lines p.options in
    let wraps : List (List ℕ) = map wrap_line p.wraps in
    let lines : t₃ ≡ ended front =
    ended-push (head ∷ named ∷ []) identified t₂ t₃
    (ended-push (head ∷ []) named t₁ t₂ (ended-push [] head t₀ t₁ e₀ e₁) (e₂ ∙ ap (λ (x : List ℕ). t₁ ++ (codes "name " ++ x) ++ 10 ∷ []) en)) e₃ in
    e₅ ∙ ap (λ (x : List ℕ). x ++ flat_map (λ wrap. wrap_line wrap ++ 10 ∷ []) p.wraps) (e₄ ∙ ap (λ (x : List ℕ). x ++ ended options) lines)
    ∙ append_assoc (ended front) (ended options) (flat_map (λ wrap. wrap_line wrap ++ 10 ∷ []) p.wraps)
    ∙ ap (λ (x : List ℕ). ended front ++ (ended options ++ x)) (sym (ended-map wrap_line p.wraps))
    ∙ ap (λ (x : List ℕ). ended front ++ x) (sym (ended-append options wraps))
    ∙ sym (ended-append front (options ++ wraps))
