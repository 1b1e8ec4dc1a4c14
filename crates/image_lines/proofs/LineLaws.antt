-- The lines of nodes, entries and blocks: each is read as what it spells, and no other line is.
use Rattle.std.proofs.Common.{◌≡◌, ℕ, ◌<◌, ◌≤◌, ◌^◌, ◌*◌, ◌==◌, Bool, true, false, List, [], ◌∷◌, ◌++◌, length, Option, Some, None, refl, sym, ap, ◌∙◌, subst, arith, inl, inr}
use Rattle.std.specs.Prelude.{codes, nat_le, nat_eq, is_some, is_none, IsTrue, ⊤}
use Rattle.std.specs.List.{join_with_byte}
use Rattle.std.specs.Option.{option_map}
use Rattle.std.specs.Str.{bytes_eq}
use Rattle.std.specs.Cmp.Lexicographic.{same_text, unequal}
use Rattle.std.proofs.lemmas.Bool.{cases_Bool, and_parts, le-leb, leb-true, eqb-true}
use Rattle.std.proofs.lemmas.Bool.Decides.{nat_tests}
use Rattle.std.proofs.lemmas.List.Splits.{join_with_byte-slice_split}
use Rattle.std.proofs.lemmas.Option.{same_Some}
use Rattle.hex.specs.Hex.{encode_lower, lower_digits}
use Rattle.hex.proofs.HexLemmas.{length-encode_with}
use Rattle.text_words.specs.Digits.{lower_hex_bytes_of_length}
use Rattle.text_words.specs.Numbers.{decimal_of}
use Rattle.text_words.specs.Words.{rest_after, words_of}
use Rattle.byte_words.specs.Bytes.{AreBytes, AreBytesOfLength}
use Rattle.policy_ctx.specs.Context.{context_fault}
use Rattle.policy_ctx.specs.declared.fault.CtxFault.{CtxFault}
use Rattle.image_lines.specs.declared.node_line.NodeKind.{NodeKind}
use Rattle.image_lines.specs.declared.node_line.NodeKind.TheVariants.{Dir, File, Link}
use Rattle.image_lines.specs.declared.node_line.NodeLine.{NodeLine}
use Rattle.image_lines.specs.ImageText.{context_text, kind_text, node_line, entry_line, block_line}
use Rattle.image_lines.specs.NodeRules.{IsContext}
use Rattle.image_lines.specs.StoredNames.{is_target}
use Rattle.image_lines.specs.Words.{◌>>=◌, passing, number_of_word, stored_name_of_word, is_context, context_of_word, file_of_word, link_of_word, kind_of_word}
use Rattle.image_lines.specs.Lines.{node_of, node_of_words, entry_of_words, node_of_line, entry_of_line, block_of_line}
use Rattle.text_words.proofs.PieceLemmas.{free_of_both, is_free_of, split_at, split_none}
use Rattle.text_words.proofs.WordLemmas.{behind_again, behind_found, chose, digits_again, digits_are_free, digits_found, number_is_free}
use Rattle.image_lines.proofs.Telling.{went_on, was_mapped, passed, passes, stored_found, stored_again, number_again, number_found}

-- ---- contexts

pub context_length : (context : List ℕ) → context_fault context ≡ None → length context ≡ 40
context_length context h = of (length context == 40) refl
  where
    of : (b : Bool) → (length context == 40) ≡ b → length context ≡ 40
    of true e = eqb-true (length context) 40 e
    of false e = absurd (cc (rw e at h))

pub context_again : (context : Option (List ℕ)) → IsContext context → context_of_word (context_text context) ≡ Some context
context_again None is = refl
context_again (Some context) is =
    let len = context_length context is.0 in
    let long : length (encode_lower context) ≡ 2 * length context = length-encode_with lower_digits context in
    let none : bytes_eq (encode_lower context) (codes "-") ≡ false = unequal nat_eq (encode_lower context) (codes "-") (λ e. omega (arith, e, long, len)) in
    let read = passes is_context (lower_hex_bytes_of_length 40 (encode_lower context)) context (digits_again 40 context len is.1) (ap is_none is.0) in
    rw (none, read) refl

no_fault : (o : Option CtxFault) → is_none o ≡ true → o ≡ None
no_fault None h = refl
no_fault (Some f) h = absurd (cc h)

pub context_found : (word : List ℕ) (context : Option (List ℕ)) → context_of_word word ≡ Some context → (word ≡ context_text context) × IsContext context
context_found word context h =
    elim (cases_Bool (bytes_eq word (codes "-"))) [
      | inl dash ↦ at_dash dash context (rw dash at h)
      | inr other ↦ digits context (was_mapped Some (lower_hex_bytes_of_length 40 word >>= passing is_context) context (rw other at h))
    ]
  where
    at_dash : bytes_eq word (codes "-") ≡ true → (context : Option (List ℕ)) → (let o : Option (Option (List ℕ)) = Some None in o ≡ Some context) → (word ≡ context_text context) × IsContext context
    at_dash dash None h = (same_text word (codes "-") (sym dash), tt)
    at_dash dash (Some c) h = absurd (cc h)

    digits : (context : Option (List ℕ)) → (c : List ℕ) × ((lower_hex_bytes_of_length 40 word >>= passing is_context) ≡ Some c) × (Some c ≡ context) → (word ≡ context_text context) × IsContext context
    digits context found =
        let on = passed is_context (lower_hex_bytes_of_length 40 word) found.0 found.1 in
        let read = digits_found 40 word found.0 on.0 in
        subst (λ o. (word ≡ context_text o) × IsContext o) found.2 (read.0, (no_fault (context_fault found.0) on.1, read.2))

pub context_is_free : (c : ℕ) (context : Option (List ℕ)) → c < 45 → IsContext context → is_free_of c (context_text context) ≡ true
context_is_free c None low is = dash_is_free c low
  where
    dash_is_free : (c : ℕ) → c < 45 → is_free_of c (codes "-") ≡ true
    dash_is_free c low = grind (arith, nat_tests)
context_is_free c (Some context) low is = digits_are_free c context low is.1

-- ---- kinds

abbrev pub kind_word : NodeKind → List ℕ
kind_word Dir = codes "dir"
kind_word (File size) = codes "file"
kind_word (Link target) = codes "link"

abbrev pub last_word : NodeKind → Option (List ℕ)
last_word Dir = None
last_word (File size) = Some (decimal_of size)
last_word (Link target) = Some (encode_lower target)

-- what the types and rules preserve of the content of a node's line
abbrev pub IsKind : Bool → NodeKind → Type 0
IsKind under_policy Dir = ⊤
IsKind under_policy (File size) = size ≤ 1048576
IsKind under_policy (Link target) = IsTrue (is_target under_policy target) × AreBytes target

target_is_short : (under_policy : Bool) (target : List ℕ) → is_target under_policy target ≡ true → length target ≤ 255
target_is_short true target h = leb-true (length target) 255 (and_parts (nat_le 16 (length target)) (nat_le (length target) 255) h).1
target_is_short false target h = leb-true (length target) 255 (and_parts (nat_le 1 (length target)) (nat_le (length target) 255) h).1

pub kind_again : (under_policy : Bool) (kind : NodeKind) → IsKind under_policy kind → kind_of_word (kind_word kind) under_policy (last_word kind) ≡ Some kind
kind_again under_policy Dir is = refl
kind_again under_policy (File size) is =
    let read = passes (λ n. nat_le n 1048576) (number_of_word (decimal_of size)) size (number_again size (omega (arith, is))) (le-leb size 1048576 is) in
    ap (option_map File) read
kind_again under_policy (Link target) is =
    let read = passes (is_target under_policy) (stored_name_of_word (encode_lower target)) target (stored_again target is.1 (target_is_short under_policy target is.0)) is.0 in
    ap (option_map Link) read

module _ (word : List ℕ) (under_policy : Bool) (kind : NodeKind) where
  abbrev Found : Option (List ℕ) → NodeKind → Type 0
  Found last kind = (word ≡ kind_word kind) × (last ≡ last_word kind) × IsKind under_policy kind

  file_found : (last : List ℕ) → word ≡ codes "file" → file_of_word last ≡ Some kind → Found (Some last) kind
  file_found last is h =
      let mapped = was_mapped File (number_of_word last >>= passing (λ n. nat_le n 1048576)) kind h in
      let on = passed (λ n. nat_le n 1048576) (number_of_word last) mapped.0 mapped.1 in
      let number = number_found last mapped.0 on.0 in
      subst (Found (Some last)) mapped.2 (is, ap Some number.0, leb-true mapped.0 1048576 on.1)

  link_found : (last : List ℕ) → word ≡ codes "link" → link_of_word under_policy last ≡ Some kind → Found (Some last) kind
  link_found last is h =
      let mapped = was_mapped Link (stored_name_of_word last >>= passing (is_target under_policy)) kind h in
      let on = passed (is_target under_policy) (stored_name_of_word last) mapped.0 mapped.1 in
      let stored = stored_found last mapped.0 on.0 in
      subst (Found (Some last)) mapped.2 (is, ap Some stored.0, (on.1, stored.1))

  pub kind_found : (last : Option (List ℕ)) → kind_of_word word under_policy last ≡ Some kind → Found last kind
  kind_found None h =
      let taken = chose (bytes_eq word (codes "dir")) (Some Dir) kind h in
      subst (Found None) (same_Some Dir kind taken.1) (same_text word (codes "dir") (sym taken.0), refl, tt)
  kind_found (Some last) h =
      elim (cases_Bool (bytes_eq word (codes "file"))) [
        | inl file ↦ file_found last (same_text word (codes "file") (sym file)) (rw file at h)
        | inr other ↦
            let taken = chose (bytes_eq word (codes "link")) (link_of_word under_policy last) kind (rw other at h) in
            link_found last (same_text word (codes "link") (sym taken.0)) taken.1
      ]

-- ---- the line of a node

pub record IsNodeLine (node : NodeLine) : Type 0 where
  pub number : node.number < 2 ^ 32
  pub context : IsContext node.context
  pub kind : IsKind (is_some node.context) node.kind

-- the words after `node`
abbrev with_last : Option (List ℕ) → List (List ℕ)
with_last None = []
with_last (Some last) = last ∷ []

abbrev node_words : NodeLine → List (List ℕ)
node_words node = decimal_of node.number ∷ kind_word node.kind ∷ context_text node.context ∷ with_last (last_word node.kind)

node_again : (node : NodeLine) → IsNodeLine node
    → node_of (decimal_of node.number) (kind_word node.kind) (context_text node.context) (last_word node.kind) ≡ Some node
node_again node is =
    rw (number_again node.number is.number, context_again node.context is.context, kind_again (is_some node.context) node.kind is.kind) refl

words_again : (node : NodeLine) → IsNodeLine node → (kind : NodeKind) → node.kind ≡ kind → node_of_words (node_words node) ≡ Some node
words_again node is kind e = of kind e (node_again node is)
  where
    of : (kind : NodeKind) → node.kind ≡ kind
        → node_of (decimal_of node.number) (kind_word node.kind) (context_text node.context) (last_word node.kind) ≡ Some node
        → node_of_words (node_words node) ≡ Some node
    of Dir e h = rw e (rw e at h)
    of (File size) e h = rw e (rw e at h)
    of (Link target) e h = rw e (rw e at h)

abbrev made : ℕ → Option (List ℕ) → NodeKind → Option NodeLine
made n c k = let x : NodeLine = record { number = n; context = c; kind = k } in Some x

node_found : (number kind context : List ℕ) (last : Option (List ℕ)) (node : NodeLine) → node_of number kind context last ≡ Some node
    → (number ∷ kind ∷ context ∷ with_last last ≡ node_words node) × IsNodeLine node
node_found number kind context last node h =
    let on = went_on (λ n. context_of_word context >>= λ c. kind_of_word kind (is_some c) last >>= λ k. made n c k) (number_of_word number) node h in
    let n = number_found number on.0 on.1 in
    let on_2 = went_on (λ c. kind_of_word kind (is_some c) last >>= λ k. made on.0 c k) (context_of_word context) node on.2 in
    let c = context_found context on_2.0 on_2.1 in
    let on_3 = went_on (λ k. made on.0 on_2.0 k) (kind_of_word kind (is_some on_2.0) last) node on_2.2 in
    let k = kind_found kind (is_some on_2.0) on_3.0 last on_3.1 in
    let own : NodeLine = record { number = on.0; context = on_2.0; kind = on_3.0 } in
    let same : own ≡ node = same_Some own node on_3.2 in
    let words : number ∷ kind ∷ context ∷ with_last last ≡ node_words own = λ i. n.0 i ∷ k.0 i ∷ c.0 i ∷ with_last (k.1 i) in
    subst (λ x. (number ∷ kind ∷ context ∷ with_last last ≡ node_words x) × IsNodeLine x) same
    (words, record { number = n.1; context = c.1; kind = k.2 })

words_found : (words : List (List ℕ)) (node : NodeLine) → node_of_words words ≡ Some node → (words ≡ node_words node) × IsNodeLine node
words_found (number ∷ kind ∷ context ∷ []) node h = node_found number kind context None node h
words_found (number ∷ kind ∷ context ∷ last ∷ []) node h = node_found number kind context (Some last) node h
words_found [] node h = absurd (cc h)
words_found (number ∷ []) node h = absurd (cc h)
words_found (number ∷ kind ∷ []) node h = absurd (cc h)
words_found (number ∷ kind ∷ context ∷ last ∷ next ∷ more) node h = absurd (cc h)

-- a line's words, joined and cut apart
abbrev node_rest : NodeLine → List ℕ
node_rest node = decimal_of node.number ++ 32 ∷ kind_text node.context node.kind

joined : (node : NodeLine) (kind : NodeKind) → node.kind ≡ kind → join_with_byte 32 (node_words node) ≡ node_rest node
joined node Dir e = rw e refl
joined node (File size) e = rw e refl
joined node (Link target) e = rw e refl

cut_apart : (node : NodeLine) → IsNodeLine node → (kind : NodeKind) → node.kind ≡ kind → words_of (node_rest node) ≡ node_words node
cut_apart node is kind e = of kind e (subst (IsKind (is_some node.context)) e is.kind)
  where
    number : is_free_of 32 (decimal_of node.number) ≡ true
    number = number_is_free 32 node.number (omega arith) (omega (arith, is.number))

    context : is_free_of 32 (context_text node.context) ≡ true
    context = context_is_free 32 node.context (omega arith) is.context

    of : (kind : NodeKind) → node.kind ≡ kind → IsKind (is_some node.context) kind → words_of (node_rest node) ≡ node_words node
    of Dir e k =
        rw e (split_at 32 (decimal_of node.number) (codes "dir" ++ 32 ∷ context_text node.context) number
        ∙ ap (λ l. decimal_of node.number ∷ l) (split_at 32 (codes "dir") (context_text node.context) refl
        ∙ ap (λ l. codes "dir" ∷ l) (split_none 32 (context_text node.context) context)))
    of (File size) e k =
        rw e (split_at 32 (decimal_of node.number) (codes "file" ++ 32 ∷ (context_text node.context ++ 32 ∷ decimal_of size)) number
        ∙ ap (λ l. decimal_of node.number ∷ l) (split_at 32 (codes "file") (context_text node.context ++ 32 ∷ decimal_of size) refl
        ∙ ap (λ l. codes "file" ∷ l) (split_at 32 (context_text node.context) (decimal_of size) context
        ∙ ap (λ l. context_text node.context ∷ l) (split_none 32 (decimal_of size) (number_is_free 32 size (omega arith) (omega (arith, k)))))))
    of (Link target) e k =
        rw e (split_at 32 (decimal_of node.number) (codes "link" ++ 32 ∷ (context_text node.context ++ 32 ∷ encode_lower target)) number
        ∙ ap (λ l. decimal_of node.number ∷ l) (split_at 32 (codes "link") (context_text node.context ++ 32 ∷ encode_lower target) refl
        ∙ ap (λ l. codes "link" ∷ l) (split_at 32 (context_text node.context) (encode_lower target) context
        ∙ ap (λ l. context_text node.context ∷ l) (split_none 32 (encode_lower target) (digits_are_free 32 target (omega arith) k.1)))))

pub node_told_again : (node : NodeLine) → IsNodeLine node → node_of_line (node_line node) ≡ Some node
unfolding node_of_line
node_told_again node is =
    ap (λ o. o >>= λ rest. node_of_words (words_of rest)) (behind_again (codes "node ") (node_rest node))
    ∙ ap node_of_words (cut_apart node is node.kind refl)
    ∙ words_again node is node.kind refl

pub node_told_found : (line : List ℕ) (node : NodeLine) → node_of_line line ≡ Some node → (line ≡ node_line node) × IsNodeLine node
unfolding node_of_line
node_told_found line node h =
    let on = went_on (λ rest. node_of_words (words_of rest)) (rest_after (codes "node ") line) node h in
    let words = words_found (words_of on.0) node on.2 in
    let rest : on.0 ≡ node_rest node = sym (join_with_byte-slice_split 32 on.0) ∙ ap (join_with_byte 32) words.0 ∙ joined node node.kind refl in
    (behind_found (codes "node ") line on.0 on.1 ∙ ap (λ l. codes "node " ++ l) rest, words.1)

pub node_line_is_free : (node : NodeLine) → IsNodeLine node → is_free_of 10 (node_line node) ≡ true
node_line_is_free node is = of node.kind refl (is.kind)
  where
    number : is_free_of 10 (decimal_of node.number) ≡ true
    number = number_is_free 10 node.number (omega arith) (omega (arith, is.number))

    context : is_free_of 10 (context_text node.context) ≡ true
    context = context_is_free 10 node.context (omega arith) is.context

    of : (kind : NodeKind) → node.kind ≡ kind → IsKind (is_some node.context) node.kind → is_free_of 10 (node_line node) ≡ true
    of Dir e k = rw e (free_of_both 10 (decimal_of node.number) (codes " dir " ++ context_text node.context) number context)
    of (File size) e k =
        let small : size ≤ 1048576 = rw e at k in
        let last = number_is_free 10 size (omega arith) (omega (arith, small)) in
        rw e (free_of_both 10 (decimal_of node.number) (codes " file " ++ (context_text node.context ++ 32 ∷ decimal_of size)) number
        (free_of_both 10 (context_text node.context) (32 ∷ decimal_of size) context last))
    of (Link target) e k =
        let bytes : IsKind (is_some node.context) (Link target) = rw e at k in
        let last = digits_are_free 10 target (omega arith) bytes.1 in
        rw e (free_of_both 10 (decimal_of node.number) (codes " link " ++ (context_text node.context ++ 32 ∷ encode_lower target)) number
        (free_of_both 10 (context_text node.context) (32 ∷ encode_lower target) context last))

-- ---- the line of an entry

pub record IsEntryLine (e : List ℕ × ℕ) : Type 0 where
  pub bytes : AreBytes e.0
  pub short : length e.0 ≤ 255
  pub child : e.1 < 2 ^ 32

entry_words_again : (e : List ℕ × ℕ) → IsEntryLine e → entry_of_words (decimal_of e.1 ∷ encode_lower e.0 ∷ []) ≡ Some e
entry_words_again e is = rw (number_again e.1 is.child, stored_again e.0 is.bytes is.short) refl

abbrev made_entry : List ℕ → ℕ → Option (List ℕ × ℕ)
made_entry name child = Some (name, child)

entry_words_found : (words : List (List ℕ)) (e : List ℕ × ℕ) → entry_of_words words ≡ Some e → (words ≡ decimal_of e.1 ∷ encode_lower e.0 ∷ []) × IsEntryLine e
entry_words_found (child ∷ name ∷ []) e h =
    let on = went_on (λ n. stored_name_of_word name >>= λ s. made_entry s n) (number_of_word child) e h in
    let n = number_found child on.0 on.1 in
    let on_2 = went_on (λ s. made_entry s on.0) (stored_name_of_word name) e on.2 in
    let s = stored_found name on_2.0 on_2.1 in
    let same : (on_2.0, on.0) ≡ e = same_Some (on_2.0, on.0) e on_2.2 in
    subst (λ x. (child ∷ name ∷ [] ≡ decimal_of x.1 ∷ encode_lower x.0 ∷ []) × IsEntryLine x) same
    ((λ i. n.0 i ∷ s.0 i ∷ []), record { bytes = s.1; short = s.2; child = n.1 })
entry_words_found [] e h = absurd (cc h)
entry_words_found (child ∷ []) e h = absurd (cc h)
entry_words_found (child ∷ name ∷ next ∷ more) e h = absurd (cc h)

pub entry_told_again : (e : List ℕ × ℕ) → IsEntryLine e → entry_of_line (entry_line e) ≡ Some e
unfolding entry_of_line
entry_told_again e is =
    let number = number_is_free 32 e.1 (omega arith) (omega (arith, is.child)) in
    let name = digits_are_free 32 e.0 (omega arith) is.bytes in
    ap (λ o. o >>= λ rest. entry_of_words (words_of rest)) (behind_again (codes "entry ") (decimal_of e.1 ++ 32 ∷ encode_lower e.0))
    ∙ ap entry_of_words (split_at 32 (decimal_of e.1) (encode_lower e.0) number ∙ ap (λ l. decimal_of e.1 ∷ l) (split_none 32 (encode_lower e.0) name))
    ∙ entry_words_again e is

pub entry_told_found : (line : List ℕ) (e : List ℕ × ℕ) → entry_of_line line ≡ Some e → (line ≡ entry_line e) × IsEntryLine e
unfolding entry_of_line
entry_told_found line e h =
    let on = went_on (λ rest. entry_of_words (words_of rest)) (rest_after (codes "entry ") line) e h in
    let words = entry_words_found (words_of on.0) e on.2 in
    let rest : on.0 ≡ decimal_of e.1 ++ 32 ∷ encode_lower e.0 = sym (join_with_byte-slice_split 32 on.0) ∙ ap (join_with_byte 32) words.0 in
    (behind_found (codes "entry ") line on.0 on.1 ∙ ap (λ l. codes "entry " ++ l) rest, words.1)

pub entry_line_is_free : (e : List ℕ × ℕ) → IsEntryLine e → is_free_of 10 (entry_line e) ≡ true
entry_line_is_free e is =
    free_of_both 10 (decimal_of e.1) (32 ∷ encode_lower e.0) (number_is_free 10 e.1 (omega arith) (omega (arith, is.child))) (digits_are_free 10 e.0 (omega arith) is.bytes)

-- ---- the line of a block

pub block_told_again : (block : List ℕ) → AreBytesOfLength 4096 block → block_of_line (block_line block) ≡ Some block
unfolding block_of_line
block_told_again block is =
    ap (λ o. o >>= lower_hex_bytes_of_length 4096) (behind_again (codes "block ") (encode_lower block))
    ∙ digits_again 4096 block is.0 is.1

pub block_told_found : (line block : List ℕ) → block_of_line line ≡ Some block → (line ≡ block_line block) × AreBytesOfLength 4096 block
unfolding block_of_line
block_told_found line block h =
    let on = went_on (lower_hex_bytes_of_length 4096) (rest_after (codes "block ") line) block h in
    let digits = digits_found 4096 on.0 block on.2 in
    (behind_found (codes "block ") line on.0 on.1 ∙ ap (λ l. codes "block " ++ l) digits.0, (digits.1, digits.2))

pub block_line_is_free : (block : List ℕ) → AreBytesOfLength 4096 block → is_free_of 10 (block_line block) ≡ true
block_line_is_free block is = digits_are_free 10 block (omega arith) is.1

-- ---- no line is of two kinds

pub node_is_no_entry : (node : NodeLine) → entry_of_line (node_line node) ≡ None
unfolding entry_of_line
node_is_no_entry node = refl

pub node_is_no_block : (node : NodeLine) → block_of_line (node_line node) ≡ None
unfolding block_of_line
node_is_no_block node = refl

pub entry_is_no_node : (e : List ℕ × ℕ) → node_of_line (entry_line e) ≡ None
unfolding node_of_line
entry_is_no_node e = refl

pub block_is_no_node : (block : List ℕ) → node_of_line (block_line block) ≡ None
unfolding node_of_line
block_is_no_node block = refl

pub block_is_no_entry : (block : List ℕ) → entry_of_line (block_line block) ≡ None
unfolding entry_of_line
block_is_no_entry block = refl
