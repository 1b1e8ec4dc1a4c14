-- Names filled with NULs, and cut at the first of them.
use Rattle.std.proofs.Common.{◌≡◌, refl, sym, ◌∙◌, ap, arith, ℕ, List, ◌++◌, length, take, drop, replicate, ◌+◌, ◌-◌, ◌<◌, ◌≤◌, ◌==◌, false, Contains, Bool, get_or, Option, Some, None, cond, nat_lt, inl, inr}
use Rattle.std.specs.Option.{unwrap_or}
use mathlib.Core.Bool.{true≢false}
use Rattle.std.proofs.Math.ListN.{get_or-append}
use Rattle.std.proofs.Math.Seq.{get_or-append_right, take-append-add}
use Rattle.std.specs.List.{position_or_len}
use Rattle.std.proofs.lemmas.List.{take_at, drop_at, drop-drop, length-append, length-replicate, length-take, get_or-take, get_or-replicate, drop-replicate, take-replicate}
use Rattle.std.proofs.lemmas.List.Sums.{position_or_len_is, fails_before_first}
use Rattle.std.proofs.lemmas.Bool.{ne_eqb, eq-eqb, cases_lt, lt-ltb, le-ltb}
use Rattle.byte_words.specs.Numbers.{little_endian_bytes}
use Rattle.byte_words.specs.Xor.{zero_filled}
use Rattle.byte_words.proofs.AreBytesLemmas.{AreBytes-append, AreBytes-little_endian_bytes, AreBytes-zeros}
use Rattle.byte_words.proofs.NumberLemmas.{length-little_endian_bytes}
use Rattle.aes_core.specs.Laws.{IsBlock}
use Rattle.policy_ctx.specs.declared.policy.Pad.{Pad}
use Rattle.policy_ctx.specs.declared.policy.Pad.TheVariants.{P4, P8, P16, P32}
use Rattle.name_crypt.specs.Plain.{IsPlain}
use Rattle.name_crypt.specs.StoredName.{padded_length, before_nul, name_iv}

-- a stored name is long enough for its name, and has 16 to 255 bytes
pub record Fits (len size : ℕ) : Type 0 where
  pub room : len ≤ size
  pub least : 16 ≤ size
  pub most : size ≤ 255

pub padded_fits : (pad : Pad) (len : ℕ) → len ≤ 255 → Fits len (padded_length pad len)
padded_fits P4 len low = record { room = omega arith; least = omega arith; most = omega arith }
padded_fits P8 len low = record { room = omega arith; least = omega arith; most = omega arith }
padded_fits P16 len low = record { room = omega arith; least = omega arith; most = omega arith }
padded_fits P32 len low = record { room = omega arith; least = omega arith; most = omega arith }

-- the test for NUL
abbrev is_nul : ℕ → Bool
is_nul b = b == 0

-- a byte of a name isn't NUL
not_nul : (name : List ℕ) (k : ℕ) → IsPlain name → k < length name → (get_or name k 0 == 0) ≡ false
not_nul name k plain low = ne_eqb (get_or name k 0) 0 (λ e. plain.2 (k, low, e))

-- a name is restored from its bytes filled with NULs
pub before_nul-zero_filled : (name : List ℕ) (size : ℕ) → IsPlain name → before_nul (zero_filled size name) ≡ name
unfolding zero_filled
before_nul-zero_filled name size plain =
    let zeros : List ℕ = replicate (size - length name) 0 in
    let whole : length (name ++ zeros) ≡ length name + (size - length name) =
    length-append name zeros ∙ ap (λ n. length name + n) (length-replicate {A = ℕ} (size - length name) 0) in
    let place : position_or_len is_nul (name ++ zeros) ≡ length name =
    position_or_len_is is_nul (name ++ zeros) (length name) 0 (omega (arith, whole))
    (λ k low. ap is_nul (get_or-append name zeros 0 k low) ∙ not_nul name k plain low)
    (λ more. ap is_nul (get_or-append_right name zeros (length name) 0 (omega arith)
    ∙ get_or-replicate (size - length name) (length name - length name) 0 0 (omega (arith, more, whole)))) in
    ap (λ n. take n (name ++ zeros)) place ∙ take_at name zeros (length name) refl

-- the bytes before the first NUL include none
pub before_nul-none : (bytes : List ℕ) → ¬ Contains (before_nul bytes) 0
before_nul-none bytes = λ held.
    let low : held.0 < position_or_len is_nul bytes = omega (arith, held.1, length-take (position_or_len is_nul bytes) bytes) in
    let same : get_or bytes held.0 0 ≡ 0 = sym (get_or-take (position_or_len is_nul bytes) bytes held.0 0 low) ∙ held.2 in
    true≢false (sym (eq-eqb (get_or bytes held.0 0) 0 same) ∙ fails_before_first is_nul bytes held.0 0 low)

-- the bytes before the first NUL are no more than all bytes
pub length-before_nul : (bytes : List ℕ) → length (before_nul bytes) ≤ length bytes
length-before_nul bytes = omega (arith, length-take (position_or_len is_nul bytes) bytes)

-- a beginning of a list filled with zeros
pub take-filled : (name : List ℕ) (size : ℕ) → length name ≤ size → size ≤ 255
    → take size (name ++ drop (length name) (replicate 255 0)) ≡ zero_filled size name
unfolding zero_filled
take-filled name size room most =
    let behind : drop (length name) (replicate {A = ℕ} 255 0) ≡ replicate (255 - length name) 0 = drop-replicate (length name) 255 0 in
    let split : size ≡ length name + (size - length name) = omega (arith, room) in
    ap (λ l. take size (name ++ l)) behind
    ∙ ap (λ n. take n (name ++ replicate (255 - length name) 0)) split
    ∙ take-append-add name (replicate (255 - length name) 0) (size - length name)
    ∙ ap (λ l. name ++ l) (take-replicate {X = ℕ} (size - length name) (255 - length name) 0 (omega (arith, most)))

-- zeros follow the filled name
pub drop-filled : (name : List ℕ) (size : ℕ) → length name ≤ size
    → drop size (name ++ drop (length name) (replicate 255 0)) ≡ replicate (255 - size) 0
drop-filled name size room =
    let zeros : List ℕ = replicate 255 0 in
    let left = size - length name in
    let split : size ≡ length name + left = omega (arith, room) in
    ap (λ n. drop n (name ++ drop (length name) zeros)) split
    ∙ sym (drop-drop left (length name) (name ++ drop (length name) zeros))
    ∙ ap (drop left) (drop_at name (drop (length name) zeros) (length name) refl)
    ∙ drop-drop left (length name) zeros
    ∙ ap (λ n. drop n zeros) (sym split)
    ∙ drop-replicate size 255 0

-- the first place, or the end if there is none
pub place_or_end : (place len : ℕ) (found : Option ℕ) → found ≡ cond (nat_lt place len) (Some place) None → place ≤ len → unwrap_or found len ≡ place
place_or_end place len found is low = elim (cases_lt place len) [
  | inl before ↦ ap (λ o. unwrap_or o len) (is ∙ ap (λ b. cond b (Some place) None) (lt-ltb place len before))
  | inr after ↦ ap (λ o. unwrap_or o len) (is ∙ ap (λ b. cond b (Some place) None) (le-ltb place len after)) ∙ omega (arith, low, after)
]

-- the iv of a start is a block
pub name_iv-IsBlock : (start : ℕ) → IsBlock (name_iv start)
name_iv-IsBlock start = record {
  size = length-append (little_endian_bytes 8 start) (replicate 8 0) ∙ omega (arith, length-little_endian_bytes 8 start, length-replicate {A = ℕ} 8 0);
  bytes = AreBytes-append (little_endian_bytes 8 start) (replicate 8 0) (AreBytes-little_endian_bytes 8 start) (AreBytes-zeros 8);
}
