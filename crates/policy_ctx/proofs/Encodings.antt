-- The bytes of a policy and of a context determine it.
use Rattle.std.proofs.Common.{◌≡◌, refl, sym, ◌∙◌, ap, arith, ℕ, Bool, true, false, List, [], ◌++◌, length, take, drop, slice_index, bit_and, not, None, Some, Result, Ok, Err, IfOk, IfErr, subst, ◌==◌, if◌then◌else◌}
use Rattle.std.proofs.lemmas.List.{take_at, drop_at, append-nil}
use Rattle.std.proofs.Math.Seq.{drop-length}
use borrow.Rule.Slice.PartMut.{put_mid}
use Rattle.policy_ctx.specs.declared.policy.Pad.{Pad}
use Rattle.policy_ctx.specs.declared.policy.Pad.TheVariants.{P4, P8, P16, P32}
use Rattle.policy_ctx.specs.declared.policy.Unit.{Unit as DataUnit}
use Rattle.policy_ctx.specs.declared.policy.Unit.TheVariants.{Block, U512, U1024, U2048, U4096}
use Rattle.policy_ctx.specs.declared.policy.Policy.{Policy}
use Rattle.policy_ctx.specs.declared.policy.Context.{Context}
use Rattle.policy_ctx.specs.declared.fault.CtxFault.{CtxFault}
use Rattle.policy_ctx.specs.Policy.{flags_of, policy_bytes, unit_log2}
use Rattle.policy_ctx.specs.PolicyFaults.{header_fault, are_flags, is_unit_log2}
use Rattle.policy_ctx.specs.Context.{context_bytes, id_in, is_by_mode_in}

-- the padding of a flags byte, and whether it has flag 8
abbrev flags_meant : ℕ → Pad × Bool
flags_meant n =
    if n == 0 then (P4, false) else if n == 1 then (P8, false) else if n == 2 then (P16, false) else
    if n == 3 then (P32, false) else if n == 8 then (P4, true) else if n == 9 then (P8, true) else
    if n == 10 then (P16, true) else (P32, true)

flags_meant-flags_of : (pad : Pad) (by_mode : Bool) → flags_meant (flags_of pad by_mode) ≡ (pad, by_mode)
flags_meant-flags_of P4 false = refl
flags_meant-flags_of P8 false = refl
flags_meant-flags_of P16 false = refl
flags_meant-flags_of P32 false = refl
flags_meant-flags_of P4 true = refl
flags_meant-flags_of P8 true = refl
flags_meant-flags_of P16 true = refl
flags_meant-flags_of P32 true = refl

abbrev unit_meant : ℕ → DataUnit
unit_meant n = if n == 0 then Block else if n == 9 then U512 else if n == 10 then U1024 else if n == 11 then U2048 else U4096

unit_meant-unit_log2 : (unit : DataUnit) → unit_meant (unit_log2 unit) ≡ unit
unit_meant-unit_log2 Block = refl
unit_meant-unit_log2 U512 = refl
unit_meant-unit_log2 U1024 = refl
unit_meant-unit_log2 U2048 = refl
unit_meant-unit_log2 U4096 = refl

pub policy_bytes-injective : (p q : Policy) → policy_bytes p ≡ policy_bytes q → p ≡ q
policy_bytes-injective p q e =
    let flags : (p.pad, p.by_mode) ≡ (q.pad, q.by_mode) =
    sym (flags_meant-flags_of p.pad p.by_mode) ∙ ap (λ b. flags_meant (slice_index b 3)) e ∙ flags_meant-flags_of q.pad q.by_mode in
    let units : p.unit ≡ q.unit =
    sym (unit_meant-unit_log2 p.unit) ∙ ap (λ b. unit_meant (slice_index b 4)) e ∙ unit_meant-unit_log2 q.unit in
    let ids : p.id.0 ≡ q.id.0 = ap (λ b. drop 8 b) e in
    λ i. record { pad = (flags i).0; unit = units i; by_mode = (flags i).1; id = record { 0 = ids i } }

flags_fit : (pad : Pad) (by_mode : Bool) → are_flags (flags_of pad by_mode) ≡ true
flags_fit P4 false = refl
flags_fit P8 false = refl
flags_fit P16 false = refl
flags_fit P32 false = refl
flags_fit P4 true = refl
flags_fit P8 true = refl
flags_fit P16 true = refl
flags_fit P32 true = refl

unit_fits : (unit : DataUnit) → is_unit_log2 (unit_log2 unit) ≡ true
unit_fits Block = refl
unit_fits U512 = refl
unit_fits U1024 = refl
unit_fits U2048 = refl
unit_fits U4096 = refl

-- the bytes of a policy have no fault, whatever follows them
pub header_fault-policy_bytes : (p : Policy) (rest : List ℕ) → header_fault (policy_bytes p ++ rest) ≡ None
header_fault-policy_bytes p rest = rw (flags_fit p.pad p.by_mode, unit_fits p.unit) refl

-- the contract of `read_policy` determines its result if the bytes begin with those of a policy
pub read_policy_is : (r : Result Policy CtxFault) (b : List ℕ) (p : Policy)
    → IfOk r (λ q. take 24 b ≡ policy_bytes q) → IfErr r (λ f. header_fault b ≡ Some f)
    → take 24 b ≡ policy_bytes p → header_fault b ≡ None → r ≡ Ok p
read_policy_is (Ok q) b p found fault begins none = ap Ok (policy_bytes-injective q p (sym found ∙ begins))
read_policy_is (Err f) b p found fault begins none = search

length-policy_bytes : (p : Policy) → length p.id.0 ≡ 16 → length (policy_bytes p) ≡ 24
length-policy_bytes p size = omega (arith, size)

-- the first 24 bytes of a context are its policy's, the others its nonce
pub take-context_bytes : (c : Context) → length c.policy.id.0 ≡ 16 → take 24 (context_bytes c) ≡ policy_bytes c.policy
take-context_bytes c size = take_at (policy_bytes c.policy) c.nonce 24 (length-policy_bytes c.policy size)

pub drop-context_bytes : (c : Context) → length c.policy.id.0 ≡ 16 → drop 24 (context_bytes c) ≡ c.nonce
drop-context_bytes c size = drop_at (policy_bytes c.policy) c.nonce 24 (length-policy_bytes c.policy size)

-- the bytes of a context contain the identifier and flag 8 of its policy
pub id_in-context_bytes : (c : Context) → length c.policy.id.0 ≡ 16 → id_in (context_bytes c) ≡ c.policy.id
id_in-context_bytes c size =
    let here : take 16 (c.policy.id.0 ++ c.nonce) ≡ c.policy.id.0 = take_at c.policy.id.0 c.nonce 16 size in
    λ i. record { 0 = here i }

flag_8_told : (pad : Pad) (by_mode : Bool) → not (bit_and (flags_of pad by_mode) 8 == 0) ≡ by_mode
flag_8_told P4 false = refl
flag_8_told P8 false = refl
flag_8_told P16 false = refl
flag_8_told P32 false = refl
flag_8_told P4 true = refl
flag_8_told P8 true = refl
flag_8_told P16 true = refl
flag_8_told P32 true = refl

pub is_by_mode_in-context_bytes : (c : Context) → is_by_mode_in (context_bytes c) ≡ c.policy.by_mode
is_by_mode_in-context_bytes c = flag_8_told c.policy.pad c.policy.by_mode

-- a list whose second part was replaced
pub put_behind : (xs zs ys : List ℕ) (n k : ℕ) → length xs ≡ n → length zs ≡ k → put_mid n k (xs ++ zs) ys ≡ xs ++ ys
put_behind xs zs ys n k front back =
    let rest : drop k zs ≡ [] = subst (λ m. drop m zs ≡ []) back (drop-length zs) in
    rw (take_at xs zs n front) (rw (drop_at xs zs n front) (rw rest (ap (λ l. xs ++ l) (append-nil ys))))
