-- A sink gets further bytes.
use Rattle.std.proofs.Common.{◌≡◌, ℕ, ◌+◌, ◌-◌, List, ◌++◌, length, take, drop, Option, Some, None, ap, ◌∙◌}
use Rattle.std.proofs.Common.{arith, take_all, length-drop, append_assoc}
use Rattle.std.specs.Io.KnownBytes.{Appends}
use Rattle.std.proofs.Math.Seq.{take-add}

Appends-on : (a b c : Option (List ℕ)) (xs ys : List ℕ) → Appends a b xs → Appends b c ys
    → Appends a c (xs ++ ys)
Appends-on None b c xs ys first second = tt
Appends-on (Some old) None c xs ys first second = absurd first
Appends-on (Some old) (Some mid) None xs ys first second = absurd second
Appends-on (Some old) (Some mid) (Some new) xs ys first second =
    second ∙ ap (λ zs. zs ++ ys) first ∙ append_assoc old xs ys

-- after the first w bytes it gets some of those from w on
pub written_on : (a b c : Option (List ℕ)) (text : List ℕ) (w count : ℕ) → Appends a b (take w text)
    → Appends b c (take count (take (length text - w) (drop w text))) → Appends a c (take (w + count) text)
written_on a b c text w count first second =
    let whole : take (length text - w) (drop w text) ≡ drop w text =
    take_all _ _ (omega (arith, length-drop w text)) in
    rw take-add (Appends-on a b c (take w text) (take count (drop w text)) first (rw whole at second))
