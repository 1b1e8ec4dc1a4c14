-- The calls of a generated script may be asked.
use Rattle.std.proofs.Common.{◌≡◌, ℕ, zero, suc, ◌/◌, ◌%◌, ◌<◌, ◌==◌, Bool, true, false, ◌++◌, length, arith}
use Rattle.std.specs.Prelude.{replicate, slice_index, if◌then◌else◌}
use Rattle.std.specs.List.{All}
use Rattle.std.proofs.lemmas.List.{length-replicate}
use Rattle.std.proofs.lemmas.List.Elements.{All-nil, All-cons, All-append}
use Rattle.std.proofs.lemmas.Nat.{mod_below}
use Rattle.hex.specs.Hex.{IsBytes}
use Rattle.script_words.specs.Keys.{IsKey}
use Rattle.script_lang.specs.CommandTasks.{IsAskable}
use Rattle.script_lang.specs.declared.verb.Verb.TheVariants as verb
use Rattle.load_gen.specs.Numbers.{next, upper_31_bits}
use Rattle.load_gen.specs.Words.{key_byte, key, raw_key}
use Rattle.load_gen.specs.Operations.{operation_of, operation}
use Rattle.load_gen.specs.Callers.{first_verbs, operations, last_verbs, verbs}
use Rattle.load_gen.proofs.EachLemmas.{All-each}
use Rattle.load_gen.proofs.PathLemmas.{IsPath-directory, IsPath-file, IsPath-moved_file}

-- ---- keys

pub length-key : (c : ℕ) → length (key c) ≡ 64
unfolding key
length-key c = length-replicate 64 (key_byte c)

key_byte-small : (c : ℕ) → key_byte c < 256
key_byte-small c = of_test (c % 2 == 0)
  where
    of_test : (even : Bool) → (let b : ℕ = if even then 17 else 34 in b < 256)
    of_test true = omega arith
    of_test false = omega arith

IsBytes-replicate : (n b : ℕ) → b < 256 → IsBytes (replicate n b)
IsBytes-replicate zero b small = λ i. omega arith
IsBytes-replicate (suc n) b small = λ i. within i (IsBytes-replicate n b small)
  where
    within : (i : ℕ) → IsBytes (replicate n b) → slice_index (replicate (suc n) b) i < 256
    within zero more = small
    within (suc i) more = more i

IsBytes-key : (c : ℕ) → IsBytes (key c)
unfolding key
IsBytes-key c = IsBytes-replicate 64 (key_byte c) (key_byte-small c)

IsKey-key : (c : ℕ) → IsKey (raw_key c)
IsKey-key c = let long = length-key c in (omega arith, (omega arith, IsBytes-key c))

-- ---- commands

added : (c : ℕ) → IsAskable (verb.AddKey (key c))
added c = let long = length-key c in (omega arith, (omega arith, IsBytes-key c))

operation_of-askable : (c k kind : ℕ) → c < 8 → k < 8 → kind < 10 → IsAskable (operation_of c k kind)
operation_of-askable c k zero few small kinds = IsPath-file c k few small
operation_of-askable c k (suc zero) few small kinds = (omega arith, (omega arith, (omega arith, omega arith)))
operation_of-askable c k (suc (suc zero)) few small kinds = (omega arith, (omega arith, omega arith))
operation_of-askable c k (suc (suc (suc zero))) few small kinds = (IsPath-directory c few, tt)
operation_of-askable c k (suc (suc (suc (suc zero)))) few small kinds = IsPath-file c k few small
operation_of-askable c k (suc (suc (suc (suc (suc zero))))) few small kinds = IsKey-key c
operation_of-askable c k (suc (suc (suc (suc (suc (suc zero)))))) few small kinds = added c
operation_of-askable c k (suc (suc (suc (suc (suc (suc (suc zero))))))) few small kinds = IsKey-key c
operation_of-askable c k (suc (suc (suc (suc (suc (suc (suc (suc zero)))))))) few small kinds = (IsPath-file c k few small, IsPath-moved_file c k few small)
operation_of-askable c k (suc (suc (suc (suc (suc (suc (suc (suc (suc zero))))))))) few small kinds = IsPath-moved_file c k few small
operation_of-askable c k (suc (suc (suc (suc (suc (suc (suc (suc (suc (suc kind)))))))))) few small kinds = absurd (omega arith)

All-operations : (count c x : ℕ) → c < 8 → All IsAskable (operations count c x)
unfolding operations
All-operations zero c x few = All-nil IsAskable
All-operations (suc count) c x few =
    let r : ℕ = upper_31_bits (next x) in
    All-cons IsAskable (operation c r) (operations count c (next x))
    (operation_of-askable c (r / 10 % 8) (r % 10) few (mod_below (r / 10) 8 (omega arith)) (mod_below r 10 (omega arith)))
    (All-operations count c (next x) few)

pub All-askable : (c x : ℕ) → c < 8 → All IsAskable (verbs c x)
unfolding verbs
All-askable c x few =
    All-append IsAskable (first_verbs c) (operations 200 c x ++ last_verbs c)
    (All-each IsAskable (first_verbs c)
    (added c, (IsPath-directory c few, ((IsPath-directory c few, IsKey-key c), (IsPath-file c 0 few (omega arith), (IsPath-file c 0 few (omega arith), tt))))))
    (All-append IsAskable (operations 200 c x) (last_verbs c) (All-operations 200 c x few)
    (All-each IsAskable (last_verbs c) (omega arith, (IsKey-key c, tt))))
