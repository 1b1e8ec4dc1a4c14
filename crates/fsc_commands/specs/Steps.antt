-- Calls one after another; each may depend on the replies so far.
use Rattle.std.specs.Prelude.{◌≡◌, ℕ, List, [], ◌∷◌, Option, Some, None}
use Rattle.mount_model.specs.declared.call.Call.{Call}
use Rattle.mount_model.specs.declared.reply.Reply.{Reply}
use Rattle.mount_model.specs.declared.reply.Reply.TheVariants.{Names}
use Rattle.mount_model.specs.History.{History}
use Rattle.call_history.specs.Entries as entries
use Rattle.call_history.specs.Entries.{PlacedList}
use Rattle.call_history.specs.Placed.{entries_of}

-- done, with a value; or a caller's call, and the steps after each reply
pub data Steps (A : Type 0) : Type 0 where
  Done : A → Steps A
  Ask : ℕ → Call → (Reply → Steps A) → Steps A

-- after these entries, `rest` is left of the steps
abbrev pub Reaches : {A : Type 0} → Steps A → History → Steps A → Type 0
Reaches steps [] rest = steps ≡ rest
Reaches (Done value) (e ∷ es) rest = ⊥
Reaches (Ask who call next) (e ∷ es) rest = (e.who ≡ who) × (e.call ≡ call) × Reaches (next e.reply) es rest

-- the call that comes after these entries, with its caller; none if the steps are done
abbrev pub next_of : {A : Type 0} → Steps A → History → Option (ℕ × Call)
next_of (Done value) es = None
next_of (Ask who call next) [] = Some (who, call)
next_of (Ask who call next) (e ∷ es) = next_of (next e.reply) es

-- the value that the steps are done with after these entries, if they are done
abbrev pub value_after : {A : Type 0} → Steps A → History → Option A
value_after (Done value) es = Some value
value_after (Ask who call next) [] = None
value_after (Ask who call next) (e ∷ es) = value_after (next e.reply) es

-- the names of a caller's last listing after a reply: those of the reply if it is a listing, else those
-- before
abbrev pub names_after : List (List ℕ) → Reply → List (List ℕ)
names_after names (Names listed more) = listed
names_after names other = names

-- the names of a reply that is a listing
abbrev pub names_of_reply : Reply → Option (List (List ℕ))
names_of_reply (Names listed more) = Some listed
names_of_reply other = None

-- the names of a caller's last listing in these entries, and otherwise those before; the entries have the
-- calls or what a log shows of them
abbrev pub names_from : {C : Type 0} → List (List ℕ) → entries.History C Reply → List (List ℕ)
names_from names [] = names
names_from names (e ∷ es) = names_from (names_after names e.reply) es

-- the names of a caller's last listing in its entries
abbrev pub names_in : {C : Type 0} → PlacedList C Reply → List (List ℕ)
names_in placed = names_from [] (entries_of placed)

-- first the one, then what follows with its value and the last names
abbrev pub and_then : {A B : Type 0} → List (List ℕ) → Steps A → (List (List ℕ) → A → Steps B) → Steps B
and_then names (Done value) next = next names value
and_then names (Ask who call more) next =
    Ask who call (λ reply. and_then (names_after names reply) (more reply) next)
