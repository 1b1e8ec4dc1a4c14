-- Steps after steps, and what entries make of them.
use Rattle.std.proofs.Common.{◌≡◌, ℕ, List, [], ◌∷◌, ◌++◌, Some, refl, ap, sym, subst, ◌∙◌, append_assoc}
use Rattle.std.proofs.lemmas.List.{map-append}
use Rattle.mount_model.specs.History.{History, MountEntry}
use Rattle.mount_model.specs.declared.reply.Reply.{Reply}
use Rattle.mount_model.specs.Port.{PlacedCalls}
use Rattle.reply_text.specs.Logged.{PlacedLogged, logged_entry, logged_calls}
use Rattle.call_history.specs.Entries as entries
use Rattle.call_history.specs.declared.entry.Entry.{Entry}
use Rattle.call_history.specs.Placed.{entries_of}
use Rattle.fsc_commands.specs.Steps.{Steps, Reaches, value_after, names_after, names_from, names_in, and_then}
use Rattle.fsc_commands.specs.Steps.Steps.{Done, Ask}

pub entries_of-append : (es fs : PlacedCalls) → entries_of (es ++ fs) ≡ entries_of es ++ entries_of fs
entries_of-append es fs = map-append (λ (x : ℕ × MountEntry). x.1) es fs

pub names_from-append : {C : Type 0} (names : List (List ℕ)) (es fs : entries.History C Reply) → names_from names (es ++ fs) ≡ names_from (names_from names es) fs
names_from-append names [] fs = refl
names_from-append names (e ∷ es) fs = names_from-append (names_after names e.reply) es fs

-- the last names of a run that went on
pub names_in-append : {C : Type 0} (placed made : entries.PlacedList C Reply) → names_in (placed ++ made) ≡ names_from (names_in placed) (entries_of made)
names_in-append {C} placed made =
    ap (names_from []) (map-append (λ (x : ℕ × Entry C Reply). x.1) placed made) ∙ names_from-append [] (entries_of placed) (entries_of made)

-- ---- the shown entries of calls

pub logged_calls-append : (es fs : PlacedCalls) → logged_calls (es ++ fs) ≡ logged_calls es ++ logged_calls fs
logged_calls-append es fs = map-append (λ (x : ℕ × MountEntry). (x.0, logged_entry x.1)) es fs

-- what grew twice grew by the shown entries of all calls
pub grown_twice : (old middle new : PlacedLogged) (made more : PlacedCalls) → middle ≡ old ++ logged_calls made → new ≡ middle ++ logged_calls more
    → new ≡ old ++ logged_calls (made ++ more)
grown_twice old middle new made more first second =
    second ∙ ap (λ l. l ++ logged_calls more) first ∙ append_assoc old (logged_calls made) (logged_calls more)
    ∙ ap (λ l. old ++ l) (sym (logged_calls-append made more))

-- they have the same last names
pub names_from-shown : (names : List (List ℕ)) (placed : PlacedCalls) → names_from names (entries_of (logged_calls placed)) ≡ names_from names (entries_of placed)
names_from-shown names [] = refl
names_from-shown names (x ∷ xs) = names_from-shown (names_after names x.1.reply) xs

pub names_in-shown : (placed : PlacedCalls) → names_in (logged_calls placed) ≡ names_in placed
names_in-shown placed = names_from-shown [] placed

-- two runs, one after the other
pub Reaches-on : {A : Type 0} (steps rest last : Steps A) (es fs : History) → Reaches steps es rest → Reaches rest fs last → Reaches steps (es ++ fs) last
Reaches-on steps rest last [] fs so more = subst (λ s. Reaches s fs last) (sym so) more
Reaches-on (Done value) rest last (e ∷ es) fs so more = absurd so
Reaches-on (Ask who call next) rest last (e ∷ es) fs so more = (so.0, so.1, Reaches-on (next e.reply) rest last es fs so.2 more)

-- steps that end with a value go on with what comes after it
pub Reaches-and_then : {A B : Type 0} (names : List (List ℕ)) (steps : Steps A) (next : List (List ℕ) → A → Steps B) (es : History) (value : A)
    → Reaches steps es (Done value) → Reaches (and_then names steps next) es (next (names_from names es) value)
Reaches-and_then names steps next [] value so = ap (λ s. and_then names s next) so
Reaches-and_then names (Done other) next (e ∷ es) value so = absurd so
Reaches-and_then names (Ask who call more) next (e ∷ es) value so =
    (so.0, so.1, Reaches-and_then (names_after names e.reply) (more e.reply) next es value so.2)

-- a beginning of the first steps is a beginning of both
pub Reaches-begun : {A B : Type 0} (names : List (List ℕ)) (steps rest : Steps A) (next : List (List ℕ) → A → Steps B) (es : History)
    → Reaches steps es rest → Reaches (and_then names steps next) es (and_then (names_from names es) rest next)
Reaches-begun names steps rest next [] so = ap (λ s. and_then names s next) so
Reaches-begun names (Done other) rest next (e ∷ es) so = absurd so
Reaches-begun names (Ask who call more) rest next (e ∷ es) so =
    (so.0, so.1, Reaches-begun (names_after names e.reply) (more e.reply) rest next es so.2)

-- steps that end with a value have it
pub value_reached : {A : Type 0} (steps : Steps A) (es : History) (value : A) → Reaches steps es (Done value) → value_after steps es ≡ Some value
value_reached steps [] value so = ap (λ s. value_after s []) so
value_reached (Done other) (e ∷ es) value so = absurd so
value_reached (Ask who call next) (e ∷ es) value so = value_reached (next e.reply) es value so.2
