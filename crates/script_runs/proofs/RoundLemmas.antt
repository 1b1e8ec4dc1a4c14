-- Rounds of turns, and the mount on which they are taken.
use Rattle.std.proofs.Common.{◌≡◌, ℕ, suc, ◌+◌, ◌-◌, ◌<◌, ◌≤◌, Bool, cond, List, ◌++◌, length, map, take, drop, ap, ap₂, sym, ◌∙◌, subst, arith, append-nil, length-append, take_all, drop_of_length-le}
use Rattle.std.proofs.lemmas.Bool.{lt-ltb, le-ltb}
use Rattle.std.proofs.lemmas.List.{length-map}
use Rattle.std.proofs.lemmas.Option.{slice_get_within}
use Rattle.call_history.specs.Entries.{by, entries_with_places}
use Rattle.call_history.specs.Placed.{entries_of}
use Rattle.call_history.proofs.Placing.{numbered-append}
use Rattle.mount_model.specs.History.{History, MountEntry}
use Rattle.mount_model.specs.Port.{PlacedCalls}
use Rattle.mount_shared.specs.SerialCalls.{SerialView, SerialAfterCalls, serial_view}
use Rattle.script_lang.specs.declared.commands.Section.{Section}
use Rattle.fsc_commands.specs.Steps.{Steps, Reaches}
use Rattle.fsc_commands.specs.Steps.Steps.{Done}
use Rattle.fsc_session.specs.Running.{RunnerStep}
use Rattle.fsc_session.specs.Runners.{RunnerView, state_of}
use Rattle.fsc_session.specs.Rotation.{Waiting, round_steps, rounds_steps}
use Rattle.fsc_commands.proofs.StepsLemmas.{entries_of-append}
use Rattle.script_runs.specs.Turns.{InTurn, Rotates, RunnerTurn}
use Rattle.script_runs.specs.MountPlaces.{At, Goes, Stands}
use Rattle.script_runs.proofs.TurnLemmas.{turns_in}

-- ---- rounds

module _ (seed : List ℕ) (script : List Section) (whole : Steps (List Waiting)) (runners : List RunnerView)
    (told : PlacedCalls) where
  -- the same, in other terms
  restated : (rest rest' : Steps (List Waiting)) (turns turns' : ℕ → ℕ) → rest ≡ rest'
      → ((j : ℕ) → j < length runners → turns j ≡ turns' j)
      → Rotates seed script whole rest turns runners told → Rotates seed script whole rest' turns' runners told
  restated rest rest' turns turns' same as_many r = record {
    count = r.count;
    each = λ j runner here. subst (λ t. InTurn seed script told t j runner)
        (as_many j (slice_get_within runners j runner here)) (r.each j runner here);
    others = r.others;
    order = subst (λ s. Reaches whole (entries_of told) s) same r.order;
  }

  pub round_begins : (rounds n : ℕ) → n < rounds
      → Rotates seed script whole (rounds_steps seed (rounds - n) n (map state_of runners)) (λ j. n) runners told
      → Rotates seed script whole
      (round_steps seed n 0 (map state_of (take 0 runners)) (map state_of (drop 0 runners))
      (rounds_steps seed (rounds - (n + 1)) (n + 1)))
      (turns_in n 0) runners told
  round_begins rounds n below r =
      let left : rounds - n ≡ suc (rounds - (n + 1)) = omega (arith, below) in
      restated _ _ (λ j. n) (turns_in n 0) (ap (λ k. rounds_steps seed k n (map state_of runners)) left)
      (λ j within. ap (λ (b : Bool). cond b (n + 1) n) (sym (le-ltb j 0 (omega arith)))) r

  pub round_over : (last : List Waiting → Steps (List Waiting)) (n i : ℕ) → length runners ≤ i
      → Rotates seed script whole
      (round_steps seed n i (map state_of (take i runners)) (map state_of (drop i runners)) last)
      (turns_in n i) runners told
      → Rotates seed script whole (last (map state_of runners)) (λ j. n + 1) runners told
  round_over last n i all r =
      restated _ _ (turns_in n i) (λ j. n + 1)
      (ap₂ (λ (a b : List RunnerView). round_steps seed n i (map state_of a) (map state_of b) last)
      (take_all i runners all) (drop_of_length-le runners all))
      (λ j within. ap (λ (b : Bool). cond b (n + 1) n) (lt-ltb j i (omega (arith, within, all)))) r

  pub rounds_over : (rounds n : ℕ) → n ≤ rounds → rounds ≤ n
      → Rotates seed script whole (rounds_steps seed (rounds - n) n (map state_of runners)) (λ j. n) runners told
      → Rotates seed script whole (Done (map state_of runners)) (λ j. rounds) runners told
  rounds_over rounds n below above r =
      let none : rounds - n ≡ 0 = omega (arith, above) in
      let same : n ≡ rounds = omega (arith, below, above) in
      restated _ _ (λ j. n) (λ j. rounds) (ap (λ k. rounds_steps seed k n (map state_of runners)) none)
      (λ j within. same) r

-- ---- the mount

placed_on : (told made : PlacedCalls) (places : ℕ) → places ≡ length told → told ≡ entries_with_places 0 (entries_of told) → made ≡ entries_with_places places (entries_of made)
    → told ++ made ≡ entries_with_places 0 (entries_of (told ++ made))
placed_on told made places given one two =
    let behind : 0 + length (entries_of told) ≡ places = let n = length-map told (λ (x : ℕ × MountEntry). x.1) in omega (arith, n, given) in
    ap₂ (λ (l r : PlacedCalls). l ++ r) one (two ∙ ap (λ n. entries_with_places n (entries_of made)) (sym behind))
    ∙ sym (numbered-append 0 (entries_of told) (entries_of made)) ∙ ap (entries_with_places 0) (sym (entries_of-append told made))

pub stands_on : {M : Type 0} (reaches : History → M → Type 0) (caller : ℕ) (told made : PlacedCalls) (old new : At M)
    → Stands reaches told old → Goes reaches caller old made new → Stands reaches (told ++ made) new
stands_on reaches caller told made old new stood goes =
    let given = stood.given in
    let count = goes.given in
    record {
      placed = placed_on told made old.places given stood.placed goes.placed;
      given = count ∙ ap (λ k. k + length made) given ∙ sym (length-append told made);
      reached_by = subst (λ h. reaches h new.machine) (sym (entries_of-append told made)) (goes.reached_by (entries_of told) stood.reached_by);
    }

-- calls by a port of the mount
pub goes_by : {M : Type 0} (reaches : History → M → Type 0) (caller left : ℕ) (mount : At M) (made : PlacedCalls)
    (port : SerialView M) (mount' : At M) → mount'.machine ≡ port.machine → mount'.places ≡ port.places
    → SerialAfterCalls reaches (serial_view mount.machine mount.places caller left) made port → Goes reaches caller mount made mount'
goes_by reaches caller left mount made port mount' one two after_calls = record {
  placed = after_calls.placed;
  given = two ∙ after_calls.next;
  own = after_calls.own;
  reached_by = λ history so. subst (λ m. reaches (history ++ entries_of made) m) (sym one) (after_calls.reached_by history so);
}

-- a command of a runner, if its calls are known to be the runner's
pub taken_by : {P : Type 0} (after_calls : PlacedCalls → P → Type 0) (port : P) (left before_left : ℕ) (seed : List ℕ)
    (more : Bool) (old new : RunnerView) (stepped : RunnerStep after_calls port left before_left seed more old new)
    → by old.caller stepped.made ≡ stepped.made → RunnerTurn seed old new stepped.made
taken_by after_calls port left before_left seed more old new stepped own = record {
  more = more;
  own = own;
  grown = stepped.grown;
  caller = stepped.caller;
  section = stepped.section;
  step = stepped.step;
  run = stepped.run;
}

-- a vector whose slice was written, and is as long as before
pub written_back : {A : Type 0} (len : ℕ) (new old : List A) → length new ≡ length old → length old ≡ len
    → take len (new ++ drop (length new) old) ≡ new
written_back len new old same long =
    ap (λ rest. take len (new ++ rest)) (drop_of_length-le old (omega (arith, same)))
    ∙ ap (take len) (append-nil new) ∙ take_all len new (omega (arith, same, long))
