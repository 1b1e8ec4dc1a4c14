-- The order of calls in rotation: the callers of a script take turns, command by command.
use Rattle.std.specs.Prelude.{ℕ, zero, suc, ◌+◌, max, List, [], ◌∷◌, ◌++◌, length, map, slice_get, Option, Some, None}
use Rattle.std.specs.List.{fold}
use Rattle.script_lang.specs.declared.commands.Section.{Section}
use Rattle.script_lang.specs.declared.commands.Command.{Command}
use Rattle.fsc_commands.specs.Steps.{Steps, and_then}
use Rattle.fsc_commands.specs.Steps.Steps.{Done}
use Rattle.fsc_commands.specs.Commands.{command_steps}

-- a caller between two of its commands: its section, and the names of its last listing
pub record Waiting : Type 0 where
  pub section : Section
  pub names : List (List ℕ)

abbrev pub waiting : Section → List (List ℕ) → Waiting
waiting section names = record { section = section; names = names }

-- before its first command
abbrev pub fresh : Section → Waiting
fresh section = waiting section []

-- the steps of this command, then `next`; if there is no command, `next` at once
abbrev pub turn_of : List ℕ → ℕ → ℕ → Waiting → Option Command → (Waiting → Steps (List Waiting))
    → Steps (List Waiting)
turn_of seed n caller state None next = next state
turn_of seed n caller state (Some command) next =
    and_then state.names (command_steps seed caller state.section.uid n state.names command.verb)
    (λ told outcome. next (waiting state.section told))

-- a caller's command n
abbrev pub turn_steps : List ℕ → ℕ → ℕ → Waiting → (Waiting → Steps (List Waiting)) → Steps (List Waiting)
turn_steps seed n caller state next = turn_of seed n caller state (slice_get state.section.commands n) next

-- the commands n of the callers that have not had their turn, of which the first has the number k; then
-- what comes after the round
abbrev pub round_steps : List ℕ → ℕ → ℕ → List Waiting → List Waiting → (List Waiting → Steps (List Waiting))
    → Steps (List Waiting)
round_steps seed n k after [] next = next after
round_steps seed n k after (state ∷ more) next =
    turn_steps seed n k state (λ come. round_steps seed n (k + 1) (after ++ come ∷ []) more next)

-- that many rounds, of which the first is round n
abbrev pub rounds_steps : List ℕ → ℕ → ℕ → List Waiting → Steps (List Waiting)
rounds_steps seed zero n states = Done states
rounds_steps seed (suc count) n states = round_steps seed n 0 [] states (rounds_steps seed count (n + 1))

-- the number of commands of the longest section
abbrev pub longest : List Section → ℕ
longest script = fold (λ most section. max most (length section.commands)) 0 script

-- the steps of a script in rotation: command 0 of each caller in order, then command 1, and so on
abbrev pub rotation_steps : List ℕ → List Section → Steps (List Waiting)
rotation_steps seed script = rounds_steps seed (longest script) 0 (map fresh script)
