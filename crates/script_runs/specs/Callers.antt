-- Callers before their first commands, and what they have received in the end.
use Rattle.std.specs.Prelude.{ℕ, ◌+◌, List, [], ◌∷◌, ◌++◌, map}
use Rattle.script_lang.specs.declared.commands.Section.{Section}
use Rattle.reply_text.specs.Logged.{PlacedLogged}
use Rattle.reply_text.specs.declared.notes.Note.{Note}
use Rattle.fsc_session.specs.Runners.{RunnerView, runner_view}

-- the callers of sections before their first commands, of which the first has the number k
abbrev pub fresh_runners : ℕ → List Section → List RunnerView
fresh_runners k [] = []
fresh_runners k (section ∷ more) = runner_view k section 0 [] [] ∷ fresh_runners (k + 1) more

-- the sections whose callers these are
abbrev pub sections_of : List RunnerView → List Section
sections_of runners = map (λ runner. runner.section) runners

-- the shown entries of each caller's calls, caller after caller
abbrev pub logged_calls_of : {A : Type 0} → (A → PlacedLogged) → List A → PlacedLogged
logged_calls_of shown [] = []
logged_calls_of shown (caller ∷ more) = shown caller ++ logged_calls_of shown more

-- and their notes
abbrev pub noted_by : List RunnerView → List Note
noted_by [] = []
noted_by (runner ∷ more) = runner.notes ++ noted_by more
