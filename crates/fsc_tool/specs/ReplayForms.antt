-- The arguments after `replay` and `replay-linked`, and the seed that arguments give.
use Rattle.std.specs.Prelude.{ℕ, List, [], ◌∷◌, codes, Option, Some, None, if◌then◌else◌}
use Rattle.std.specs.Option.{option_map}
use Rattle.std.specs.Str.{bytes_eq}
use Rattle.text_words.specs.Digits.{hex_bytes_of_length}
use Rattle.fsc_tool.specs.declared.form.Way.{Way}
use Rattle.fsc_tool.specs.declared.form.Way.TheVariants.{InTurn, InThreads}
use Rattle.fsc_tool.specs.declared.form.Seeding.{Seeding}
use Rattle.fsc_tool.specs.declared.form.Seeding.TheVariants.{Given, Asked}
use Rattle.fsc_tool.specs.declared.form.ToolForm.{ToolForm}
use Rattle.fsc_tool.specs.declared.form.ToolForm.TheVariants.{Replay, ReplayLinked}

-- the seed that is given: `--seed` and 32 bytes in 64 digits of either case
abbrev pub given_seed : List (List ℕ) → Option (List ℕ)
given_seed (name ∷ digits ∷ []) =
    if bytes_eq name (codes "--seed") then hex_bytes_of_length 32 digits else None
given_seed _ = None

-- where the seed comes from: no argument, or a given one
abbrev pub seeding_of : List (List ℕ) → Option Seeding
seeding_of [] = Some Asked
seeding_of words = option_map Given (given_seed words)

abbrev pub replay_form : Way → Option Seeding → Option ToolForm
replay_form way None = None
replay_form way (Some seeding) = Some (Replay way seeding)

-- after `replay`
abbrev pub replay_of : List (List ℕ) → Option ToolForm
replay_of [] = replay_form InThreads (Some Asked)
replay_of (word ∷ words) =
    if bytes_eq word (codes "--serial") then replay_form InTurn (seeding_of words)
    else replay_form InThreads (seeding_of (word ∷ words))

abbrev pub linked_replay_form : Way → Option (List ℕ) → Option ToolForm
linked_replay_form way None = None
linked_replay_form way (Some seed) = Some (ReplayLinked way seed)

-- after `replay-linked`
abbrev pub linked_of : List (List ℕ) → Option ToolForm
linked_of [] = None
linked_of (word ∷ words) =
    if bytes_eq word (codes "--serial") then linked_replay_form InTurn (given_seed words)
    else linked_replay_form InThreads (given_seed (word ∷ words))
