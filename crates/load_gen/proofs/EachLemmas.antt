-- Facts of each of few commands.
use Rattle.std.proofs.Common.{List, [], ◌∷◌}
use Rattle.std.specs.List.{All}
use Rattle.std.proofs.lemmas.List.Elements.{All-nil, All-cons}
use Rattle.script_lang.specs.declared.verb.Verb.{Verb}

abbrev pub Each : (Verb → Type 0) → List Verb → Type 0
Each P [] = Unit {0}
Each P (verb ∷ more) = P verb × Each P more

pub All-each : (P : Verb → Type 0) (verbs : List Verb) → Each P verbs → All P verbs
All-each P [] h = All-nil P
All-each P (verb ∷ more) h = All-cons P verb more h.0 (All-each P more h.1)
