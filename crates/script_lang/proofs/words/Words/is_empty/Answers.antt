use Rattle.std.proofs.Common.{refl}
use Rattle.script_lang.proofs.WordsLemmas.{none_left, some_left}
use Rattle.script_lang.proofs.words.Words.is_empty.Goals as goal

pub returns-in-None : goal.returns-in-None
returns-in-None c = (λ _. none_left (λ t. t.now) c.self.inside.rest c.args.self.now c.self.view_is c.in-None.is, λ _. refl)

pub returns-in-Some : goal.returns-in-Some
returns-in-Some c =
    (λ h. absurd (cc h), λ e. absurd (some_left (λ t. t.now) c.self.inside.rest _ c.args.self.now c.self.view_is c.in-Some.is e))
