-- How a caller's calls become calls on two mounts: on its own, whose record of a protector may be a link,
-- and on the far one, with that protector. `load` makes of a call that of loading a protector's record
-- for the same user, for calls and for their shown form.
use Rattle.std.specs.Prelude.{ℕ, List, [], ◌∷◌, ◌++◌}
use Rattle.call_history.specs.Entries.{PlacedList, entry}
use Rattle.call_history.specs.declared.entry.Entry.{Entry}
use Rattle.mount_model.specs.declared.reply.Reply.{Reply}
use Rattle.mount_model.specs.declared.reply.Reply.TheVariants.{Refused}
use Rattle.mount_model.specs.declared.reply.Refusal.TheVariants.{NoMemory}
use Rattle.mount_links.specs.declared.step.LinkStep.{LinkStep}
use Rattle.mount_links.specs.declared.step.LinkStep.TheVariants.{Alone, Followed, Looked, NotMade}

module _ {C : Type 0} (load : List ℕ → C → C) where
  -- the loading of a protector's record before the call, by the same caller
  abbrev pub look_before : List ℕ → Entry C Reply → Reply → Entry C Reply
  look_before label e reply = entry e.who (load label e.call) reply

  -- on the own mount. The caller's call has the place of its last call there
  abbrev pub own_part : LinkStep → ℕ × Entry C Reply → PlacedList C Reply
  own_part Alone x = x ∷ []
  own_part (Followed label first there) x = (x.0, look_before label x.1 first) ∷ []
  own_part (Looked label place first) x = (place, look_before label x.1 first) ∷ x ∷ []
  own_part (NotMade label) x = (x.0, look_before label x.1 (Refused NoMemory)) ∷ []

  -- of calls with their steps
  abbrev pub own_parts : List LinkStep → PlacedList C Reply → PlacedList C Reply
  own_parts (step ∷ steps) (x ∷ xs) = own_part step x ++ own_parts steps xs
  own_parts steps xs = []

module _ {C : Type 0} where
  -- on the far mount
  abbrev pub far_part : LinkStep → ℕ × Entry C Reply → PlacedList C Reply
  far_part (Followed label first there) x = (there, x.1) ∷ []
  far_part other x = []

  abbrev pub far_parts : List LinkStep → PlacedList C Reply → PlacedList C Reply
  far_parts (step ∷ steps) (x ∷ xs) = far_part step x ++ far_parts steps xs
  far_parts steps xs = []
