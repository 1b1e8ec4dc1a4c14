-- What is stored of the calls that no reply is listed for.
use Rattle.std.specs.Prelude.{⊤, Bool, true, false, List, [], ◌∷◌}
use Rattle.mount_model.specs.declared.call.Call.{Call}
use Rattle.mount_model.specs.declared.reply.Reply.{Reply}
use Rattle.mount_model.specs.Fits.{Fits}
use Rattle.scripted_port.specs.declared.port.Further.{Further}
use Rattle.scripted_port.specs.declared.port.Further.TheVariants.{Unasked, Asked, Lost}

-- a mount may be asked the stored call
abbrev pub FurtherFits : Further → Type 0
FurtherFits (Asked call) = Fits call
FurtherFits other = ⊤

-- what is stored after a call that no reply is listed for: the first of them, or that there was no memory
-- to store it
abbrev pub further_after_unlisted : Further → Call → Bool → Further
further_after_unlisted Unasked call false = Asked call
further_after_unlisted Unasked call true = Lost
further_after_unlisted further call lost = further

-- after a call, if these replies are left before it
abbrev pub further_after : List Reply → Further → Call → Bool → Further
further_after [] further call lost = further_after_unlisted further call lost
further_after (reply ∷ more) further call lost = further
