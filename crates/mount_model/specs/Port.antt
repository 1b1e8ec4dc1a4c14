-- What ports, passes and sessions list: the calls that were made, each with its place.
use Rattle.call_history.specs.Entries.{PlacedList}
use Rattle.mount_model.specs.declared.call.Call.{Call}
use Rattle.mount_model.specs.declared.reply.Reply.{Reply}

-- entries with their places
abbrev pub PlacedCalls : Type 0
PlacedCalls = PlacedList Call Reply
