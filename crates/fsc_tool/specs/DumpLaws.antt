-- What a listing of a dump's text contains.
use Rattle.std.specs.Prelude.{◌≡◌, ◌⊎◌, ℕ, List, All, Option, option_map}
use Rattle.fsc_keys.specs.Keys.{key_id_of}
use Rattle.mount_model.specs.History.{History, mount_after}
use Rattle.mount_model.specs.Lawful.{KeysAgree}
use Rattle.script_lang.specs.declared.commands.Section.{Section}
use Rattle.fsc_session.specs.ScriptRun.{IsRunOf}
use Rattle.fsc_session.specs.Serial.{serial_history}
use Rattle.listing_laws.specs.Laws.{IsOnlyKey}
use Rattle.listing_laws.specs.Nonces.{CarriesNonce}
use Rattle.listing_laws.specs.Expected.{expected_listing}
use Rattle.fsc_outside.specs.Causes.{Rose}
use Rattle.fsc_outside.specs.Reads.{ReadCall}
use Rattle.fsc_outside.specs.Whole.{GotWhole}
use Rattle.fsc_tool.specs.declared.status.Status.{Status}
use Rattle.fsc_tool.specs.declared.status.Status.TheVariants.{Done, NoMemory}
use Rattle.fsc_tool.specs.ImageEnds.{HasListing}
use Rattle.fsc_tool.specs.ImageOfRun.{IsImageOfRun}
use Rattle.fsc_tool.specs.Inspection.{IsInspection}
use Rattle.fsc_tool.specs.Outside.{Outside}
use Rattle.fsc_tool.specs.Replay.{GivenInput}

-- each nonce that a call of a script's run passes has 16 bytes
abbrev pub RunsCarryNonces : Type 0
RunsCarryNonces = (seed : List ℕ) (script : List Section) (history : History) → IsRunOf seed script history
    → All (λ e. CarriesNonce e.call.op) history

-- what the mount that the script's history leaves shows to a user with the raw key, or with none
abbrev pub listing_after : List ℕ → List Section → Option (List ℕ) → List ℕ
listing_after seed script raw =
    expected_listing (mount_after (serial_history seed script)) (option_map key_id_of raw)

-- the text is what a dump wrote; no two different raw keys that the script's history adds share an
-- identifier, nor does the raw key of a listing share one with another of them
pub record IsDump (seed : List ℕ) (script : List Section) (raw : Option (List ℕ)) (text : List ℕ)
    : Type 0 where
  pub image : IsImageOfRun seed script text
  pub agree : KeysAgree (serial_history seed script)
  pub only : IsOnlyKey (mount_after (serial_history seed script)).raws raw

-- the listing of that text, with the raw key or with none, is what that mount shows, whichever source gave
-- it
abbrev pub DumpsAreListed : {S : Type 0} → (S → List ReadCall → S → Type 0) → Type 0
DumpsAreListed {S} after_calls =
    (old new : S) (seed : List ℕ) (script : List Section) (raw : Option (List ℕ)) (a b : Outside)
    (text : List ℕ)
    (listing : HasListing raw (λ calls. after_calls old calls new) a.source b.source text)
    → IsDump seed script raw listing.input → text ≡ listing_after seed script raw

-- and a run that lists the text of a source with known bytes writes that listing whole, unless the sink
-- fails or there is no memory: the text is never too long, nor has it a line at fault
abbrev pub DumpsAreListedWhole : {S : Type 0} → (S → List ReadCall → S → Type 0) → Type 0
DumpsAreListedWhole {S} after_calls =
    (old new : S) (seed : List ℕ) (script : List Section) (raw : Option (List ℕ)) (a b : Outside)
    (status : Status) (text : List ℕ) → IsDump seed script raw text → GivenInput a b text
    → IsInspection raw (λ calls. after_calls old calls new) a b status → ¬ Rose a.sink.faults b.sink.faults
    → ((status ≡ Done) × GotWhole a.sink b.sink (listing_after seed script raw)) ⊎ (status ≡ NoMemory)
