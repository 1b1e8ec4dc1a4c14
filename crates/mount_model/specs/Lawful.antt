-- What holds of a history whatever raw keys were added, and what holds if they agree.
use Rattle.std.specs.Prelude.{◌≡◌, ⊤, ℕ, Some, List, [], ◌∷◌, ◌++◌, All, Contains, if◌then◌else◌}
use Rattle.fsc_keys.specs.Keys.{key_id_of}
use Rattle.user_claims.specs.Claims.{ClaimSet, no_claims}
use Rattle.mount_model.specs.declared.call.Op.{Op}
use Rattle.mount_model.specs.declared.call.Op.TheVariants.{AddKey}
use Rattle.mount_model.specs.PlainMount.{Raws, raw_in}
use Rattle.mount_model.specs.Fits.{Fits}
use Rattle.mount_model.specs.History.{MountEntry, History, IsLegal}
use Rattle.mount_model.specs.ClaimHistory.{is_refused, claims_after_entry}
pub use Rattle.mount_model.specs.ClaimReplies.{is_load_reply, is_store_reply, ReportsStore, ReportsClaims}

-- ---- raw keys agree

abbrev pub raw_of : Op → List (List ℕ)
raw_of (AddKey raw) = raw ∷ []
raw_of other = []

-- the raw keys that were added: those of calls that weren't refused
abbrev pub added_raw_keys : History → List (List ℕ)
added_raw_keys [] = []
added_raw_keys (e ∷ es) = (if is_refused e.reply then [] else raw_of e.call.op) ++ added_raw_keys es

-- no two different raw keys that were added share an identifier
abbrev pub KeysAgree : History → Type 0
KeysAgree history = (a b : List ℕ) → Contains (added_raw_keys history) a → Contains (added_raw_keys history) b
    → key_id_of a ≡ key_id_of b → a ≡ b

-- the raw key that was added under its identifier before, if there is one, is this one
abbrev pub AgreesWith : Raws → List ℕ → Type 0
AgreesWith raws raw = (old : List ℕ) → raw_in raws (key_id_of raw) ≡ Some old → old ≡ raw

-- so for a call that adds one; no other call adds any
abbrev pub KeyAgrees : Raws → Op → Type 0
KeyAgrees raws (AddKey raw) = AgreesWith raws raw
KeyAgrees raws other = ⊤

-- ---- the replies, whatever raw keys were added

abbrev pub ReportsClaimOf : ClaimSet → MountEntry → Type 0
ReportsClaimOf claims e = ReportsClaims claims e.call.uid e.call.op e.reply

abbrev pub ReportsClaimsFrom : ClaimSet → History → Type 0
ReportsClaimsFrom claims [] = ⊤
ReportsClaimsFrom claims (e ∷ es) = ReportsClaimOf claims e
    × ReportsClaimsFrom (claims_after_entry claims e) es

-- each reply is one that the claims after the entries before it allow
abbrev pub ReportsClaimsOf : History → Type 0
ReportsClaimsOf history = ReportsClaimsFrom no_claims history

-- ---- lawful histories

pub record IsLawful (history : History) : Type 0 where
  -- if its raw keys agree, it is a history of the one-thread mount
  pub legal : KeysAgree history → IsLegal history
  -- and so is each beginning of it whose raw keys agree, whatever keys were added later
  pub begun : (start rest : History) → history ≡ start ++ rest → KeysAgree start → IsLegal start
  -- in any case its replies agree with the claims that its calls leave
  pub claims : ReportsClaimsOf history

-- each call fits
abbrev pub AllFit : History → Type 0
AllFit history = All (λ e. Fits e.call) history
