-- A mount is still reached by its history after further calls.
use Rattle.std.proofs.Common.{◌≡◌, [], ◌∷◌, ◌++◌, length, ap, arith}
use Rattle.mount_model.specs.PlainMount.{empty_mount}
use Rattle.mount_model.specs.History.{MountEntry, History, IsLegal}
use Rattle.mount_model.specs.Lawful.{KeysAgree}
use Rattle.mount_state.specs.Represents.{Represents}
use Rattle.mount_state.specs.declared.state.MountState.{MountState}
use Rattle.mount_shared.specs.Made.{IsMade}
use Rattle.mount_shared.specs.IsStateAfter.{IsStateAfter}
use Rattle.mount_shared.specs.StateLaws.{more}

-- a history goes on by an entry that is made
pub IsStateAfter-more : (h : History) (e : MountEntry) (old new : MountState) → IsStateAfter h old → IsMade old e new → IsStateAfter (h ++ e ∷ []) new
IsStateAfter-more h e old new before made = more h e old new before made.represents made.claims made.told

-- the beginning of no entries is none
none_begun : (start rest : History) → [] ≡ start ++ rest → KeysAgree start → IsLegal start
none_begun [] rest is agree = tt
none_begun (s ∷ start) rest is agree = let long = ap length is in absurd (omega (arith, long))

-- nothing is held before any call
pub IsStateAfter-none : (state : MountState) → Represents state empty_mount → IsStateAfter [] state
IsStateAfter-none state represents = record {
  lawful = record { legal = λ _. tt; begun = none_begun; claims = tt };
  claims = represents.keys.claims;
  represents = λ _. represents;
}
