-- What removals leave of claims, and the status of a key without claims.
use Rattle.std.proofs.Common.{◌≡◌, ◌≢◌, ℕ, Bool, true, false, cond, not, ◌&&◌, ◌||◌, ◌==◌, eqb-true, [], ◌∷◌, refl, sym, ap, ◌∙◌}
use Rattle.std.specs.List.{list_any}
use Rattle.std.proofs.lemmas.Bool.{cond-false}
use Rattle.user_claims.specs.Claims.{has_claim}
use Rattle.user_claims.proofs.ClaimLemmas.{has_claim-without_claim}
use Rattle.user_claims.specs.ClaimCounts.{is_present}
use Rattle.mount_model.specs.declared.reply.KeyState.{KeyState}
use Rattle.mount_model.specs.declared.reply.KeyState.TheVariants.{Absent, Present, Incomplete}
use Rattle.mount_model.specs.declared.reply.Reply.{Reply}
use Rattle.mount_model.specs.declared.reply.Reply.TheVariants.{Status}
use Rattle.mount_model.specs.PlainMount.{HandleList}
use Rattle.mount_model.specs.OpenHandles.{has_handle}
use Rattle.mount_model.specs.AnswerForms.{Answer}
use Rattle.mount_model.specs.States.{is_busy, names_key}
use Rattle.mount_model.specs.KeyLaws.{OtherClaimsStay, OpenHandlesKeepKeys, OpenHandlesAreReported}
use Rattle.mount_model.proofs.CaseLemmas.{at_remove_key}

pub others_stay : OtherClaimsStay
others_stay m uid id other user apart = at_remove_key (λ (a : Answer). has_claim a.mount.claims other user ≡ has_claim m.claims other user) m uid id
    (λ _ _. refl)
    (has_claim-without_claim m.claims id uid (other, user) ∙ ap (λ b. not b && has_claim m.claims other user) apart)

pub handles_keep : OpenHandlesKeepKeys
handles_keep m id none = cond-false (is_present m.claims id) Present (cond (is_busy m id) Incomplete Absent) none

-- ---- a status while something is open

-- a test that the node n passes is passed by some handle, if one is open on n
some_handle : (handles : HandleList) (n : ℕ) (test : ℕ → Bool) → has_handle handles n ≡ true → test n ≡ true → list_any (λ h. test h.node) handles ≡ true
some_handle [] n test held passes = absurd (cc)
some_handle (h ∷ hs) n test held passes = cases (h.node == n) refl (λ later. some_handle hs n test later passes)
  where
    or_true : (b : Bool) → (b || true) ≡ true
    or_true true = refl
    or_true false = refl

    cases : (b : Bool) → (h.node == n) ≡ b → (has_handle hs n ≡ true → list_any (λ g. test g.node) hs ≡ true)
        → list_any (λ g. test g.node) (h ∷ hs) ≡ true
    cases true here later = ap (λ b. b || list_any (λ g. test g.node) hs) (ap test (eqb-true h.node n here) ∙ passes)
    cases false there later =
        let behind : has_handle hs n ≡ true = ap (λ b. b || has_handle hs n) (sym there) ∙ held in
        ap (λ b. test h.node || b) (later behind) ∙ or_true (test h.node)

not_absent : (present busy : Bool) → busy ≡ true → cond present Present (cond busy Incomplete Absent) ≢ Absent
not_absent true busy is = λ same. cc
not_absent false true is = λ same. cc
not_absent false false is = absurd (cc)

-- the state in a reply, if it is a status
abbrev state_in : Reply → KeyState
state_in (Status state by_self users) = state
state_in other = Absent

pub handles_told : OpenHandlesAreReported
handles_told m n id held names uid state by_self users told = λ absent.
    not_absent (is_present m.claims id) (is_busy m id) (some_handle m.handles n (λ x. names_key m.nodes x id) held names) (ap state_in told ∙ absent)
