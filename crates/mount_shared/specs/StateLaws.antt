-- A mount is still reached by its history after a step, and after a call that is out of memory.
use Rattle.std.proofs.Common.{◌≡◌, ◌⊎◌, ℕ, false, IsTrue, [], ◌∷◌, ◌++◌, get_or, drop, length, inl, inr, ⊎_elim, refl, ap, subst, sym, ◌∙◌, arith}
use Rattle.call_history.specs.Entries.{entry}
use Rattle.user_claims.specs.Claims.{ClaimSet, no_claims}
use Rattle.mount_model.specs.declared.call.Call.{Call}
use Rattle.mount_model.specs.declared.reply.Reply.TheVariants.{Refused}
use Rattle.mount_model.specs.declared.reply.Refusal.TheVariants.{NoMemory}
use Rattle.mount_model.specs.PlainMount.{PlainMount}
use Rattle.mount_model.specs.Step.{takes_memory}
use Rattle.mount_model.specs.History.{MountEntry, History, IsLegal, mount_after}
use Rattle.mount_model.specs.ClaimHistory.{is_refused, claims_after_entry, claims_from}
use Rattle.mount_model.specs.Lawful.{KeysAgree, KeyAgrees, ReportsClaimOf, ReportsClaimsFrom}
use Rattle.mount_model.proofs.HistoryLemmas.{IsLegal-more, mount_after-more, claims_after-more}
use Rattle.mount_model.proofs.LawfulLemmas.{want_tells}
use Rattle.mount_model.proofs.AgreeLemmas.{KeysAgree-begun, agrees_with_added}
use Rattle.mount_state.specs.Represents.{Represents}
use Rattle.mount_state.specs.declared.state.MountState.{MountState}
use Rattle.mount_shared.specs.Made.{TakesStep}
use Rattle.mount_shared.specs.IsStateAfter.{IsStateAfter}

tells_more : (claims : ClaimSet) (h : History) (e : MountEntry) → ReportsClaimsFrom claims h
    → ReportsClaimOf (claims_from claims h) e → ReportsClaimsFrom claims (h ++ e ∷ [])
tells_more claims [] e tells tell = (tell, tt)
tells_more claims (x ∷ h) e tells tell = (tells.0, tells_more (claims_after_entry claims x) h e tells.1 tell)

-- a beginning of a history that goes on by an entry is the whole, or a beginning of what was before the entry
begins : (h : History) (e : MountEntry) (start rest : History) → h ++ e ∷ [] ≡ start ++ rest
    → (h ++ e ∷ [] ≡ start) ⊎ ((left : History) × (h ≡ start ++ left))
begins h e [] rest is = inr (h, refl)
begins [] e (s ∷ []) rest is = inl (ap (λ (l : History). get_or l 0 e ∷ []) is)
begins [] e (s ∷ t ∷ start) rest is = let long = ap length is in absurd (omega (arith, long))
begins (x ∷ h) e (s ∷ start) rest is =
    let first : x ≡ s = ap (λ (l : History). get_or l 0 x) is in
    ⊎_elim
    (λ whole. inl (ap (λ (l : History). x ∷ l) whole ∙ ap (λ (y : MountEntry). y ∷ start) first))
    (λ left. inr (left.0, ap (λ (l : History). x ∷ l) left.1 ∙ ap (λ (y : MountEntry). y ∷ (start ++ left.0)) first))
    (begins h e start rest (ap (drop 1) is))

-- a history continues by a step that changes the claims according to its entry and reports them as they are
pub more : (h : History) (e : MountEntry) (old new : MountState) → IsStateAfter h old
    → ((m : PlainMount) → Represents old m → (is_refused e.reply ≡ false → KeyAgrees m.raws e.call.op)
    → TakesStep m e new)
    → new.ring.claims ≡ claims_after_entry old.ring.claims e → ReportsClaimOf old.ring.claims e
    → IsStateAfter (h ++ e ∷ []) new
more h e old new before steps claims told =
    let stood : KeysAgree (h ++ e ∷ []) → Represents old (mount_after h) = λ agree.
    before.represents (KeysAgree-begun h (e ∷ []) agree) in
    let step : KeysAgree (h ++ e ∷ []) → TakesStep (mount_after h) e new = λ agree.
    steps (mount_after h) (stood agree)
    (agrees_with_added h e agree (before.lawful.legal (KeysAgree-begun h (e ∷ []) agree))
    (stood agree).well.keys) in
    let legal : KeysAgree (h ++ e ∷ []) → IsLegal (h ++ e ∷ []) = λ agree.
    IsLegal-more h e _ (before.lawful.legal (KeysAgree-begun h (e ∷ []) agree)) (step agree).0 in
    record {
      lawful = record {
        legal = legal;
        begun = λ start rest is agree. ⊎_elim
            (λ whole. subst IsLegal whole (legal (subst KeysAgree (sym whole) agree)))
            (λ left. before.lawful.begun start left.0 left.1 agree)
            (begins h e start rest is);
        claims =
            tells_more no_claims h e before.lawful.claims (subst (λ cs. ReportsClaimOf cs e) before.claims told);
      };
      claims = claims ∙ ap (λ cs. claims_after_entry cs e) before.claims ∙ sym (claims_after-more h e);
      represents = λ agree. subst (Represents new) (sym (mount_after-more h e _ (step agree).0)) (step agree).1;
    }

-- and by a call that is out of memory, if it may take some: the state stays as it is
abbrev pub wanting : ℕ → Call → MountEntry
wanting caller call = entry caller call (Refused NoMemory)

pub IsStateAfter-out_of_memory : (h : History) (caller : ℕ) (call : Call) (state : MountState)
    → IsTrue (takes_memory call.op)
    → IsStateAfter h state → IsStateAfter (h ++ wanting caller call ∷ []) state
IsStateAfter-out_of_memory h caller call state takes before =
    more h (wanting caller call) state state before (λ m st agrees. (inr (takes, refl, refl), st)) refl
    (want_tells state.ring.claims call.uid call.op takes)
