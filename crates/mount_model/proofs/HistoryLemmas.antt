-- Legal histories: what determines them, what they leave, and how they go on.
use Rattle.std.proofs.Common.{◌≡◌, ◌≢◌, ℕ, IsTrue, List, [], ◌∷◌, ◌++◌, drop, get_or, length, sym, refl, ap, ◌∙◌, subst, inr, arith}
use Rattle.mount_model.specs.declared.call.Call.{Call}
use Rattle.mount_model.specs.declared.reply.Reply.TheVariants.{Refused}
use Rattle.mount_model.specs.declared.reply.Refusal.TheVariants.{NoMemory}
use Rattle.std.proofs.lemmas.List.Elements.{All-head, All-tail}
use Rattle.user_claims.specs.Claims.{ClaimSet, no_claims}
use Rattle.mount_model.specs.PlainMount.{PlainMount, empty_mount}
use Rattle.mount_model.specs.Answer.{answer_of}
use Rattle.mount_model.specs.Step.{IsMountStep, takes_memory}
use Rattle.mount_model.specs.History.{MountEntry, History, mount_after_entry, mount_from, mount_after, IsLegalFrom, IsLegal, calls_of, NeverOutOfMemory}
use Rattle.mount_model.specs.ClaimHistory.{claims_from, claims_after_entry, claims_after}
use Rattle.mount_model.proofs.StepLemmas.{mount_after_entry-step, claims_after_entry-step, answered-step}

entry_same : (e f : MountEntry) → e.who ≡ f.who → e.call ≡ f.call → e.reply ≡ f.reply → e ≡ f
entry_same e f p q r = λ i. record { who = p i; call = q i; reply = r i }

-- ---- the calls determine the replies

abbrev HadMemory : MountEntry → Type 0
HadMemory e = e.reply ≢ Refused NoMemory

determined : (m : PlainMount) (g h : History) → IsLegalFrom m g → IsLegalFrom m h → NeverOutOfMemory g → NeverOutOfMemory h → calls_of g ≡ calls_of h → g ≡ h
determined m [] [] lg lh ng nh same = refl
determined m [] (f ∷ h) lg lh ng nh same = let lengths = ap length same in absurd (omega arith)
determined m (e ∷ g) [] lg lh ng nh same = let lengths = ap length same in absurd (omega arith)
determined m (e ∷ g) (f ∷ h) lg lh ng nh same =
    let first : (e.who, e.call) ≡ (f.who, f.call) = ap (λ (l : List (ℕ × Call)). get_or l 0 (e.who, e.call)) same in
    let replies : e.reply ≡ f.reply =
    answered-step m e _ lg.0 (All-head HadMemory e g ng) ∙ (ap (λ (c : ℕ × Call). (answer_of m c.0 c.1).reply) first ∙ sym (answered-step m f _ lh.0 (All-head HadMemory f h nh))) in
    let firsts : e ≡ f = entry_same e f (ap (λ (c : ℕ × Call). c.0) first) (ap (λ (c : ℕ × Call). c.1) first) replies in
    let rest : g ≡ h = determined (mount_after_entry m e) g h lg.1 (subst (λ x. IsLegalFrom (mount_after_entry m x) h) (sym firsts) lh.1) (All-tail HadMemory e g ng) (All-tail HadMemory f h nh) (ap (drop 1) same) in
    λ i. firsts i ∷ rest i

pub calls_determine : (g h : History) → IsLegal g → IsLegal h → NeverOutOfMemory g → NeverOutOfMemory h → calls_of g ≡ calls_of h → g ≡ h
calls_determine = determined empty_mount

-- ---- the claims that are left

claims_follow : (m : PlainMount) (h : History) → IsLegalFrom m h → (mount_from m h).claims ≡ claims_from m.claims h
claims_follow m [] legal = refl
claims_follow m (e ∷ h) legal =
    claims_follow (mount_after_entry m e) h legal.1 ∙ ap (λ cs. claims_from cs h) (claims_after_entry-step m e (mount_after_entry m e) legal.0)

pub claims-mount_after : (h : History) → IsLegal h → (mount_after h).claims ≡ claims_after h
claims-mount_after h legal = claims_follow empty_mount h legal

-- ---- a history goes on

mount_from-append : (m : PlainMount) (g h : History) → mount_from m (g ++ h) ≡ mount_from (mount_from m g) h
mount_from-append m [] h = refl
mount_from-append m (e ∷ g) h = mount_from-append (mount_after_entry m e) g h

IsLegalFrom-append : (m : PlainMount) (g h : History) → IsLegalFrom m g → IsLegalFrom (mount_from m g) h → IsLegalFrom m (g ++ h)
IsLegalFrom-append m [] h lg lh = lh
IsLegalFrom-append m (e ∷ g) h lg lh = (lg.0, IsLegalFrom-append (mount_after_entry m e) g h lg.1 lh)

-- by one entry, whose step it takes
pub mount_after-more : (h : History) (e : MountEntry) (after : PlainMount) → IsMountStep (mount_after h) e.who e.call e.reply after → mount_after (h ++ e ∷ []) ≡ after
mount_after-more h e after step = mount_from-append empty_mount h (e ∷ []) ∙ sym (mount_after_entry-step (mount_after h) e after step)

pub IsLegal-more : (h : History) (e : MountEntry) (after : PlainMount) → IsLegal h → IsMountStep (mount_after h) e.who e.call e.reply after → IsLegal (h ++ e ∷ [])
IsLegal-more h e after legal step = IsLegalFrom-append empty_mount h (e ∷ []) legal
    (subst (IsMountStep (mount_after h) e.who e.call e.reply) (mount_after_entry-step (mount_after h) e after step) step, tt)

pub claims_after-more : (h : History) (e : MountEntry) → claims_after (h ++ e ∷ []) ≡ claims_after_entry (claims_after h) e
claims_after-more h e = go no_claims h
  where
    go : (cs : ClaimSet) (g : History) → claims_from cs (g ++ e ∷ []) ≡ claims_after_entry (claims_from cs g) e
    go cs [] = refl
    go cs (x ∷ g) = go (claims_after_entry cs x) g

-- a call that may take memory may find none
pub IsLegal-want_of_memory : (h : History) (e : MountEntry) → IsLegal h → IsTrue (takes_memory e.call.op) → e.reply ≡ Refused NoMemory → IsLegal (h ++ e ∷ [])
IsLegal-want_of_memory h e legal takes none = IsLegal-more h e (mount_after h) legal (inr (takes, none, refl))
