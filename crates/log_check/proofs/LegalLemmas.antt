-- Legal histories are legal up to any place, and their replies are the one-thread mount's.
use Rattle.std.proofs.Common.{◌≡◌, ℕ, IsTrue, ◌⊎◌, Bool, true, false, cond, List, [], ◌∷◌, ◌++◌, inl, inr, refl, ap, sym, subst, ◌∙◌, ⊎_elim}
use Rattle.std.specs.Prelude.{Contains}
use Rattle.call_history.specs.Entries.{entry}
use Rattle.user_claims.specs.Claims.{ClaimSet, no_claims}
use Rattle.mount_model.specs.declared.call.Call.{Call}
use Rattle.mount_model.specs.declared.call.Op.{Op}
use Rattle.mount_model.specs.declared.call.Op.TheVariants.{AddKey}
use Rattle.mount_model.specs.declared.reply.Reply.{Reply}
use Rattle.mount_model.specs.declared.reply.Reply.TheVariants.{Refused}
use Rattle.mount_model.specs.declared.reply.Refusal.TheVariants.{NoMemory}
use Rattle.mount_model.specs.PlainMount.{PlainMount, empty_mount}
use Rattle.mount_model.specs.Step.{IsMountStep, takes_memory}
use Rattle.mount_model.specs.ClaimHistory.{is_refused, claims_after_entry, claims_from}
use Rattle.mount_model.specs.ClaimReplies.{ReportsClaims}
use Rattle.mount_model.specs.KeyReplies.{IsReplyOrNoMemory, addition_by}
use Rattle.mount_model.specs.Lawful.{raw_of, added_raw_keys, KeysAgree, ReportsClaimOf, ReportsClaimsFrom, IsLawful}
use Rattle.mount_model.proofs.LawfulLemmas.{legal_lawful}
use Rattle.mount_model.specs.History.{MountEntry, History, mount_after_entry, mount_from, mount_after, IsLegalFrom, IsLegal}
use Rattle.log_check.specs.Laws.{MountsHaveOneReply}

legal_begun : (m : PlainMount) (g h : History) → IsLegalFrom m (g ++ h) → IsLegalFrom m g
legal_begun m [] h legal = tt
legal_begun m (e ∷ g) h legal = (legal.0, legal_begun (mount_after_entry m e) g h legal.1)

pub IsLegal-begun : (g h : History) → IsLegal (g ++ h) → IsLegal g
IsLegal-begun g h legal = legal_begun empty_mount g h legal

-- the step of the next entry
legal_step : (m : PlainMount) (g : History) (e : MountEntry) → IsLegalFrom m (g ++ e ∷ [])
    → (after : PlainMount) × IsMountStep (mount_from m g) e.who e.call e.reply after
legal_step m [] e legal = (mount_after_entry m e, legal.0)
legal_step m (x ∷ g) e legal = legal_step (mount_after_entry m x) g e legal.1

abbrev OneReply : Call → Reply → Reply → Type 0
OneReply call a b = (a ≡ b) ⊎ (IsTrue (takes_memory call.op) × ((a ≡ Refused NoMemory) ⊎ (b ≡ Refused NoMemory)))

one_reply : (m : PlainMount) (caller : ℕ) (call : Call) (a b : Reply) (after other : PlainMount)
    → IsMountStep m caller call a after → IsMountStep m caller call b other → OneReply call a b
one_reply m caller call a b after other (inl x) (inl y) = inl (x.0 ∙ sym y.0)
one_reply m caller call a b after other (inr x) step = inr (x.0, inl x.1)
one_reply m caller call a b after other (inl x) (inr y) = inr (y.0, inr y.1)

pub mounts_have_one_reply : MountsHaveOneReply
mounts_have_one_reply history caller call a b first second =
    let x = legal_step empty_mount history (entry caller call a) first in
    let y = legal_step empty_mount history (entry caller call b) second in
    one_reply (mount_after history) caller call a b x.0 y.0 x.1 y.1

-- ---- a lawful reply beside a legal one

-- what the claims allow of the last reply
tells_last : (claims : ClaimSet) (h : History) (e : MountEntry) → ReportsClaimsFrom claims (h ++ e ∷ []) → ReportsClaimOf (claims_from claims h) e
tells_last claims [] e tells = tells.0
tells_last claims (x ∷ h) e tells = tells_last (claims_after_entry claims x) h e tells.1

one_told : (call : Call) (told a b : Reply) → IsTrue (takes_memory call.op) → IsReplyOrNoMemory told a → IsReplyOrNoMemory told b → OneReply call a b
one_told call told a b takes (inl x) (inl y) = inl (x ∙ sym y)
one_told call told a b takes (inr x) of_b = inr (takes, inl x)
one_told call told a b takes (inl x) (inr y) = inr (takes, inr y)

-- it adds a raw key, or none
adds : (o : Op) → ((raw : List ℕ) × (o ≡ AddKey raw)) ⊎ (raw_of o ≡ [])
adds (AddKey raw) = inl (raw, refl)
adds other = inr refl

none_added : (refused : Bool) (own : List (List ℕ)) → own ≡ [] → cond refused [] own ++ [] ≡ []
none_added true own none = refl
none_added false own none = ap (λ (l : List (List ℕ)). l ++ []) none

-- if none is added, whatever the reply
same_raws : (h : History) (caller : ℕ) (call : Call) (a b : Reply) → raw_of call.op ≡ []
    → added_raw_keys (h ++ entry caller call a ∷ []) ≡ added_raw_keys (h ++ entry caller call b ∷ [])
same_raws [] caller call a b none = none_added (is_refused a) (raw_of call.op) none ∙ sym (none_added (is_refused b) (raw_of call.op) none)
same_raws (e ∷ h) caller call a b none = ap (λ (l : List (List ℕ)). cond (is_refused e.reply) [] (raw_of e.call.op) ++ l) (same_raws h caller call a b none)

agree_alike : (g h : History) → added_raw_keys g ≡ added_raw_keys h → KeysAgree h → KeysAgree g
agree_alike g h same agree a b has_a has_b =
    agree a b (subst (λ (l : List (List ℕ)). Contains l a) same has_a) (subst (λ (l : List (List ℕ)). Contains l b) same has_b)

-- After one history a lawful reply to a call and a legal one are the same, except out of memory, if the raw
-- keys agree that were added with the legal one: the answer to adding a key comes from the claims, whatever
-- was added.
pub one_lawful_reply : (h : History) (caller : ℕ) (call : Call) (a b : Reply) → IsLawful (h ++ entry caller call a ∷ [])
    → IsLegal (h ++ entry caller call b ∷ []) → KeysAgree (h ++ entry caller call b ∷ []) → OneReply call a b
one_lawful_reply h caller call a b lawful legal agree = ⊎_elim
    (λ adding. let raw : List ℕ = adding.0 in
    let claims : ClaimSet = claims_from no_claims h in
    let of_a : IsReplyOrNoMemory (addition_by claims call.uid raw) a =
    subst (λ (o : Op). ReportsClaims claims call.uid o a) adding.1 (tells_last no_claims h (entry caller call a) lawful.claims) in
    let of_b : IsReplyOrNoMemory (addition_by claims call.uid raw) b =
    subst (λ (o : Op). ReportsClaims claims call.uid o b) adding.1 (tells_last no_claims h (entry caller call b) (legal_lawful (h ++ entry caller call b ∷ []) legal).claims) in
    one_told call (addition_by claims call.uid raw) a b (ap takes_memory adding.1) of_a of_b)
    (λ none. mounts_have_one_reply h caller call a b
    (lawful.legal (agree_alike (h ++ entry caller call a ∷ []) (h ++ entry caller call b ∷ []) (same_raws h caller call a b none) agree)) legal)
    (adds call.op)
