-- A lawful run that is never out of memory is the one-thread mount's, if the raw keys agree that are
-- added there.
use Rattle.std.proofs.Common.{◌≡◌, ◌≢◌, ℕ, Bool, true, false, cond, List, [], ◌∷◌, ◌++◌, append_assoc, ⊎_elim, refl, ap, sym, ◌∙◌, subst}
use Rattle.std.specs.Prelude.{Contains}
use Rattle.std.proofs.lemmas.List.Elements.{All-head, All-tail}
use Rattle.call_history.specs.Entries.{entry}
use Rattle.fsc_keys.specs.Keys.{key_id_of}
use Rattle.user_claims.specs.Claims.{ClaimSet, no_claims}
use Rattle.mount_model.specs.declared.call.Call.{Call}
use Rattle.mount_model.specs.declared.call.Op.{Op}
use Rattle.mount_model.specs.declared.call.Op.TheVariants as op
use Rattle.mount_model.specs.declared.reply.Reply.{Reply}
use Rattle.mount_model.specs.declared.reply.Reply.TheVariants.{Refused}
use Rattle.mount_model.specs.declared.reply.Refusal.TheVariants.{NoMemory}
use Rattle.mount_model.specs.PlainMount.{PlainMount, empty_mount}
use Rattle.mount_model.specs.Answer.{answer_of, answer_to}
use Rattle.mount_model.specs.ClaimHistory.{is_refused, claims_from, claims_after_entry}
use Rattle.mount_model.specs.History.{History, MountEntry, IsLegal, IsLegalFrom, IsStepAt, NeverOutOfMemory, mount_after_entry, mount_from, mount_after}
use Rattle.mount_model.specs.Lawful.{raw_of, added_raw_keys, KeysAgree, ReportsClaims, ReportsClaimOf, ReportsClaimsOf, ReportsClaimsFrom, IsLawful}
use Rattle.mount_model.proofs.AgreeLemmas.{added_raw_keys-append, KeysAgree-begun}
use Rattle.mount_model.proofs.HistoryLemmas.{claims-mount_after}
use Rattle.mount_model.proofs.LawfulLemmas.{addition_reply}
use Rattle.mount_model.proofs.StepLemmas.{answered-step}
use Rattle.script_lang.specs.declared.commands.Section.{Section}
use Rattle.fsc_commands.specs.Steps.{Steps, Reaches}
use Rattle.fsc_commands.specs.Steps.Steps.{Done, Ask}
use Rattle.fsc_session.specs.Rotation.{Waiting, rotation_steps}
use Rattle.fsc_session.specs.Serial.{serial_entries, serial_history}
use Rattle.fsc_session.proofs.LawLemmas.{given_reply, left_when_given}

abbrev HadMemory : MountEntry → Type 0
HadMemory e = e.reply ≢ Refused NoMemory

-- ---- the entry after a beginning

tells_at : (claims : ClaimSet) (g : History) (e : MountEntry) (es : History) → ReportsClaimsFrom claims (g ++ e ∷ es) → ReportsClaimOf (claims_from claims g) e
tells_at claims [] e es tells = tells.0
tells_at claims (x ∷ g) e es tells = tells_at (claims_after_entry claims x) g e es tells.1

step_at : (m : PlainMount) (g : History) (e : MountEntry) → IsLegalFrom m (g ++ e ∷ []) → IsStepAt (mount_from m g) e
step_at m [] e legal = legal.0
step_at m (x ∷ g) e legal = step_at (mount_after_entry m x) g e legal.1

mount_from-more : (m : PlainMount) (g : History) (e : MountEntry) → mount_from m (g ++ e ∷ []) ≡ mount_after_entry (mount_from m g) e
mount_from-more m [] e = refl
mount_from-more m (x ∷ g) e = mount_from-more (mount_after_entry m x) g e

-- ---- what it adds

abbrev added_by : Op → Reply → List (List ℕ)
added_by o reply = cond (is_refused reply) [] (raw_of o)

abbrev no_keys : List (List ℕ)
no_keys = []

cond_none : (b : Bool) → cond b no_keys no_keys ≡ no_keys
cond_none true = refl
cond_none false = refl

-- the claims determine whether a key is added
same_added : (m : PlainMount) (who uid : ℕ) (o : Op) (reply : Reply) → ReportsClaims m.claims uid o reply → reply ≢ Refused NoMemory
    → added_by o reply ≡ added_by o (answer_to m who uid o).reply
same_added m who uid (op.AddKey raw) reply tells given =
    ⊎_elim
    (λ told. ap (λ (r : Reply). added_by (op.AddKey raw) r) (told ∙ sym (addition_reply m uid raw)))
    (λ none. absurd (given none))
    tells
same_added m who uid other reply tells given = cond_none (is_refused reply) ∙ sym (cond_none (is_refused (answer_to m who uid other).reply))

-- ---- its reply is the mount's

abbrev due : PlainMount → MountEntry → MountEntry
due m e = entry e.who e.call (answer_of m e.who e.call).reply

abbrev Agree : List (List ℕ) → Type 0
Agree raws = (a b : List ℕ) → Contains raws a → Contains raws b → key_id_of a ≡ key_id_of b → a ≡ b

due_reply : (whole : History) → IsLawful whole → (g : History) (e : MountEntry) (es rest : History) → whole ≡ g ++ e ∷ es → HadMemory e
    → KeysAgree (g ++ due (mount_after g) e ∷ rest) → e.reply ≡ (answer_of (mount_after g) e.who e.call).reply
due_reply whole lawful g e es rest is given agree =
    let m : PlainMount = mount_after g in
    let legal : IsLegal g = lawful.begun g (e ∷ es) is (KeysAgree-begun g (due m e ∷ rest) agree) in
    let told : ReportsClaimOf m.claims e =
    subst (λ cs. ReportsClaimOf cs e) (sym (claims-mount_after g legal)) (tells_at no_claims g e es (subst ReportsClaimsOf is lawful.claims)) in
    let added : added_raw_keys (g ++ due m e ∷ []) ≡ added_raw_keys (g ++ e ∷ []) =
    added_raw_keys-append g (due m e ∷ [])
    ∙ ap (λ (l : List (List ℕ)). added_raw_keys g ++ (l ++ [])) (sym (same_added m e.who e.call.uid e.call.op e.reply told given))
    ∙ sym (added_raw_keys-append g (e ∷ [])) in
    let next : KeysAgree (g ++ due m e ∷ []) =
    KeysAgree-begun (g ++ due m e ∷ []) rest (subst KeysAgree (sym (append_assoc g (due m e ∷ []) rest)) agree) in
    let own : KeysAgree (g ++ e ∷ []) = subst Agree added next in
    let more : IsLegal (g ++ e ∷ []) = lawful.begun (g ++ e ∷ []) es (is ∙ sym (append_assoc g (e ∷ []) es)) own in
    answered-step m e (mount_after_entry m e) (step_at empty_mount g e more) given

-- ---- call after call

runs_as : (whole : History) → IsLawful whole → {A : Type 0} (steps : Steps A) (g h : History) (value : A) → whole ≡ g ++ h
    → NeverOutOfMemory h → Reaches steps h (Done value) → KeysAgree (g ++ serial_entries (mount_after g) steps) → h ≡ serial_entries (mount_after g) steps
runs_as whole lawful steps g [] value is never so agree = sym (ap (serial_entries (mount_after g)) so)
runs_as whole lawful (Done other) g (e ∷ es) value is never so agree = absurd so
runs_as whole lawful (Ask who call next) g (e ∷ es) value is never so agree =
    let m : PlainMount = mount_after g in
    let given : HadMemory e = All-head HadMemory e es never in
    let rest : History = serial_entries (answer_of m e.who e.call).mount (next (answer_of m e.who e.call).reply) in
    let asked : serial_entries m (Ask who call next) ≡ due m e ∷ rest =
    ap (λ (w : ℕ). entry w call (answer_of m w call).reply ∷ serial_entries (answer_of m w call).mount (next (answer_of m w call).reply)) (sym so.0)
    ∙ ap (λ (c : Call). entry e.who c (answer_of m e.who c).reply ∷ serial_entries (answer_of m e.who c).mount (next (answer_of m e.who c).reply)) (sym so.1) in
    let agreed : KeysAgree (g ++ due m e ∷ rest) = subst (λ (l : History). KeysAgree (g ++ l)) asked agree in
    let same : e.reply ≡ (answer_of m e.who e.call).reply = due_reply whole lawful g e es rest is given agreed in
    let first : due m e ≡ e = ap (λ (r : Reply). entry e.who e.call r) (sym same) in
    let after : (answer_of m e.who e.call).mount ≡ mount_after (g ++ e ∷ []) =
    sym (mount_from-more empty_mount g e ∙ left_when_given m _ _ (given_reply e.reply given)) in
    let left : History = serial_entries (mount_after (g ++ e ∷ [])) (next e.reply) in
    let tail : rest ≡ left =
    ap (λ (n : PlainMount). serial_entries n (next (answer_of m e.who e.call).reply)) after
    ∙ ap (λ (r : Reply). serial_entries (mount_after (g ++ e ∷ [])) (next r)) (sym same) in
    let goes_on : KeysAgree ((g ++ e ∷ []) ++ left) =
    subst KeysAgree
    (ap (λ (x : MountEntry). g ++ x ∷ rest) first ∙ ap (λ (l : History). g ++ e ∷ l) tail ∙ sym (append_assoc g (e ∷ []) left)) agreed in
    let others : es ≡ left =
    runs_as whole lawful (next e.reply) (g ++ e ∷ []) es value (is ∙ sym (append_assoc g (e ∷ []) es)) (All-tail HadMemory e es never) so.2 goes_on in
    ap (λ (l : History). e ∷ l) (others ∙ sym tail) ∙ ap (λ (x : MountEntry). x ∷ rest) (sym first) ∙ sym asked

pub lawful_serial : (seed : List ℕ) (script : List Section) (history : History) (after : List Waiting)
    → Reaches (rotation_steps seed script) history (Done after) → IsLawful history → NeverOutOfMemory history
    → KeysAgree (serial_history seed script) → history ≡ serial_history seed script
lawful_serial seed script history after ran lawful never agree =
    runs_as history lawful (rotation_steps seed script) [] history after refl never ran agree
