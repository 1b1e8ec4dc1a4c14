-- The calls that remove claims on keys: what each answers, its refusals in the order in which they are
-- tried, and the mount that it leaves. They are tried by the claims alone, and by whether something open
-- needs the key, which is `busy` here.
use Rattle.std.specs.Prelude.{ℕ, Bool, false, not, ◌==◌, ◌&&◌, if◌then◌else◌}
use Rattle.policy_ctx.specs.declared.policy.KeyId.{KeyId}
use Rattle.user_claims.specs.Claims.{ClaimSet, has_claim, without_claim, without_id}
use Rattle.user_claims.specs.ClaimCounts.{is_present}
use Rattle.mount_model.specs.declared.reply.Reply.{Reply}
use Rattle.mount_model.specs.declared.reply.Reply.TheVariants.{Removed}
use Rattle.mount_model.specs.declared.reply.Refusal.{Refusal}
use Rattle.mount_model.specs.declared.reply.Refusal.TheVariants.{NoKey, Access}
use Rattle.mount_model.specs.PlainMount.{PlainMount}
use Rattle.mount_model.specs.States.{is_busy}
use Rattle.mount_model.specs.AnswerForms.{Answer, refusal_with}

-- there is no claim on the key, and nothing open needs it
abbrev pub is_absent : ClaimSet → Bool → KeyId → Bool
is_absent claims busy id = not (is_present claims id) && not busy

-- the outcome of removing the user's claim: a refusal, or `due`
abbrev pub removing : {A : Type 0} → (Refusal → A) → A → ClaimSet → Bool → ℕ → KeyId → A
removing refuse due claims busy uid id =
    if is_absent claims busy id then refuse NoKey else
    if is_present claims id && not (has_claim claims id uid) then refuse NoKey else
    due

-- others is whether a claim is left; busy, if none is, whether something open needs the key
abbrev pub reply_to_removal : Bool → Bool → Reply
reply_to_removal left busy = Removed left (not left && busy)

abbrev pub answer_to_removed_claim : PlainMount → ℕ → KeyId → Answer
answer_to_removed_claim m uid id = record {
  reply = reply_to_removal (is_present (without_claim m.claims id uid) id) (is_busy m id);
  mount = record m { claims = without_claim m.claims id uid };
}

abbrev pub answer_to_remove_key : PlainMount → ℕ → KeyId → Answer
answer_to_remove_key m uid id
    = removing (refusal_with m) (answer_to_removed_claim m uid id) m.claims (is_busy m id) uid id

-- the outcome of removing all claims on the key: a refusal, or `due`
abbrev pub removing_all : {A : Type 0} → (Refusal → A) → A → ClaimSet → Bool → ℕ → KeyId → A
removing_all refuse due claims busy uid id =
    if not (uid == 0) then refuse Access else
    if is_absent claims busy id then refuse NoKey else
    due

abbrev pub answer_to_all_removed : PlainMount → KeyId → Answer
answer_to_all_removed m id = record {
  reply = Removed false (is_busy m id);
  mount = record m { claims = without_id m.claims id };
}

abbrev pub answer_to_remove_key_all : PlainMount → ℕ → KeyId → Answer
answer_to_remove_key_all m uid id =
    removing_all (refusal_with m) (answer_to_all_removed m id) m.claims (is_busy m id) uid id
