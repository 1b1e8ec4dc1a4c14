-- What a removal reports of claims.
use Rattle.std.proofs.Common.{◌≡◌, ℕ, Bool, true, false, ◌&&◌}
use Rattle.std.specs.Prelude.{not, ◌==◌, if◌then◌else◌}
use Rattle.policy_ctx.specs.declared.policy.KeyId.{KeyId}
use Rattle.user_claims.specs.Claims.{ClaimSet, has_claim, without_claim}
use Rattle.user_claims.specs.ClaimCounts.{is_present}
use Rattle.mount_model.specs.declared.call.Op.TheVariants.{RemoveKey, RemoveKeyAll}
use Rattle.mount_model.specs.declared.reply.Reply.TheVariants.{Removed, Refused}
use Rattle.mount_model.specs.declared.reply.Refusal.TheVariants.{NoKey, Access}
use Rattle.mount_model.specs.RemovalAnswers.{reply_to_removal}
use Rattle.mount_model.specs.Lawful.{ReportsClaims}

all_gone : (a b : Bool) (others told' busy : Bool)
    → Removed others told' ≡ (if a then Refused Access else if b then Refused NoKey else Removed false busy) → others ≡ false
all_gone true b others told' busy is = absurd (cc is)
all_gone false true others told' busy is = absurd (cc is)
all_gone false false others told' busy is = cc is

one_gone : (a b left : Bool) (others told' busy : Bool)
    → Removed others told' ≡ (if a then Refused NoKey else if b then Refused NoKey else reply_to_removal left busy) → others ≡ left
one_gone true b left others told' busy is = absurd (cc is)
one_gone false true left others told' busy is = absurd (cc is)
one_gone false false left others told' busy is = cc is

pub clearing_tells : (claims : ClaimSet) (uid : ℕ) (id : KeyId) (others busy : Bool) → ReportsClaims claims uid (RemoveKeyAll id) (Removed others busy) → others ≡ false
clearing_tells claims uid id others busy told = all_gone (not (uid == 0)) (not (is_present claims id) && not told.0) others busy told.0 told.1

pub removal_tells : (claims : ClaimSet) (uid : ℕ) (id : KeyId) (others busy : Bool) → ReportsClaims claims uid (RemoveKey id) (Removed others busy)
    → others ≡ is_present (without_claim claims id uid) id
removal_tells claims uid id others busy told =
    one_gone (not (is_present claims id) && not told.0) (is_present claims id && not (has_claim claims id uid)) (is_present (without_claim claims id uid) id) others busy told.0 told.1
