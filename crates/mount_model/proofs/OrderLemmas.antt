-- Which refusal comes first if several would hold.
use Rattle.std.proofs.Common.{◌≡◌, ◌≢◌, ℕ, Bool, true, false, cond, not, ◌||◌, List, [], ◌∷◌, length, eqb, eqb-true, Option, Some, None, is_some, refl, ap, ◌∙◌, arith}
use Rattle.std.proofs.lemmas.Bool.{cond-true, cond-false}
use Rattle.policy_ctx.specs.declared.policy.Context.{Context}
use Rattle.policy_ctx.specs.PolicyFaults.{policy_fault}
use Rattle.user_claims.specs.ClaimCounts.{is_present}
use Rattle.plain_tree.specs.NodesByNumber.{children, context_at, is_dir_at}
use Rattle.mount_model.specs.declared.reply.Refusal.TheVariants.{NoKey, Inval, Exists, NotDir, NotEmpty}
use Rattle.mount_model.specs.PlainMount.{PlainMount}
use Rattle.mount_model.specs.States.{is_keyed_under}
use Rattle.mount_model.specs.EntryPaths.{is_root, last_part, parent}
use Rattle.mount_model.specs.AnswerForms.{Answer, refusal_with, at_node}
use Rattle.mount_model.specs.PolicyAnswers.{answer_to_encrypt, answer_to_set_at}
use Rattle.mount_model.specs.SpelledPolicy.{policy_in}
use Rattle.mount_model.specs.NameAnswers.{answer_to_make_in}
use Rattle.mount_model.specs.EncryptedNames.{lacks_key}
use Rattle.mount_model.specs.OrderLaws.{HandlesHoldNodeKeys, CreationsNeedTheKey, OnlyEmptyOnesAreEncrypted}

pub handles_keep_keyed : HandlesHoldNodeKeys
handles_keep_keyed m n held = by (context_at m.nodes n)
  where
    or_true : (b : Bool) → (b || true) ≡ true
    or_true true = refl
    or_true false = refl

    by : (o : Option Context) → is_keyed_under m n o ≡ true
    by None = refl
    by (Some c) = ap (λ b. is_present m.claims c.policy.id || b) held ∙ or_true (is_present m.claims c.policy.id)

-- what is first in a choice whose test holds, or last in one whose test doesn't
yes_first : (b : Bool) (x y : Answer) → b ≡ true → cond b x y ≡ x
yes_first b x y is = cond-true b x y is

pub creations_need_keys : CreationsNeedTheKey
creations_need_keys m path nonce body d named led lacks =
    cond-false (is_root path) (refusal_with m Exists) (at_node m (parent m path) (answer_to_make_in m (last_part path) nonce body)) named
    ∙ (ap (λ w. at_node m w (answer_to_make_in m (last_part path) nonce body)) led
    ∙ yes_first (lacks_key m (context_at m.nodes d)) (refusal_with m NoKey) _ lacks)

some_entries : {A : Type 0} (xs : List A) → (xs ≢ []) → eqb (length xs) 0 ≡ false
some_entries [] some = absurd (some refl)
some_entries (x ∷ xs) some = cases (eqb (length (x ∷ xs)) 0) refl
  where
    cases : (b : Bool) → eqb (length (x ∷ xs)) 0 ≡ b → b ≡ false
    cases true is = let none : length (x ∷ xs) ≡ 0 = eqb-true (length (x ∷ xs)) 0 is in absurd (omega arith)
    cases false is = refl

encrypting : (m : PlainMount) (uid d : ℕ) (new : Context) (o : Option Context) → o ≡ None → (children m.nodes d ≢ [])
    → answer_to_encrypt m uid d new o ≡ refusal_with m NotEmpty
encrypting m uid d new None is some = yes_first (not (eqb (length (children m.nodes d)) 0)) (refusal_with m NotEmpty) _ (ap not (some_entries (children m.nodes d) some))
encrypting m uid d new (Some c) is some = absurd (cc)

pub only_empty_ones : OnlyEmptyOnesAreEncrypted
only_empty_ones m uid path policy nonce d led dir not_root spelled plain some =
    ap (λ w. at_node m w (answer_to_set_at m uid policy nonce)) led
    ∙ (cond-false (not (is_dir_at m.nodes d)) (refusal_with m NotDir) _ (ap not dir)
    ∙ (cond-false (eqb d 0) (refusal_with m Inval) _ (no_root (eqb d 0) refl)
    ∙ (cond-false (is_some (policy_fault policy)) (refusal_with m Inval) _ spelled
    ∙ encrypting m uid d (record { policy = policy_in policy; nonce = nonce }) (context_at m.nodes d) plain some)))
  where
    no_root : (b : Bool) → eqb d 0 ≡ b → b ≡ false
    no_root true is = absurd (not_root (eqb-true d 0 is))
    no_root false is = refl
