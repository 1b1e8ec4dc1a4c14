-- Each answer, case by case: a property of each refusal, of each reply that changes nothing, and of the
-- mount after the call is one of the answer.
use Rattle.std.proofs.Common.{nat_lt, ◌≡◌, ℕ, Bool, true, false, cond, not, ◌&&◌, List, [], ◌∷◌, length, eqb, Option, Some, None, is_some, Ok, Err, refl, sym}
use Rattle.std.proofs.lemmas.Bool.{cond_both}
use Rattle.policy_ctx.specs.declared.policy.KeyId.{KeyId}
use Rattle.policy_ctx.specs.declared.policy.Context.{Context}
use Rattle.policy_ctx.specs.PolicyFaults.{policy_fault}
use Rattle.plain_tree.specs.Nodes.{Name}
use Rattle.plain_tree.specs.NodesByNumber.{children, context_at, is_dir_at}
use Rattle.plain_tree.specs.Changes.{with_node_context}
use Rattle.fsc_keys.specs.Keys.{key_id_of}
use Rattle.user_claims.specs.Claims.{has_claim}
use Rattle.user_claims.specs.ClaimCounts.{is_present}
use Rattle.mount_model.specs.declared.reply.Reply.{Reply}
use Rattle.mount_model.specs.declared.reply.Reply.TheVariants.{Done, Refused}
use Rattle.name_crypt.specs.declared.limits.TheConstants.{MAX_NAME_BYTES}
use Rattle.mount_model.specs.declared.reply.Refusal.{Refusal}
use Rattle.mount_model.specs.declared.reply.Refusal.TheVariants.{NoKey, Access, Quota, Inval, Exists, NotFound, NotDir, NotEmpty, NoData, BadHandle, NameTooLong}
use Rattle.mount_model.specs.PlainMount.{PlainMount}
use Rattle.mount_model.specs.AnswerForms.{Answer, refusal_with, unchanged_with, done, at_node, at_entry}
use Rattle.mount_model.specs.States.{is_busy}
use Rattle.mount_model.specs.Walk.{PathParts, WalkResult, visible_entry, resolved_to, looked_in, walk_step, walked_on, walked_from, walk_path}
use Rattle.mount_model.specs.EntryPaths.{parent, parent_parts, last_part}
use Rattle.mount_model.specs.KeyAnswers.{is_raw_key, is_over_quota, answer_to_added_key, answer_to_add_key}
use Rattle.mount_model.specs.RemovalAnswers.{is_absent, answer_to_removed_claim, answer_to_all_removed, answer_to_remove_key, answer_to_remove_key_all}
use Rattle.mount_model.specs.PolicyAnswers.{may_use, answer_to_encrypt, answer_to_set_policy, policy_answer, answer_to_get_policy}
use Rattle.mount_model.specs.SpelledPolicy.{policy_in}
use Rattle.mount_model.specs.FileAnswers.{at_handle}
use Rattle.mount_model.specs.History.{is_out_of_memory}
use Rattle.mount_model.specs.ClaimHistory.{is_refused}

-- ---- requirements on a property of answers

pub is_so : (b : Bool) → not b ≡ false → b ≡ true
is_so true e = refl
is_so false e = sym e

abbrev pub CoversRefusals : (Answer → Type 0) → PlainMount → Type 0
CoversRefusals R m = (r : Refusal) → is_out_of_memory (Refused r) ≡ false → R (refusal_with m r)

pub record Covers (R : Answer → Type 0) (m : PlainMount) : Type 0 where
  pub of_refusals : CoversRefusals R m
  pub of_replies : (reply : Reply) → is_refused reply ≡ false → R (unchanged_with m reply)

pub when : (R : Answer → Type 0) {b : Bool} {x y : Answer} → (b ≡ true → R x) → (b ≡ false → R y) → R (cond b x y)
when R {b} {x} {y} yes_case no_case = cond_both b x y R yes_case no_case

-- ---- walks end in refusals that are expected

abbrev pub IsDueWalk : WalkResult → Type 0
IsDueWalk (Err r) = is_out_of_memory (Refused r) ≡ false
IsDueWalk (Ok n) = Unit {0}

pub looked_in_due : (m : PlainMount) (d : ℕ) (part : Name) → IsDueWalk (looked_in m d part)
looked_in_due m d part = cond_both (not (is_dir_at m.nodes d)) (Err NotDir) (cond (nat_lt MAX_NAME_BYTES (length part)) (Err NameTooLong) (Ok d)) IsDueWalk
    (λ _. refl)
    (λ _. cond_both (nat_lt MAX_NAME_BYTES (length part)) (Err NameTooLong) (Ok d) IsDueWalk (λ _. refl) (λ _. tt))

walked_on_due : (f : ℕ → WalkResult) (w : WalkResult) → IsDueWalk w → ((n : ℕ) → IsDueWalk (f n)) → IsDueWalk (walked_on f w)
walked_on_due f (Err r) due rest = due
walked_on_due f (Ok n) due rest = rest n

led_due : (o : Option (Name × ℕ)) → IsDueWalk (resolved_to o)
led_due None = refl
led_due (Some e) = tt

pub stepped_due : (m : PlainMount) (d : ℕ) (part : Name) → IsDueWalk (walk_step m d part)
stepped_due m d part = walked_on_due (λ _. resolved_to (visible_entry m d part)) (looked_in m d part) (looked_in_due m d part) (λ _. led_due (visible_entry m d part))

pub walked_from_due : (m : PlainMount) (n : ℕ) (path : PathParts) → IsDueWalk (walked_from m n path)
walked_from_due m n [] = tt
walked_from_due m n (part ∷ parts) = walked_on_due (λ x. walked_from m x parts) (walk_step m n part) (stepped_due m n part) (λ x. walked_from_due m x parts)

pub parent_due : (m : PlainMount) (path : PathParts) → IsDueWalk (parent m path)
parent_due m path = walked_on_due (λ d. looked_in m d (last_part path)) (walk_path m (parent_parts path)) (walked_from_due m 0 (parent_parts path)) (λ d. looked_in_due m d (last_part path))

pub at_walk : (R : Answer → Type 0) (m : PlainMount) (f : ℕ → Answer) (w : WalkResult) → Covers R m → IsDueWalk w → ((n : ℕ) → w ≡ Ok n → R (f n)) → R (at_node m w f)
at_walk R m f (Err r) covers due ok = covers.of_refusals r due
at_walk R m f (Ok n) covers due ok = ok n refl

pub at_found : (R : Answer → Type 0) (m : PlainMount) (f : Name → ℕ → Answer) (o : Option (Name × ℕ)) → Covers R m → ((e : Name × ℕ) → o ≡ Some e → R (f e.0 e.1)) → R (at_entry m o f)
at_found R m f None covers ok = covers.of_refusals NotFound refl
at_found R m f (Some e) covers ok = ok e refl

pub at_open : (R : Answer → Type 0) (m : PlainMount) (f : ℕ → Answer) (o : Option ℕ) → Covers R m → ((n : ℕ) → o ≡ Some n → R (f n)) → R (at_handle m o f)
at_open R m f None covers ok = covers.of_refusals BadHandle refl
at_open R m f (Some n) covers ok = ok n refl

-- ---- keys

pub at_add_key : (R : Answer → Type 0) (m : PlainMount) (uid : ℕ) (raw : List ℕ) → CoversRefusals R m
    → (is_raw_key raw ≡ true → is_over_quota m.claims (key_id_of raw) uid ≡ false → R (answer_to_added_key m uid raw)) → R (answer_to_add_key m uid raw)
at_add_key R m uid raw covers ok =
    when R (λ _. covers Inval refl) (λ fits.
    when R (λ _. covers Quota refl) (λ within.
    ok (is_so (is_raw_key raw) fits) within))

pub at_remove_key : (R : Answer → Type 0) (m : PlainMount) (uid : ℕ) (id : KeyId) → CoversRefusals R m → R (answer_to_removed_claim m uid id) → R (answer_to_remove_key m uid id)
at_remove_key R m uid id covers ok =
    when R (λ _. covers NoKey refl) (λ (_ : is_absent m.claims (is_busy m id) id ≡ false).
    when R (λ _. covers NoKey refl) (λ (_ : (is_present m.claims id && not (has_claim m.claims id uid)) ≡ false). ok))

pub at_remove_key_all : (R : Answer → Type 0) (m : PlainMount) (uid : ℕ) (id : KeyId) → CoversRefusals R m → R (answer_to_all_removed m id) → R (answer_to_remove_key_all m uid id)
at_remove_key_all R m uid id covers ok =
    when R (λ _. covers Access refl) (λ (_ : not (eqb uid 0) ≡ false).
    when R (λ _. covers NoKey refl) (λ (_ : is_absent m.claims (is_busy m id) id ≡ false). ok))

-- ---- policies

-- a directory that gets its policy: it has none, and no entries
pub record CanEncrypt (m : PlainMount) (uid : ℕ) (policy : List ℕ) (d : ℕ) : Type 0 where
  pub dir : is_dir_at m.nodes d ≡ true
  pub not_root : eqb d 0 ≡ false
  pub spelled : is_some (policy_fault policy) ≡ false
  pub plain : context_at m.nodes d ≡ None
  pub empty : eqb (length (children m.nodes d)) 0 ≡ true
  pub held : may_use m uid (policy_in policy).id ≡ true

abbrev pub encrypted_at : PlainMount → ℕ → Context → PlainMount
encrypted_at m d c = record m { nodes = with_node_context m.nodes d c }

at_encrypt : (R : Answer → Type 0) (m : PlainMount) (uid d : ℕ) (new : Context) (o : Option Context) → Covers R m
    → (o ≡ None → eqb (length (children m.nodes d)) 0 ≡ true → may_use m uid new.policy.id ≡ true → R (done (encrypted_at m d new))) → R (answer_to_encrypt m uid d new o)
at_encrypt R m uid d new (Some old) covers ok = when R (λ _. covers.of_replies Done refl) (λ _. covers.of_refusals Exists refl)
at_encrypt R m uid d new None covers ok =
    when R (λ _. covers.of_refusals NotEmpty refl) (λ empty.
    when R (λ _. covers.of_refusals NoKey refl) (λ held.
    ok refl (is_so _ empty) (is_so _ held)))

pub at_set_policy : (R : Answer → Type 0) (m : PlainMount) (uid : ℕ) (path : PathParts) (policy nonce : List ℕ) → Covers R m
    → ((d : ℕ) → CanEncrypt m uid policy d → R (done (encrypted_at m d (record { policy = policy_in policy; nonce = nonce })))) → R (answer_to_set_policy m uid path policy nonce)
at_set_policy R m uid path policy nonce covers ok = at_walk R m _ (walk_path m path) covers (walked_from_due m 0 path) (λ d _.
    when R (λ _. covers.of_refusals NotDir refl) (λ dir.
    when R (λ _. covers.of_refusals Inval refl) (λ not_root.
    when R (λ _. covers.of_refusals Inval refl) (λ spelled.
    at_encrypt R m uid d (record { policy = policy_in policy; nonce = nonce }) (context_at m.nodes d) covers (λ plain empty held. ok d (record {
      dir = is_so _ dir;
      not_root = not_root;
      spelled = spelled;
      plain = plain;
      empty = empty;
      held = held;
    }))))))

at_policy : (R : Answer → Type 0) (m : PlainMount) (o : Option Context) → Covers R m → R (policy_answer m o)
at_policy R m None covers = covers.of_refusals NoData refl
at_policy R m (Some c) covers = covers.of_replies _ refl

pub at_get_policy : (R : Answer → Type 0) (m : PlainMount) (path : PathParts) → Covers R m → R (answer_to_get_policy m path)
at_get_policy R m path covers = at_walk R m _ (walk_path m path) covers (walked_from_due m 0 path) (λ n _. at_policy R m (context_at m.nodes n) covers)
