-- A policy that got a wrap for a further protector opens through that one and through those that opened it
-- before, from the text that is stored.
use Rattle.std.specs.Prelude.{◌≡◌, ℕ, List, Ok}
use Rattle.mount_model.specs.declared.reply.Reply.{Reply}
use Rattle.mount_model.specs.declared.reply.Reply.TheVariants.{Held}
use Rattle.protector_meta.specs.declared.policy_file.PolicyFile.{PolicyFile}
use Rattle.protector_meta.specs.declared.wraps.Wrap.{Wrap}
use Rattle.protector_meta.specs.PolicyRecords.{IsPolicyFile}
use Rattle.protector_meta.specs.PolicyText.{policy_text}
use Rattle.session_records.specs.declared.opening.OpenedPolicy.{OpenedPolicy}
use Rattle.session_records.specs.NewPolicies.{made_wrap}
use Rattle.session_records.specs.PolicyRecords.{policy_with, wrap_space_for}
use Rattle.session_records.specs.Records.{opened_policy}

-- a policy that a protector opened, and that then got a wrap of its key for a further protector, opens
-- through the further one, to the key that it had
abbrev pub AddedProtectorsOpen : Type 0
AddedProtectorsOpen =
    (label protector key : List ℕ) (reply : Reply) (opened : OpenedPolicy)
    → opened_policy label protector key reply ≡ Ok opened
    → (version : ℕ) (added added_key iv : List ℕ) → wrap_space_for added opened.loaded.policy.wraps ≡ Ok tt
    → (let wrap : Wrap = made_wrap added added_key iv opened.key in
    let changed : PolicyFile = policy_with wrap opened.loaded.policy in
    IsPolicyFile changed → opened_policy label added added_key (Held version (policy_text changed))
    ≡ Ok (record { loaded = record { version = version; policy = changed }; key = opened.key }))

-- and with any wrap more it opens through each protector through which it opened before, to the same key
abbrev pub EarlierProtectorsOpen : Type 0
EarlierProtectorsOpen =
    (label protector key : List ℕ) (reply : Reply) (opened : OpenedPolicy)
    → opened_policy label protector key reply ≡ Ok opened
    → (other other_key : List ℕ) (was : OpenedPolicy) → opened_policy label other other_key reply ≡ Ok was
    → (version : ℕ) (wrap : Wrap)
    → (let changed : PolicyFile = policy_with wrap opened.loaded.policy in
    IsPolicyFile changed → opened_policy label other other_key (Held version (policy_text changed))
    ≡ Ok (record { loaded = record { version = version; policy = changed }; key = was.key }))
