-- A policy that got one wrap more opens through the added protector, and through the others as before.
use Rattle.std.proofs.Common.{◌≡◌, ℕ, Bool, true, false, cond, ◌||◌, nat_le, length, List, [], ◌∷◌, ◌++◌, Some, None, Ok, Err, refl, ap, sym, subst, ◌∙◌}
use Rattle.std.specs.Option.{option_or}
use Rattle.std.specs.Prelude.{⊤, Option, Result, if◌then◌else◌}
use Rattle.std.specs.Str.{bytes_eq}
use Rattle.std.proofs.lemmas.List.Folds.{find-append}
use Rattle.std.proofs.lemmas.Slice.Eq.{bytes_eq-Decides}
use Rattle.key_wrap.specs.Laws.{OpensAgain}
use Rattle.mount_model.specs.declared.reply.Reply.{Reply}
use Rattle.mount_model.specs.declared.reply.Reply.TheVariants.{Held}
use Rattle.mount_model.specs.declared.reply.Reply.TheVariants as reply
use Rattle.policy_ctx.specs.declared.policy.KeyId.{KeyId}
use Rattle.protector_meta.specs.declared.fault.MetaFault.{MetaFault}
use Rattle.protector_meta.specs.declared.policy_file.PolicyFile.{PolicyFile}
use Rattle.protector_meta.specs.declared.wraps.TheConstants.{MAX_WRAPS}
use Rattle.protector_meta.specs.declared.wraps.Wrap.{Wrap}
use Rattle.protector_meta.specs.declared.wraps.WrapFault.TheVariants.{Listed, Full}
use Rattle.protector_meta.specs.PolicyReading.{policy_read}
use Rattle.protector_meta.specs.PolicyRecords.{IsPolicyFile}
use Rattle.protector_meta.specs.PolicyText.{policy_text}
use Rattle.protector_meta.specs.Wraps.{is_for, is_listed, wrap_for}
use Rattle.reply_text.specs.declared.outcome.Outcome.{Outcome}
use Rattle.reply_text.specs.declared.outcome.Outcome.TheVariants.{BadRecord}
use Rattle.session_records.specs.declared.loading.LoadedPolicy.{LoadedPolicy}
use Rattle.session_records.specs.declared.opening.OpenedPolicy.{OpenedPolicy}
use Rattle.session_records.specs.ChangedPolicies.{AddedProtectorsOpen, EarlierProtectorsOpen}
use Rattle.session_records.specs.LoadedRecords.{loaded_policy, checked_policy}
use Rattle.session_records.specs.NewPolicies.{made_wrap}
use Rattle.session_records.specs.PolicyRecords.{policy_with, unless_refused}
use Rattle.session_records.specs.RecordKeys.{policy_key, key_in_wrap}
use Rattle.session_records.specs.Records.{opened_policy, policy_by, policy_with_key}
use Rattle.session_records.proofs.OpeningLemmas.{same_bytes, policy_again_named, wrap_opens, policies_named}

-- ---- what a policy that was opened is of

record IsOpenedFrom (protector key : List ℕ) (got : Result LoadedPolicy Outcome) (opened : OpenedPolicy) : Type 0 where
  loaded : got ≡ Ok opened.loaded
  through : policy_key opened.loaded.policy protector key ≡ Ok opened.key

with_key : (protector key : List ℕ) (loaded : LoadedPolicy) (opened : OpenedPolicy) (got : Result (List ℕ) Outcome)
    → policy_key loaded.policy protector key ≡ got → policy_with_key loaded got ≡ Ok opened → IsOpenedFrom protector key (Ok loaded) opened
with_key protector key loaded opened (Err outcome) same is = absurd (cc is)
with_key protector key loaded opened (Ok found) same is =
    let whole : record { loaded = loaded; key = found } ≡ opened = cc is in
    subst (IsOpenedFrom protector key (Ok loaded)) whole (record { loaded = refl; through = same })

opened_from : (protector key : List ℕ) (opened : OpenedPolicy) (got : Result LoadedPolicy Outcome)
    → policy_by protector key got ≡ Ok opened → IsOpenedFrom protector key got opened
opened_from protector key opened (Err outcome) is = absurd (cc is)
opened_from protector key opened (Ok loaded) is =
    with_key protector key loaded opened (policy_key loaded.policy protector key) refl is

-- ---- the record of a policy that was opened has the requested label

label_compared : (label protector key : List ℕ) (version : ℕ) (p : PolicyFile) (opened : OpenedPolicy) (b : Bool) → bytes_eq p.name label ≡ b
    → policy_by protector key (if b then Ok (record { version = version; policy = p }) else Err BadRecord) ≡ Ok opened → opened.loaded.policy.name ≡ label
label_compared label protector key version p opened false same is = absurd (cc is)
label_compared label protector key version p opened true same is =
    let from = (opened_from protector key opened (Ok (record { version = version; policy = p })) is).loaded in
    let whole : record { version = version; policy = p } ≡ opened.loaded = cc from in
    subst (λ (l : LoadedPolicy). l.policy.name ≡ label) whole ((bytes_eq-Decides p.name label).0 same)

text_read : (label protector key : List ℕ) (version : ℕ) (opened : OpenedPolicy) (got : Result PolicyFile MetaFault)
    → policy_by protector key (checked_policy label version got) ≡ Ok opened → opened.loaded.policy.name ≡ label
text_read label protector key version opened (Err fault) is = absurd (cc is)
text_read label protector key version opened (Ok p) is =
    label_compared label protector key version p opened (bytes_eq p.name label) refl is

named : (label protector key : List ℕ) (opened : OpenedPolicy) (r : Reply)
    → policy_by protector key (loaded_policy label r) ≡ Ok opened → opened.loaded.policy.name ≡ label
named label protector key opened (Held version bytes) is = text_read label protector key version opened (policy_read bytes) is
named label protector key opened (reply.Added id) is = absurd (cc is)
named label protector key opened (reply.Removed others busy) is = absurd (cc is)
named label protector key opened (reply.Status state by_self users) is = absurd (cc is)
named label protector key opened reply.Done is = absurd (cc is)
named label protector key opened (reply.PolicyIs bytes) is = absurd (cc is)
named label protector key opened (reply.Names names more) is = absurd (cc is)
named label protector key opened (reply.Stat kind node size encrypted keyed) is = absurd (cc is)
named label protector key opened (reply.Opened handle) is = absurd (cc is)
named label protector key opened (reply.Content bytes) is = absurd (cc is)
named label protector key opened (reply.Target bytes) is = absurd (cc is)
named label protector key opened (reply.Stored version) is = absurd (cc is)
named label protector key opened (reply.Refused refusal) is = absurd (cc is)

-- ---- the wraps of a policy with one wrap more

-- a protector that can be given a wrap has none
unlisted : (listed full : Bool) → unless_refused {A = ⊤} (if listed then Some Listed else if full then Some Full else None) tt ≡ Ok tt → listed ≡ false
unlisted true full is = absurd (cc is)
unlisted false full is = refl

first_unlisted : (label : List ℕ) (w : Wrap) (ws : List Wrap) (own : Bool) → is_for label w ≡ own → is_listed label (w ∷ ws) ≡ false
    → (is_listed label ws ≡ false → wrap_for label ws ≡ None) → wrap_for label (w ∷ ws) ≡ None
first_unlisted label w ws true same is more =
    let clash : false ≡ true = sym is ∙ ap (λ b. b || is_listed label ws) same in absurd (cc clash)
first_unlisted label w ws false same is more =
    ap (λ b. cond b (Some w) (wrap_for label ws)) same ∙ more (sym (ap (λ b. b || is_listed label ws) same) ∙ is)

none_for : (label : List ℕ) (ws : List Wrap) → is_listed label ws ≡ false → wrap_for label ws ≡ None
none_for label [] is = refl
none_for label (w ∷ ws) is = first_unlisted label w ws (is_for label w) refl is (none_for label ws)

-- its own protector finds the wrap that was added
added_found : (label : List ℕ) (w : Wrap) (ws : List Wrap) → is_listed label ws ≡ false → is_for label w ≡ true
    → wrap_for label (ws ++ w ∷ []) ≡ Some w
added_found label w ws none own =
    find-append (is_for label) ws (w ∷ []) ∙ ap (λ o. option_or o (wrap_for label (w ∷ []))) (none_for label ws none)
    ∙ ap (λ b. cond b (Some w) None) own

-- and another one the wrap that it found before
earlier_found : (label : List ℕ) (w found : Wrap) (ws : List Wrap) → wrap_for label ws ≡ Some found → wrap_for label (ws ++ w ∷ []) ≡ Some found
earlier_found label w found ws is =
    find-append (is_for label) ws (w ∷ []) ∙ ap (λ o. option_or o (wrap_for label (w ∷ []))) is

earlier_opens : (id : KeyId) (label key opened : List ℕ) (w : Wrap) (ws : List Wrap) (got : Option Wrap) → wrap_for label ws ≡ got
    → key_in_wrap id key got ≡ Ok opened → key_in_wrap id key (wrap_for label (ws ++ w ∷ [])) ≡ Ok opened
earlier_opens id label key opened w ws None same is = absurd (cc is)
earlier_opens id label key opened w ws (Some found) same is = ap (key_in_wrap id key) (earlier_found label w found ws same) ∙ is

-- ---- from the text that is stored

opens_from_text : (label protector key found : List ℕ) (version : ℕ) (p : PolicyFile) → IsPolicyFile p → p.name ≡ label
    → policy_key p protector key ≡ Ok found
    → opened_policy label protector key (Held version (policy_text p)) ≡ Ok (record { loaded = record { version = version; policy = p }; key = found })
opens_from_text label protector key found version p spelled same through =
    ap (policy_by protector key) (policy_again_named version label p spelled same)
    ∙ ap (policy_with_key (record { version = version; policy = p })) through

pub added_protectors_open : OpensAgain → AddedProtectorsOpen
added_protectors_open opens label protector key r opened is version added added_key iv room spelled =
    let policy : PolicyFile = opened.loaded.policy in
    let wrap : Wrap = made_wrap added added_key iv opened.key in
    let found = added_found added wrap policy.wraps (unlisted (is_listed added policy.wraps) (nat_le MAX_WRAPS (length policy.wraps)) room) (same_bytes added) in
    let unwrapped = subst (λ (id : KeyId). key_in_wrap id added_key (Some wrap) ≡ Ok opened.key) (policies_named label protector key r opened is) (wrap_opens opens added added_key iv opened.key) in
    opens_from_text label added added_key opened.key version (policy_with wrap policy) spelled (named label protector key opened r is)
    (ap (key_in_wrap policy.id added_key) found ∙ unwrapped)

pub earlier_protectors_open : EarlierProtectorsOpen
earlier_protectors_open label protector key r opened is other other_key was was_is version wrap spelled =
    let from = opened_from protector key opened (loaded_policy label r) is in
    let before = opened_from other other_key was (loaded_policy label r) was_is in
    let both = sym before.loaded ∙ from.loaded in
    let same : was.loaded ≡ opened.loaded = cc both in
    let policy : PolicyFile = opened.loaded.policy in
    let through : policy_key policy other other_key ≡ Ok was.key = subst (λ (l : LoadedPolicy). policy_key l.policy other other_key ≡ Ok was.key) same before.through in
    opens_from_text label other other_key was.key version (policy_with wrap policy) spelled (named label protector key opened r is)
    (earlier_opens policy.id other other_key was.key wrap policy.wraps (wrap_for other policy.wraps) refl through)
