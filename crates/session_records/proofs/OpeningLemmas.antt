-- The records that a session makes open again, since wrapped keys do.
use Rattle.std.proofs.Common.{◌≡◌, ℕ, Bool, true, false, List, [], Some, None, Ok, Err, refl, ap, sym, subst, ◌∙◌}
use Rattle.std.specs.Prelude.{Option, Result, if◌then◌else◌}
use Rattle.std.specs.Str.{bytes_eq}
use Rattle.std.proofs.lemmas.Slice.Eq.{bytes_eq-Decides}
use Rattle.argon_kdf.specs.Argon2id.{argon2id_tag}
use Rattle.fsc_keys.specs.Keys.{key_id_of, descriptor_of}
use Rattle.policy_ctx.specs.KeyIds.{same_id}
use Rattle.policy_ctx.proofs.KeyIdLemmas.{same_id-eq}
use Rattle.key_wrap.specs.Laws.{OpensAgain}
use Rattle.key_wrap.specs.Wrapping.{opened_secret, wrapped_secret}
use Rattle.mount_model.specs.declared.reply.Reply.{Reply}
use Rattle.mount_model.specs.declared.reply.Reply.TheVariants.{Held}
use Rattle.mount_model.specs.declared.reply.Reply.TheVariants as reply
use Rattle.protector_meta.specs.declared.fault.MetaFault.{MetaFault}
use Rattle.protector_meta.specs.declared.policy_file.PolicyFile.{PolicyFile}
use Rattle.protector_meta.specs.declared.protector.Protector.{Protector}
use Rattle.protector_meta.specs.declared.protector.ProtectorKind.{ProtectorKind}
use Rattle.protector_meta.specs.declared.wraps.Wrap.{Wrap}
use Rattle.protector_meta.specs.PolicyReading.{policy_read}
use Rattle.protector_meta.specs.PolicyRecords.{IsPolicyFile}
use Rattle.protector_meta.specs.PolicyText.{policy_text}
use Rattle.protector_meta.specs.ProtectorReading.{protector_read}
use Rattle.protector_meta.specs.ProtectorText.{IsProtector, protector_text}
use Rattle.protector_meta.specs.Wraps.{wrap_for, is_for}
use Rattle.protector_meta.proofs.PolicyReadingLaws.{policy_again}
use Rattle.protector_meta.proofs.ProtectorLaws.{protector_again}
use Rattle.script_words.specs.declared.secrets.NewSecret.TheVariants as new
use Rattle.script_words.specs.declared.secrets.NewSecret.{NewSecret}
use Rattle.script_words.specs.declared.secrets.Secret.{Secret}
use Rattle.reply_text.specs.declared.outcome.Outcome.{Outcome}
use Rattle.reply_text.specs.declared.outcome.Outcome.TheVariants.{BadRecord}
use Rattle.session_records.specs.declared.loading.LoadedProtector.{LoadedProtector}
use Rattle.session_records.specs.declared.loading.LoadedPolicy.{LoadedPolicy}
use Rattle.session_records.specs.declared.opening.OpenedPolicy.{OpenedPolicy}
use Rattle.session_records.specs.declared.opening.OpenedProtector.{OpenedProtector}
use Rattle.session_records.specs.MadeRecords.{MadePoliciesOpen, MadeProtectorsOpen, MadeWrapsOpen, OpenedPoliciesAreNamed, secret_again, opened_protector}
use Rattle.session_records.specs.ChangedRecords.{ChangedProtectorsOpen}
use Rattle.session_records.specs.NewPolicies.{made_policy, made_wrap}
use Rattle.session_records.specs.NewProtectors.{made_protector, changed_protector}
use Rattle.session_records.specs.Records.{protector_with_key, protector_under, protector_by, policy_with_key, policy_by}
use Rattle.session_records.specs.RecordKeys.{protector_key, checked_protector_key, policy_key, checked_policy_key, key_in_wrap, wrapping_key}
use Rattle.session_records.specs.LoadedRecords.{loaded_policy, checked_policy, loaded_protector, checked_protector}

pub same_bytes : (bytes : List ℕ) → bytes_eq bytes bytes ≡ true
same_bytes bytes = (bytes_eq-Decides bytes bytes).1 refl

-- a key that was found has the descriptor of its record
found : (loaded : LoadedProtector) (key : List ℕ) (opened : Option (List ℕ)) → opened ≡ Some key
    → protector_with_key loaded (checked_protector_key (descriptor_of key) opened) ≡ Ok (record { loaded = loaded; key = key })
found loaded key opened is =
    ap (λ (o : Option (List ℕ)). protector_with_key loaded (checked_protector_key (descriptor_of key) o)) is
    ∙ ap (λ b. protector_with_key loaded (if b then Ok key else Err BadRecord)) (same_bytes (descriptor_of key))

-- ---- the record that is loaded from a text that was stored

named_again : (version : ℕ) (label : List ℕ) (p : Protector) → p.name ≡ label
    → checked_protector label version (Ok p) ≡ Ok (record { version = version; protector = p })
named_again version label p named =
    ap (λ b. if b then Ok (record { version = version; protector = p }) else Err BadRecord) ((bytes_eq-Decides p.name label).1 named)

loaded_again : (version : ℕ) (label : List ℕ) (p : Protector) → IsProtector p → p.name ≡ label
    → loaded_protector label (Held version (protector_text p)) ≡ Ok (record { version = version; protector = p })
loaded_again version label p spelled named =
    ap (checked_protector label version) (protector_again p spelled) ∙ named_again version label p named

pub policy_again_named : (version : ℕ) (label : List ℕ) (p : PolicyFile) → IsPolicyFile p → p.name ≡ label
    → loaded_policy label (Held version (policy_text p)) ≡ Ok (record { version = version; policy = p })
policy_again_named version label p spelled named =
    ap (checked_policy label version) (policy_again p spelled)
    ∙ ap (λ b. if b then Ok (record { version = version; policy = p }) else Err BadRecord) ((bytes_eq-Decides p.name label).1 named)

-- ---- a new protector

opened_again : OpensAgain → (version : ℕ) (label key : List ℕ) (secret : NewSecret) (iv salt : List ℕ)
    → protector_by (secret_again secret) (Ok (record { version = version; protector = made_protector label key secret iv salt }))
    ≡ Ok (opened_protector version (made_protector label key secret iv salt) key)
opened_again opens version label key (new.Raw raw) iv salt =
    found (record { version = version; protector = made_protector label key (new.Raw raw) iv salt }) key _ (opens raw iv key)
opened_again opens version label key (new.Pass costs passphrase) iv salt =
    found (record { version = version; protector = made_protector label key (new.Pass costs passphrase) iv salt }) key _ (opens (argon2id_tag costs passphrase salt [] []) iv key)

pub protector_opens : OpensAgain → MadeProtectorsOpen
protector_opens opens version label key secret iv salt spelled =
    ap (protector_by (secret_again secret)) (loaded_again version label (made_protector label key secret iv salt) spelled refl)
    ∙ opened_again opens version label key secret iv salt

pub wrap_opens : OpensAgain → MadeWrapsOpen
wrap_opens opens protector key iv policy_key =
    ap (λ (o : Option (List ℕ)). checked_policy_key (key_id_of policy_key) o) (opens key iv policy_key)
    ∙ ap (λ b. if b then Ok policy_key else Err BadRecord) (same_bytes (key_id_of policy_key).0)

-- ---- a protector that got another secret

changed : (loaded : LoadedProtector) (wrapping iv key descriptor : List ℕ) → OpensAgain → descriptor_of key ≡ descriptor
    → protector_with_key loaded (checked_protector_key descriptor (opened_secret wrapping iv (wrapped_secret wrapping iv key).0 (wrapped_secret wrapping iv key).1))
    ≡ Ok (record { loaded = loaded; key = key })
changed loaded wrapping iv key descriptor opens same =
    ap (λ (d : List ℕ). protector_with_key loaded (checked_protector_key d (opened_secret wrapping iv (wrapped_secret wrapping iv key).0 (wrapped_secret wrapping iv key).1))) (sym same)
    ∙ found loaded key _ (opens wrapping iv key)

changed_again : OpensAgain → (version : ℕ) (old : Protector) (key : List ℕ) (secret : NewSecret) (iv salt : List ℕ)
    → descriptor_of key ≡ old.descriptor
    → protector_by (secret_again secret) (Ok (record { version = version; protector = changed_protector old key secret iv salt }))
    ≡ Ok (opened_protector version (changed_protector old key secret iv salt) key)
changed_again opens version old key (new.Raw raw) iv salt same =
    changed (record { version = version; protector = changed_protector old key (new.Raw raw) iv salt }) raw iv key old.descriptor opens same
changed_again opens version old key (new.Pass costs passphrase) iv salt same =
    changed (record { version = version; protector = changed_protector old key (new.Pass costs passphrase) iv salt }) (argon2id_tag costs passphrase salt [] []) iv key old.descriptor opens same

-- the key of a protector that was opened has the descriptor of its record, and the record has the
-- requested label
record IsOpenedOf (label : List ℕ) (opened : OpenedProtector) : Type 0 where
  descriptor : descriptor_of opened.key ≡ opened.loaded.protector.descriptor
  name : opened.loaded.protector.name ≡ label

key_compared : (loaded : LoadedProtector) (key : List ℕ) (opened : OpenedProtector) (b : Bool)
    → bytes_eq (descriptor_of key) loaded.protector.descriptor ≡ b → (label : List ℕ) → loaded.protector.name ≡ label
    → protector_with_key loaded (if b then Ok key else Err BadRecord) ≡ Ok opened → IsOpenedOf label opened
key_compared loaded key opened false same label named is = absurd (cc is)
key_compared loaded key opened true same label named is =
    let whole : record { loaded = loaded; key = key } ≡ opened = cc is in
    subst (IsOpenedOf label) whole (record {
      descriptor = (bytes_eq-Decides (descriptor_of key) loaded.protector.descriptor).0 same;
      name = named;
    })

key_found : (loaded : LoadedProtector) (opened : OpenedProtector) (label : List ℕ) → loaded.protector.name ≡ label
    → (got : Option (List ℕ)) → protector_with_key loaded (checked_protector_key loaded.protector.descriptor got) ≡ Ok opened → IsOpenedOf label opened
key_found loaded opened label named None is = absurd (cc is)
key_found loaded opened label named (Some key) is =
    key_compared loaded key opened (bytes_eq (descriptor_of key) loaded.protector.descriptor) refl label named is

under_key : (loaded : LoadedProtector) (opened : OpenedProtector) (label : List ℕ) → loaded.protector.name ≡ label
    → (wrapping : Result (List ℕ) Outcome) → protector_under loaded wrapping ≡ Ok opened → IsOpenedOf label opened
under_key loaded opened label named (Err outcome) is = absurd (cc is)
under_key loaded opened label named (Ok wrapping) is =
    key_found loaded opened label named (opened_secret wrapping loaded.protector.iv loaded.protector.key loaded.protector.tag) is

label_compared : (label : List ℕ) (secret : Secret) (version : ℕ) (p : Protector) (opened : OpenedProtector) (b : Bool) → bytes_eq p.name label ≡ b
    → protector_by secret (if b then Ok (record { version = version; protector = p }) else Err BadRecord) ≡ Ok opened → IsOpenedOf label opened
label_compared label secret version p opened false same is = absurd (cc is)
label_compared label secret version p opened true same is =
    under_key (record { version = version; protector = p }) opened label ((bytes_eq-Decides p.name label).0 same) (wrapping_key secret p.kind) is

text_read : (label : List ℕ) (secret : Secret) (version : ℕ) (opened : OpenedProtector) (got : Result Protector MetaFault)
    → protector_by secret (checked_protector label version got) ≡ Ok opened → IsOpenedOf label opened
text_read label secret version opened (Err fault) is = absurd (cc is)
text_read label secret version opened (Ok p) is = label_compared label secret version p opened (bytes_eq p.name label) refl is

opened_of : (label : List ℕ) (secret : Secret) (opened : OpenedProtector) (r : Reply)
    → protector_by secret (loaded_protector label r) ≡ Ok opened → IsOpenedOf label opened
opened_of label secret opened (Held version bytes) is = text_read label secret version opened (protector_read bytes) is
opened_of label secret opened (reply.Added id) is = absurd (cc is)
opened_of label secret opened (reply.Removed others busy) is = absurd (cc is)
opened_of label secret opened (reply.Status state by_self users) is = absurd (cc is)
opened_of label secret opened reply.Done is = absurd (cc is)
opened_of label secret opened (reply.PolicyIs bytes) is = absurd (cc is)
opened_of label secret opened (reply.Names names more) is = absurd (cc is)
opened_of label secret opened (reply.Stat kind node size encrypted keyed) is = absurd (cc is)
opened_of label secret opened (reply.Opened handle) is = absurd (cc is)
opened_of label secret opened (reply.Content bytes) is = absurd (cc is)
opened_of label secret opened (reply.Target bytes) is = absurd (cc is)
opened_of label secret opened (reply.Stored version) is = absurd (cc is)
opened_of label secret opened (reply.Refused refusal) is = absurd (cc is)

pub changed_opens : OpensAgain → ChangedProtectorsOpen
changed_opens opens label secret r opened is version secret_now iv salt spelled =
    let was : IsOpenedOf label opened = opened_of label secret opened r is in
    ap (protector_by (secret_again secret_now)) (loaded_again version label (changed_protector opened.loaded.protector opened.key secret_now iv salt) spelled was.name)
    ∙ changed_again opens version opened.loaded.protector opened.key secret_now iv salt was.descriptor

-- ---- a policy opens through its protector

pub policy_opens : OpensAgain → MadePoliciesOpen
policy_opens opens version label protector key iv policy_key options spelled =
    ap (policy_by protector key) (policy_again_named version label (made_policy label policy_key options (made_wrap protector key iv policy_key)) spelled refl)
    ∙ ap (λ b. policy_with_key (record { version = version; policy = made_policy label policy_key options (made_wrap protector key iv policy_key) })
    (key_in_wrap (key_id_of policy_key) key (if b then Some (made_wrap protector key iv policy_key) else None))) (same_bytes protector)
    ∙ ap (policy_with_key (record { version = version; policy = made_policy label policy_key options (made_wrap protector key iv policy_key) }))
    (wrap_opens opens protector key iv policy_key)

-- ---- a policy's key has the identifier of its record

compared : (loaded : LoadedPolicy) (key : List ℕ) (opened : OpenedPolicy) (b : Bool) → same_id (key_id_of key) loaded.policy.id ≡ b
    → policy_with_key loaded (if b then Ok key else Err BadRecord) ≡ Ok opened → key_id_of opened.key ≡ opened.loaded.policy.id
compared loaded key opened false same is = absurd (cc is)
compared loaded key opened true same is =
    let whole : record { loaded = loaded; key = key } ≡ opened = cc is in
    subst (λ (o : OpenedPolicy). key_id_of o.key ≡ o.loaded.policy.id) whole (same_id-eq (key_id_of key) loaded.policy.id same)

unwrapped : (loaded : LoadedPolicy) (opened : OpenedPolicy) (got : Option (List ℕ))
    → policy_with_key loaded (checked_policy_key loaded.policy.id got) ≡ Ok opened → key_id_of opened.key ≡ opened.loaded.policy.id
unwrapped loaded opened None is = absurd (cc is)
unwrapped loaded opened (Some key) is = compared loaded key opened (same_id (key_id_of key) loaded.policy.id) refl is

through : (loaded : LoadedPolicy) (key : List ℕ) (opened : OpenedPolicy) (wrap : Option Wrap)
    → policy_with_key loaded (key_in_wrap loaded.policy.id key wrap) ≡ Ok opened → key_id_of opened.key ≡ opened.loaded.policy.id
through loaded key opened None is = absurd (cc is)
through loaded key opened (Some wrap) is = unwrapped loaded opened (opened_secret key wrap.iv wrap.key wrap.tag) is

loaded_named : (protector key : List ℕ) (opened : OpenedPolicy) (got : Result LoadedPolicy Outcome)
    → policy_by protector key got ≡ Ok opened → key_id_of opened.key ≡ opened.loaded.policy.id
loaded_named protector key opened (Err outcome) is = absurd (cc is)
loaded_named protector key opened (Ok loaded) is = through loaded key opened (wrap_for protector loaded.policy.wraps) is

pub policies_named : OpenedPoliciesAreNamed
policies_named label protector key reply opened is = loaded_named protector key opened (loaded_policy label reply) is
