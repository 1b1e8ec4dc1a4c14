-- Each nonce that a call of a run passes has 16 bytes.
use Rattle.std.proofs.Common.{◌≡◌, ℕ, ◌+◌, ◌==◌, Bool, true, false, cond, List, [], ◌∷◌, ◌++◌, Option, Some, None, Result, Ok, Err, refl, sym, subst}
use Rattle.std.specs.Prelude.{⊤, All}
use Rattle.std.proofs.lemmas.Bool.{eq-eqb}
use Rattle.std.proofs.lemmas.List.Elements.{All-nil, All-cons, All-head, All-tail}
use Rattle.call_history.specs.Entries.{by, entries_with_places, entries_by}
use Rattle.call_history.specs.Placed.{entries_of}
use Rattle.mount_model.specs.declared.call.Call.{Call}
use Rattle.mount_model.specs.declared.call.Op.TheVariants as op
use Rattle.mount_model.specs.declared.reply.Reply.{Reply}
use Rattle.mount_model.specs.Port.{PlacedCalls}
use Rattle.mount_model.specs.History.{History, MountEntry}
use Rattle.script_lang.specs.declared.commands.Section.{Section}
use Rattle.script_lang.specs.declared.commands.Command.{Command}
use Rattle.script_lang.specs.declared.verb.Verb.{Verb}
use Rattle.script_lang.specs.declared.verb.Verb.TheVariants as verb
use Rattle.reply_text.specs.declared.notes.Note.{Note}
use Rattle.reply_text.specs.declared.outcome.Outcome.{Outcome}
use Rattle.policy_ctx.specs.Policy.{policy_bytes}
use Rattle.protector_meta.specs.PolicyText.{policy_text}
use Rattle.protector_meta.specs.ProtectorText.{protector_text}
use Rattle.script_words.specs.declared.path.ScriptPart.{ScriptPart}
use Rattle.script_words.specs.declared.record_words.Record.{Record}
use Rattle.script_words.specs.declared.record_words.Record.TheVariants.{Protector, Policy}
use Rattle.script_words.specs.declared.secrets.Secret.{Secret}
use Rattle.script_words.specs.declared.secrets.NewSecret.{NewSecret}
use Rattle.script_lang.specs.declared.verb.Options.{Options}
use Rattle.script_lang.specs.declared.verb.Settings.{Settings}
use Rattle.session_records.specs.declared.loading.LoadedPolicy.{LoadedPolicy}
use Rattle.session_records.specs.declared.opening.OpenedPolicy.{OpenedPolicy}
use Rattle.session_records.specs.declared.opening.OpenedProtector.{OpenedProtector}
use Rattle.session_records.specs.declared.outcomes.ExpectedReply.TheVariants as wanted
use Rattle.session_records.specs.Derivations.{derived_nonce}
use Rattle.session_records.specs.DerivedRecords.{new_policy, policy_with_wrap, protector_with_secret}
use Rattle.session_records.specs.LoadedRecords.{loaded_policy}
use Rattle.session_records.specs.PolicyOptions.{node_policy, with_options}
use Rattle.session_records.specs.PolicyRecords.{policy_without, wrap_space_for}
use Rattle.session_records.specs.Records.{opened_policy, unwrapped_protector}
use Rattle.session_records.proofs.DrawLemmas.{nonce_is_bytes}
use Rattle.fsc_commands.specs.Steps.{Steps, Reaches, and_then, names_after}
use Rattle.fsc_commands.specs.Steps.Steps.{Done, Ask}
use Rattle.fsc_commands.specs.CommandSteps.{CommandSteps, when_ok, last_call}
use Rattle.fsc_commands.specs.Opening.{loading_policy, opening_protector, opening_policy, storing}
use Rattle.fsc_commands.specs.PolicySteps.{policy_drop_steps, migrate_steps, encrypt_steps}
use Rattle.fsc_commands.specs.PolicyKeySteps.{unlock_through, unlock_steps, policy_new_steps, add_to, add_through, policy_add_steps}
use Rattle.fsc_commands.specs.ProtectorSteps.{protector_change_steps}
use Rattle.fsc_commands.specs.Stars.{resolved_path}
use Rattle.fsc_commands.specs.Commands.{command_steps}
use Rattle.fsc_session.specs.Session.{notes_of_command, section_steps, steps_from}
use Rattle.fsc_session.specs.ScriptRun.{IsRunOf, IsRunOfCaller}
use Rattle.listing_laws.specs.Nonces.{CarriesNonce}
use Rattle.fsc_tool.specs.DumpLaws.{RunsCarryNonces}

-- ---- steps whose calls carry nonces

abbrev Carries : MountEntry → Type 0
Carries e = CarriesNonce e.call.op

-- so of each call that the steps may ask for, whatever the replies
abbrev AskNonces : {A : Type 0} → Steps A → Type 0
AskNonces (Done value) = ⊤
AskNonces (Ask who call next) = CarriesNonce call.op × ((reply : Reply) → AskNonces (next reply))

reached : {A : Type 0} (steps : Steps A) (es : History) (value : A) → AskNonces steps → Reaches steps es (Done value) → All Carries es
reached steps [] value ask so = All-nil Carries
reached (Done other) (e ∷ es) value ask so = absurd so
reached (Ask who call next) (e ∷ es) value ask so =
    All-cons Carries e es (subst (λ (c : Call). CarriesNonce c.op) (sym so.1) ask.0) (reached (next e.reply) es value (ask.1 e.reply) so.2)

one_after_other : {A B : Type 0} (names : List (List ℕ)) (steps : Steps A) (next : List (List ℕ) → A → Steps B) → AskNonces steps
    → ((told : List (List ℕ)) (value : A) → AskNonces (next told value)) → AskNonces (and_then names steps next)
one_after_other names (Done value) next ask after = after names value
one_after_other names (Ask who call more) next ask after =
    (ask.0, λ reply. one_after_other (names_after names reply) (more reply) next (ask.1 reply) after)

goes_on : {A : Type 0} (got : Result A Outcome) (next : A → CommandSteps) → ((value : A) → AskNonces (next value)) → AskNonces (when_ok got next)
goes_on (Err outcome) next after = tt
goes_on (Ok value) next after = after value

-- ---- the parts of a session's work

stores : (caller uid : ℕ) (stored : Record) (expected : ℕ) (text : List ℕ) → AskNonces (storing caller uid stored expected text)
stores caller uid stored expected text = (tt, λ _. tt)

loads_policy : (caller uid : ℕ) (label : List ℕ) (next : LoadedPolicy → CommandSteps) → ((loaded : LoadedPolicy) → AskNonces (next loaded))
    → AskNonces (loading_policy caller uid label next)
loads_policy caller uid label next after = (tt, λ reply. goes_on (loaded_policy label reply) next after)

opens_protector : (caller uid : ℕ) (label : List ℕ) (secret : Secret) (next : OpenedProtector → CommandSteps) → ((opened : OpenedProtector) → AskNonces (next opened))
    → AskNonces (opening_protector caller uid label secret next)
opens_protector caller uid label secret next after = (tt, λ reply. goes_on (unwrapped_protector label secret reply) next after)

opens_policy : (caller uid : ℕ) (label protector key : List ℕ) (next : OpenedPolicy → CommandSteps) → ((opened : OpenedPolicy) → AskNonces (next opened))
    → AskNonces (opening_policy caller uid label protector key next)
opens_policy caller uid label protector key next after = (tt, λ reply. goes_on (opened_policy label protector key reply) next after)

-- ---- sessions' work

changes : (seed : List ℕ) (caller uid number : ℕ) (label : List ℕ) (secret : Secret) (new : NewSecret)
    → AskNonces (protector_change_steps seed caller uid number label secret new)
changes seed caller uid number label secret new =
    opens_protector caller uid label secret
    (λ opened. storing caller uid (Protector label) opened.loaded.version
    (protector_text (protector_with_secret seed caller number opened.loaded.protector opened.key new)))
    (λ opened. (tt, λ _. tt))

makes_policy : (seed : List ℕ) (caller uid number : ℕ) (label protector : List ℕ) (secret : Secret) (options : Option Options)
    → AskNonces (policy_new_steps seed caller uid number label protector secret options)
makes_policy seed caller uid number label protector secret options =
    opens_protector caller uid protector secret
    (λ opener. storing caller uid (Policy label) 0 (policy_text (new_policy seed caller number label protector options opener.key)))
    (λ opener. (tt, λ _. tt))

adds_to : (seed : List ℕ) (caller uid number : ℕ) (label : List ℕ) (loaded : LoadedPolicy) (key added : List ℕ) (secret : Secret)
    → AskNonces (add_to seed caller uid number label loaded key added secret)
adds_to seed caller uid number label loaded key added secret =
    opens_protector caller uid added secret
    (λ adding. storing caller uid (Policy label) loaded.version
    (policy_text (policy_with_wrap seed caller number key added adding.key loaded.policy)))
    (λ adding. (tt, λ _. tt))

adds_through : (seed : List ℕ) (caller uid number : ℕ) (label protector key added : List ℕ) (secret : Secret)
    → AskNonces (add_through seed caller uid number label protector key added secret)
adds_through seed caller uid number label protector key added secret =
    opens_policy caller uid label protector key
    (λ opened. when_ok (wrap_space_for added opened.loaded.policy.wraps)
    (λ room. add_to seed caller uid number label opened.loaded opened.key added secret))
    (λ opened. goes_on (wrap_space_for added opened.loaded.policy.wraps)
    (λ room. add_to seed caller uid number label opened.loaded opened.key added secret)
    (λ room. adds_to seed caller uid number label opened.loaded opened.key added secret))

adds : (seed : List ℕ) (caller uid number : ℕ) (label protector : List ℕ) (secret : Secret) (added : List ℕ) (added_secret : Secret)
    → AskNonces (policy_add_steps seed caller uid number label protector secret added added_secret)
adds seed caller uid number label protector secret added added_secret =
    opens_protector caller uid protector secret
    (λ opener. add_through seed caller uid number label protector opener.key added added_secret)
    (λ opener. adds_through seed caller uid number label protector opener.key added added_secret)

drops : (caller uid : ℕ) (label protector : List ℕ) → AskNonces (policy_drop_steps caller uid label protector)
drops caller uid label protector =
    loads_policy caller uid label
    (λ loaded. when_ok (policy_without protector loaded.policy)
    (λ policy. storing caller uid (Policy label) loaded.version (policy_text policy)))
    (λ loaded. goes_on (policy_without protector loaded.policy)
    (λ policy. storing caller uid (Policy label) loaded.version (policy_text policy))
    (λ policy. stores caller uid (Policy label) loaded.version (policy_text policy)))

migrates : (caller uid : ℕ) (label : List ℕ) → AskNonces (migrate_steps caller uid label)
migrates caller uid label =
    loads_policy caller uid label
    (λ loaded. when_ok (with_options loaded.policy loaded.policy.options)
    (λ policy. storing caller uid (Policy label) loaded.version (policy_text policy)))
    (λ loaded. goes_on (with_options loaded.policy loaded.policy.options)
    (λ policy. storing caller uid (Policy label) loaded.version (policy_text policy))
    (λ policy. stores caller uid (Policy label) loaded.version (policy_text policy)))

unlocks_through : (caller uid : ℕ) (label protector key : List ℕ) → AskNonces (unlock_through caller uid label protector key)
unlocks_through caller uid label protector key =
    opens_policy caller uid label protector key (λ opened. last_call caller uid (op.AddKey opened.key) wanted.Added) (λ opened. (tt, λ _. tt))

unlocks : (caller uid : ℕ) (label protector : List ℕ) (secret : Secret) → AskNonces (unlock_steps caller uid label protector secret)
unlocks caller uid label protector secret =
    opens_protector caller uid protector secret (λ opener. unlock_through caller uid label protector opener.key)
    (λ opener. unlocks_through caller uid label protector opener.key)

locks : (caller uid : ℕ) (label : List ℕ) → AskNonces (loading_policy caller uid label (λ loaded. last_call caller uid (op.RemoveKey loaded.policy.id) wanted.Removed))
locks caller uid label =
    loads_policy caller uid label (λ loaded. last_call caller uid (op.RemoveKey loaded.policy.id) wanted.Removed) (λ loaded. (tt, λ _. tt))

asks_status : (caller uid : ℕ) (label : List ℕ) → AskNonces (loading_policy caller uid label (λ loaded. last_call caller uid (op.KeyStatus loaded.policy.id) wanted.Status))
asks_status caller uid label =
    loads_policy caller uid label (λ loaded. last_call caller uid (op.KeyStatus loaded.policy.id) wanted.Status) (λ loaded. (tt, λ _. tt))

encrypts : (seed : List ℕ) (caller uid number : ℕ) (names : List (List ℕ)) (path : List ScriptPart) (label : List ℕ) (settings : Option Settings)
    → AskNonces (encrypt_steps seed caller uid number names path label settings)
encrypts seed caller uid number names path label settings =
    loads_policy caller uid label
    (λ loaded. last_call caller uid (op.SetPolicy (resolved_path names path) (policy_bytes (node_policy loaded.policy settings)) (derived_nonce seed caller number)) wanted.Done)
    (λ loaded. (nonce_is_bytes seed caller number, λ _. tt))

-- ---- commands

command_asks : (seed : List ℕ) (caller uid number : ℕ) (names : List (List ℕ)) (v : Verb) → AskNonces (command_steps seed caller uid number names v)
command_asks seed caller uid number names (verb.AddKey raw) = (tt, λ _. tt)
command_asks seed caller uid number names (verb.RemoveKey key) = (tt, λ _. tt)
command_asks seed caller uid number names (verb.RemoveKeyAll key) = (tt, λ _. tt)
command_asks seed caller uid number names (verb.KeyStatus key) = (tt, λ _. tt)
command_asks seed caller uid number names (verb.SetPolicy path key settings) = (nonce_is_bytes seed caller number, λ _. tt)
command_asks seed caller uid number names (verb.SetPolicyBytes path policy) = (nonce_is_bytes seed caller number, λ _. tt)
command_asks seed caller uid number names (verb.GetPolicy path) = (tt, λ _. tt)
command_asks seed caller uid number names (verb.Mkdir path) = (nonce_is_bytes seed caller number, λ _. tt)
command_asks seed caller uid number names (verb.Create path) = (nonce_is_bytes seed caller number, λ _. tt)
command_asks seed caller uid number names (verb.Symlink path target) = (nonce_is_bytes seed caller number, λ _. tt)
command_asks seed caller uid number names (verb.ReadLink path) = (tt, λ _. tt)
command_asks seed caller uid number names (verb.Unlink path) = (tt, λ _. tt)
command_asks seed caller uid number names (verb.Rmdir path) = (tt, λ _. tt)
command_asks seed caller uid number names (verb.Rename old_path new_path) = (tt, λ _. tt)
command_asks seed caller uid number names (verb.List path start) = (tt, λ _. tt)
command_asks seed caller uid number names (verb.Stat path) = (tt, λ _. tt)
command_asks seed caller uid number names (verb.Open path) = (tt, λ _. tt)
command_asks seed caller uid number names (verb.Close handle) = (tt, λ _. tt)
command_asks seed caller uid number names (verb.Read handle offset len) = (tt, λ _. tt)
command_asks seed caller uid number names (verb.Write handle offset bytes) = (tt, λ _. tt)
command_asks seed caller uid number names (verb.Fill handle offset len byte) = (tt, λ _. tt)
command_asks seed caller uid number names verb.DropCaches = (tt, λ _. tt)
command_asks seed caller uid number names (verb.MetaGet name) = (tt, λ _. tt)
command_asks seed caller uid number names (verb.MetaPut name expected bytes) = (tt, λ _. tt)
command_asks seed caller uid number names (verb.Protector protector secret) = (tt, λ _. tt)
command_asks seed caller uid number names (verb.ProtectorChange protector secret new) = changes seed caller uid number protector secret new
command_asks seed caller uid number names (verb.ProtectorLink protector) = (tt, λ _. tt)
command_asks seed caller uid number names (verb.PolicyNew policy protector secret options) = makes_policy seed caller uid number policy protector secret options
command_asks seed caller uid number names (verb.PolicyAdd policy protector secret added added_secret) =
    adds seed caller uid number policy protector secret added added_secret
command_asks seed caller uid number names (verb.PolicyDrop policy protector) = drops caller uid policy protector
command_asks seed caller uid number names (verb.Unlock policy protector secret) = unlocks caller uid policy protector secret
command_asks seed caller uid number names (verb.Lock policy) = locks caller uid policy
command_asks seed caller uid number names (verb.Status policy) = asks_status caller uid policy
command_asks seed caller uid number names (verb.Encrypt path policy settings) = encrypts seed caller uid number names path policy settings
command_asks seed caller uid number names (verb.Migrate policy) = migrates caller uid policy
command_asks seed caller uid number names verb.Pause = tt

-- ---- callers

commands_ask : (seed : List ℕ) (caller uid number : ℕ) (names : List (List ℕ)) (notes : List Note) (commands : List Command)
    → AskNonces (steps_from seed caller uid number names notes commands)
commands_ask seed caller uid number names notes [] = tt
commands_ask seed caller uid number names notes (command ∷ more) =
    one_after_other names (command_steps seed caller uid number names command.verb) _
    (command_asks seed caller uid number names command.verb)
    (λ told outcome. commands_ask seed caller uid (number + 1) told (notes ++ notes_of_command caller command outcome) more)

caller_carries : (seed : List ℕ) (caller : ℕ) (o : Option Section) (placed : PlacedCalls) → IsRunOfCaller seed caller o placed → All Carries (entries_of placed)
caller_carries seed caller None placed run = subst (λ (l : PlacedCalls). All Carries (entries_of l)) (sym run) (All-nil Carries)
caller_carries seed caller (Some section) placed run =
    reached (section_steps seed caller section) (entries_of placed) run.0 (commands_ask seed caller section.uid 0 [] [] section.commands) run.1

-- ---- histories

-- what holds of each caller's entries holds of all
first_carries : (k : ℕ) (e : MountEntry) (others : PlacedCalls) (own : Bool) → own ≡ true → All Carries (entries_of (cond own ((k, e) ∷ others) others)) → Carries e
first_carries k e others true is all = All-head Carries e (entries_of others) all
first_carries k e others false is all = absurd (cc is)

others_carry : (k : ℕ) (e : MountEntry) (others : PlacedCalls) (own : Bool) → All Carries (entries_of (cond own ((k, e) ∷ others) others)) → All Carries (entries_of others)
others_carry k e others true all = All-tail Carries e (entries_of others) all
others_carry k e others false all = all

all_carry : (k : ℕ) (h : History) → ((caller : ℕ) → All Carries (entries_of (by caller (entries_with_places k h)))) → All Carries h
all_carry k [] each = All-nil Carries
all_carry k (e ∷ h) each =
    All-cons Carries e h
    (first_carries k e (by e.who (entries_with_places (k + 1) h)) (e.who == e.who) (eq-eqb e.who e.who refl) (each e.who))
    (all_carry (k + 1) h (λ caller. others_carry k e (by caller (entries_with_places (k + 1) h)) (e.who == caller) (each caller)))

pub run_nonces : RunsCarryNonces
run_nonces seed script history run = all_carry 0 history (λ caller. caller_carries seed caller _ (entries_by caller history) (run caller))
