-- What each command is: a single call, a session's work, or nothing.
use Rattle.std.specs.Prelude.{ℕ, List, replicate}
use Rattle.policy_ctx.specs.Policy.{policy_bytes}
use Rattle.mount_model.specs.declared.call.Op.{Op}
use Rattle.mount_model.specs.declared.call.Op.TheVariants as op
use Rattle.script_words.specs.Records.{record_name}
use Rattle.script_lang.specs.declared.verb.Verb.{Verb}
use Rattle.script_lang.specs.declared.verb.Verb.TheVariants as verb
use Rattle.session_records.specs.Derivations.{derived_nonce}
use Rattle.fsc_commands.specs.CommandSteps.{CommandSteps}
use Rattle.fsc_commands.specs.declared.policies.AskedOfKey.TheVariants.{Removal, Status}
use Rattle.fsc_commands.specs.References.{id_of_ref, policy_with_settings, number_or_zero}
use Rattle.fsc_commands.specs.PolicySteps.{key_steps, policy_drop_steps, migrate_steps, encrypt_steps}
use Rattle.fsc_commands.specs.PolicyKeySteps.{unlock_steps, policy_new_steps, policy_add_steps}
use Rattle.fsc_commands.specs.ProtectorSteps.{protector_steps, protector_change_steps, protector_link_steps}
use Rattle.fsc_commands.specs.Stars.{resolved_path}

-- a single call; a session's work, which has these steps; or nothing, if the caller lets its turn pass
pub data Task : Type 0 where
  Single : Op → Task
  Session : CommandSteps → Task
  Idle : Task

-- what a command is, if it has this number in its caller's section and these are the names of the caller's
-- last listing; each has a line, so only a pause does nothing
abbrev pub task_of : List ℕ → ℕ → ℕ → ℕ → List (List ℕ) → Verb → Task
task_of seed caller uid number names (verb.AddKey raw) = Single (op.AddKey raw)
task_of seed caller uid number names (verb.RemoveKey key) = Single (op.RemoveKey (id_of_ref key))
task_of seed caller uid number names (verb.RemoveKeyAll key) = Single (op.RemoveKeyAll (id_of_ref key))
task_of seed caller uid number names (verb.KeyStatus key) = Single (op.KeyStatus (id_of_ref key))
task_of seed caller uid number names (verb.SetPolicy path key settings) =
    Single (op.SetPolicy (resolved_path names path)
    (policy_bytes (policy_with_settings (id_of_ref key) settings))
    (derived_nonce seed caller number))
task_of seed caller uid number names (verb.SetPolicyBytes path policy) =
    Single (op.SetPolicy (resolved_path names path) policy (derived_nonce seed caller number))
task_of seed caller uid number names (verb.GetPolicy path) = Single (op.GetPolicy (resolved_path names path))
task_of seed caller uid number names (verb.Mkdir path) =
    Single (op.Mkdir (resolved_path names path) (derived_nonce seed caller number))
task_of seed caller uid number names (verb.Create path) =
    Single (op.Create (resolved_path names path) (derived_nonce seed caller number))
task_of seed caller uid number names (verb.Symlink path target) =
    Single (op.Symlink (resolved_path names path) target (derived_nonce seed caller number))
task_of seed caller uid number names (verb.ReadLink path) = Single (op.ReadLink (resolved_path names path))
task_of seed caller uid number names (verb.Unlink path) = Single (op.Unlink (resolved_path names path))
task_of seed caller uid number names (verb.Rmdir path) = Single (op.Rmdir (resolved_path names path))
task_of seed caller uid number names (verb.Rename old_path new_path) =
    Single (op.Rename (resolved_path names old_path) (resolved_path names new_path))
task_of seed caller uid number names (verb.List path start) =
    Single (op.List (resolved_path names path) (number_or_zero start))
task_of seed caller uid number names (verb.Stat path) = Single (op.Stat (resolved_path names path))
task_of seed caller uid number names (verb.Open path) = Single (op.OpenNode (resolved_path names path))
task_of seed caller uid number names (verb.Close handle) = Single (op.Close handle)
task_of seed caller uid number names (verb.Read handle offset len) = Single (op.Read handle offset len)
task_of seed caller uid number names (verb.Write handle offset bytes) = Single (op.Write handle offset bytes)
task_of seed caller uid number names (verb.Fill handle offset len byte) =
    Single (op.Write handle offset (replicate len byte))
task_of seed caller uid number names verb.DropCaches = Single op.DropCaches
task_of seed caller uid number names (verb.MetaGet name) = Single (op.MetaLoad (record_name name))
task_of seed caller uid number names (verb.MetaPut name expected bytes) =
    Single (op.MetaStore (record_name name) expected bytes)
task_of seed caller uid number names (verb.Protector protector secret) =
    Session (protector_steps seed caller uid number protector secret)
task_of seed caller uid number names (verb.ProtectorChange protector secret new) =
    Session (protector_change_steps seed caller uid number protector secret new)
task_of seed caller uid number names (verb.ProtectorLink protector) =
    Session (protector_link_steps caller uid protector)
task_of seed caller uid number names (verb.PolicyNew policy protector secret options) =
    Session (policy_new_steps seed caller uid number policy protector secret options)
task_of seed caller uid number names (verb.PolicyAdd policy protector secret added added_secret) =
    Session (policy_add_steps seed caller uid number policy protector secret added added_secret)
task_of seed caller uid number names (verb.PolicyDrop policy protector) =
    Session (policy_drop_steps caller uid policy protector)
task_of seed caller uid number names (verb.Unlock policy protector secret) =
    Session (unlock_steps caller uid policy protector secret)
task_of seed caller uid number names (verb.Lock policy) = Session (key_steps Removal caller uid policy)
task_of seed caller uid number names (verb.Status policy) = Session (key_steps Status caller uid policy)
task_of seed caller uid number names (verb.Encrypt path policy settings) =
    Session (encrypt_steps seed caller uid number names path policy settings)
task_of seed caller uid number names (verb.Migrate policy) = Session (migrate_steps caller uid policy)
task_of seed caller uid number names verb.Pause = Idle
