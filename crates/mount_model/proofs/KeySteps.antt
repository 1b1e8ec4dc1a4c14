-- Each step leaves a well-formed mount.
use Rattle.std.proofs.Common.{ℕ, [], refl}
use Rattle.plain_tree.specs.Nodes.{Dir, File, Link}
use Rattle.mount_model.specs.declared.call.Op.{Op}
use Rattle.mount_model.specs.declared.call.Op.TheVariants as op
use Rattle.mount_model.specs.declared.reply.Reply.TheVariants.{Done}
use Rattle.mount_model.specs.PlainMount.{PlainMount}
use Rattle.mount_model.specs.KeyAnswers.{status_of}
use Rattle.mount_model.specs.AnswerForms.{Answer}
use Rattle.mount_model.specs.Answer.{answer_to}
use Rattle.mount_model.specs.WellFormed.{HasKeys}
use Rattle.mount_model.proofs.CaseLemmas.{Covers, at_add_key, at_remove_key, at_remove_key_all, at_set_policy, at_get_policy}
use Rattle.mount_model.proofs.NameCases.{at_make, at_unlink, at_rmdir, at_rename}
use Rattle.mount_model.proofs.FileCases.{at_read_link, at_list, at_stat, at_open_node, at_read, at_write, at_close, at_meta_load, at_meta_store}
use Rattle.mount_model.proofs.KeyLemmas.{HasKeys-with_key, HasKeys-without_claim, HasKeys-without_id}

-- ---- claims and raw keys

abbrev Keys : Answer → Type 0
Keys a = HasKeys a.mount.claims a.mount.raws

keys_cover : (m : PlainMount) → HasKeys m.claims m.raws → Covers Keys m
keys_cover m well = record { of_refusals = λ _ _. well; of_replies = λ _ _. well }

pub keys_step : (m : PlainMount) (caller uid : ℕ) (o : Op) → HasKeys m.claims m.raws → HasKeys (answer_to m caller uid o).mount.claims (answer_to m caller uid o).mount.raws
keys_step m caller uid (op.AddKey raw) well = at_add_key Keys m uid raw (keys_cover m well).of_refusals (HasKeys-with_key m.claims m.raws uid raw well)
keys_step m caller uid (op.RemoveKey id) well = at_remove_key Keys m uid id (keys_cover m well).of_refusals (HasKeys-without_claim m.claims m.raws id uid well)
keys_step m caller uid (op.RemoveKeyAll id) well = at_remove_key_all Keys m uid id (keys_cover m well).of_refusals (HasKeys-without_id m.claims m.raws id well)
keys_step m caller uid (op.KeyStatus id) well = (keys_cover m well).of_replies (status_of m uid id) refl
keys_step m caller uid (op.SetPolicy path policy nonce) well = at_set_policy Keys m uid path policy nonce (keys_cover m well) (λ _ _. well)
keys_step m caller uid (op.GetPolicy path) well = at_get_policy Keys m path (keys_cover m well)
keys_step m caller uid (op.Mkdir path nonce) well = at_make Keys m path nonce (Dir []) (keys_cover m well) (λ _ _. well)
keys_step m caller uid (op.Create path nonce) well = at_make Keys m path nonce (File []) (keys_cover m well) (λ _ _. well)
keys_step m caller uid (op.Symlink path target nonce) well = at_make Keys m path nonce (Link target) (keys_cover m well) (λ _ _. well)
keys_step m caller uid (op.ReadLink path) well = at_read_link Keys m path (keys_cover m well)
keys_step m caller uid (op.Unlink path) well = at_unlink Keys m path (keys_cover m well) (λ _ _ _. well)
keys_step m caller uid (op.Rmdir path) well = at_rmdir Keys m path (keys_cover m well) (λ _ _ _. well)
keys_step m caller uid (op.Rename old_path new_path) well = at_rename Keys m old_path new_path (keys_cover m well) (λ _ _ _ _. well)
keys_step m caller uid (op.List path start) well = at_list Keys m path start (keys_cover m well)
keys_step m caller uid (op.Stat path) well = at_stat Keys m path (keys_cover m well)
keys_step m caller uid (op.OpenNode path) well = at_open_node Keys m caller path (keys_cover m well) (λ _ _. well)
keys_step m caller uid (op.Read handle offset len) well = at_read Keys m caller handle offset len (keys_cover m well)
keys_step m caller uid (op.Write handle offset bytes) well = at_write Keys m caller handle offset bytes (keys_cover m well) (λ _ _. well)
keys_step m caller uid (op.Close handle) well = at_close Keys m caller handle (keys_cover m well) (λ _ _. well)
keys_step m caller uid op.DropCaches well = (keys_cover m well).of_replies Done refl
keys_step m caller uid (op.MetaLoad name) well = at_meta_load Keys m name (keys_cover m well)
keys_step m caller uid (op.MetaStore name expected bytes) well = at_meta_store Keys m name expected bytes (keys_cover m well) (λ _ _. well)
