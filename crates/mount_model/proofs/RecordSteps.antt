-- Each step leaves well-formed records.
use Rattle.std.proofs.Common.{ℕ, [], refl}
use Rattle.plain_tree.specs.Nodes.{Dir, File, Link}
use Rattle.mount_model.specs.declared.call.Op.{Op}
use Rattle.mount_model.specs.declared.call.Op.TheVariants as op
use Rattle.mount_model.specs.declared.reply.Reply.TheVariants.{Done}
use Rattle.mount_model.specs.PlainMount.{PlainMount}
use Rattle.mount_model.specs.KeyAnswers.{status_of}
use Rattle.mount_model.specs.AnswerForms.{Answer}
use Rattle.mount_model.specs.Answer.{answer_to}
use Rattle.mount_model.specs.WellFormed.{HasRecords}
use Rattle.mount_model.proofs.CaseLemmas.{Covers, at_add_key, at_remove_key, at_remove_key_all, at_set_policy, at_get_policy}
use Rattle.mount_model.proofs.NameCases.{at_make, at_unlink, at_rmdir, at_rename}
use Rattle.mount_model.proofs.FileCases.{at_read_link, at_list, at_stat, at_open_node, at_read, at_write, at_close, at_meta_load, at_meta_store}
use Rattle.mount_model.proofs.RecordLemmas.{HasRecords-stored}

abbrev Records : Answer → Type 0
Records a = HasRecords a.mount.records

records_cover : (m : PlainMount) → HasRecords m.records → Covers Records m
records_cover m well = record { of_refusals = λ _ _. well; of_replies = λ _ _. well }

pub records_step : (m : PlainMount) (caller uid : ℕ) (o : Op) → HasRecords m.records → HasRecords (answer_to m caller uid o).mount.records
records_step m caller uid (op.AddKey raw) well = at_add_key Records m uid raw (records_cover m well).of_refusals (λ _ _. well)
records_step m caller uid (op.RemoveKey id) well = at_remove_key Records m uid id (records_cover m well).of_refusals well
records_step m caller uid (op.RemoveKeyAll id) well = at_remove_key_all Records m uid id (records_cover m well).of_refusals well
records_step m caller uid (op.KeyStatus id) well = (records_cover m well).of_replies (status_of m uid id) refl
records_step m caller uid (op.SetPolicy path policy nonce) well = at_set_policy Records m uid path policy nonce (records_cover m well) (λ _ _. well)
records_step m caller uid (op.GetPolicy path) well = at_get_policy Records m path (records_cover m well)
records_step m caller uid (op.Mkdir path nonce) well = at_make Records m path nonce (Dir []) (records_cover m well) (λ _ _. well)
records_step m caller uid (op.Create path nonce) well = at_make Records m path nonce (File []) (records_cover m well) (λ _ _. well)
records_step m caller uid (op.Symlink path target nonce) well = at_make Records m path nonce (Link target) (records_cover m well) (λ _ _. well)
records_step m caller uid (op.ReadLink path) well = at_read_link Records m path (records_cover m well)
records_step m caller uid (op.Unlink path) well = at_unlink Records m path (records_cover m well) (λ _ _ _. well)
records_step m caller uid (op.Rmdir path) well = at_rmdir Records m path (records_cover m well) (λ _ _ _. well)
records_step m caller uid (op.Rename old_path new_path) well = at_rename Records m old_path new_path (records_cover m well) (λ _ _ _ _. well)
records_step m caller uid (op.List path start) well = at_list Records m path start (records_cover m well)
records_step m caller uid (op.Stat path) well = at_stat Records m path (records_cover m well)
records_step m caller uid (op.OpenNode path) well = at_open_node Records m caller path (records_cover m well) (λ _ _. well)
records_step m caller uid (op.Read handle offset len) well = at_read Records m caller handle offset len (records_cover m well)
records_step m caller uid (op.Write handle offset bytes) well = at_write Records m caller handle offset bytes (records_cover m well) (λ _ _. well)
records_step m caller uid (op.Close handle) well = at_close Records m caller handle (records_cover m well) (λ _ _. well)
records_step m caller uid op.DropCaches well = (records_cover m well).of_replies Done refl
records_step m caller uid (op.MetaLoad name) well = at_meta_load Records m name (records_cover m well)
records_step m caller uid (op.MetaStore name expected bytes) well = at_meta_store Records m name expected bytes (records_cover m well) (HasRecords-stored m name bytes well)
