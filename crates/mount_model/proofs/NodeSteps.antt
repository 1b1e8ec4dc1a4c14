-- Each step leaves well-formed nodes.
use Rattle.std.proofs.Common.{◌≡◌, ℕ, ◌-◌, ◌||◌, List, [], refl}
use Rattle.std.proofs.lemmas.Bool.{cond_both, or_parts, ltb-false, eqb-false}
use Rattle.fsc_keys.specs.Keys.{key_id_of}
use Rattle.byte_words.specs.Contents.{with_bytes}
use Rattle.plain_tree.specs.Nodes.{Name, Body, Dir, File, Link}
use Rattle.plain_tree.specs.NodesByNumber.{children, is_named}
use Rattle.plain_tree.specs.Changes.{dropped, without_node, written}
use Rattle.plain_tree.proofs.DroppedLemmas.{dropped_nameless}
use Rattle.mount_model.specs.declared.call.Op.{Op}
use Rattle.mount_model.specs.declared.call.Op.TheVariants as op
use Rattle.mount_model.specs.declared.reply.Reply.TheVariants.{Done}
use Rattle.mount_limits.specs.declared.TheConstants.{MAX_BLOCKS}
use Rattle.mount_model.specs.Carried.{IsPath}
use Rattle.mount_model.specs.Fits.{OpFits}
use Rattle.mount_model.specs.PlainMount.{PlainMount, with_raw}
use Rattle.mount_model.specs.OpenHandles.{has_handle, without_handle}
use Rattle.mount_model.specs.Walk.{PathParts}
use Rattle.mount_model.specs.EntryPaths.{last_part}
use Rattle.mount_model.specs.KeyAnswers.{status_of}
use Rattle.mount_model.specs.SpelledPolicy.{policy_in}
use Rattle.mount_model.specs.NewNodes.{new_node, with_node}
use Rattle.mount_model.specs.UnlinkAnswers.{without_name}
use Rattle.mount_model.specs.RenameAnswer.{with_moved}
use Rattle.mount_model.specs.FileAnswers.{contents_at}
use Rattle.mount_model.specs.Blocks.{block_count, block_total}
use Rattle.mount_model.specs.CloseAnswers.{with_closed}
use Rattle.mount_model.specs.AnswerForms.{Answer}
use Rattle.mount_model.specs.Answer.{answer_to}
use Rattle.mount_model.specs.WellFormed.{HasKeys}
use Rattle.mount_model.specs.SoundNodes.{HasNodes}
use Rattle.mount_model.proofs.CaseLemmas.{Covers, CanEncrypt, at_add_key, at_remove_key, at_remove_key_all, at_set_policy, at_get_policy, encrypted_at}
use Rattle.mount_model.proofs.NameCases.{CanMake, CanGo, CanMove, at_make, at_unlink, at_rmdir, at_rename}
use Rattle.mount_model.proofs.FileCases.{CanWrite, at_read_link, at_list, at_stat, at_open_node, at_read, at_write, at_close, at_meta_load, at_meta_store}
use Rattle.mount_model.proofs.NodesWell.{made_well, dropped_well, gone_well, moved_well, written_well, encrypted_well}
use Rattle.mount_model.proofs.TreeCalls.{IsFresh, comes, leads, childless_end, moves, moves_into, moved_name, empty_of}
use Rattle.mount_model.proofs.CallParts.{fresh_dir, fresh_file, fresh_link, raw_encrypted, body_after_write}

abbrev pub AreNodes : PlainMount → Type 0
AreNodes m = HasNodes m.raws m.nodes m.next

abbrev Kept : Answer → Type 0
Kept a = AreNodes a.mount

covers : (m : PlainMount) → AreNodes m → Covers Kept m
covers m well = record { of_refusals = λ _ _. well; of_replies = λ _ _. well }

module _ (m : PlainMount) (well : AreNodes m) where
  pub node_made : (path : PathParts) (nonce : List ℕ) (body : Body) (d : ℕ) → CanMake m path body d → IsPath path → IsFresh body
      → AreNodes (with_node m d (last_part path) (new_node m d nonce body))
  node_made path nonce body d can fits fresh =
      made_well m.raws m.nodes m.next well d (last_part path) (new_node m d nonce body) (comes m well path nonce body d can fits fresh)

  pub name_dropped : (d : ℕ) (part : Name) (e : Name × ℕ) → CanGo m d part e → AreNodes (without_name m d e.0 e.1)
  name_dropped d part e can =
      let left = dropped_well m.raws m.nodes m.next well d e.0 e.1 (leads m well d part e can.is_found) (childless_end m well d part e can) in
      cond_both (has_handle m.handles e.1) (dropped m.nodes d e.0 e.1) (without_node (dropped m.nodes d e.0 e.1) e.1) (λ nodes. HasNodes m.raws nodes m.next)
      (λ _. left)
      (λ _. gone_well m.raws (dropped m.nodes d e.0 e.1) m.next left e.1 (dropped_nameless m.nodes d e.0 e.1))

  pub name_moved : (d : ℕ) (part : Name) (e : Name × ℕ) (path : PathParts) (to : ℕ) → CanMove m d part e path to → IsPath path
      → AreNodes (with_moved m d e.0 to (last_part path) e.1)
  name_moved d part e path to can fits =
      moved_well m.raws m.nodes m.next well d e.0 to (last_part path) e.1 (moves m well d part e path to can)
      (moves_into m well d part e path to can) (moved_name m well d part e path to can fits)

  pub policy_set : (uid : ℕ) (policy nonce : List ℕ) (d : ℕ) → HasKeys m.claims m.raws → CanEncrypt m uid policy d
      → AreNodes (encrypted_at m d (record { policy = policy_in policy; nonce = nonce }))
  policy_set uid policy nonce d keys can =
      encrypted_well m.raws m.nodes m.next well d (record { policy = policy_in policy; nonce = nonce })
      (eqb-false d 0 can.not_root) can.plain (empty_of (children m.nodes d) can.empty) (raw_encrypted m uid policy nonce d keys can)

  pub bytes_written : (caller handle offset : ℕ) (bytes : List ℕ) (n : ℕ) → CanWrite m caller handle offset bytes n → OpFits (op.Write handle offset bytes)
      → HasNodes m.raws (written m.nodes n (with_bytes offset bytes)) m.next
  bytes_written caller handle offset bytes n can fits =
      written_well m.raws m.nodes m.next well n (with_bytes offset bytes)
      (λ v _. body_after_write offset bytes fits.0 can.small v.body)
      (ltb-false (MAX_BLOCKS - block_total m.nodes)
      (block_count (with_bytes offset bytes (contents_at m.nodes n)) - block_count (contents_at m.nodes n)) can.room)

  pub handle_closed : (caller handle n : ℕ) → AreNodes (with_closed m caller handle n)
  handle_closed caller handle n =
      cond_both (is_named m.nodes n || has_handle (without_handle caller handle m.handles) n) m.nodes (without_node m.nodes n) (λ nodes. HasNodes m.raws nodes m.next)
      (λ _. well)
      (λ free. gone_well m.raws m.nodes m.next well n (or_parts (is_named m.nodes n) (has_handle (without_handle caller handle m.handles) n) free).0)

-- an AddKey needs that no other raw key is under its identifier: what then holds of it is an argument
pub nodes_step : (m : PlainMount) (caller uid : ℕ) (o : Op) → HasKeys m.claims m.raws → AreNodes m → OpFits o
    → ((raw : List ℕ) → o ≡ op.AddKey raw → HasNodes (with_raw m.raws (key_id_of raw) raw) m.nodes m.next) → AreNodes (answer_to m caller uid o).mount
nodes_step m caller uid (op.AddKey raw) keys well fits added = at_add_key Kept m uid raw (covers m well).of_refusals (λ _ _. added raw refl)
nodes_step m caller uid (op.RemoveKey id) keys well fits added = at_remove_key Kept m uid id (covers m well).of_refusals well
nodes_step m caller uid (op.RemoveKeyAll id) keys well fits added = at_remove_key_all Kept m uid id (covers m well).of_refusals well
nodes_step m caller uid (op.KeyStatus id) keys well fits added = (covers m well).of_replies (status_of m uid id) refl
nodes_step m caller uid (op.SetPolicy path policy nonce) keys well fits added =
    at_set_policy Kept m uid path policy nonce (covers m well) (λ d can. policy_set m well uid policy nonce d keys can)
nodes_step m caller uid (op.GetPolicy path) keys well fits added = at_get_policy Kept m path (covers m well)
nodes_step m caller uid (op.Mkdir path nonce) keys well fits added =
    at_make Kept m path nonce (Dir []) (covers m well) (λ d can. node_made m well path nonce (Dir []) d can fits fresh_dir)
nodes_step m caller uid (op.Create path nonce) keys well fits added =
    at_make Kept m path nonce (File []) (covers m well) (λ d can. node_made m well path nonce (File []) d can fits fresh_file)
nodes_step m caller uid (op.Symlink path target nonce) keys well fits added =
    at_make Kept m path nonce (Link target) (covers m well) (λ d can. node_made m well path nonce (Link target) d can fits.0 (fresh_link target fits.1 can.target))
nodes_step m caller uid (op.ReadLink path) keys well fits added = at_read_link Kept m path (covers m well)
nodes_step m caller uid (op.Unlink path) keys well fits added = at_unlink Kept m path (covers m well) (λ d e can. name_dropped m well d (last_part path) e can)
nodes_step m caller uid (op.Rmdir path) keys well fits added = at_rmdir Kept m path (covers m well) (λ d e can. name_dropped m well d (last_part path) e can)
nodes_step m caller uid (op.Rename old_path new_path) keys well fits added =
    at_rename Kept m old_path new_path (covers m well) (λ d e to can. name_moved m well d (last_part old_path) e new_path to can fits.1)
nodes_step m caller uid (op.List path start) keys well fits added = at_list Kept m path start (covers m well)
nodes_step m caller uid (op.Stat path) keys well fits added = at_stat Kept m path (covers m well)
nodes_step m caller uid (op.OpenNode path) keys well fits added = at_open_node Kept m caller path (covers m well) (λ _ _. well)
nodes_step m caller uid (op.Read handle offset len) keys well fits added = at_read Kept m caller handle offset len (covers m well)
nodes_step m caller uid (op.Write handle offset bytes) keys well fits added =
    at_write Kept m caller handle offset bytes (covers m well) (λ n can. bytes_written m well caller handle offset bytes n can fits)
nodes_step m caller uid (op.Close handle) keys well fits added = at_close Kept m caller handle (covers m well) (λ n _. handle_closed m well caller handle n)
nodes_step m caller uid op.DropCaches keys well fits added = (covers m well).of_replies Done refl
nodes_step m caller uid (op.MetaLoad name) keys well fits added = at_meta_load Kept m name (covers m well)
nodes_step m caller uid (op.MetaStore name expected bytes) keys well fits added = at_meta_store Kept m name expected bytes (covers m well) (λ _ _. well)
