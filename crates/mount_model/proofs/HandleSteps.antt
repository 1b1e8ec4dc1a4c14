-- Each step leaves well-formed handles.
use Rattle.std.proofs.Common.{nat_le, ◌≡◌, ℕ, true, ◌&&◌, List, [], length, Option, Some, None, is_some, refl}
use Rattle.std.proofs.lemmas.Bool.{or_parts, leb-false, not_from_false}
use Rattle.byte_words.specs.Contents.{with_bytes}
use Rattle.number_map.specs.Numbered.{get}
use Rattle.plain_tree.specs.Nodes.{Body, Dir, File, Link, Node}
use Rattle.plain_tree.specs.NodesByNumber.{is_named_in}
use Rattle.plain_tree.specs.Tree.{IsReached}
use Rattle.plain_tree.proofs.ReachedLemmas.{reached_named}
use Rattle.mount_model.specs.declared.call.Op.{Op}
use Rattle.mount_model.specs.declared.call.Op.TheVariants as op
use Rattle.mount_model.specs.declared.reply.Reply.TheVariants.{Done}
use Rattle.mount_model.specs.declared.limits.TheConstants.{MAX_HANDLES, MAX_OPENS}
use Rattle.mount_model.specs.Carried.{IsPath}
use Rattle.mount_model.specs.Fits.{OpFits}
use Rattle.mount_model.specs.PlainMount.{PlainMount}
use Rattle.mount_model.specs.OpenHandles.{opens_of}
use Rattle.mount_model.specs.Walk.{PathParts}
use Rattle.mount_model.specs.EntryPaths.{last_part}
use Rattle.mount_model.specs.KeyAnswers.{status_of}
use Rattle.mount_model.specs.SpelledPolicy.{policy_in}
use Rattle.mount_model.specs.NewNodes.{new_node, with_node}
use Rattle.mount_model.specs.OpenAnswers.{is_link_at, with_handle}
use Rattle.mount_model.specs.AnswerForms.{Answer}
use Rattle.mount_model.specs.Answer.{answer_to}
use Rattle.mount_model.specs.SoundHandles.{HasHandles}
use Rattle.mount_model.proofs.CaseLemmas.{Covers, at_add_key, at_remove_key, at_remove_key_all, at_set_policy, at_get_policy}
use Rattle.mount_model.proofs.NameCases.{CanMake, at_make, at_unlink, at_rmdir, at_rename}
use Rattle.mount_model.proofs.FileCases.{CanOpen, at_read_link, at_list, at_stat, at_open_node, at_read, at_write, at_close, at_meta_load, at_meta_store}
use Rattle.mount_model.proofs.WalkLemmas.{walked_reached}
use Rattle.mount_model.proofs.HandlesWell.{made_open, left_open, moved_open, written_open, encrypted_open}
use Rattle.mount_model.proofs.OpenLemmas.{opened_well}
use Rattle.mount_model.proofs.CloseLemmas.{closed_well}
use Rattle.mount_model.proofs.TreeCalls.{IsFresh, comes}
use Rattle.mount_model.proofs.CallParts.{fresh_dir, fresh_file, fresh_link}
use Rattle.mount_model.proofs.NodeSteps.{AreNodes}

abbrev pub AreHandles : PlainMount → Type 0
AreHandles m = HasHandles m.nodes m.handles m.opened

abbrev Kept : Answer → Type 0
Kept a = AreHandles a.mount

covers : (m : PlainMount) → AreHandles m → Covers Kept m
covers m well = record { of_refusals = λ _ _. well; of_replies = λ _ _. well }

module _ (m : PlainMount) (nodes : AreNodes m) (well : AreHandles m) where
  node_made : (path : PathParts) (nonce : List ℕ) (body : Body) (d : ℕ) → CanMake m path body d → IsPath path → IsFresh body
      → AreHandles (with_node m d (last_part path) (new_node m d nonce body))
  node_made path nonce body d can fits fresh =
      let new = comes m nodes path nonce body d can fits fresh in
      made_open m.nodes m.handles m.opened well m.next d (last_part path) (new_node m d nonce body) nodes.tree new.can new.new

  -- what a walk reached is there
  there_named : (o : Option Node) → is_named_in o ≡ true → is_some o ≡ true
  there_named None is = is
  there_named (Some v) is = refl

  reached_there : (n : ℕ) → IsReached m.nodes n → is_some (get m.nodes n) ≡ true
  reached_there n at = there_named (get m.nodes n) (reached_named m.nodes nodes.tree.root nodes.tree.names at)

  opened_handle : (caller : ℕ) (path : PathParts) (n : ℕ) → CanOpen m caller path n → AreHandles (with_handle m caller n)
  opened_handle caller path n can =
      let room = or_parts (nat_le MAX_HANDLES (length m.handles)) (nat_le MAX_OPENS (opens_of m.opened caller)) can.room in
      opened_well m.nodes m.handles m.opened well caller n
      (λ k. reached_there n (walked_reached m path n can.led) k && not_from_false (is_link_at m.nodes n) can.no_link k)
      (leb-false MAX_HANDLES (length m.handles) room.0)
      (leb-false MAX_OPENS (opens_of m.opened caller) room.1)

pub handles_step : (m : PlainMount) (caller uid : ℕ) (o : Op) → AreNodes m → AreHandles m → OpFits o → AreHandles (answer_to m caller uid o).mount
handles_step m caller uid (op.AddKey raw) nodes well fits = at_add_key Kept m uid raw (covers m well).of_refusals (λ _ _. well)
handles_step m caller uid (op.RemoveKey id) nodes well fits = at_remove_key Kept m uid id (covers m well).of_refusals well
handles_step m caller uid (op.RemoveKeyAll id) nodes well fits = at_remove_key_all Kept m uid id (covers m well).of_refusals well
handles_step m caller uid (op.KeyStatus id) nodes well fits = (covers m well).of_replies (status_of m uid id) refl
handles_step m caller uid (op.SetPolicy path policy nonce) nodes well fits =
    at_set_policy Kept m uid path policy nonce (covers m well)
    (λ d can. encrypted_open m.nodes m.handles m.opened well d (record { policy = policy_in policy; nonce = nonce }))
handles_step m caller uid (op.GetPolicy path) nodes well fits = at_get_policy Kept m path (covers m well)
handles_step m caller uid (op.Mkdir path nonce) nodes well fits =
    at_make Kept m path nonce (Dir []) (covers m well) (λ d can. node_made m nodes well path nonce (Dir []) d can fits fresh_dir)
handles_step m caller uid (op.Create path nonce) nodes well fits =
    at_make Kept m path nonce (File []) (covers m well) (λ d can. node_made m nodes well path nonce (File []) d can fits fresh_file)
handles_step m caller uid (op.Symlink path target nonce) nodes well fits =
    at_make Kept m path nonce (Link target) (covers m well) (λ d can. node_made m nodes well path nonce (Link target) d can fits.0 (fresh_link target fits.1 can.target))
handles_step m caller uid (op.ReadLink path) nodes well fits = at_read_link Kept m path (covers m well)
handles_step m caller uid (op.Unlink path) nodes well fits = at_unlink Kept m path (covers m well) (λ d e _. left_open m.nodes m.handles m.opened well d e.0 e.1)
handles_step m caller uid (op.Rmdir path) nodes well fits = at_rmdir Kept m path (covers m well) (λ d e _. left_open m.nodes m.handles m.opened well d e.0 e.1)
handles_step m caller uid (op.Rename old_path new_path) nodes well fits =
    at_rename Kept m old_path new_path (covers m well) (λ d e to _. moved_open m.nodes m.handles m.opened well d e.0 to (last_part new_path) e.1)
handles_step m caller uid (op.List path start) nodes well fits = at_list Kept m path start (covers m well)
handles_step m caller uid (op.Stat path) nodes well fits = at_stat Kept m path (covers m well)
handles_step m caller uid (op.OpenNode path) nodes well fits = at_open_node Kept m caller path (covers m well) (λ n can. opened_handle m nodes well caller path n can)
handles_step m caller uid (op.Read handle offset len) nodes well fits = at_read Kept m caller handle offset len (covers m well)
handles_step m caller uid (op.Write handle offset bytes) nodes well fits =
    at_write Kept m caller handle offset bytes (covers m well) (λ n _. written_open m.nodes m.handles m.opened well n (with_bytes offset bytes))
handles_step m caller uid (op.Close handle) nodes well fits =
    at_close Kept m caller handle (covers m well) (λ n it. closed_well m.nodes m.handles m.opened well caller handle n it)
handles_step m caller uid op.DropCaches nodes well fits = (covers m well).of_replies Done refl
handles_step m caller uid (op.MetaLoad name) nodes well fits = at_meta_load Kept m name (covers m well)
handles_step m caller uid (op.MetaStore name expected bytes) nodes well fits = at_meta_store Kept m name expected bytes (covers m well) (λ _ _. well)
