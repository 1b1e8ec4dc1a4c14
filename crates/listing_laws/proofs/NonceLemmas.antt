-- Each call leaves nonces of 16 bytes, if its own is one.
use Rattle.std.proofs.Common.{◌≡◌, ℕ, ◌||◌, true, List, [], ◌∷◌, Option, Some, None, refl, sym, ap, ◌∙◌, subst}
use Rattle.std.specs.Prelude.{All}
use Rattle.std.specs.FinMap.{get-empty}
use Rattle.std.specs.Ordering.{nat_cmp}
use Rattle.std.proofs.lemmas.Bool.{cond_both}
use Rattle.std.proofs.lemmas.List.Elements.{All-head, All-tail}
use Rattle.std.proofs.lemmas.Option.{same_Some}
use Rattle.byte_words.specs.Bytes.{AreBytesOfLength}
use Rattle.byte_words.specs.Contents.{with_bytes}
use Rattle.policy_ctx.specs.declared.policy.Context.{Context}
use Rattle.number_map.specs.Numbered.{empty}
use Rattle.plain_tree.specs.Nodes.{Name, Node, Body, Dir, File, Link}
use Rattle.plain_tree.specs.NodesByNumber.{context_at, is_named}
use Rattle.plain_tree.specs.Changes.{dropped, first_nodes, without_node}
use Rattle.plain_tree.proofs.FactLemmas.{IsOfBodies, each_inserted, each_made, each_dropped, each_gone, each_moved, each_written, each_encrypted}
use Rattle.mount_model.specs.declared.call.Op.{Op}
use Rattle.mount_model.specs.declared.call.Op.TheVariants as op
use Rattle.mount_model.specs.declared.reply.Reply.TheVariants.{Done}
use Rattle.mount_model.specs.PlainMount.{PlainMount, empty_mount}
use Rattle.mount_model.specs.OpenHandles.{has_handle, without_handle}
use Rattle.mount_model.specs.KeyAnswers.{status_of}
use Rattle.mount_model.specs.SpelledPolicy.{policy_in}
use Rattle.mount_model.specs.NewNodes.{inherited_context, new_node, with_node}
use Rattle.mount_model.specs.UnlinkAnswers.{without_name}
use Rattle.mount_model.specs.CloseAnswers.{with_closed}
use Rattle.mount_model.specs.AnswerForms.{Answer}
use Rattle.mount_model.specs.Answer.{answer_to}
use Rattle.mount_model.specs.History.{History, MountEntry, is_out_of_memory, mount_from, mount_after_entry}
use Rattle.mount_model.proofs.CaseLemmas.{Covers, at_add_key, at_remove_key, at_remove_key_all, at_set_policy, at_get_policy}
use Rattle.mount_model.proofs.NameCases.{at_make, at_unlink, at_rmdir, at_rename}
use Rattle.mount_model.proofs.FileCases.{at_read_link, at_list, at_stat, at_open_node, at_read, at_write, at_close, at_meta_load, at_meta_store}
use Rattle.listing_laws.specs.Laws.{HasNonces}
use Rattle.listing_laws.specs.Nonces.{CarriesNonce, MountsHaveNonces}

abbrev Nonced : ℕ → Node → Type 0
Nonced n v = (c : Context) → v.context ≡ Some c → AreBytesOfLength 16 c.nonce

abbrev Kept : Answer → Type 0
Kept a = HasNonces a.mount.nodes

of_bodies : IsOfBodies Nonced
of_bodies = record { children = λ x g v has. has; named = λ x named v has. has }

own_nonce : (nonce : List ℕ) (new c : Context) → AreBytesOfLength 16 nonce → new.nonce ≡ nonce → Some new ≡ Some c → AreBytesOfLength 16 c.nonce
own_nonce nonce new c is own same = subst (AreBytesOfLength 16) (sym own ∙ ap (λ (x : Context). x.nonce) (same_Some new c same)) is

inherits : (nonce : List ℕ) (o : Option Context) → AreBytesOfLength 16 nonce → (c : Context) → inherited_context nonce o ≡ Some c → AreBytesOfLength 16 c.nonce
inherits nonce None is c same = absurd (cc same)
inherits nonce (Some old) is c same = own_nonce nonce _ c is refl same

module _ (m : PlainMount) (has : HasNonces m.nodes) where
  covers : Covers Kept m
  covers = record { of_refusals = λ _ _. has; of_replies = λ _ _. has }

  node_made : (nonce : List ℕ) (name : Name) (body : Body) (d : ℕ) → AreBytesOfLength 16 nonce → HasNonces (with_node m d name (new_node m d nonce body)).nodes
  node_made nonce name body d is = each_made Nonced of_bodies m.nodes has d name m.next (new_node m d nonce body) (inherits nonce (context_at m.nodes d) is)

  name_dropped : (d : ℕ) (name : Name) (x : ℕ) → HasNonces (without_name m d name x).nodes
  name_dropped d name x =
      let left = each_dropped Nonced of_bodies m.nodes has d name x in
      cond_both (has_handle m.handles x) (dropped m.nodes d name x) (without_node (dropped m.nodes d name x) x) HasNonces
      (λ _. left)
      (λ _. each_gone Nonced (dropped m.nodes d name x) left x)

  handle_closed : (caller handle n : ℕ) → HasNonces (with_closed m caller handle n).nodes
  handle_closed caller handle n =
      cond_both (is_named m.nodes n || has_handle (without_handle caller handle m.handles) n) m.nodes (without_node m.nodes n) HasNonces
      (λ _. has)
      (λ _. each_gone Nonced m.nodes has n)

  nonces_step : (caller uid : ℕ) (o : Op) → CarriesNonce o → HasNonces (answer_to m caller uid o).mount.nodes
  nonces_step caller uid (op.AddKey raw) is = at_add_key Kept m uid raw covers.of_refusals (λ _ _. has)
  nonces_step caller uid (op.RemoveKey id) is = at_remove_key Kept m uid id covers.of_refusals has
  nonces_step caller uid (op.RemoveKeyAll id) is = at_remove_key_all Kept m uid id covers.of_refusals has
  nonces_step caller uid (op.KeyStatus id) is = covers.of_replies (status_of m uid id) refl
  nonces_step caller uid (op.SetPolicy path policy nonce) is =
      at_set_policy Kept m uid path policy nonce covers
      (λ d _. each_encrypted Nonced m.nodes has d (record { policy = policy_in policy; nonce = nonce }) (λ v there own c same. own_nonce nonce _ c is refl same))
  nonces_step caller uid (op.GetPolicy path) is = at_get_policy Kept m path covers
  nonces_step caller uid (op.Mkdir path nonce) is = at_make Kept m path nonce (Dir []) covers (λ d _. node_made nonce _ (Dir []) d is)
  nonces_step caller uid (op.Create path nonce) is = at_make Kept m path nonce (File []) covers (λ d _. node_made nonce _ (File []) d is)
  nonces_step caller uid (op.Symlink path target nonce) is = at_make Kept m path nonce (Link target) covers (λ d _. node_made nonce _ (Link target) d is)
  nonces_step caller uid (op.ReadLink path) is = at_read_link Kept m path covers
  nonces_step caller uid (op.Unlink path) is = at_unlink Kept m path covers (λ d e _. name_dropped d e.0 e.1)
  nonces_step caller uid (op.Rmdir path) is = at_rmdir Kept m path covers (λ d e _. name_dropped d e.0 e.1)
  nonces_step caller uid (op.Rename old_path new_path) is =
      at_rename Kept m old_path new_path covers (λ d e to _. each_moved Nonced of_bodies m.nodes has d e.0 to _ e.1)
  nonces_step caller uid (op.List path start) is = at_list Kept m path start covers
  nonces_step caller uid (op.Stat path) is = at_stat Kept m path covers
  nonces_step caller uid (op.OpenNode path) is = at_open_node Kept m caller path covers (λ _ _. has)
  nonces_step caller uid (op.Read handle offset len) is = at_read Kept m caller handle offset len covers
  nonces_step caller uid (op.Write handle offset bytes) is =
      at_write Kept m caller handle offset bytes covers (λ n _. each_written Nonced m.nodes has n (with_bytes offset bytes) (λ v there own. own))
  nonces_step caller uid (op.Close handle) is = at_close Kept m caller handle covers (λ n _. handle_closed caller handle n)
  nonces_step caller uid op.DropCaches is = covers.of_replies Done refl
  nonces_step caller uid (op.MetaLoad name) is = at_meta_load Kept m name covers
  nonces_step caller uid (op.MetaStore name expected bytes) is = at_meta_store Kept m name expected bytes covers (λ _ _. has)

entry_leaves : (m : PlainMount) (e : MountEntry) → HasNonces m.nodes → CarriesNonce e.call.op → HasNonces (mount_after_entry m e).nodes
entry_leaves m e has is =
    cond_both (is_out_of_memory e.reply) m (answer_to m e.who e.call.uid e.call.op).mount (λ (x : PlainMount). HasNonces x.nodes)
    (λ _. has)
    (λ _. nonces_step m has e.who e.call.uid e.call.op is)

history_leaves : (m : PlainMount) (h : History) → HasNonces m.nodes → All (λ (e : MountEntry). CarriesNonce e.call.op) h → HasNonces (mount_from m h).nodes
history_leaves m [] has are = has
history_leaves m (e ∷ h) has are =
    history_leaves (mount_after_entry m e) h (entry_leaves m e has (All-head (λ (x : MountEntry). CarriesNonce x.call.op) e h are)) (All-tail (λ (x : MountEntry). CarriesNonce x.call.op) e h are)

none_yet : HasNonces empty
none_yet x v there = let none : None ≡ Some v = sym (get-empty nat_cmp x) ∙ there in absurd (cc)

first_nonces : HasNonces first_nodes
first_nonces = each_inserted Nonced empty none_yet 0 (record { named = true; context = None; body = Dir [] }) (λ c same. absurd (cc same))

pub have_nonces : MountsHaveNonces
have_nonces history are = history_leaves empty_mount history first_nonces are
