use Rattle.std.proofs.Common.{◌≡◌, true, false, eqb, length, nat_lt, inl, refl, sym, ap, subst, ◌∙◌, arith}
use Rattle.std.proofs.lemmas.Bool.{eq-eqb}
use Rattle.policy_ctx.specs.Context.{context_bytes}
use Rattle.number_map.specs.Numbered.{changed}
use Rattle.disk_tree.specs.DiskTree.{Disk}
use Rattle.disk_tree.specs.Nodes.{with_context}
use Rattle.plain_tree.specs.NodesByNumber.{children}
use Rattle.mount_model.specs.OpenHandles.{has_handle}
use Rattle.mount_model.specs.AnswerForms.{Answer}
use Rattle.mount_model.specs.WellFormed.{IsWellFormed}
use Rattle.mount_model.specs.PolicyAnswers.{may_use}
use Rattle.mount_model.specs.declared.reply.Reply.TheVariants.{Done}
use Rattle.mount_state.specs.Discipline.{Forgets}
use Rattle.mount_state.specs.Safe.{IsSafe}
use Rattle.mount_state.proofs.UserLemmas.{pins_tell}
use Rattle.mount_names.proofs.LenLemmas.{entries_len}
use Rattle.mount_names.proofs.ReadLemmas.{dir_read}
use Rattle.mount_names.proofs.CachedRules.{policy_names, names_on}
use Rattle.mount_names.proofs.PolicyRules.{policy_safe, unheld_rule}
use Rattle.mount_names.proofs.PolicyStands.{unheld_caches, policy_stands}
use Rattle.mount_names.proofs.GivenLemmas.{is_answer_by}
use Rattle.mount_names.proofs.SetLemmas.{set_done, used_present, none_left}
use Rattle.mount_names.proofs.policies.encrypt.Goals as goal

pub invariant_of-state : goal.invariant_of-state
invariant_of-state c =
    let s = c.args.state.now in
    let free : has_handle s.handles.live c.args.dir ≡ false
    = sym (pins_tell s.handles.live c.args.dir c.pins-handles.result (c.pins-handles.ensures ∙ s.forgets.pins.pinned c.args.dir)) ∙ ap (nat_lt 0) c.if-handles-eq0.true in
    let disk_is : c.set_context.new.self ≡ changed s.disk c.args.dir (with_context (context_bytes c.args.context.now))
    = c.set_context.ensures ∙ ap (λ b. changed s.disk c.args.dir (with_context b)) c.encode_context.ensures in
    record {
      forgets = subst (λ (x : Disk). Forgets x s.ring.claims s.inodes s.modes s.handles.live) (sym disk_is)
          (unheld_rule s.disk s.next_node c.args.dir c.args.context.now c.requires.dir c.requires.plain s.ring.claims s.inodes s.modes s.handles.live s.forgets free);
      remembers = names_on _ c.set_context.new.self s.ring.claims s.names s.handles.live disk_is
          (policy_names s.disk s.ring.claims s.names s.handles.live s.remembers c.args.dir c.args.context.now c.requires.dir c.requires.sized
          (c.may_use.ensures.present c.if-not-may_use.false));
      safe = subst (λ (x : Disk). IsSafe x s.next_node s.handles.live) (sym disk_is)
          (policy_safe s.disk s.next_node c.args.dir c.args.context.now c.requires.dir c.requires.plain s.handles.live s.safe);
    }

pub returns-then-handles-eq0-clause-represents : goal.returns-then-handles-eq0-clause-represents
returns-then-handles-eq0-clause-represents c = λ m st well.
    let s = c.args.state.now in
    let disk_is : c.set_context.new.self ≡ changed s.disk c.args.dir (with_context (context_bytes c.args.context.now))
    = c.set_context.ensures ∙ ap (λ b. changed s.disk c.args.dir (with_context b)) c.encode_context.ensures in
    let is_dir = dir_read s.disk s.next_node m st.tree c.args.dir c.requires.dir in
    let len_is : c.entry_count.result ≡ length (children m.nodes c.args.dir) = c.entry_count.ensures ∙ entries_len s.disk s.next_node m st.well st.tree c.args.dir in
    let empty : eqb (length (children m.nodes c.args.dir)) 0 ≡ true = eq-eqb _ _ (omega (arith, len_is, c.if-entry_count-gt0.false)) in
    let may : may_use m c.args.uid c.args.context.now.policy.id ≡ true = sym (c.may_use.ensures.represents m st) ∙ c.if-not-may_use.false in
    let answer = set_done m c.args.uid c.args.dir c.args.context.now empty may in
    is_answer_by m _ _ Done _ answer
    (inl (
      refl,
      policy_stands s m st c.args.dir c.args.context.now is_dir (none_left (children m.nodes c.args.dir) empty) _ disk_is refl refl refl refl
          (unheld_caches s m st c.args.dir c.args.context.now is_dir (none_left (children m.nodes c.args.dir) empty) c.requires.dir c.requires.plain) refl
          (subst IsWellFormed (ap (λ (a : Answer). a.mount) answer) well),
    ))

pub returns-clause-represents : goal.returns-clause-represents
returns-clause-represents c = λ m st well.
    let s = c.args.state.now in
    let len_is : c.entry_count.result ≡ length (children m.nodes c.args.dir) = c.entry_count.ensures ∙ entries_len s.disk s.next_node m st.well st.tree c.args.dir in
    let empty : eqb (length (children m.nodes c.args.dir)) 0 ≡ true = eq-eqb _ _ (omega (arith, len_is, c.if-entry_count-gt0.false)) in
    let may : may_use m c.args.uid c.args.context.now.policy.id ≡ true = sym (c.may_use.ensures.represents m st) ∙ c.if-not-may_use.false in
    let answer = set_done m c.args.uid c.args.dir c.args.context.now empty may in
    is_answer_by m _ _ c.encrypt_open.result _ answer
    (c.encrypt_open.ensures.represents m st (none_left (children m.nodes c.args.dir) empty) (used_present m c.args.uid c.args.dir c.args.context.now c.args.context.now.policy.id may)
    (subst IsWellFormed (ap (λ (a : Answer). a.mount) answer) well))
