use Rattle.std.proofs.Common.{◌≡◌, true, inl, refl, sym, ap, subst, ◌∙◌, arith}
use Rattle.std.proofs.lemmas.Bool.{lt-ltb}
use Rattle.policy_ctx.specs.Context.{context_bytes}
use Rattle.number_map.specs.Numbered.{changed}
use Rattle.disk_tree.specs.DiskTree.{Disk}
use Rattle.disk_tree.specs.Nodes.{with_context}
use Rattle.mount_model.specs.OpenHandles.{has_handle}
use Rattle.mount_state.specs.Handles.{handles_on}
use Rattle.mount_state.specs.Safe.{IsSafe}
use Rattle.mount_state.proofs.UserLemmas.{pins_tell}
use Rattle.mount_names.specs.EncryptedDirs.{with_policy}
use Rattle.mount_names.proofs.ReadLemmas.{dir_read}
use Rattle.mount_names.proofs.CachedRules.{policy_names, names_on}
use Rattle.mount_names.proofs.PolicyRules.{rule_of, policy_safe, open_rule, users_fit}
use Rattle.mount_names.proofs.PolicyStands.{caches_of, open_caches, policy_stands}
use Rattle.mount_names.proofs.policies.encrypt_open.Goals as goal

pub hold_key-requires-clause-fit : goal.hold_key-requires-clause-fit
hold_key-requires-clause-fit c =
    let s = c.args.state.now in
    users_fit s.disk s.ring.claims s.inodes s.modes s.handles.live s.forgets c.args.context.now.policy.id c.args.dir c.args.handles
    (c.requires.pins ∙ s.forgets.pins.pinned c.args.dir)

pub invariant_of-state : goal.invariant_of-state
invariant_of-state c =
    let s = c.args.state.now in
    let count : c.args.handles ≡ handles_on s.handles.live c.args.dir = c.requires.pins ∙ s.forgets.pins.pinned c.args.dir in
    let held : has_handle s.handles.live c.args.dir ≡ true = sym (pins_tell s.handles.live c.args.dir c.args.handles count) ∙ lt-ltb 0 c.args.handles (omega (arith, c.requires.some)) in
    let disk_is : c.set_context.new.self ≡ changed s.disk c.args.dir (with_context (context_bytes c.args.context.now))
    = c.set_context.ensures ∙ ap (λ b. changed s.disk c.args.dir (with_context b)) c.encode_context.ensures in
    record {
      forgets = rule_of _ _ _ _ _ _ s.ring.claims s.handles.live disk_is c.in-Ok.ensures.inodes c.in-Ok.ensures.modes
          (open_rule s.disk s.next_node c.args.dir c.args.context.now c.requires.dir c.requires.plain s.ring.claims s.inodes s.modes s.handles.live s.forgets
          c.in-Some.key c.in-Some.ensures.kind c.requires.sized held c.args.handles count);
      remembers = names_on _ c.set_context.new.self s.ring.claims s.names s.handles.live disk_is
          (policy_names s.disk s.ring.claims s.names s.handles.live s.remembers c.args.dir c.args.context.now c.requires.dir c.requires.sized c.requires.present);
      safe = subst (λ (x : Disk). IsSafe x s.next_node s.handles.live) (sym disk_is)
          (policy_safe s.disk s.next_node c.args.dir c.args.context.now c.requires.dir c.requires.plain s.handles.live s.safe);
    }

pub returns-in-Ok-clause-represents : goal.returns-in-Ok-clause-represents
returns-in-Ok-clause-represents c = λ m st empty present well.
    let s = c.args.state.now in
    let count : c.args.handles ≡ handles_on s.handles.live c.args.dir = c.requires.pins ∙ s.forgets.pins.pinned c.args.dir in
    let held : has_handle s.handles.live c.args.dir ≡ true = sym (pins_tell s.handles.live c.args.dir c.args.handles count) ∙ lt-ltb 0 c.args.handles (omega (arith, c.requires.some)) in
    let disk_is : c.set_context.new.self ≡ changed s.disk c.args.dir (with_context (context_bytes c.args.context.now))
    = c.set_context.ensures ∙ ap (λ b. changed s.disk c.args.dir (with_context b)) c.encode_context.ensures in
    let is_dir = dir_read s.disk s.next_node m st.tree c.args.dir c.requires.dir in
    inl (
      refl,
      policy_stands s m st c.args.dir c.args.context.now is_dir empty _ disk_is refl refl refl refl
          (caches_of _ _ _ _ (with_policy m c.args.dir c.args.context.now) c.in-Ok.ensures.inodes c.in-Ok.ensures.modes
          (open_caches s m st c.args.dir c.args.context.now is_dir empty c.requires.dir c.requires.plain c.in-Some.key (sym c.in-Some.ensures.value) c.in-Some.ensures.kind c.requires.sized held
          c.args.handles count)) refl well,
    )
