use Rattle.std.proofs.Common.{◌≡◌, ◌+◌, true, Option, option_map, refl, sym, ap, subst, ◌∙◌, rules}
use Rattle.policy_ctx.specs.declared.policy.Context.{Context}
use Rattle.policy_ctx.specs.Context.{context_bytes}
use Rattle.number_map.specs.Numbered.{insert}
use Rattle.disk_tree.specs.DiskTree.{Disk}
use Rattle.disk_tree.specs.EntryChanges.{with_entry_and_name}
use Rattle.disk_tree.specs.declared.node.StoredNode.{StoredNode}
use Rattle.mount_state.specs.Discipline.{Forgets}
use Rattle.mount_state.specs.Safe.{IsSafe}
use Rattle.mount_names.specs.Places.{Place}
use Rattle.mount_names.proofs.DiskRules.{made_rule, made_safe, none_at_next}
use Rattle.mount_names.proofs.CachedRules.{made_names, names_on}
use Rattle.mount_names.proofs.MakeLemmas.{made_node, made_stands, made_given, well_after}
use Rattle.mount_names.proofs.makes.make.Goals as goal

pub invariant_of-state : goal.invariant_of-state
invariant_of-state c =
    let s = c.args.state.now in
    let node : StoredNode = record { context = c.stored_context.result; named = true; body = c.args.body } in
    let added : c.add_node_and_entry.new.self ≡ with_entry_and_name (insert s.disk s.next_node node) c.args.place.now.dir c.args.place.now.stored s.next_node
    = c.in-Ok.ensures.added ∙ ap (λ (x : Place). with_entry_and_name (insert s.disk s.next_node node) x.dir x.stored s.next_node) c.place.view_is in
    record {
      forgets = subst (λ (x : Disk). Forgets x s.ring.claims s.inodes s.modes s.handles.live) (sym added)
          (made_rule s.disk s.next_node s.ring.claims s.inodes s.modes s.handles.live s.forgets s.safe
          (record { context = c.stored_context.result; named = true; body = c.args.body }) c.args.place.now.dir c.args.place.now.stored);
      remembers = names_on _ c.add_node_and_entry.new.self s.ring.claims s.names s.handles.live added
          (made_names s.disk s.ring.claims s.names s.handles.live s.remembers s.next_node
          (none_at_next s.disk s.next_node s.ring.claims s.inodes s.modes s.handles.live s.forgets s.safe)
          (record { context = c.stored_context.result; named = true; body = c.args.body }) c.args.place.now.dir c.args.place.now.stored);
      safe = subst (λ (x : Disk). IsSafe x (s.next_node + 1) s.handles.live) (sym added)
          (made_safe s.disk s.next_node s.ring.claims s.inodes s.modes s.handles.live s.forgets s.safe
          (record { context = c.stored_context.result; named = true; body = c.args.body }) c.args.place.now.dir c.args.place.now.stored);
    }

pub returns-in-Ok-clause-represents : goal.returns-in-Ok-clause-represents
returns-in-Ok-clause-represents c = λ m path body st at short stored well.
    let s = c.args.state.now in
    let node : StoredNode = record { context = c.stored_context.result; named = true; body = c.args.body } in
    let added : c.add_node_and_entry.new.self ≡ with_entry_and_name (insert s.disk s.next_node node) c.args.place.now.dir c.args.place.now.stored s.next_node
    = c.in-Ok.ensures.added ∙ ap (λ (x : Place). with_entry_and_name (insert s.disk s.next_node node) x.dir x.stored s.next_node) c.place.view_is in
    made_given c.args.state.now m st path c.args.place.now at c.args.nonce.now body short _
    (made_stands c.args.state.now m st path c.args.place.now at c.args.nonce.now body _ _ added refl refl refl refl refl refl refl
    (made_node c.args.state.now m st path c.args.place.now at c.args.nonce.now body c.args.body stored _ (λ i. record { context = (c.stored_context.ensures ∙ ap (λ (o : Option Context). option_map context_bytes o) c.context_of_new.ensures) i; named = true; body = c.args.body }))
    (well_after c.args.state.now m st path c.args.place.now at c.args.nonce.now body short well))

pub returns-in-Err-clause-represents : goal.returns-in-Err-clause-represents
returns-in-Err-clause-represents g c = search rules
