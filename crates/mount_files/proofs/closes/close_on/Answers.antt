use Rattle.std.proofs.Common.{refl, sym, ap, ◌∙◌}
use Rattle.mount_model.specs.PlainMount.{HandleList}
use Rattle.mount_model.specs.OpenHandles.{node_of}
use Rattle.mount_files.proofs.ClosingLemmas.{pins_due, in_use, keys_are, names_are, disk_now_is, rule_left, names_forget, safe_left}
use Rattle.mount_files.proofs.CloseStands.{closed_stands}
use Rattle.mount_files.proofs.closes.close_on.Goals as goal

pub unpin-requires : goal.unpin-requires
unpin-requires c =
    let s = c.args.state.now in
    pins_due s.disk s.ring.claims s.inodes s.modes s.handles c.close.new.self c.args.caller c.args.handle c.args.node
    s.forgets c.requires c.close.ensures.left c.close.ensures.one

pub release_mode-requires : goal.release_mode-requires
release_mode-requires c =
    let s = c.args.state.now in
    in_use s.disk s.ring.claims s.inodes s.modes s.handles c.close.new.self c.args.caller c.args.handle c.args.node
    s.forgets c.requires c.close.ensures.left c.close.ensures.one

pub invariant_of-state : goal.invariant_of-state
invariant_of-state c =
    let s = c.args.state.now in
    record {
      forgets = rule_left s.disk s.ring.claims s.inodes s.modes s.handles c.close.new.self c.args.caller c.args.handle c.args.node
          s.forgets c.requires c.close.ensures.left c.close.ensures.one
          c.unpin.new.self c.forget_key.new.inodes c.unpin.ensures c.forget_key.ensures
          c.forget_node.new.disk c.forget_node.ensures c.release_mode.new.modes c.release_mode.ensures;
      remembers = names_forget s.disk s.ring.claims s.inodes s.modes s.handles c.close.new.self c.args.caller c.args.handle c.args.node
          s.forgets c.requires c.close.ensures.left c.close.ensures.one
          c.unpin.new.self c.forget_key.new.inodes c.unpin.ensures c.forget_key.ensures
          c.forget_node.new.disk c.forget_node.ensures s.names c.forget_names.new.names s.remembers c.forget_names.ensures;
      safe = safe_left s.disk s.ring.claims s.inodes s.modes s.handles c.close.new.self c.args.caller c.args.handle c.args.node
          s.forgets c.requires c.close.ensures.left c.close.ensures.one
          c.unpin.new.self c.forget_key.new.inodes c.unpin.ensures c.forget_key.ensures
          c.forget_node.new.disk c.forget_node.ensures s.next_node s.safe;
    }

pub returns-clause-closed : goal.returns-clause-closed
returns-clause-closed c =
    let s = c.args.state.now in
    record {
      handles = c.close.ensures.left;
      disk = disk_now_is s.disk s.ring.claims s.inodes s.modes s.handles c.close.new.self c.args.caller c.args.handle c.args.node
          s.forgets c.requires c.close.ensures.left c.close.ensures.one
          c.unpin.new.self c.forget_key.new.inodes c.unpin.ensures c.forget_key.ensures
          c.forget_node.new.disk c.forget_node.ensures;
      keys = keys_are s.disk s.ring.claims s.inodes s.modes s.handles c.close.new.self c.args.caller c.args.handle c.args.node
          s.forgets c.requires c.close.ensures.left c.close.ensures.one
          c.unpin.new.self c.forget_key.new.inodes c.unpin.ensures c.forget_key.ensures;
      modes = c.release_mode.ensures;
      names = names_are s.disk s.ring.claims s.inodes s.modes s.handles c.close.new.self c.args.caller c.args.handle c.args.node
          s.forgets c.requires c.close.ensures.left c.close.ensures.one
          c.unpin.new.self c.forget_key.new.inodes c.unpin.ensures c.forget_key.ensures
          s.names c.forget_names.new.names c.forget_names.ensures;
    }

pub returns-clause-same : goal.returns-clause-same
returns-clause-same c = record { disk = tt; next_node = refl; ring = refl; meta = refl; keys = tt; pins = tt; handles = tt; modes = tt; names = tt }

pub returns-clause-represents : goal.returns-clause-represents
returns-clause-represents c = λ m st.
    closed_stands c.args.state.now _ m c.args.caller c.args.handle c.args.node st (returns-clause-same c) (returns-clause-closed c)
    (ap (λ (hs : HandleList). node_of hs c.args.caller c.args.handle) (sym st.handles.live) ∙ c.requires)
