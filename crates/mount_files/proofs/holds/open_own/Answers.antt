use Rattle.mount_files.proofs.CachedRules.{names_opened}
use Rattle.mount_files.proofs.PinnedLemmas.{own_rule, own_safe, own_caches}
use Rattle.mount_files.proofs.holds.open_own.Goals as goal

pub invariant_of-state : goal.invariant_of-state
invariant_of-state c =
    let s = c.args.state.now in
    record {
      forgets = own_rule s.disk s.ring.claims s.next_node s.inodes s.handles c.args.caller c.args.node c.requires.room c.requires.there
          c.open_pinned.new.inodes c.open_pinned.new.handles s.modes s.forgets c.args.key c.requires.need c.open_pinned.result
          c.open_pinned.ensures.pinned c.open_pinned.ensures.opened c.open_pinned.ensures.inodes c.open_pinned.ensures.handles;
      remembers = names_opened s.disk s.ring.claims s.names s.handles c.open_pinned.new.handles c.args.caller c.args.node s.remembers c.open_pinned.result
          c.open_pinned.ensures.opened c.open_pinned.ensures.handles;
      safe = own_safe s.disk s.ring.claims s.next_node s.inodes s.handles c.args.caller c.args.node c.requires.room c.requires.there
          c.open_pinned.new.inodes c.open_pinned.new.handles s.safe c.open_pinned.result
          c.open_pinned.ensures.opened c.open_pinned.ensures.handles;
    }

pub returns-clause-caches : goal.returns-clause-caches
returns-clause-caches c = λ m st key.
    let s = c.args.state.now in
    own_caches s.inodes s.modes m st.caches c.args.node c.args.key key c.open_pinned.result c.open_pinned.new.inodes
    c.open_pinned.ensures.pinned c.open_pinned.ensures.inodes
