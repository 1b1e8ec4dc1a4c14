use Rattle.std.proofs.Common.{rules, ◌≡◌, ◌+◌, sym, ap, ◌∙◌, arith}
use Rattle.inode_refs.specs.CacheMaps.{Cache, pins_of}
use Rattle.inode_refs.proofs.CacheLemmas.{at_ok}
use Rattle.mount_files.proofs.HandleCounts.{pins_here}
use Rattle.mount_files.proofs.PinnedLemmas.{unpinned}
use Rattle.mount_files.proofs.holds.open_pinned.Goals as goal

pub unpin-requires : goal.unpin-requires
unpin-requires c =
    let pinned = at_ok c.pin.result (sym c.is_err.ensures.value ∙ c.if-is_err.false) c.pin.ensures.pinned in
    let more : pins_of c.pin.new.self c.args.node ≡ pins_of c.args.inodes.now c.args.node + 1 =
    ap (λ (x : Cache). pins_of x c.args.node) pinned ∙ pins_here c.args.inodes.now.pins c.args.node (pins_of c.args.inodes.now c.args.node + 1) in
    omega arith

pub returns-in-Err-clause-inodes : goal.returns-in-Err-clause-inodes
returns-in-Err-clause-inodes c =
    let ok = sym c.is_err.ensures.value ∙ c.if-is_err.false in
    c.unpin.ensures
    ∙ unpinned c.args.inodes.now c.args.node c.args.key c.is_some-cached.result (search rules) c.pin.new.self
    (at_ok c.pin.result ok c.pin.ensures.pinned) (at_ok c.pin.result ok c.pin.ensures.back)
