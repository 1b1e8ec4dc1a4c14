use Rattle.std.proofs.Common.{rules, ◌≡◌, None, option_map}
use Rattle.key_ring.specs.Holding.{secret_of}
use Rattle.key_ring.specs.Modes.{mode_at}
use Rattle.key_ring.specs.declared.mode_key.ModeKey.{ModeKey}
use Rattle.mount_files.proofs.NeedLemmas.{shared_secret, unmapped}
use Rattle.mount_files.proofs.needs.shared_need.Goals as goal

pub unreachable-requires : goal.unreachable-requires
unreachable-requires c =
    let s = c.args.state.now in
    let keyless : option_map (λ (mode : ModeKey). mode.key) (mode_at s.modes c.id_in-id.result c.args.kind) ≡ None = search rules in
    let none : secret_of s.ring c.id_in-id.result ≡ None = search rules in
    shared_secret s.disk s.inodes c.args.node c.args.context.now c.requires.there s.ring s.modes s.handles.live s.forgets c.claims-exact.ensures.secrets
    c.requires.keyed c.id_in-id.result c.id_in-id.ensures.read c.requires.shared c.args.kind c.requires.kind
    (unmapped (λ (mode : ModeKey). mode.key) (mode_at s.modes c.id_in-id.result c.args.kind) keyless) none
