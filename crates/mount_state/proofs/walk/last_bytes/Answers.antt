use Rattle.std.proofs.Common.{◌≡◌, ◌-◌, [], length, Option, unwrap_or, ap, ◌∙◌}
use Rattle.std.specs.List.{slice_get}
use Rattle.std.proofs.lemmas.Option.{unwrap_or-slice_get}
use Rattle.plain_tree.specs.Nodes.{Name}
use Rattle.mount_state.proofs.walk.last_bytes.Goals as goal

pub returns-in-None : goal.returns-in-None
returns-in-None c =
    let path = c.args.path.now in
    let last : c.saturating_sub.result ≡ length path - 1 = c.saturating_sub.ensures ∙ ap (λ n. n - 1) c.len.ensures in
    ap (λ (o : Option Name). unwrap_or o []) (c.in-None.ensures ∙ ap (slice_get path) last)
    ∙ unwrap_or-slice_get path (length path - 1) []
