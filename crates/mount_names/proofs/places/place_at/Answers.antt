use Rattle.std.proofs.Common.{Ok, sym, ap, subst, ◌∙◌}
use Rattle.mount_model.specs.Walk.{WalkResult}
use Rattle.plain_tree.specs.Nodes.{Name}
use Rattle.mount_names.specs.NewPlaces.{IsPlaceOf}
use Rattle.mount_names.proofs.PlaceLemmas.{some_parts, dir_here, name_here, refused_here, err_then, ok_then}
use Rattle.mount_names.proofs.places.place_at.Goals as goal

pub returns-in-Ok-clause-refused : goal.returns-in-Ok-clause-refused
returns-in-Ok-clause-refused g c =
    let path = c.args.path.now in
    let named = some_parts path c.is_empty.result c.if-is_empty.false c.is_empty.ensures.1 in
    err_then c.place_in.result c.place_in.ensures.refused (λ refusal in_dir m nonce body st fits same.
    let led = c.in-Ok.ensures.value m st in
    refused_here m path c.in-Ok.dir c.last_bytes.result.now named led c.last_bytes.ensures fits nonce body refusal
    (in_dir m nonce body (c.in-Ok.ensures.represents m st) (dir_here m path c.in-Ok.dir c.last_bytes.result.now named led c.last_bytes.ensures fits) (name_here m path c.in-Ok.dir c.last_bytes.result.now named led c.last_bytes.ensures fits) same))

pub returns-in-Ok-clause-placed : goal.returns-in-Ok-clause-placed
returns-in-Ok-clause-placed g c =
    let path = c.args.path.now in
    let named = some_parts path c.is_empty.result c.if-is_empty.false c.is_empty.ensures.1 in
    ok_then c.place_in.result c.place_in.ensures.placed c.place_in.ensures.dir (λ place placed at m st fits.
    let led = c.in-Ok.ensures.value m st in
    record {
      named = named;
      led = sym led ∙ ap (λ n. let w : WalkResult = Ok n in w) (sym at.0);
      there = subst (λ (p : Name). IsPlaceOf m p place) c.last_bytes.ensures
          (placed m (c.in-Ok.ensures.represents m st) (dir_here m path c.in-Ok.dir c.last_bytes.result.now named led c.last_bytes.ensures fits) (name_here m path c.in-Ok.dir c.last_bytes.result.now named led c.last_bytes.ensures fits));
    })
