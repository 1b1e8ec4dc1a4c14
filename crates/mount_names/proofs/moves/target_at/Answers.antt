use Rattle.std.proofs.Common.{◌≡◌, Ok, Some, subst, ◌∙◌}
use Rattle.mount_model.specs.AnswerForms.{refusal_with}
use Rattle.mount_model.specs.RenameAnswer.{answer_to_move_from}
use Rattle.mount_model.specs.EntryPaths.{parent, is_at_or_above}
use Rattle.mount_state.specs.PassedNodes.{with_past}
use Rattle.mount_names.specs.Places.{Entry}
use Rattle.mount_names.proofs.MoveLemmas.{walk_led, walk_passed, walk_stopped, refused_walk, told_there, why_there}
use Rattle.mount_names.proofs.MoveLemmas.{named_path, placed_at}
use Rattle.mount_names.proofs.PlaceLemmas.{dir_here, name_here, err_then, ok_then}
use Rattle.mount_names.proofs.moves.target_at.Goals as goal

pub returns-in-Err-clause-refused : goal.returns-in-Err-clause-refused
returns-in-Err-clause-refused g c = λ m name st fits of.
    let path = c.args.path.now in
    let e : Entry = record { dir = c.entry.inside.dir; stored = c.entry.inside.stored.now; number = c.entry.inside.number } in
    subst (λ (x : Entry). answer_to_move_from m path x.dir name x.number ≡ refusal_with m c.in-Err.refusal) c.entry.view_is
    (refused_walk m e name path c.in-Err.refusal
    (walk_stopped (is_at_or_above m e.number path) c.in-Err.refusal (parent m path) (c.in-Err.ensures.value m st)))

pub returns-in-Ok-clause-refused : goal.returns-in-Ok-clause-refused
returns-in-Ok-clause-refused g c =
    let path = c.args.path.now in
    let part = c.last_bytes.result.now in
    let e = c.args.entry.now in
    let named = named_path path c.requires.some in
    err_then c.target_in.result c.target_in.ensures.refused (λ refusal in_dir m name st fits of.
    let walk = subst (λ (x : Entry). Ok (c.in-Ok.dir, c.in-Ok.past) ≡ with_past (is_at_or_above m x.number path) (parent m path)) c.entry.view_is (c.in-Ok.ensures.value m st) in
    let led = walk_led c.in-Ok.past (is_at_or_above m e.number path) c.in-Ok.dir (parent m path) walk in
    let passed = walk_passed c.in-Ok.past (is_at_or_above m e.number path) c.in-Ok.dir (parent m path) walk in
    told_there m e name path c.in-Ok.dir led (Some refusal)
    (why_there m e path c.in-Ok.dir c.in-Ok.past part passed c.last_bytes.ensures
    ∙ in_dir m name (c.in-Ok.ensures.represents m st)
    (dir_here m path c.in-Ok.dir part named led c.last_bytes.ensures fits)
    (name_here m path c.in-Ok.dir part named led c.last_bytes.ensures fits) of))

pub returns-in-Ok-clause-placed : goal.returns-in-Ok-clause-placed
returns-in-Ok-clause-placed g c =
    let path = c.args.path.now in
    let part = c.last_bytes.result.now in
    let e = c.args.entry.now in
    let named = named_path path c.requires.some in
    ok_then c.target_in.result c.target_in.ensures.placed c.target_in.ensures.dir (λ place placed at m name st fits of.
    let walk = subst (λ (x : Entry). Ok (c.in-Ok.dir, c.in-Ok.past) ≡ with_past (is_at_or_above m x.number path) (parent m path)) c.entry.view_is (c.in-Ok.ensures.value m st) in
    let led = walk_led c.in-Ok.past (is_at_or_above m e.number path) c.in-Ok.dir (parent m path) walk in
    let passed = walk_passed c.in-Ok.past (is_at_or_above m e.number path) c.in-Ok.dir (parent m path) walk in
    let there = placed m name (c.in-Ok.ensures.represents m st) (dir_here m path c.in-Ok.dir part named led c.last_bytes.ensures fits) (name_here m path c.in-Ok.dir part named led c.last_bytes.ensures fits) of in
    placed_at m e path place c.in-Ok.dir c.in-Ok.past part led passed c.last_bytes.ensures at.0 there.0 there.1)
