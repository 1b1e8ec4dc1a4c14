use Rattle.std.proofs.Common.{sym, ap, ◌∙◌}
use Rattle.mount_model.specs.AnswerForms.{refusal_with}
use Rattle.mount_names.proofs.PlaceLemmas.{asked_here, placed_here, clash_here, place_here, refused_taken, refused_long, refused_clash, refused_full}
use Rattle.mount_names.proofs.places.place_in.Goals as goal

pub returns-in-Err-clause-refused : goal.returns-in-Err-clause-refused
returns-in-Err-clause-refused g c = λ m nonce body st is_dir named same.
    let asked = asked_here c.args.state.now m st c.args.dir is_dir c.args.part.now named c.reported_context-context.result (c.reported_context-context.ensures m st) c.lacks_key.result (c.lacks_key.ensures m st) c.if-lacks_key.false in
    let taken = c.in-Err.ensures.refused m asked.0 in
    refused_taken m c.args.part.now nonce body c.args.dir asked.1 taken.1 ∙ ap (refusal_with m) (sym taken.0)

pub returns-then-long-clause-refused : goal.returns-then-long-clause-refused
returns-then-long-clause-refused g c = λ m nonce body st is_dir named same.
    let asked = asked_here c.args.state.now m st c.args.dir is_dir c.args.part.now named c.reported_context-context.result (c.reported_context-context.ensures m st) c.lacks_key.result (c.lacks_key.ensures m st) c.if-lacks_key.false in
    let at = c.in-Ok.ensures.placed m asked.0 in
    refused_long m c.args.part.now nonce body c.args.dir asked.1 at.free (same ∙ c.if-long.true)

pub returns-then-clashes-clause-refused : goal.returns-then-clashes-clause-refused
returns-then-clashes-clause-refused g c = λ m nonce body st is_dir named same.
    let asked = asked_here c.args.state.now m st c.args.dir is_dir c.args.part.now named c.reported_context-context.result (c.reported_context-context.ensures m st) c.lacks_key.result (c.lacks_key.ensures m st) c.if-lacks_key.false in
    let at = c.in-Ok.ensures.placed m asked.0 in
    let clash = clash_here m c.args.dir c.args.part.now c.in-Ok.place at c.clashes.result (c.clashes.ensures m c.args.part.now st named (placed_here m c.args.dir c.args.part.now c.in-Ok.place at)) in
    refused_clash m c.args.part.now nonce body c.args.dir asked.1 at.free (same ∙ c.if-long.false) (sym clash ∙ c.if-clashes.true)

pub returns-then-is_full-clause-refused : goal.returns-then-is_full-clause-refused
returns-then-is_full-clause-refused g c = λ m nonce body st is_dir named same.
    let asked = asked_here c.args.state.now m st c.args.dir is_dir c.args.part.now named c.reported_context-context.result (c.reported_context-context.ensures m st) c.lacks_key.result (c.lacks_key.ensures m st) c.if-lacks_key.false in
    let at = c.in-Ok.ensures.placed m asked.0 in
    let clash = clash_here m c.args.dir c.args.part.now c.in-Ok.place at c.clashes.result (c.clashes.ensures m c.args.part.now st named (placed_here m c.args.dir c.args.part.now c.in-Ok.place at)) in
    refused_full m c.args.part.now nonce body c.args.dir asked.1 at.free (same ∙ c.if-long.false) (sym clash ∙ c.if-clashes.false)
    (sym (c.is_full.ensures.value m st) ∙ c.if-is_full.true)

pub returns-clause-placed : goal.returns-clause-placed
returns-clause-placed g c = λ m st is_dir named.
    let asked = asked_here c.args.state.now m st c.args.dir is_dir c.args.part.now named c.reported_context-context.result (c.reported_context-context.ensures m st) c.lacks_key.result (c.lacks_key.ensures m st) c.if-lacks_key.false in
    let at = c.in-Ok.ensures.placed m asked.0 in
    let clash = clash_here m c.args.dir c.args.part.now c.in-Ok.place at c.clashes.result (c.clashes.ensures m c.args.part.now st named (placed_here m c.args.dir c.args.part.now c.in-Ok.place at)) in
    place_here m c.args.dir c.args.part.now c.in-Ok.place at asked.1 (sym clash ∙ c.if-clashes.false) (sym (c.is_full.ensures.value m st) ∙ c.if-is_full.false)
