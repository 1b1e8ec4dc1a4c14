use Rattle.std.proofs.Common.{Some, None, sym, ap, ◌∙◌}
use Rattle.mount_model.specs.declared.reply.Refusal.{Refusal}
use Rattle.mount_names.proofs.MoveLemmas.{locked_there, taken_there, why_here}
use Rattle.mount_names.proofs.targets.target_in.Goals as goal

pub returns-then-not-keyed_as-clause-refused : goal.returns-then-not-keyed_as-clause-refused
returns-then-not-keyed_as-clause-refused g c = λ m old st is_dir named of.
    locked_there m c.args.entry.now c.args.dir c.args.past c.args.part.now
    (sym (c.keyed_as.ensures.represents m st) ∙ c.if-not-keyed_as.true)

pub returns-in-Some-why_not-clause-refused : goal.returns-in-Some-why_not-clause-refused
returns-in-Some-why_not-clause-refused g c = λ m old st is_dir named of.
    let keyed = sym (c.keyed_as.ensures.represents m st) ∙ c.if-not-keyed_as.false in
    let at = c.in-Ok.ensures.placed m (record { represents = st; is_dir = is_dir; named = named; keyed = keyed; context = c.reported_context-context.ensures m st }) in
    why_here m c.args.entry.now c.args.dir c.args.past c.args.part.now c.in-Ok.place at
    (Some c.in-Some-why_not.refusal)
    (λ there. c.in-Some-why_not.ensures m old c.args.part.now st named of there)

pub returns-in-None-clause-placed : goal.returns-in-None-clause-placed
returns-in-None-clause-placed g c = λ m old st is_dir named of.
    let keyed = sym (c.keyed_as.ensures.represents m st) ∙ c.if-not-keyed_as.false in
    let at = c.in-Ok.ensures.placed m (record { represents = st; is_dir = is_dir; named = named; keyed = keyed; context = c.reported_context-context.ensures m st }) in (
      at,
      why_here m c.args.entry.now c.args.dir c.args.past c.args.part.now c.in-Ok.place at None
          (λ there. c.in-None.ensures m old c.args.part.now st named of there),
    )

pub returns-in-Err-clause-refused : goal.returns-in-Err-clause-refused
returns-in-Err-clause-refused g c = λ m old st is_dir named of.
    let keyed = sym (c.keyed_as.ensures.represents m st) ∙ c.if-not-keyed_as.false in
    let is = c.in-Err.ensures.refused m (record { represents = st; is_dir = is_dir; named = named; keyed = keyed; context = c.reported_context-context.ensures m st }) in
    taken_there m c.args.entry.now c.args.dir c.args.past c.args.part.now keyed is.1
    ∙ ap (λ (r : Refusal). Some r) (sym is.0)
