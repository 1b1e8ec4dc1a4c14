use Rattle.std.proofs.Common.{sym, ap, ◌∙◌}
use Rattle.std.proofs.lemmas.Bool.{false≢true}
use Rattle.disk_tree.specs.DiskTree.{entries_in}
use Rattle.disk_tree.specs.Entries.{number_under}
use Rattle.mount_state.specs.Contexts.{context_on_disk}
use Rattle.mount_state.proofs.ContextLemmas.{no_context, context_read}
use Rattle.mount_state.proofs.EntryLemmas.{none_found}
use Rattle.mount_state.proofs.LedLemmas.{plain_led}
use Rattle.mount_state.proofs.StandLemmas.{keyed_told}
use Rattle.mount_state.proofs.names.number_of.Goals as goal

pub returns-in_default-context-clause-found : goal.returns-in_default-context-clause-found
returns-in_default-context-clause-found g c = λ m represents dir.
    let s = c.args.state.now in
    c.find.ensures ∙ (ap (number_under c.args.part.now) (ap entries_in c.in-Some.ensures)
    ∙ plain_led s.disk s.next_node m represents.well represents.tree c.args.dir c.args.part.now
    (no_context s.disk s.next_node m represents.well represents.tree c.args.dir (sym (ap context_on_disk c.in-Some.ensures) ∙ c.in_default-context.is)))

pub returns-then-not-keyed_under-clause-found : goal.returns-then-not-keyed_under-clause-found
returns-then-not-keyed_under-clause-found g c = λ m represents dir.
    let s = c.args.state.now in
    let context = sym (ap context_on_disk c.in-Some.ensures) ∙ c.in-Some-context.is in
    let told = keyed_told s.disk s.next_node m represents.well represents.tree s.ring.claims s.handles.live represents.keys.claims represents.handles.live c.args.dir
    c.in-Some-context.context context c.keyed_under.result c.keyed_under.ensures in
    c.entry_by_text.ensures.represents m represents (sym told ∙ c.if-not-keyed_under.true)

pub returns-then-not-is_plain-clause-found : goal.returns-then-not-is_plain-clause-found
returns-then-not-is_plain-clause-found g c = λ m represents dir.
    let s = c.args.state.now in
    let context = sym (ap context_on_disk c.in-Some.ensures) ∙ c.in-Some-context.is in
    let told = keyed_told s.disk s.next_node m represents.well represents.tree s.ring.claims s.handles.live represents.keys.claims represents.handles.live c.args.dir
    c.in-Some-context.context context c.keyed_under.result c.keyed_under.ensures in
    let read = context_read s.disk s.next_node m represents.well represents.tree c.args.dir c.in-Some-context.context context in
    sym (none_found s.disk s.next_node m represents.well represents.tree c.args.dir read.0 read.1.0 (sym told ∙ c.if-not-keyed_under.false)
    c.args.part.now (λ plain. false≢true (sym c.if-not-is_plain.true ∙ c.is_plain.ensures.1 plain)))

pub returns-clause-found : goal.returns-clause-found
returns-clause-found g c = λ m represents dir.
    let s = c.args.state.now in
    let context = sym (ap context_on_disk c.in-Some.ensures) ∙ c.in-Some-context.is in
    let told = keyed_told s.disk s.next_node m represents.well represents.tree s.ring.claims s.handles.live represents.keys.claims represents.handles.live c.args.dir
    c.in-Some-context.context context c.keyed_under.result c.keyed_under.ensures in
    let read = context_read s.disk s.next_node m represents.well represents.tree c.args.dir c.in-Some-context.context context in
    c.entry_in.ensures.represents m read.0 represents dir read.1.0 (sym told ∙ c.if-not-keyed_under.false)
