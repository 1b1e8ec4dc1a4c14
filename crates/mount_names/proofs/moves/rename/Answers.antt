use Rattle.std.proofs.Common.{true, sym, ap, subst, ◌∙◌}
use Rattle.mount_model.specs.AnswerForms.{Answer}
use Rattle.mount_model.specs.RenameAnswer.{answer_to_rename}
use Rattle.mount_model.specs.Walk.{visible_entry}
use Rattle.mount_state.specs.AnswerOf.{IsExpectedRefusal}
use Rattle.mount_model.specs.WellFormed.{IsWellFormed}
use Rattle.mount_names.proofs.FoundLemmas.{end_at}
use Rattle.mount_names.proofs.GivenLemmas.{refused_so, due_refused, is_answer_by}
use Rattle.mount_names.proofs.MoveLemmas.{rename_is, source_refused, rename_well}
use Rattle.mount_names.proofs.CachedStands.{found_by}
use Rattle.mount_names.proofs.PlaceLemmas.{both_named}
use Rattle.std.proofs.lemmas.List.Elements.{Contains-append_left, Contains-append_right}
use Rattle.mount_model.specs.EntryPaths.{parent_parts}
use Rattle.mount_state.specs.PassedEntries.{passed_entries}
use Rattle.mount_state.proofs.PassedEntryLemmas.{cached_then, more_passed}
use Rattle.mount_names.proofs.moves.rename.Goals as goal

pub returns-in-Ok-clause-represents : goal.returns-in-Ok-clause-represents
returns-in-Ok-clause-represents g c = λ m st fits new_fits.
    let path = c.args.old_path.now in
    let new_path = c.args.new_path.now in
    let named = both_named path new_path _ _ c.if-is_empty.false c.is_empty.ensures.1 c.if-is_empty-2.false c.is_empty-else-is_empty.ensures.1 in
    let from = end_at m path true c.in-Ok.entry (c.in-Ok.ensures.value m st) in
    let is = rename_is m path new_path named c.in-Ok.entry from in
    is_answer_by m _ _ c.rename_entry.result c.rename_entry.new.state is
    (c.rename_entry.ensures.represents m from.name (c.in-Ok.ensures.represents m st) new_fits from.of
    (found_by m c.in-Ok.entry.dir c.last_bytes.result.now from.name c.in-Ok.entry.number (ap (visible_entry m c.in-Ok.entry.dir) c.last_bytes.ensures ∙ from.found_so))
    (subst IsWellFormed (ap (λ (a : Answer). a.mount) is) (rename_well m path new_path st.well fits new_fits)))

pub returns-in-Ok-clause-due : goal.returns-in-Ok-clause-due
returns-in-Ok-clause-due g c = λ m st fits new_fits.
    let path = c.args.old_path.now in
    let new_path = c.args.new_path.now in
    let named = both_named path new_path _ _ c.if-is_empty.false c.is_empty.ensures.1 c.if-is_empty-2.false c.is_empty-else-is_empty.ensures.1 in
    let from = end_at m path true c.in-Ok.entry (c.in-Ok.ensures.value m st) in
    subst (λ (a : Answer). IsExpectedRefusal a c.rename_entry.result) (sym (rename_is m path new_path named c.in-Ok.entry from))
    (c.rename_entry.ensures.due m from.name (c.in-Ok.ensures.represents m st) new_fits from.of)

pub returns-in-Err-clause-represents : goal.returns-in-Err-clause-represents
returns-in-Err-clause-represents g c = λ m st fits new_fits.
    let path = c.args.old_path.now in
    let new_path = c.args.new_path.now in
    let named = both_named path new_path _ _ c.if-is_empty.false c.is_empty.ensures.1 c.if-is_empty-2.false c.is_empty-else-is_empty.ensures.1 in
    refused_so m (answer_to_rename m path new_path) c.in-Err.refusal (source_refused m path new_path named c.in-Err.refusal (c.in-Err.ensures.value m st))
    c.entry_at.new.state (c.in-Err.ensures.represents m st)

pub returns-in-Err-clause-due : goal.returns-in-Err-clause-due
returns-in-Err-clause-due g c = λ m st fits new_fits.
    let path = c.args.old_path.now in
    let new_path = c.args.new_path.now in
    let named = both_named path new_path _ _ c.if-is_empty.false c.is_empty.ensures.1 c.if-is_empty-2.false c.is_empty-else-is_empty.ensures.1 in
    due_refused m (answer_to_rename m path new_path) c.in-Err.refusal (source_refused m path new_path named c.in-Err.refusal (c.in-Err.ensures.value m st))

pub returns-in-Ok-clause-brought : goal.returns-in-Ok-clause-brought
returns-in-Ok-clause-brought g c = λ m st.
    let old = passed_entries m 0 (parent_parts c.args.old_path.now) in
    let new = passed_entries m 0 (parent_parts c.args.new_path.now) in
    cached_then _ _ _ old new _ (c.in-Ok.ensures.brought m st)
    (c.rename_entry.ensures.brought m (c.in-Ok.ensures.represents m st)) (Contains-append_left old new) (Contains-append_right old new)

pub returns-in-Err-clause-brought : goal.returns-in-Err-clause-brought
returns-in-Err-clause-brought g c = λ m st.
    let old = passed_entries m 0 (parent_parts c.args.old_path.now) in
    let new = passed_entries m 0 (parent_parts c.args.new_path.now) in
    more_passed _ _ old _ (c.in-Err.ensures.brought m st) (Contains-append_left old new)
