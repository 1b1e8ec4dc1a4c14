use Rattle.std.proofs.Common.{false, cond, sym, ap, subst, ◌∙◌}
use Rattle.std.proofs.lemmas.Bool.{false≢true}
use Rattle.mount_model.specs.declared.reply.Refusal.TheVariants.{IsDir}
use Rattle.mount_model.specs.AnswerForms.{refusal_with, done}
use Rattle.mount_model.specs.UnlinkAnswers.{without_name, answer_to_unlink}
use Rattle.disk_tree.specs.DiskTree.{IsDirAt}
use Rattle.mount_names.specs.Places.{Entry}
use Rattle.mount_model.specs.Walk.{visible_entry}
use Rattle.mount_model.specs.EntryPaths.{is_root}
use Rattle.mount_names.proofs.CachedRules.{no_names_of}
use Rattle.mount_names.proofs.CachedStands.{found_by}
use Rattle.mount_names.proofs.FoundLemmas.{end_at, end_is}
use Rattle.mount_names.proofs.RemovalLemmas.{unlinked, refused_given, done_given, well_of, is_dir_there, no_dir_there}
use Rattle.mount_names.proofs.removals.unlink_entry.Goals as goal

pub returns-then-is_dir-clause-represents : goal.returns-then-is_dir-clause-represents
returns-then-is_dir-clause-represents c = λ m path st named at_end part_is well.
    let e = c.args.entry.now in
    let at = end_at m path false e at_end in
    let dir = is_dir_there c.args.state.now m st e.number (subst (λ (x : Entry). IsDirAt c.args.state.now.disk x.number) c.entry.view_is (c.is_dir.ensures.0 c.if-is_dir.true)) in
    refused_given m (answer_to_unlink m path) IsDir
    (end_is m path false e at (is_root path) named IsDir (unlinked m) ∙ ap (λ b. cond b (refusal_with m IsDir) (done (without_name m e.dir at.name e.number))) dir) c.args.state.now st

pub returns-clause-represents : goal.returns-clause-represents
returns-clause-represents c = λ m path st named at_end part_is well.
    let e = c.args.entry.now in
    let at = end_at m path false e at_end in
    let other = no_dir_there c.args.state.now m st e.number (λ is. false≢true (sym c.if-is_dir.false ∙ c.is_dir.ensures.1 (subst (λ (x : Entry). IsDirAt c.args.state.now.disk x.number) (sym c.entry.view_is) is))) in
    let is = end_is m path false e at (is_root path) named IsDir (unlinked m) ∙ ap (λ b. cond b (refusal_with m IsDir) (done (without_name m e.dir at.name e.number))) other in
    let after = without_name m e.dir at.name e.number in
    done_given after (answer_to_unlink m path) is c.drop_entry.new.state
    (c.drop_entry.ensures.represents m at.name st at.of (found_by m e.dir c.args.part.now at.name e.number (ap (visible_entry m e.dir) part_is ∙ at.found_so)) (well_of after (answer_to_unlink m path) is well))

-- what is no directory has no names
pub drop_entry-requires-clause-none : goal.drop_entry-requires-clause-none
drop_entry-requires-clause-none c =
    let s = c.args.state.now in
    let e = c.args.entry.now in
    no_names_of s.disk s.ring.claims s.names s.handles.live s.remembers e.number
    (λ is. false≢true (sym c.if-is_dir.false ∙ c.is_dir.ensures.1 (subst (λ (x : Entry). IsDirAt s.disk x.number) (sym c.entry.view_is) is)))
