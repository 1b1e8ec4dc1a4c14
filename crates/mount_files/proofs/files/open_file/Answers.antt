use Rattle.std.proofs.Common.{sym, ◌∙◌}
use Rattle.std.proofs.lemmas.Bool.{true≢false}
use Rattle.mount_files.proofs.OpenLemmas.{other_at}
use Rattle.mount_files.proofs.files.open_file.Goals as goal

pub returns-then-not-is_file-clause-refused : goal.returns-then-not-is_file-clause-refused
returns-then-not-is_file-clause-refused c = λ m f st.
    absurd (other_at c.args.state.now m st c.args.caller c.args.handle c.in-Some.node (sym c.node_of.ensures ∙ c.in-Some.is)
    (λ dir. true≢false (sym (c.is_dir.ensures.1 dir) ∙ c.if-is_dir.false))
    (λ file. true≢false (sym (c.is_file.ensures.1 file) ∙ c.if-not-is_file.true)))
