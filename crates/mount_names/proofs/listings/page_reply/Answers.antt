use Rattle.std.proofs.Common.{◌≡◌, sym, ap, subst, ◌∙◌, inl}
use Rattle.disk_tree.specs.Entries.{Entries}
use Rattle.mount_model.specs.AnswerForms.{Answer}
use Rattle.mount_model.specs.ListAnswers.{page_of}
use Rattle.mount_names.specs.NamePages.{IsPageOf}
use Rattle.mount_names.proofs.ListedLemmas.{dir_there, entries_there, page_is, at_dir}
use Rattle.mount_names.proofs.PlaceLemmas.{dir_names}
use Rattle.mount_names.proofs.ReadLemmas.{dir_read}
use Rattle.mount_names.proofs.listings.page_reply.Goals as goal

pub returns-in-Ok-clause-told : goal.returns-in-Ok-clause-told
returns-in-Ok-clause-told c = λ m st.
    let s = c.args.state.now in
    let dir = c.args.dir in
    let node = c.in-Some.node.now in
    let is_dir = dir_read s.disk s.next_node m st.tree dir (dir_there s.disk dir node c.in-Dir.entries c.in-Some.ensures c.in-Dir.is) in
    let names = dir_names s.disk s.next_node m st.well st.tree dir is_dir in
    let page : c.in-Ok.told ≡ page_of m dir c.args.start
    = page_is s.disk s.next_node m st.well st.tree dir c.args.start c.reading_of-reading.result (λ name plain bytes. c.reading_of-reading.ensures m name st names plain bytes) c.in-Ok.told
    (subst (λ (es : Entries). IsPageOf c.reading_of-reading.result es c.args.start c.in-Ok.told) (entries_there s.disk dir node c.in-Dir.entries c.in-Some.ensures c.in-Dir.is) c.in-Ok.ensures) in
    inl (page ∙ sym (ap (λ (a : Answer). a.reply) (at_dir m c.args.start dir is_dir)))
