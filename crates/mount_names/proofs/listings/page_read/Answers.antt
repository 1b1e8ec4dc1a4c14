use Rattle.std.proofs.Common.{◌≡◌, sym, ap, subst, ◌∙◌}
use Rattle.std.proofs.lemmas.Result.{IfOk-weaker}
use Rattle.std.specs.List.{AllZip}
use Rattle.mount_names.specs.declared.reading.Reading.{Reading}
use Rattle.mount_names.specs.VisibleNames.{ShowsAs}
use Rattle.mount_names.specs.NamePages.{names_of, page_from, IsPageOf}
use Rattle.mount_names.proofs.ListedLemmas.{stored_as_shown}
use Rattle.mount_names.proofs.listings.page_read.Goals as goal

pub returns-in-Plain : goal.returns-in-Plain
returns-in-Plain c =
    let start = c.args.start in
    let told : names_of c.deref_mut.result.now ≡ names_of c.in_ok-names.names.items = ap names_of c.deref_mut.ensures.value in
    IfOk-weaker c.page_of.result (λ told. told ≡ page_from start (names_of c.deref_mut.result.now)) (IsPageOf c.args.reading.now c.args.entries.now start)
    (λ reply is. λ others shows. is ∙ ap (page_from start) (told ∙ (c.in_ok-names.ensures
    ∙ sym (stored_as_shown c.args.entries.now others (subst (λ (r : Reading). AllZip (λ e. ShowsAs r e.0) c.args.entries.now others) c.in-Plain.is shows)))))
    c.page_of.ensures

pub returns : goal.returns
returns c =
    let start = c.args.start in
    let told : names_of c.deref_mut-2.result.now ≡ c.in_ok-shown.shown
    = ap names_of c.deref_mut-2.ensures.value ∙ c.in_ok-names-2.ensures in
    IfOk-weaker c.page_of-2.result (λ told. told ≡ page_from start (names_of c.deref_mut-2.result.now)) (IsPageOf c.args.reading.now c.args.entries.now start)
    (λ reply is. λ others shows. is ∙ ap (page_from start) (told ∙ c.in_ok-shown.ensures others shows))
    c.page_of-2.ensures
