use Rattle.std.proofs.Common.{◌≡◌, is_some, refl, sym, ap, ◌∙◌}
use Rattle.disk_tree.specs.DiskTree.{entries_in}
use Rattle.disk_tree.specs.Entries.{number_under}
use Rattle.mount_state.specs.Stored.{stored_form}
use Rattle.mount_state.proofs.ContextLemmas.{same_some}
use Rattle.plain_tree.specs.NodesByNumber.{entry}
use Rattle.mount_names.specs.FoundEntries.{form_in}
use Rattle.mount_names.proofs.FoundLemmas.{keyed_entry}
use Rattle.mount_names.proofs.PlaceLemmas.{dir_names, name_plain}
use Rattle.mount_names.proofs.places.free_place.Goals as goal

pub returns-then-is_some-clause-refused : goal.returns-then-is_some-clause-refused
returns-then-is_some-clause-refused g c = λ m asked.
    let s = c.args.state.now in
    let d = c.args.dir in
    let names = dir_names s.disk s.next_node m asked.represents.well asked.represents.tree d asked.is_dir in
    let form : c.in-Some.stored.now ≡ form_in m d c.args.part.now
    = same_some _ _ (c.in-Some.ensures.value m asked.represents names asked.context asked.keyed) ∙ (λ i. stored_form m.raws d (asked.context i) c.args.part.now) in
    let found : c.find.result ≡ entry m.nodes d c.args.part.now
    = c.find.ensures
    ∙ ((λ i. number_under (form i) (entries_in (sym c.requires.there i)))
    ∙ keyed_entry s.disk s.next_node m asked.represents.well asked.represents.tree d c.args.part.now asked.keyed asked.is_dir c.names_come_back.ensures.distinct (c.in-Some.ensures.ranged m asked.represents names asked.context asked.keyed) (name_plain c.args.part.now asked.named) asked.named.0.bytes) in
    (refl, sym (c.is_some.ensures ∙ ap is_some found) ∙ c.if-is_some.true)

pub returns-clause-placed : goal.returns-clause-placed
returns-clause-placed g c = λ m asked.
    let s = c.args.state.now in
    let d = c.args.dir in
    let names = dir_names s.disk s.next_node m asked.represents.well asked.represents.tree d asked.is_dir in
    let form : c.in-Some.stored.now ≡ form_in m d c.args.part.now
    = same_some _ _ (c.in-Some.ensures.value m asked.represents names asked.context asked.keyed) ∙ (λ i. stored_form m.raws d (asked.context i) c.args.part.now) in
    let key = c.in-Some.ensures.ranged m asked.represents names asked.context asked.keyed in
    let found : c.find.result ≡ entry m.nodes d c.args.part.now
    = c.find.ensures
    ∙ ((λ i. number_under (form i) (entries_in (sym c.requires.there i)))
    ∙ keyed_entry s.disk s.next_node m asked.represents.well asked.represents.tree d c.args.part.now asked.keyed asked.is_dir c.names_come_back.ensures.distinct key (name_plain c.args.part.now asked.named) asked.named.0.bytes) in
    record {
      dir = refl;
      context = asked.context;
      stored = form;
      keyed = asked.keyed;
      free = sym (c.is_some.ensures ∙ ap is_some found) ∙ c.if-is_some.false;
      key = key;
    }
