use Rattle.std.proofs.Common.{rules, ◌≡◌, Some, None, sym, ap, subst, ◌∙◌}
use Rattle.mount_model.specs.EncryptedNames.{clashes, has_text_of}
use Rattle.mount_names.specs.NewPlaces.{IsNewName}
use Rattle.mount_names.specs.Places.{Place}
use Rattle.mount_names.proofs.PlaceLemmas.{name_plain}
use Rattle.mount_names.proofs.places.clashes.Goals as goal

pub returns-in-Some : goal.returns-in-Some
returns-in-Some c = λ m name st named at.
    let here = subst (λ (y : Place). IsNewName m y.dir name y) (sym c.place.view_is) at in
    let was : c.place.inside.context ≡ Some c.in-Some._context = search rules in
    c.shares_text.ensures m c.in-Some._context name st (sym here.context ∙ was) here.key (name_plain name named) named.0.bytes here.stored here.free
    ∙ ap (λ (y : Place). clashes m y.dir name) c.place.view_is

pub returns-in-None : goal.returns-in-None
returns-in-None c = λ m name st named at.
    let here = subst (λ (y : Place). IsNewName m y.dir name y) (sym c.place.view_is) at in
    let was : c.place.inside.context ≡ None = search rules in
    ap (has_text_of m c.place.inside.dir name) (sym was ∙ here.context) ∙ ap (λ (y : Place). clashes m y.dir name) c.place.view_is
