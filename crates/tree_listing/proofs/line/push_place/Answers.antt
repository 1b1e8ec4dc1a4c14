use Rattle.std.proofs.Common.{◌++◌, ◌∷◌, List, ℕ, sym, ap, ◌∙◌, subst}
use Rattle.std.proofs.lemmas.Result.{on_ok_weaker}
use Rattle.text_words.specs.Numbers.{decimal_of}
use Rattle.tree_listing.specs.Sights.{sight_of, visible_word}
use Rattle.tree_listing.specs.Ways.{IsWayTo}
use Rattle.std.proofs.Common.{true}
use Rattle.tree_listing.proofs.PlaceLemmas.{dir_there, name_long, place_is, pieces_joined}
use Rattle.tree_listing.proofs.line.push_place.Goals as goal

pub push_visible_name-requires : goal.push_visible_name-requires
push_visible_name-requires c =
    let led = (subst (IsWayTo c.args.image.now true c.args.number) c.in-By.is c.requires).1 in
    let own = c.context_of.ensures led.placed.0 (dir_there c.args.image.now c.args.number c.in-By.parent c.in-By.at led) led.has in
    name_long c.args.image.now c.text-text.ensures.image c.args.number c.in-By.parent c.in-By.at led c.context_of.result c.in-Some.entry.name c.in-Some.entry.child own c.in-Some.ensures

pub returns-in-Some : goal.returns-in-Some
returns-in-Some c =
    let led = (subst (IsWayTo c.args.image.now true c.args.number) c.in-By.is c.requires).1 in
    let own = c.context_of.ensures led.placed.0 (dir_there c.args.image.now c.args.number c.in-By.parent c.in-By.at led) led.has in
    let place = place_is c.args.image.now c.args.reader.now c.args.number c.in-By.parent c.in-By.at led c.context_of.result c.in-Some.entry.name c.in-Some.entry.child own c.in-Some.ensures in
    let word = visible_word (sight_of c.args.reader.now c.context_of.result) c.in-By.parent c.in-Some.entry.name in
    on_ok_weaker c.push_visible_name.result
    (λ shown. shown ∙ ap (λ (l : List ℕ). l ++ 32 ∷ word) (c.in_ok-push_number-in-By.ensures ∙ ap (λ (l : List ℕ). l ++ 32 ∷ decimal_of c.in-By.parent) (c.in_ok-push_decimal.ensures.written ∙ ap (λ (n : ℕ). c.args.text.now.items ++ decimal_of n) c.from.ensures))
    ∙ pieces_joined c.args.text.now.items (decimal_of c.args.number) (decimal_of c.in-By.parent) word
    ∙ ap (λ (l : List ℕ). c.args.text.now.items ++ (decimal_of c.args.number ++ 32 ∷ l)) (sym place))
    c.push_visible_name.ensures
