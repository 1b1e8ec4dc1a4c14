use Rattle.std.proofs.Common.{◌≡◌, [], ◌∷◌, ◌++◌, ◌-◌, List, ℕ, length, true, sym, ap, ◌∙◌, subst, append_assoc}
use Rattle.std.proofs.lemmas.List.Elements.{All-append, All-cons, All-nil}
use Rattle.text_words.specs.Lines.{pieces_of}
use Rattle.disk_tree.specs.Entries.{Entries}
use Rattle.image_lines.specs.ImageText.{image_text}
use Rattle.image_lines.specs.WordForms.{entries_at}
use Rattle.tree_listing.specs.Walk.{AreFound, is_among}
use Rattle.tree_listing.specs.Ways.{IsEntryTo}
use Rattle.tree_listing.proofs.WalkLemmas.{led_by, rest_within, among_more, found_more}
use Rattle.tree_listing.proofs.walk.follow_entries.Goals as goal

pub lead_to-requires-clause-led : goal.lead_to-requires-clause-led
lead_to-requires-clause-led c =
    let left = c.entries.invariant.left in
    let parts = ap (λ (l : Entries). left.0 ++ l) (sym c.in-Some.ensures.entries) ∙ left.1 in
    subst (λ text. IsEntryTo c.args.image.now c.in-Some.first.entry.child c.args.number (length text - length c.entries.rest.now)) (sym c.text-text.ensures.text)
    (led_by c.args.image.now c.text-text.ensures.image.children c.args.number left.0 (entries_at (pieces_of c.in-Some.first.rest.now)) (entries_at (pieces_of c.args.lines.now))
    (c.in-Some.first.entry.name, c.in-Some.first.entry.child) c.entries.rest.now c.requires.own parts c.entries.invariant.end c.in-Some.ensures.line)

pub entries-preserved : goal.entries-preserved
entries-preserved c =
    let left = c.entries.invariant.left in
    let before = c.entries.walk.order.items in
    let own = c.in_ok-lead_to.ensures in
    let on = own.goes_on in
    let gone = c.entries.invariant.goes_on in
    let e : List ℕ × ℕ = (c.in-Some.first.entry.name, c.in-Some.first.entry.child) in record {
      walk = own.walk;
      goes_on = (gone.0 ++ on.0, on.1 ∙ ap (λ (l : List ℕ). l ++ on.0) gone.1 ∙ append_assoc c.args.walk.now.order.items gone.0 on.0);
      found = subst (λ (l : List ℕ). is_among l c.args.number ≡ true) (sym on.1) (among_more before on.0 c.args.number c.entries.invariant.found);
      end = c.in-Some.ensures.rest (image_text c.args.image.now) c.entries.invariant.end (rest_within (image_text c.args.image.now) c.entries.rest.now c.entries.invariant.end);
      left = (
        left.0 ++ e ∷ [],
        append_assoc left.0 (e ∷ []) (entries_at (pieces_of c.in-Some.first.rest.now)) ∙ ap (λ (l : Entries). left.0 ++ l) (sym c.in-Some.ensures.entries) ∙ left.1,
        All-append (λ (x : List ℕ × ℕ). is_among c.lead_to.new.walk.order.items x.1 ≡ true) left.0 (e ∷ [])
            (subst (λ (l : List ℕ). AreFound l left.0) (sym on.1) (found_more before on.0 left.0 left.2))
            (All-cons (λ (x : List ℕ × ℕ). is_among c.lead_to.new.walk.order.items x.1 ≡ true) e [] own.found (All-nil (λ (x : List ℕ × ℕ). is_among c.lead_to.new.walk.order.items x.1 ≡ true))),
      );
    }
