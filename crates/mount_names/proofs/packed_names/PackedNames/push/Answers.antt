use Rattle.std.proofs.Common.{rules, ◌≡◌, ℕ, List, [], ◌∷◌, ◌++◌, length, ap, ◌∙◌}
use Rattle.plain_tree.specs.Nodes.{Name}
use Rattle.mount_names.specs.PackedNames.{parts_of}
use Rattle.mount_names.proofs.PackedLemmas.{one_more}
use Rattle.mount_names.proofs.packed_names.PackedNames.push.Goals as goal

pub returns : goal.returns
returns c =
    let name = c.args.name.now in
    let old = c.self.inside in
    let lens : c.push_reserved.new.self.items ≡ old.lens.items ++ length name ∷ []
    = c.push_reserved.ensures.items ∙ ap (λ (ns : List ℕ). ns ++ length name ∷ []) c.in_ok-reserve.ensures.items in
    let bytes : c.extend_from_slice.new.self.items ≡ old.bytes.items ++ name = c.in_ok-extend_from_slice.ensures.items in
    let was : parts_of old.lens.items old.bytes.items ≡ c.args.self.now = search rules in
    let both : parts_of c.push_reserved.new.self.items c.extend_from_slice.new.self.items ≡ parts_of (old.lens.items ++ length name ∷ []) (old.bytes.items ++ name)
    = λ i. parts_of (lens i) (bytes i) in
    both ∙ (one_more old.lens.items old.bytes.items name c.self.invariant ∙ ap (λ (xs : List Name). xs ++ name ∷ []) was)
