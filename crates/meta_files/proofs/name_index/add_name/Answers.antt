-- Names are equal if their bytes are.
use Rattle.std.proofs.Common.{ℕ, List, Some, cond, ap, ◌∙◌}
use Rattle.std.specs.Str.{bytes_eq}
use Rattle.meta_files.specs.Indexed.{indexed}
use Rattle.meta_files.proofs.IndexLemmas.{index_updates}
use Rattle.meta_files.proofs.name_index.add_name.Goals as goal

pub returns-clause-put : goal.returns-clause-put
returns-clause-put c = λ other.
    index_updates c.args.index.now c.insert.new.self c.in_ok-from_slice.field-0.items
    (Some c.args.place) c.in_ok-insert.ensures.updates other
    ∙ ap (λ (name : List ℕ). cond (bytes_eq name other) (Some c.args.place)
    (indexed c.args.index.now.entries other)) c.in_ok-from_slice.ensures.items
