-- The new record is after the others, and the index has its place.
use Rattle.std.proofs.Common.{rules, ◌≡◌, [], ◌∷◌, ◌++◌, length, ◌∙◌}
use Rattle.meta_files.specs.declared.files.Record.{Record}
use Rattle.meta_files.proofs.IndexLemmas.{pushed_IsIndexed}
use Rattle.meta_files.proofs.files.append.Goals as goal

pub returns-clause-indexed : goal.returns-clause-indexed
returns-clause-indexed c =
    let kept : Record = record { name = c.from_vec.result; version = 1; bytes = c.from_vec-2.result } in
    let put : c.push.new.self.items ≡ c.args.records.now.items ++ kept ∷ [] = search rules in
    let last : c.len-place.result ≡ length c.args.records.now.items = search rules in
    pushed_IsIndexed c.args.records.now.items c.push.new.self.items c.args.index.now.entries c.add_name.new.index.entries kept c.args.name.now c.len-place.result
    (c.from_vec.ensures ∙ c.in_ok-from_slice.ensures.items) last put c.requires.absent c.in_ok-add_name.ensures.put c.requires.indexed
