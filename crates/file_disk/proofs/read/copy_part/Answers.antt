-- The part ends with the file; if it is empty, nothing is copied.
use Rattle.std.proofs.Common.{◌≡◌, ◌⊎◌, ◌-◌, ◌/◌, ◌%◌, ◌≤◌, inl, inr, ap, ◌∙◌, arith}
use Rattle.std.specs.Prelude.{Option, min}
use Rattle.data_crypt.specs.Blocks.{Seal}
use Rattle.data_crypt.specs.Parts.{content_of}
use Rattle.file_disk.specs.Keys.{seal_of}
use Rattle.file_disk.specs.Pending.{whole_size}
use Rattle.file_disk.proofs.ReadLemmas.{read_nothing, read_part}
use Rattle.file_disk.proofs.read.copy_part.Goals.{then-offset-size-via-then-offset-size}
use Rattle.file_disk.proofs.read.copy_part.Goals.{then-offset-size-via-else-offset-size+then-len-eq0}
use Rattle.file_disk.proofs.read.copy_part.Goals as goal

pub returns-then-offset-size-clause-content : goal.returns-then-offset-size-clause-content
returns-then-offset-size-clause-content c = λ contents stored.
    let empty : (whole_size c.args.disk.now c.args.file ≤ c.args.offset) ⊎ (c.args.len ≡ 0)
    = elim c.then-offset-size.branch [
      | then-offset-size-via-then-offset-size w ↦ inl (omega arith)
      | then-offset-size-via-else-offset-size+then-len-eq0 w ↦ inr (omega arith)
    ] in
    read_nothing c.args.disk.now c.args.file
    (seal_of c.args.key.now) contents stored c.args.offset c.args.len empty

pub returns-clause-content : goal.returns-clause-content
returns-clause-content c = λ contents stored.
    let size : c.whole_size-size.result ≡ whole_size c.args.disk.now c.args.file =
    c.whole_size-size.ensures in
    ap (λ (s : Option Seal). content_of s (c.args.offset / 4096) c.in_ok-text.text.items
    (c.args.offset % 4096) c.min-len.result) c.in_ok-key.ensures.same
    ∙ read_part c.args.disk.now c.args.file (seal_of c.args.key.now) contents stored c.args.offset c.args.len c.min-len.result c.div_ceil-count.result c.in_ok-text.text.items
    c.copy_key.ensures.ranged (omega arith)
    (c.min-len.ensures ∙ ap (λ n. min c.args.len
    (n - c.args.offset)) size) c.div_ceil-count.ensures c.in_ok-text.ensures.copied
