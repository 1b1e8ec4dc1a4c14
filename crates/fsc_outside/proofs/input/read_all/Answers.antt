use Rattle.std.proofs.Common.{◌≤◌, ◌+◌, ◌++◌, [], ◌∷◌, length, take, ap, ◌∙◌, subst, arith, length-append, sym, rules}
use Rattle.std.proofs.lemmas.Result.{err_from_is_err_and}
use Rattle.std.specs.Io.KnownBytes.{Consumes}
use Rattle.fsc_outside.specs.Causes.{one_more}
use Rattle.fsc_outside.specs.Reading.{AfterReading}
use Rattle.fsc_outside.specs.Reads.ReadCall.{Gave, Faulted}
use Rattle.fsc_outside.specs.ReadLaws.{Consumes-on}
use Rattle.fsc_outside.proofs.ReadLemmas.{kept_on, reads_last, reads_on, whole_ends}
use Rattle.fsc_outside.proofs.input.read_all.Goals as goal

pub returns-in-Err : goal.returns-in-Err
returns-in-Err g c =
    let test = c.reading-test.true in
    let len = c.len.ensures in
    let short : length c.reading.text.items ≤ c.args.limits.bytes = omega (arith, test, len) in
    record {
      bytes = c.reading.text.items;
      given = kept_on _ _ _ c.reading.text.items c.reading.invariant.given c.in-Err.ensures.bytes;
      size = short;
      cause = c.in-Err.ensures.cause.failed ∙ ap one_more c.reading.invariant.quiet;
      calls = reads_last g.S.Source.after_calls g.met.S.Source.by_more c.args.source.now c.reading.source c.read.new.self c.args.limits
          c.reading.text.items Faulted c.reading.invariant.calls c.in-Err.ensures.after_calls short;
    }

pub returns-then-count-eq0 : goal.returns-then-count-eq0
returns-then-count-eq0 g c =
    let test = c.reading-test.true in
    let len = c.len.ensures in
    let none = c.if-count-eq0.true in
    let short : length c.reading.text.items ≤ c.args.limits.bytes = omega (arith, test, len) in
    whole_ends c.args.limits _ _ _ c.reading.text.items c.within_lines.result c.within_lines.ensures (record { given = search rules; ended = search rules })
    short (c.in-Ok.ensures.cause.quiet ∙ c.reading.invariant.quiet)
    (reads_last g.S.Source.after_calls g.met.S.Source.by_more c.args.source.now c.reading.source c.read.new.self c.args.limits
    c.reading.text.items (Gave []) c.reading.invariant.calls (subst (λ count. g.S.Source.after_calls c.reading.source (Gave (take count c.read.new.piece) ∷ []) c.read.new.self) none c.in-Ok.ensures.after_calls) short)

pub reading-preserved : goal.reading-preserved
reading-preserved g c =
    let grown = c.in_ok-extend_from_slice.ensures.items in
    let some = c.if-count-eq0.false in
    let bound = c.in-Ok.ensures.bound in
    let room : c.in-Ok.count + c.len.result ≤ c.args.limits.bytes + 1 = search rules in
    let len = c.len.ensures in
    let fits : length (c.reading.text.items ++ take c.in-Ok.count c.read.new.piece) ≤ c.args.limits.bytes + 1 =
    omega (arith, room, len, bound.1, length-append c.reading.text.items (take c.in-Ok.count c.read.new.piece)) in
    record {
      given = subst (Consumes (g.S.Source.state c.args.source.now).left (g.S.Source.state c.read.new.self).left) (sym grown)
          (Consumes-on _ _ _ c.reading.text.items (take c.in-Ok.count c.read.new.piece) c.reading.invariant.given c.in-Ok.ensures.bytes.0);
      quiet = c.in-Ok.ensures.cause.quiet ∙ c.reading.invariant.quiet;
      short = search rules;
      calls = subst (λ xs. AfterReading c.args.limits (λ calls. g.S.Source.after_calls c.args.source.now calls c.read.new.self) xs []) (sym grown)
          (reads_on g.S.Source.after_calls g.met.S.Source.by_more c.args.source.now c.reading.source c.read.new.self c.args.limits
          c.reading.text.items (take c.in-Ok.count c.read.new.piece) c.reading.invariant.calls c.in-Ok.ensures.after_calls (omega (arith, some, bound.1)) fits);
    }

pub returns-in_err-extend_from_slice : goal.returns-in_err-extend_from_slice
returns-in_err-extend_from_slice g c =
    let some = c.if-count-eq0.false in
    let bound = c.in-Ok.ensures.bound in
    let p = err_from_is_err_and c.from_residual.result c.from_residual.ensures.1 in
    let room : c.in-Ok.count + c.len.result ≤ c.args.limits.bytes + 1 = search rules in
    let len = c.len.ensures in
    let fits : length (c.reading.text.items ++ take c.in-Ok.count c.read.new.piece) ≤ c.args.limits.bytes + 1 =
    omega (arith, room, len, bound.1, length-append c.reading.text.items (take c.in-Ok.count c.read.new.piece)) in
    rw p.1 (rw p.2 (record {
      bytes = c.reading.text.items ++ take c.in-Ok.count c.read.new.piece;
      given = Consumes-on _ _ _ c.reading.text.items (take c.in-Ok.count c.read.new.piece) c.reading.invariant.given c.in-Ok.ensures.bytes.0;
      size = fits;
      quiet = c.in-Ok.ensures.cause.quiet ∙ c.reading.invariant.quiet;
      calls = reads_on g.S.Source.after_calls g.met.S.Source.by_more c.args.source.now c.reading.source c.read.new.self c.args.limits
          c.reading.text.items (take c.in-Ok.count c.read.new.piece) c.reading.invariant.calls c.in-Ok.ensures.after_calls (omega (arith, some, bound.1)) fits;
    }))
