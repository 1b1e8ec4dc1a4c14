use Rattle.std.proofs.Common.{arith, length, Ok, refl}
use Rattle.fsc_outside.proofs.ReadLemmas.{is_read}
use Rattle.fsc_outside.proofs.SourceLemmas.{given}
use Rattle.fsc_outside.specs.declared.Failed.{Failed}
use Rattle.fsc_outside.proofs.source.MemSourceSource.read.Goals as goal

pub returns-clause-bytes : goal.returns-clause-bytes
returns-clause-bytes c =
    rw (← c.self.view_is)
    (given c.self.inside.bytes.items c.deref.result.now c.give-count.new.piece c.self.inside.at c.self.inside.piece (length c.args.piece.now) c.give-count.result
    (omega arith) (omega arith) c.deref.ensures.value c.give-count.ensures.count c.give-count.ensures.front)

pub returns-clause-after_calls : goal.returns-clause-after_calls
returns-clause-after_calls c =
    rw (← c.self.view_is) (record {
      reads = is_read {E = Failed} _ _ c.give-count.new.piece (Ok c.give-count.result)
          (given c.self.inside.bytes.items c.deref.result.now c.give-count.new.piece c.self.inside.at c.self.inside.piece (length c.args.piece.now) c.give-count.result
          (omega arith) (omega arith) c.deref.ensures.value c.give-count.ensures.count c.give-count.ensures.front)
          (record { later = omega arith; quiet = refl; failed = tt });
      counted = c.saturating_add-self-inside.ensures;
    })
