use Rattle.std.proofs.Common.{refl}
use Rattle.fsc_tool.proofs.CheckLemmas.{checking_is, read_ends, unread_ends}
use Rattle.fsc_tool.proofs.checking.check_source.Goals as goal

pub returns-in-Err : goal.returns-in-Err
returns-in-Err g c = λ sink seeds.
    checking_is _ _ _ _ _ _ (record { unwritten = refl; unasked = refl })
    (rw c.input_status.ensures (unread_ends _ _ _ _ _ c.in-Err.fault c.in-Err.ensures (record { unwritten = refl; unasked = refl })))

pub returns : goal.returns
returns g c = λ sink seeds.
    checking_is _ _ _ _ _ _ (record { unwritten = refl; unasked = refl })
    (read_ends _ _ _ _ _ c.in-Ok.input _ c.in-Ok.ensures (rw (← c.as_slice.ensures) c.check_input-status.ensures))
