use Rattle.mount_model.specs.RenameAnswer.{answer_to_move_from}
use Rattle.mount_model.specs.EntryPaths.{last_part}
use Rattle.mount_names.proofs.GivenLemmas.{refused_so, due_refused, due_done, is_answer_by}
use Rattle.mount_names.proofs.MoveLemmas.{moved_is, moved_well, after_moving}
use Rattle.mount_names.proofs.moves.rename_entry.Goals as goal

pub returns-in-Ok-clause-represents : goal.returns-in-Ok-clause-represents
returns-in-Ok-clause-represents g c = λ m name st fits of by_part well.
    let e = c.args.entry.now in
    let path = c.args.new_path.now in
    let at = c.in-Ok.ensures.placed m name st fits of in
    is_answer_by m _ _ c.move_to.result c.move_to.new.state (moved_is m e name path c.in-Ok.place at)
    (c.move_to.ensures.represents m name (last_part path) (c.in-Ok.ensures.represents m st) of by_part at.named (moved_well m e name path c.in-Ok.place at well))

pub returns-in-Ok-clause-due : goal.returns-in-Ok-clause-due
returns-in-Ok-clause-due g c = λ m name st fits of.
    let e = c.args.entry.now in
    let path = c.args.new_path.now in
    let at = c.in-Ok.ensures.placed m name st fits of in
    due_done (after_moving m e name path c.in-Ok.place at) (answer_to_move_from m path e.dir name e.number) c.move_to.result (moved_is m e name path c.in-Ok.place at)

pub returns-in-Err-clause-represents : goal.returns-in-Err-clause-represents
returns-in-Err-clause-represents g c = λ m name st fits of by_part well.
    let e = c.args.entry.now in
    let path = c.args.new_path.now in
    refused_so m (answer_to_move_from m path e.dir name e.number) c.in-Err.refusal
    (c.in-Err.ensures.refused m name st fits of) c.target_at.new.state (c.in-Err.ensures.represents m st)

pub returns-in-Err-clause-due : goal.returns-in-Err-clause-due
returns-in-Err-clause-due g c = λ m name st fits of.
    let e = c.args.entry.now in
    let path = c.args.new_path.now in
    due_refused m (answer_to_move_from m path e.dir name e.number) c.in-Err.refusal
    (c.in-Err.ensures.refused m name st fits of)

pub returns-in-Ok-clause-brought : goal.returns-in-Ok-clause-brought
returns-in-Ok-clause-brought g c = λ m st pair is. c.in-Ok.ensures.brought m st pair (c.move_to.ensures.no_more pair is)
