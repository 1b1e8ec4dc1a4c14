use Rattle.std.proofs.Common.{ℕ, sym, ap, ◌∙◌}
use Rattle.std.specs.List.{list_any}
use Rattle.mount_model.specs.History.{is_out_of_memory}
use Rattle.reply_text.specs.Logged.{PlacedLogged, LoggedEntry}
use Rattle.fsc_tool.proofs.DumpLemmas.{image_is}
use Rattle.fsc_tool.proofs.dump.image_left.Goals as goal

pub returns : goal.returns
returns c = λ seed script ran.
    image_is seed script c.args.told.now.entries.items c.args.told.now.notes.items c.args.mount.now.state c.in_ok-text.text ran
    (ap (λ (told : PlacedLogged). list_any (λ (x : ℕ × LoggedEntry). is_out_of_memory x.1.reply) told) (sym c.as_slice.ensures.value)
    ∙ sym c.is_any_out_of_memory.ensures ∙ c.if-is_any_out_of_memory.false)
    c.in_ok-text.ensures
