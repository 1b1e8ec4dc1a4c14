-- The bytes have a stored name's length.
use Rattle.mount_state.proofs.ShownLemmas.{name_tells}
use Rattle.mount_state.proofs.in_dir.is_name_shown_as.Goals as goal

pub returns-clause-value : goal.returns-clause-value
returns-clause-value c = name_tells c.args.shown.now c.args.stored.now c.has_visible_name.result c.if-stored-lt-MIN_STORED_BYTES.false c.if-stored-gt-MAX_NAME_BYTES.false c.has_visible_name.ensures.0 c.has_visible_name.ensures.1
