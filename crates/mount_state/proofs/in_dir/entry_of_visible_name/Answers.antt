-- A name that is spelled whole is looked up, and less than a name is no name's.
use Rattle.std.proofs.Common.{Some, None}
use Rattle.mount_state.proofs.ShownLemmas.{by_whole, by_less}
use Rattle.mount_state.proofs.in_dir.entry_of_visible_name.Goals as goal

pub returns-then-shown-lt-MIN_STORED_BYTES-clause-found : goal.returns-then-shown-lt-MIN_STORED_BYTES-clause-found
returns-then-shown-lt-MIN_STORED_BYTES-clause-found c = by_less c.args.shown.now c.args.entries.now c.if-shown-lt-MIN_STORED_BYTES.true

pub returns-in-Some-clause-found : goal.returns-in-Some-clause-found
returns-in-Some-clause-found c = by_whole c.args.shown.now c.args.entries.now c.if-shown-lt-MIN_STORED_BYTES.false c.if-shown-gt-MAX_SPELLED_BYTES.false (Some c.in-Some.number) c.in-Some.ensures

pub returns-in-None-clause-found : goal.returns-in-None-clause-found
returns-in-None-clause-found c = by_whole c.args.shown.now c.args.entries.now c.if-shown-lt-MIN_STORED_BYTES.false c.if-shown-gt-MAX_SPELLED_BYTES.false None c.in-None.ensures
