use Rattle.mount_state.proofs.KeyedLemmas.{drawn_names}
use Rattle.mount_names.proofs.ciphers.derived_file_key.Goals as goal

pub returns-then-derive_name_key-clause-kind : goal.returns-then-derive_name_key-clause-kind
returns-then-derive_name_key-clause-kind c = drawn_names c.args.state.now.ring c.args.context.now _ (c.derive_name_key.ensures.drawn c.if-derive_name_key.true)
