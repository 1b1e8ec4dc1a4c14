use Rattle.std.proofs.Common.{◌≤◌, length, sym, arith}
use Rattle.name_crypt.specs.declared.limits.TheConstants.{MAX_SPELLED_BYTES}
use Rattle.mount_names.proofs.ClashLemmas.{short_apart}
use Rattle.mount_names.proofs.stored_names.shares_text.Goals as goal

pub returns-then-stored-le-MAX_SPELLED_BYTES : goal.returns-then-stored-le-MAX_SPELLED_BYTES
returns-then-stored-le-MAX_SPELLED_BYTES c = λ m context name st here key plain bytes form free.
    let s = c.args.state.now in
    let small : length c.args.stored.now ≤ MAX_SPELLED_BYTES = omega arith in
    sym (short_apart s.disk s.next_node m st.well st.tree c.args.dir name plain bytes context here c.names_come_back.ensures.fit c.names_come_back.ensures.distinct
    c.names_come_back.ensures.bytes c.texts_stay_distinct.ensures.short c.texts_stay_distinct.ensures.long key c.args.stored.now form small free)

pub returns : goal.returns
returns c = λ m context name st here key plain bytes form free. c.shares_long_text.ensures m context name st here plain bytes form
