use Rattle.std.proofs.Common.{◌≡◌, Some, None, sym, ◌∙◌}
use Rattle.mount_state.proofs.ContextLemmas.{same_some}
use Rattle.mount_names.proofs.ShownLemmas.{plain_shows, locked_shows, keyed_shows}
use Rattle.mount_names.specs.NameCiphers.{names_cipher}
use Rattle.mount_names.proofs.reading.reading_of.Goals as goal

pub returns-in_default : goal.returns-in_default
returns-in_default c = λ m name st names plain bytes.
    plain_shows m c.args.number name plain (sym (c.in_default.ensures m st))

pub returns-then-not-keyed : goal.returns-then-not-keyed
returns-then-not-keyed c = λ m name st names plain bytes.
    locked_shows m c.args.number name plain c.names_come_back.ensures.fit c.in-Some.context (sym (c.in-Some.ensures m st))
    (sym (c.keyed.ensures.represents m st) ∙ c.if-not-keyed.true)

pub returns-in-Some-cipher_of : goal.returns-in-Some-cipher_of
returns-in-Some-cipher_of c = λ m name st names plain bytes.
    let here = sym (c.in-Some.ensures m st) in
    let keyed = sym (c.keyed.ensures.represents m st) ∙ c.if-not-keyed.false in
    let is = same_some c.in-Some-cipher_of.cipher (names_cipher m.raws c.args.number c.in-Some.context) (c.in-Some-cipher_of.ensures.keyed m st names here keyed) in
    keyed_shows m c.args.number name plain c.names_come_back.ensures.fit c.in-Some.context here c.names_come_back.ensures.back keyed
    c.in-Some-cipher_of.cipher is c.in-Some-cipher_of.ensures.ranged bytes

pub returns-in-None : goal.returns-in-None
returns-in-None c = λ m name st names plain bytes.
    let here = sym (c.in-Some.ensures m st) in
    let keyed = sym (c.keyed.ensures.represents m st) ∙ c.if-not-keyed.false in
    let bad : None ≡ Some (names_cipher m.raws c.args.number c.in-Some.context) = c.in-None.ensures.keyed m st names here keyed in
    absurd (cc)
