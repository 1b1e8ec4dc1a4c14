-- The names of the last listing, found from the last entry on.
use Rattle.std.proofs.Common.{◌≡◌, ℕ, ◌+◌, ◌-◌, ◌<◌, List, [], ◌∷◌, ◌++◌, length, take, get_or, Some, None, refl, ap, sym, ◌∙◌, arith}
use Rattle.std.proofs.lemmas.List.{take_more}
use Rattle.mount_model.specs.declared.reply.Reply.{Reply}
use Rattle.mount_model.specs.declared.reply.Reply.TheVariants as reply
use Rattle.reply_text.specs.Logged.{LoggedEntry, PlacedLogged}
use Rattle.fsc_commands.specs.Steps.{names_after, names_of_reply, names_in}
use Rattle.fsc_commands.proofs.StepsLemmas.{names_in-append}

-- one entry more
at_entry : (told : PlacedLogged) (k i : ℕ) (x : ℕ × LoggedEntry) → k < length told → i ≡ length told - 1 - k → x ≡ get_or told i x
    → names_in (take (length told - k) told) ≡ names_after (names_in (take i told)) x.1.reply
at_entry told k i x below is here =
    let next : i + 1 ≡ length told - k = omega (arith, below, is) in
    ap (λ n. names_in (take n told)) (sym next)
    ∙ ap names_in (take_more told i x (omega (arith, below, is)) ∙ ap (λ p. take i told ++ p ∷ []) (sym here))
    ∙ names_in-append (take i told) (x ∷ [])

told_names : (names listed : List (List ℕ)) (reply : Reply) → names_of_reply reply ≡ Some listed → names_after names reply ≡ listed
told_names names listed (reply.Names other more) told = cc told
told_names names listed (reply.Added id) told = absurd (cc told)
told_names names listed (reply.Removed others busy) told = absurd (cc told)
told_names names listed (reply.Status state by_self users) told = absurd (cc told)
told_names names listed reply.Done told = absurd (cc told)
told_names names listed (reply.PolicyIs policy) told = absurd (cc told)
told_names names listed (reply.Stat kind node size encrypted keyed) told = absurd (cc told)
told_names names listed (reply.Opened number) told = absurd (cc told)
told_names names listed (reply.Content bytes) told = absurd (cc told)
told_names names listed (reply.Target bytes) told = absurd (cc told)
told_names names listed (reply.Held version bytes) told = absurd (cc told)
told_names names listed (reply.Stored version) told = absurd (cc told)
told_names names listed (reply.Refused refusal) told = absurd (cc told)

other_names : (names : List (List ℕ)) (reply : Reply) → names_of_reply reply ≡ None → names_after names reply ≡ names
other_names names (reply.Names other more) told = absurd (cc told)
other_names names (reply.Added id) told = refl
other_names names (reply.Removed others busy) told = refl
other_names names (reply.Status state by_self users) told = refl
other_names names reply.Done told = refl
other_names names (reply.PolicyIs policy) told = refl
other_names names (reply.Stat kind node size encrypted keyed) told = refl
other_names names (reply.Opened number) told = refl
other_names names (reply.Content bytes) told = refl
other_names names (reply.Target bytes) told = refl
other_names names (reply.Held version bytes) told = refl
other_names names (reply.Stored version) told = refl
other_names names (reply.Refused refusal) told = refl

-- the names of an entry that is a listing are the last ones up to it
pub last_is : (told : PlacedLogged) (k i : ℕ) (x : ℕ × LoggedEntry) (listed : List (List ℕ)) → k < length told → i ≡ length told - 1 - k
    → x ≡ get_or told i x → names_of_reply x.1.reply ≡ Some listed → names_in (take (length told - k) told) ≡ listed
last_is told k i x listed below is here names = at_entry told k i x below is here ∙ told_names (names_in (take i told)) listed x.1.reply names

-- any other leaves the last names
pub last_before : (told : PlacedLogged) (k i : ℕ) (x : ℕ × LoggedEntry) → k < length told → i ≡ length told - 1 - k
    → x ≡ get_or told i x → names_of_reply x.1.reply ≡ None → names_in (take (length told - k) told) ≡ names_in (take i told)
last_before told k i x below is here none = at_entry told k i x below is here ∙ other_names (names_in (take i told)) x.1.reply none
