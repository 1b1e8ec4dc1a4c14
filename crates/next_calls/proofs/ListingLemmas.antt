-- The names of the last listing are in the last entry whose reply has names.
use Rattle.std.proofs.Common.{◌≡◌, ℕ, true, false, List, [], ◌∷◌, ◌++◌, Some, None, Option, Result, Ok, Err, OnOk, refl, ap, sym, ◌∙◌}
use Rattle.std.specs.Prelude.{is_some, unwrap_or}
use Rattle.mount_model.specs.declared.reply.Reply.{Reply}
use Rattle.mount_model.specs.declared.reply.Reply.TheVariants as reply
use Rattle.reply_text.specs.Logged.{LoggedEntry, PlacedLogged}
use Rattle.fsc_commands.specs.Steps.{names_after, names_of_reply, names_in}
use Rattle.fsc_commands.proofs.StepsLemmas.{names_in-append}

after_told : (names : List (List ℕ)) (reply : Reply) → names_after names reply ≡ unwrap_or (names_of_reply reply) names
after_told names (reply.Names other more) = refl
after_told names (reply.Added id) = refl
after_told names (reply.Removed others busy) = refl
after_told names (reply.Status state by_self users) = refl
after_told names reply.Done = refl
after_told names (reply.PolicyIs policy) = refl
after_told names (reply.Stat kind node size encrypted keyed) = refl
after_told names (reply.Opened number) = refl
after_told names (reply.Content bytes) = refl
after_told names (reply.Target bytes) = refl
after_told names (reply.Held version bytes) = refl
after_told names (reply.Stored version) = refl
after_told names (reply.Refused refusal) = refl

none_told : (names : List (List ℕ)) (told : Option (List (List ℕ))) → is_some told ≡ false → unwrap_or told names ≡ names
none_told names None none = refl
none_told names (Some listed) none = absurd (cc none)

some_told : (names : List (List ℕ)) (told : Option (List (List ℕ))) → is_some told ≡ true → unwrap_or told names ≡ unwrap_or told []
some_told names None some = absurd (cc some)
some_told names (Some listed) some = refl

-- an entry without names doesn't change them
pub listing_before : (now before : PlacedLogged) (x : ℕ × LoggedEntry) → now ≡ before ++ x ∷ [] → is_some (names_of_reply x.1.reply) ≡ false
    → names_in before ≡ names_in now
listing_before now before x is none =
    sym (ap names_in is ∙ names_in-append before (x ∷ []) ∙ after_told (names_in before) x.1.reply
    ∙ none_told (names_in before) (names_of_reply x.1.reply) none)

-- an entry with names has the names of the last listing
pub listing_is : (now before : PlacedLogged) (x : ℕ × LoggedEntry) → now ≡ before ++ x ∷ [] → is_some (names_of_reply x.1.reply) ≡ true
    → names_in (x ∷ []) ≡ names_in now
listing_is now before x is some =
    after_told [] x.1.reply ∙ sym (some_told (names_in before) (names_of_reply x.1.reply) some) ∙ sym (after_told (names_in before) x.1.reply)
    ∙ sym (names_in-append before (x ∷ [])) ∙ sym (ap names_in is)

-- so it may be retained alone
pub alone_is : {E : Type 0} (result : Result Unit E) (old now before after : PlacedLogged) (x : ℕ × LoggedEntry) → names_in now ≡ names_in old → now ≡ before ++ x ∷ []
    → is_some (names_of_reply x.1.reply) ≡ true → OnOk result (after ≡ x ∷ []) → OnOk result (names_in after ≡ names_in old)
alone_is (Err error) old now before after x same is some kept = tt
alone_is (Ok done) old now before after x same is some kept = ap names_in kept ∙ listing_is now before x is some ∙ same
