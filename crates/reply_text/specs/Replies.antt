-- The text of a reply.
use Rattle.std.specs.Prelude.{ℕ, Bool, List, ◌++◌, length, codes}
use Rattle.hex.specs.Hex.{encode_lower}
use Rattle.text_words.specs.Numbers.{decimal_of}
use Rattle.script_words.specs.Word.{word_text}
use Rattle.mount_model.specs.declared.reply.KeyState.{KeyState}
use Rattle.mount_model.specs.declared.reply.NodeKind.{NodeKind}
use Rattle.mount_model.specs.declared.reply.Reply.{Reply}
use Rattle.mount_model.specs.declared.reply.Reply.TheVariants as reply
use Rattle.reply_text.specs.Words.{flag_text, state_text, kind_text, refusal_text}
use Rattle.reply_text.specs.Names.{bytes_text, names_text}

-- whether a claim of another user is left, and whether what needs the key is still open
abbrev pub removed_text : Bool → Bool → List ℕ
removed_text others busy = flag_text (codes "removed others=") others ++ flag_text (codes " busy=") busy

-- the state of a key, whether the user has a claim, and how many users have one
abbrev pub status_reply_text : KeyState → Bool → ℕ → List ℕ
status_reply_text state by_self users =
    codes "status " ++ (state_text state ++ (flag_text (codes " self=") by_self
    ++ (codes " users=" ++ decimal_of users)))

-- how many names there are, whether further ones follow, and the names
abbrev pub listing_text : List (List ℕ) → Bool → List ℕ
listing_text names more =
    codes "names " ++ (decimal_of (length names) ++ (flag_text (codes " more=") more ++ names_text names))

-- a node's kind, number, size, whether it has a policy and whether it is keyed
abbrev pub stat_text : NodeKind → ℕ → ℕ → Bool → Bool → List ℕ
stat_text kind node size encrypted keyed =
    codes "stat " ++ (kind_text kind ++ (codes " " ++ (decimal_of node ++ (codes " " ++ (decimal_of size
    ++ (flag_text (codes " enc=") encrypted ++ flag_text (codes " key=") keyed))))))

-- the word of the reply, and its values
abbrev pub reply_text : Reply → List ℕ
reply_text (reply.Added id) = codes "added " ++ encode_lower id.0
reply_text (reply.Removed others busy) = removed_text others busy
reply_text (reply.Status state by_self users) = status_reply_text state by_self users
reply_text reply.Done = codes "ok"
reply_text (reply.PolicyIs policy) = codes "policy " ++ encode_lower policy
reply_text (reply.Names names more) = listing_text names more
reply_text (reply.Stat kind node size encrypted keyed) = stat_text kind node size encrypted keyed
reply_text (reply.Opened number) = codes "handle " ++ decimal_of number
reply_text (reply.Content bytes) = codes "data " ++ bytes_text bytes
reply_text (reply.Target bytes) = codes "target " ++ word_text bytes
reply_text (reply.Held version bytes) =
    codes "record " ++ (decimal_of version ++ (codes " " ++ bytes_text bytes))
reply_text (reply.Stored version) = codes "stored " ++ decimal_of version
reply_text (reply.Refused refusal) = codes "refused " ++ refusal_text refusal
