-- The summary of a run, in four lines: how many entries its history has, how many of their replies are
-- refusals, how many report a removed key that is still in use, and the SHA-256 of its log.
use Rattle.std.specs.Prelude.{ℕ, Bool, true, false, List, ◌++◌, length, count_by, codes}
use Rattle.hex.specs.Hex.{encode_lower}
use Rattle.sha2.specs.Sha256.{sha256}
use Rattle.text_words.specs.Numbers.{decimal_of}
use Rattle.call_history.specs.Entries.{History}
use Rattle.mount_model.specs.declared.reply.Reply.{Reply}
use Rattle.mount_model.specs.declared.reply.Reply.TheVariants.{Refused, Removed}

-- a refusal, for whatever reason
unfoldable pub is_refusal : Reply → Bool
is_refusal (Refused reason) = true
is_refusal other = false

-- a removal that reports that the key is still in use
unfoldable pub is_busy_removal : Reply → Bool
is_busy_removal (Removed others busy) = busy
is_busy_removal other = false

-- a word and a number
abbrev pub count_line : List ℕ → ℕ → List ℕ
count_line word count = word ++ (codes " " ++ (decimal_of count ++ codes "\n"))

-- the summary of a history with this log, whether its entries have the calls or what a log has of them
unfoldable pub summary_text : {C : Type 0} → History C Reply → List ℕ → List ℕ
summary_text history log =
    count_line (codes "entries") (length history)
    ++ (count_line (codes "refused") (count_by (λ e. is_refusal e.reply) history)
    ++ (count_line (codes "busy") (count_by (λ e. is_busy_removal e.reply) history)
    ++ (codes "sha256 " ++ (encode_lower (sha256 log) ++ codes "\n"))))
