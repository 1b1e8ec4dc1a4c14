-- A protector that got another secret opens with it, from the text that is stored.
use Rattle.std.specs.Prelude.{◌≡◌, ℕ, List, Ok}
use Rattle.mount_model.specs.declared.reply.Reply.{Reply}
use Rattle.mount_model.specs.declared.reply.Reply.TheVariants.{Held}
use Rattle.protector_meta.specs.declared.protector.Protector.{Protector}
use Rattle.protector_meta.specs.ProtectorText.{IsProtector, protector_text}
use Rattle.script_words.specs.declared.secrets.NewSecret.{NewSecret}
use Rattle.script_words.specs.declared.secrets.Secret.{Secret}
use Rattle.session_records.specs.declared.opening.OpenedProtector.{OpenedProtector}
use Rattle.session_records.specs.NewProtectors.{changed_protector}
use Rattle.session_records.specs.Records.{unwrapped_protector}
use Rattle.session_records.specs.MadeRecords.{secret_again, opened_protector}

-- a protector that a secret opened, and that then got another one, opens with the new one, to the key that it
-- had
abbrev pub ChangedProtectorsOpen : Type 0
ChangedProtectorsOpen =
    (label : List ℕ) (secret : Secret) (reply : Reply) (opened : OpenedProtector)
    → unwrapped_protector label secret reply ≡ Ok opened
    → (version : ℕ) (new : NewSecret) (iv salt : List ℕ)
    → (let changed : Protector = changed_protector opened.loaded.protector opened.key new iv salt in
    IsProtector changed → unwrapped_protector label (secret_again new) (Held version (protector_text changed))
    ≡ Ok (opened_protector version changed opened.key))
