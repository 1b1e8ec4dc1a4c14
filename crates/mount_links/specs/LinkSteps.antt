-- What a call asks for of the record of a protector, which may be a link, and the steps that are possible
-- for it.
use Rattle.std.specs.Prelude.{◌≡◌, ℕ, Bool, true, false, Option, Some, List}
use Rattle.std.specs.Str.{bytes_eq}
use Rattle.mount_model.specs.declared.call.Op.{Op}
use Rattle.mount_model.specs.declared.call.Op.TheVariants.{MetaLoad, MetaStore}
use Rattle.mount_model.specs.declared.reply.Reply.{Reply}
use Rattle.mount_model.specs.declared.reply.Reply.TheVariants.{Held, Refused}
use Rattle.mount_model.specs.declared.reply.Refusal.TheVariants.{NoMemory}
use Rattle.mount_model.specs.History.{is_out_of_memory}
use Rattle.protector_meta.specs.LinkText.{link_text}
use Rattle.script_words.specs.Records.{record_of}
use Rattle.script_words.specs.declared.record_words.Record.{Record}
use Rattle.script_words.specs.declared.record_words.Record.TheVariants.{Protector}
use Rattle.mount_links.specs.declared.asked.Asked.{Asked}
use Rattle.mount_links.specs.declared.asked.Asked.TheVariants.{Load, Store, Other}
use Rattle.mount_links.specs.declared.step.LinkStep.{LinkStep}
use Rattle.mount_links.specs.declared.step.LinkStep.TheVariants.{Alone, Followed, Looked, NotMade}

-- what is asked of the record that has a name: only that of a protector may be a link
abbrev pub asked_of_load : Option Record → Asked
asked_of_load (Some (Protector label)) = Load label
asked_of_load other = Other

abbrev pub asked_of_store : Option Record → Asked
asked_of_store (Some (Protector label)) = Store label
asked_of_store other = Other

-- what a call asks for: that the record of the protector with a label is loaded or stored, or something else
abbrev pub asked_of : Op → Asked
asked_of (MetaLoad name) = asked_of_load (record_of name)
asked_of (MetaStore name expected bytes) = asked_of_store (record_of name)
asked_of other = Other

-- the reply is exactly the link to the protector of this label, and no byte else
abbrev pub is_link : List ℕ → Reply → Bool
is_link label (Held version bytes) = bytes_eq bytes (link_text label)
is_link label other = false

-- the possible steps of loading a protector's record with this reply. If the own mount's record is a
-- link, it is loaded on the far mount, once; whatever is there is the answer
abbrev pub IsLoaded : List ℕ → Reply → LinkStep → Type 0
IsLoaded label reply Alone = is_link label reply ≡ false
IsLoaded label reply (Followed named first there) = (named ≡ label) × (is_link label first ≡ true)
IsLoaded label reply other = ⊥

-- the possible steps of storing one, which is first loaded on the own mount:
-- - if it is a link there, the far mount stores;
-- - if the load was out of memory, that is the answer;
-- - else the own mount stores
abbrev pub IsStored : List ℕ → Reply → LinkStep → Type 0
IsStored label reply Alone = ⊥
IsStored label reply (Followed named first there) = (named ≡ label) × (is_link label first ≡ true)
IsStored label reply (Looked named place first) =
    (named ≡ label) × (is_link label first ≡ false) × (is_out_of_memory first ≡ false)
IsStored label reply (NotMade named) = (named ≡ label) × (reply ≡ Refused NoMemory)

-- the possible steps of a call that asks for this; every other call is made on the own mount as it is
abbrev pub IsStepOf : Asked → Reply → LinkStep → Type 0
IsStepOf (Load label) reply step = IsLoaded label reply step
IsStepOf (Store label) reply step = IsStored label reply step
IsStepOf Other reply step = step ≡ Alone
