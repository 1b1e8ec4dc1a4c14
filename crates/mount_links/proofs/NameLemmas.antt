-- A record's name is that of the record that it names.
use Rattle.std.proofs.Common.{◌≡◌, ◌++◌, ℕ, List, Bool, true, false, Option, Some, None, nat_eq, codes, drop, refl, sym, ap, ◌∙◌, if◌then◌else◌}
use Rattle.std.specs.List.{starts_with}
use Rattle.std.specs.Option.{option_map}
use Rattle.std.proofs.lemmas.Bool.Decides.{Decides-eqb}
use Rattle.std.proofs.lemmas.Slice.Eq.{starts_is}
use Rattle.short_bytes.specs.Label.{is_label, label_of}
use Rattle.script_words.specs.Records.{record_of, record_name}
use Rattle.mount_links.specs.declared.asked.Asked.TheVariants.{Load}
use Rattle.mount_links.specs.LinkSteps.{asked_of_load}
use Rattle.script_words.specs.declared.record_words.Record.{Record}
use Rattle.script_words.specs.declared.record_words.Record.TheVariants.{Protector, Policy}

-- the label is the bytes that it was read of
label_is : (bytes label : List ℕ) → label_of bytes ≡ Some label → bytes ≡ label
label_is bytes label e = by_test (is_label bytes) e
  where
    by_test : (test : Bool) → (let o : Option (List ℕ) = if test then Some bytes else None in o ≡ Some label) → bytes ≡ label
    by_test true h = cc
    by_test false h = cc

mapped : (o : Option (List ℕ)) (label : List ℕ) → option_map Protector o ≡ Some (Protector label) → o ≡ Some label
mapped (Some x) label e = cc
mapped None label e = cc

no_policy : (o : Option (List ℕ)) (label : List ℕ) → option_map Policy o ≡ Some (Protector label) → ⊥
no_policy (Some x) label e = cc
no_policy None label e = cc

named_back : (name label : List ℕ) → record_of name ≡ Some (Protector label) → name ≡ record_name (Protector label)
named_back name label e = by_test (starts_with nat_eq name (codes "protector/")) refl e
  where
    policy_or_none : (test : Bool) → (let o : Option Record = if test then option_map Policy (label_of (drop 7 name)) else None in o ≡ Some (Protector label)) → ⊥
    policy_or_none true h = no_policy (label_of (drop 7 name)) label h
    policy_or_none false h = cc

    by_test : (test : Bool) → starts_with nat_eq name (codes "protector/") ≡ test
        → (let o : Option Record = if test then option_map Protector (label_of (drop 10 name))
        else if starts_with nat_eq name (codes "policy/") then option_map Policy (label_of (drop 7 name)) else None in o ≡ Some (Protector label))
        → name ≡ record_name (Protector label)
    by_test true is h =
        (starts_is Decides-eqb name (codes "protector/") true (sym is)).0 refl
        ∙ ap (λ (l : List ℕ). codes "protector/" ++ l) (label_is (drop 10 name) label (mapped (label_of (drop 10 name)) label h))
    by_test false is h = absurd (policy_or_none (starts_with nat_eq name (codes "policy/")) h)

-- a record whose loading asks for a protector is that of this protector
loaded_is : (it : Record) (label : List ℕ) → asked_of_load (Some it) ≡ Load label → it ≡ Protector label
loaded_is (Protector x) label e = cc
loaded_is (Policy x) label e = cc

pub asked_back : (name : List ℕ) (it : Record) (label : List ℕ)
    → record_of name ≡ Some it → asked_of_load (Some it) ≡ Load label → name ≡ record_name (Protector label)
asked_back name it label e f = named_back name label (e ∙ ap Some (loaded_is it label f))
