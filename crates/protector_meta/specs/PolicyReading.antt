-- How a policy's record is read, line by line.
use Rattle.std.specs.Prelude.{ℕ, ◌≡◌, ◌+◌, ◌==◌, ◌&&◌, nat_lt, Bool, true, false, List, [], ◌∷◌}
use Rattle.std.specs.Prelude.{◌++◌, length, Option, Some, None, Result, Ok, Err, if◌then◌else◌}
use Rattle.std.specs.Option.{ok_or}
use Rattle.text_words.specs.Lines.{pieces_of}
use Rattle.protector_meta.specs.declared.fault.MetaFault.{MetaFault}
use Rattle.protector_meta.specs.declared.fault.MetaFault.TheVariants.{Bad, NoMemory}
use Rattle.protector_meta.specs.declared.wraps.Wrap.{Wrap}
use Rattle.protector_meta.specs.declared.policy_file.Options.{Options}
use Rattle.protector_meta.specs.declared.policy_file.PolicyFile.{PolicyFile}
use Rattle.protector_meta.specs.PolicyLines.{head_value, id_value, options_value}
use Rattle.protector_meta.specs.WrapLines.{next_wrap}
use Rattle.protector_meta.specs.LineValues.{name_line_value}
use Rattle.protector_meta.specs.Reading.{◌>>=◌, value_at}

-- the wraps of the pieces of a text from this line on, after earlier ones
unfoldable pub wraps_from : ℕ → List Wrap → List (List ℕ) → Result (List Wrap) MetaFault
wraps_from number wraps [] = Err (Bad number)
wraps_from number wraps (last ∷ []) =
    if length last == 0 && nat_lt 0 (length wraps) then Ok wraps else Err (Bad number)
wraps_from number wraps (line ∷ next ∷ more) =
    ok_or (next_wrap wraps line) (Bad number) >>= λ wrap.
    wraps_from (number + 1) (wraps ++ wrap ∷ []) (next ∷ more)

-- the policy of the values on the lines before the wraps, and of the wraps from this line on
abbrev pub with_wraps : List ℕ → List ℕ → Option Options → ℕ → List ℕ → Result PolicyFile MetaFault
with_wraps name id options first text = do
  wraps ← wraps_from first [] (pieces_of text)
  let p : PolicyFile = record { name = name; id = record { 0 = id }; options = options; wraps = wraps }
      in Ok p

-- the same from the fourth line on, which is the line of options if there is one
abbrev pub after_id : Bool → List ℕ → List ℕ → List ℕ → Result PolicyFile MetaFault
after_id false name id text = with_wraps name id None 4 text
after_id true name id text = do
  options ← value_at options_value 4 text
  with_wraps name id (Some options.0) 5 options.1

-- the policy whose record the text is, or the line at fault
unfoldable pub policy_read : List ℕ → Result PolicyFile MetaFault
policy_read text = do
  head ← value_at head_value 1 text
  name ← value_at name_line_value 2 head.1
  id ← value_at id_value 3 name.1
  after_id head.0 name.0 id.0 id.1

-- what a function returned, seen by view, is what reading gives, unless there was no memory
abbrev pub GivesInMemory : {X Y : Type 0} → (X → Y) → Result X MetaFault → Result Y MetaFault → Type 0
GivesInMemory view (Ok x) read = read ≡ Ok (view x)
GivesInMemory view (Err NoMemory) read = Unit {0}
GivesInMemory view (Err (Bad line)) read = read ≡ Err (Bad line)
