-- How a protector's record is read: the values of its seven lines, and no text after them.
use Rattle.std.specs.Prelude.{ℕ, List, length, ◌==◌, Result, Ok, Err, codes, if◌then◌else◌}
use Rattle.protector_meta.specs.Reading.{◌>>=◌, value_at}
use Rattle.protector_meta.specs.ProtectorLines.{head_value, kind_line_value, descriptor_line_value}
use Rattle.protector_meta.specs.LineValues.{digits_line_value, name_line_value}
use Rattle.protector_meta.specs.declared.fault.MetaFault.{MetaFault}
use Rattle.protector_meta.specs.declared.fault.MetaFault.TheVariants.{Bad}
use Rattle.protector_meta.specs.declared.protector.Protector.{Protector}
use Rattle.protector_meta.specs.declared.protector.ProtectorKind.{ProtectorKind}

-- a record ends here
abbrev pub end_of_record : ℕ → List ℕ → Protector → Result Protector MetaFault
end_of_record number text p = if length text == 0 then Ok p else Err (Bad number)

-- the protector of the values on the lines before, and of the last three lines
abbrev pub after_descriptor : List ℕ → ProtectorKind → List ℕ → List ℕ → Result Protector MetaFault
after_descriptor name kind descriptor text = do
  iv ← value_at (digits_line_value (codes "iv ") 16) 5 text
  key ← value_at (digits_line_value (codes "key ") 32) 6 iv.1
  tag ← value_at (digits_line_value (codes "tag ") 32) 7 key.1
  end_of_record 8 tag.1 (record {
    name = name;
    kind = kind;
    descriptor = descriptor;
    iv = iv.0;
    key = key.0;
    tag = tag.0;
  })

-- the protector of this name, and of the lines from the third on
abbrev pub after_name : List ℕ → List ℕ → Result Protector MetaFault
after_name name text = do
  kind ← value_at kind_line_value 3 text
  descriptor ← value_at descriptor_line_value 4 kind.1
  after_descriptor name kind.0 descriptor.0 descriptor.1

-- the protector whose record the text is, or the line at fault
unfoldable pub protector_read : List ℕ → Result Protector MetaFault
protector_read text = do
  head ← value_at head_value 1 text
  name ← value_at name_line_value 2 head.1
  after_name name.0 name.1
