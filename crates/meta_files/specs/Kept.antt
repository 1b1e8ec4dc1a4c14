-- How records are stored; definitions for private functions.
use Rattle.std.specs.Prelude.{ℕ, List, map, Option, Some, None, not, ◌==◌, nat_le, if◌then◌else◌}
use Rattle.meta_files.specs.declared.files.TheConstants.{MAX_RECORDS, LAST_VERSION}
use Rattle.meta_files.specs.declared.fault.StoreFault.{StoreFault}
use Rattle.meta_files.specs.declared.fault.StoreFault.TheVariants.{Changed, NoSpace}
use Rattle.meta_files.specs.declared.files.Record.{Record}
use Rattle.meta_files.specs.Records.{RecordList}

abbrev pub pair_of : Record → List ℕ × (ℕ × List ℕ)
pair_of kept = (kept.name, (kept.version, kept.bytes))

abbrev pub pairs_of : List Record → RecordList
pairs_of kept = map pair_of kept

-- why a record that is there can't be replaced, by its version
abbrev pub rewrite_fault : ℕ → ℕ → Option StoreFault
rewrite_fault version expected =
    if not (version == expected) then Some (Changed version) else
    if version == LAST_VERSION then Some NoSpace else
    None

-- why a new record can't be appended, by the number of records
abbrev pub append_fault : ℕ → ℕ → Option StoreFault
append_fault count expected =
    if not (0 == expected) then Some (Changed 0) else
    if nat_le MAX_RECORDS count then Some NoSpace else
    None
