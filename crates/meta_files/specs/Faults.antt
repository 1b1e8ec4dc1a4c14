-- Why a record can't be stored: the first that holds.
use Rattle.std.specs.Prelude.{ℕ, List, length, Option, Some, None, is_none}
use Rattle.std.specs.Prelude.{not, ◌&&◌, ◌==◌, nat_lt, nat_le, if◌then◌else◌}
use Rattle.meta_files.specs.declared.files.TheConstants.{MAX_RECORD_BYTES, MAX_RECORDS, LAST_VERSION}
use Rattle.meta_files.specs.declared.fault.StoreFault.{StoreFault}
use Rattle.meta_files.specs.declared.fault.StoreFault.TheVariants.{TooBig, Changed, NoSpace}
use Rattle.meta_files.specs.Records.{RecordList, record_of, version_of}

-- TooBig above the maximal number of bytes; Changed if the version isn't the expected one; NoSpace for a
-- new record if there are `MAX_RECORDS` already, and for any record at the last version that there is
abbrev pub store_fault : RecordList → List ℕ → ℕ → List ℕ → Option StoreFault
store_fault records name expected bytes =
    if nat_lt MAX_RECORD_BYTES (length bytes) then Some TooBig else
    if not (version_of records name == expected) then Some (Changed (version_of records name)) else
    if is_none (record_of records name) && nat_le MAX_RECORDS (length records) then Some NoSpace else
    if version_of records name == LAST_VERSION then Some NoSpace else
    None
