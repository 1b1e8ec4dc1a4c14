-- The calls on records: what each answers, its refusals in the order in which they are tried, and the
-- mount that it leaves.
use Rattle.std.specs.Prelude.{ℕ, ◌+◌, Bool, List, length, Option, Some, None, is_none}
use Rattle.std.specs.Prelude.{not, ◌==◌, ◌&&◌, ◌||◌, nat_le, nat_lt, if◌then◌else◌}
use Rattle.meta_files.specs.Records.{record_of, version_of, with_record}
use Rattle.meta_files.specs.declared.files.TheConstants.{MAX_RECORDS, MAX_RECORD_BYTES, LAST_VERSION}
use Rattle.mount_model.specs.declared.reply.Reply.TheVariants.{Held, Stored}
use Rattle.mount_model.specs.declared.reply.Refusal.TheVariants.{NotFound, TooBig, NoSpace, Changed}
use Rattle.mount_model.specs.PlainMount.{PlainMount}
use Rattle.mount_model.specs.AnswerForms.{Answer, refusal_with, unchanged_with}

-- ---- MetaLoad

abbrev pub record_answer : PlainMount → Option (ℕ × List ℕ) → Answer
record_answer m None = refusal_with m NotFound
record_answer m (Some kept) = unchanged_with m (Held kept.0 kept.1)

abbrev pub answer_to_meta_load : PlainMount → List ℕ → Answer
answer_to_meta_load m name = record_answer m (record_of m.records name)

-- ---- MetaStore

-- a new record while there are 1,024, or a version that is the last
abbrev pub is_out_of_records : PlainMount → List ℕ → Bool
is_out_of_records m name =
    (is_none (record_of m.records name) && nat_le MAX_RECORDS (length m.records))
    || (version_of m.records name == LAST_VERSION)

-- the record is written once more
abbrev pub stored : PlainMount → List ℕ → List ℕ → Answer
stored m name bytes = record {
  reply = Stored (version_of m.records name + 1);
  mount = record m { records = with_record m.records name (version_of m.records name + 1) bytes };
}

abbrev pub answer_to_meta_store : PlainMount → List ℕ → ℕ → List ℕ → Answer
answer_to_meta_store m name expected bytes =
    if nat_lt MAX_RECORD_BYTES (length bytes) then refusal_with m TooBig else
    if not (version_of m.records name == expected) then refusal_with m
    (Changed (version_of m.records name)) else
    if is_out_of_records m name then refusal_with m NoSpace else
    stored m name bytes
