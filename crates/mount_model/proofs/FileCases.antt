-- The answers to the calls that look at nodes, open them, read and write, and to those on records, case
-- by case.
use Rattle.std.proofs.Common.{nat_lt, ◌≡◌, ◌+◌, ℕ, false, not, List, length, Option, Some, None, Ok, refl}
use Rattle.number_map.specs.Numbered.{get}
use Rattle.plain_tree.specs.Nodes.{Body, Dir, File, Link, Node}
use Rattle.plain_tree.specs.NodesByNumber.{is_dir_at}
use Rattle.plain_tree.specs.Changes.{written}
use Rattle.meta_files.specs.Records.{record_of}
use Rattle.byte_words.specs.Contents.{with_bytes}
use Rattle.mount_limits.specs.declared.TheConstants.{MAX_FILE_BYTES, MAX_READ_BYTES}
use Rattle.meta_files.specs.declared.files.TheConstants.{MAX_RECORD_BYTES}
use Rattle.mount_model.specs.declared.reply.Refusal.TheVariants.{NoKey, Inval, NotFound, NotDir, IsDir, TooBig, NoSpace, Changed}
use Rattle.mount_model.specs.PlainMount.{PlainMount}
use Rattle.mount_model.specs.OpenHandles.{node_of}
use Rattle.mount_model.specs.AnswerForms.{Answer, done}
use Rattle.mount_model.specs.Walk.{PathParts, walk_path}
use Rattle.mount_model.specs.LookAnswers.{target_answer, answer_to_read_link, stat_answer, answer_to_stat}
use Rattle.mount_model.specs.ListAnswers.{page_of, answer_to_list}
use Rattle.mount_model.specs.FileAnswers.{contents_at, content_of, answer_to_read, answer_to_write}
use Rattle.mount_model.specs.Blocks.{lacks_blocks}
use Rattle.mount_model.specs.CloseAnswers.{with_closed, answer_to_close}
use Rattle.mount_model.specs.OpenAnswers.{opened_on, is_out_of_handles, is_link_at, answer_to_open}
use Rattle.mount_model.specs.RecordAnswers.{record_answer, answer_to_meta_load, is_out_of_records, stored, answer_to_meta_store}
use Rattle.mount_model.proofs.CaseLemmas.{Covers, when, walked_from_due, at_walk, at_open}

-- ---- looking

at_target : (R : Answer → Type 0) (m : PlainMount) (n : ℕ) (o : Option Node) → Covers R m → R (target_answer m n o)
at_target R m n None covers = covers.of_refusals NotFound refl
at_target R m n (Some v) covers = by v.body
  where
    by : (b : Body) → R (target_answer m n (Some (record { named = v.named; context = v.context; body = b })))
    by (Dir entries) = covers.of_refusals Inval refl
    by (File contents) = covers.of_refusals Inval refl
    by (Link target) = covers.of_replies _ refl

pub at_read_link : (R : Answer → Type 0) (m : PlainMount) (path : PathParts) → Covers R m → R (answer_to_read_link m path)
at_read_link R m path covers = at_walk R m _ (walk_path m path) covers (walked_from_due m 0 path) (λ n _. at_target R m n (get m.nodes n) covers)

pub at_list : (R : Answer → Type 0) (m : PlainMount) (path : PathParts) (start : ℕ) → Covers R m → R (answer_to_list m path start)
at_list R m path start covers = at_walk R m _ (walk_path m path) covers (walked_from_due m 0 path) (λ n _.
    when R (λ _. covers.of_refusals NotDir refl) (λ (_ : not (is_dir_at m.nodes n) ≡ false). covers.of_replies (page_of m n start) refl))

at_told : (R : Answer → Type 0) (m : PlainMount) (n : ℕ) (o : Option Node) → Covers R m → R (stat_answer m n o)
at_told R m n None covers = covers.of_refusals NotFound refl
at_told R m n (Some v) covers = covers.of_replies _ refl

pub at_stat : (R : Answer → Type 0) (m : PlainMount) (path : PathParts) → Covers R m → R (answer_to_stat m path)
at_stat R m path covers = at_walk R m _ (walk_path m path) covers (walked_from_due m 0 path) (λ n _. at_told R m n (get m.nodes n) covers)

-- ---- handles

-- a node that is opened
pub record CanOpen (m : PlainMount) (caller : ℕ) (path : PathParts) (n : ℕ) : Type 0 where
  pub led : walk_path m path ≡ Ok n
  pub no_link : is_link_at m.nodes n ≡ false
  pub room : is_out_of_handles m caller ≡ false

pub at_open_node : (R : Answer → Type 0) (m : PlainMount) (caller : ℕ) (path : PathParts) → Covers R m
    → ((n : ℕ) → CanOpen m caller path n → R (opened_on m caller n)) → R (answer_to_open m caller path)
at_open_node R m caller path covers ok = at_walk R m _ (walk_path m path) covers (walked_from_due m 0 path) (λ n led.
    when R (λ _. covers.of_refusals Inval refl) (λ no_link.
    when R (λ _. covers.of_refusals NoKey refl) (λ _.
    when R (λ _. covers.of_refusals NoSpace refl) (λ room.
    ok n (record { led = led; no_link = no_link; room = room })))))

pub at_read : (R : Answer → Type 0) (m : PlainMount) (caller handle offset len : ℕ) → Covers R m → R (answer_to_read m caller handle offset len)
at_read R m caller handle offset len covers = at_open R m _ (node_of m.handles caller handle) covers (λ n _.
    when R (λ _. covers.of_refusals IsDir refl) (λ (_ : is_dir_at m.nodes n ≡ false).
    when R (λ _. covers.of_refusals TooBig refl) (λ (_ : nat_lt MAX_READ_BYTES len ≡ false). covers.of_replies (content_of m n offset len) refl)))

-- contents that are written
pub record CanWrite (m : PlainMount) (caller handle offset : ℕ) (bytes : List ℕ) (n : ℕ) : Type 0 where
  pub open_on : node_of m.handles caller handle ≡ Some n
  pub small : nat_lt MAX_FILE_BYTES (offset + length bytes) ≡ false
  pub room : lacks_blocks m (contents_at m.nodes n) (with_bytes offset bytes (contents_at m.nodes n)) ≡ false

pub at_write : (R : Answer → Type 0) (m : PlainMount) (caller handle offset : ℕ) (bytes : List ℕ) → Covers R m
    → ((n : ℕ) → CanWrite m caller handle offset bytes n → R (done (record m { nodes = written m.nodes n (with_bytes offset bytes) }))) → R (answer_to_write m caller handle offset bytes)
at_write R m caller handle offset bytes covers ok = at_open R m _ (node_of m.handles caller handle) covers (λ n is.
    when R (λ _. covers.of_refusals IsDir refl) (λ _.
    when R (λ _. covers.of_refusals TooBig refl) (λ small.
    when R (λ _. covers.of_refusals NoSpace refl) (λ room.
    ok n (record { open_on = is; small = small; room = room })))))

pub at_close : (R : Answer → Type 0) (m : PlainMount) (caller handle : ℕ) → Covers R m
    → ((n : ℕ) → node_of m.handles caller handle ≡ Some n → R (done (with_closed m caller handle n))) → R (answer_to_close m caller handle)
at_close R m caller handle covers ok = at_open R m _ (node_of m.handles caller handle) covers ok

-- ---- records

at_record : (R : Answer → Type 0) (m : PlainMount) (o : Option (ℕ × List ℕ)) → Covers R m → R (record_answer m o)
at_record R m None covers = covers.of_refusals NotFound refl
at_record R m (Some kept) covers = covers.of_replies _ refl

pub at_meta_load : (R : Answer → Type 0) (m : PlainMount) (name : List ℕ) → Covers R m → R (answer_to_meta_load m name)
at_meta_load R m name covers = at_record R m (record_of m.records name) covers

pub at_meta_store : (R : Answer → Type 0) (m : PlainMount) (name : List ℕ) (expected : ℕ) (bytes : List ℕ) → Covers R m
    → (nat_lt MAX_RECORD_BYTES (length bytes) ≡ false → is_out_of_records m name ≡ false → R (stored m name bytes)) → R (answer_to_meta_store m name expected bytes)
at_meta_store R m name expected bytes covers ok =
    when R (λ _. covers.of_refusals TooBig refl) (λ small.
    when R (λ _. covers.of_refusals (Changed _) refl) (λ _.
    when R (λ _. covers.of_refusals NoSpace refl) (λ room. ok small room)))
