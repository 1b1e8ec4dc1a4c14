-- The answers to the calls that make, move and remove names, case by case.
use Rattle.std.proofs.Common.{◌≡◌, ℕ, Bool, true, false, cond, not, List, length, eqb, Option, Some, None, is_some}
use Rattle.std.proofs.Common.{inl, inr, ◌⊎◌, Ok, refl}
use Rattle.std.proofs.lemmas.Bool.{cond_both, or_parts}
use Rattle.plain_tree.specs.Nodes.{Name, Body}
use Rattle.plain_tree.specs.NodesByNumber.{children, context_at, is_dir_at, entry}
use Rattle.mount_model.specs.declared.reply.Refusal.{Refusal}
use Rattle.mount_model.specs.declared.reply.Refusal.TheVariants.{NoKey, Inval, Exists, NotDir, IsDir, NotEmpty, XDev, NameTooLong, NoSpace, NoKeyClash}
use Rattle.mount_model.specs.PlainMount.{PlainMount}
use Rattle.mount_model.specs.States.{is_keyed}
use Rattle.mount_model.specs.AnswerForms.{Answer, refusal_with, done, done_unless}
use Rattle.mount_model.specs.Walk.{PathParts, visible_entry}
use Rattle.mount_model.specs.EntryPaths.{is_root, parent, last_part, is_at_or_above}
use Rattle.mount_model.specs.NameAnswers.{is_full, is_long_target, answer_to_make_in, answer_to_make}
use Rattle.mount_model.specs.NewNodes.{new_node, with_node}
use Rattle.mount_model.specs.UnlinkAnswers.{without_name, answer_to_unlink, answer_to_rmdir}
use Rattle.mount_model.specs.EncryptedNames.{lacks_key, clashes}
use Rattle.mount_model.specs.RenameAnswer.{with_moved, answer_to_move_from, answer_to_rename}
use Rattle.mount_model.specs.MoveRefusal.{may_hold, is_full_elsewhere}
use Rattle.mount_model.proofs.CaseLemmas.{is_so, Covers, when, parent_due, at_walk, at_found}

-- ---- Mkdir, Create, Symlink

-- a directory that gets a new name
pub record CanMake (m : PlainMount) (path : PathParts) (body : Body) (d : ℕ) : Type 0 where
  pub named : is_root path ≡ false
  pub led : parent m path ≡ Ok d
  pub keyed : lacks_key m (context_at m.nodes d) ≡ false
  pub free : is_some (entry m.nodes d (last_part path)) ≡ false
  pub target : is_long_target body ≡ false
  pub apart : clashes m d (last_part path) ≡ false
  pub room : is_full m d ≡ false

pub at_make : (R : Answer → Type 0) (m : PlainMount) (path : PathParts) (nonce : List ℕ) (body : Body) → Covers R m
    → ((d : ℕ) → CanMake m path body d → R (done (with_node m d (last_part path) (new_node m d nonce body)))) → R (answer_to_make m path nonce body)
at_make R m path nonce body covers ok =
    when R (λ _. covers.of_refusals Exists refl) (λ (named : is_root path ≡ false).
    at_walk R m (answer_to_make_in m (last_part path) nonce body) (parent m path) covers (parent_due m path) (λ d led.
    when R (λ _. covers.of_refusals NoKey refl) (λ keyed.
    when R (λ _. covers.of_refusals Exists refl) (λ free.
    when R (λ _. covers.of_refusals NameTooLong refl) (λ target.
    when R (λ _. covers.of_refusals NoKeyClash refl) (λ apart.
    when R (λ _. covers.of_refusals NoSpace refl) (λ room.
    ok d (record { named = named; led = led; keyed = keyed; free = free; target = target; apart = apart; room = room }))))))))

-- ---- Unlink and Rmdir

-- an entry that is removed: its node is no directory, or an empty one
pub record CanGo (m : PlainMount) (d : ℕ) (part : Name) (e : Name × ℕ) : Type 0 where
  pub is_found : visible_entry m d part ≡ Some e
  pub empty : (is_dir_at m.nodes e.1 ≡ false) ⊎ (eqb (length (children m.nodes e.1)) 0 ≡ true)

pub at_unlink : (R : Answer → Type 0) (m : PlainMount) (path : PathParts) → Covers R m
    → ((d : ℕ) (e : Name × ℕ) → CanGo m d (last_part path) e → R (done (without_name m d e.0 e.1))) → R (answer_to_unlink m path)
at_unlink R m path covers ok =
    when R (λ _. covers.of_refusals IsDir refl) (λ (_ : is_root path ≡ false).
    at_walk R m _ (parent m path) covers (parent_due m path) (λ d _.
    at_found R m _ (visible_entry m d (last_part path)) covers (λ e is.
    when R (λ _. covers.of_refusals IsDir refl) (λ no_dir.
    ok d e (record { is_found = is; empty = inl no_dir })))))

pub at_rmdir : (R : Answer → Type 0) (m : PlainMount) (path : PathParts) → Covers R m
    → ((d : ℕ) (e : Name × ℕ) → CanGo m d (last_part path) e → R (done (without_name m d e.0 e.1))) → R (answer_to_rmdir m path)
at_rmdir R m path covers ok =
    when R (λ _. covers.of_refusals Inval refl) (λ (_ : is_root path ≡ false).
    at_walk R m _ (parent m path) covers (parent_due m path) (λ d _.
    at_found R m _ (visible_entry m d (last_part path)) covers (λ e is.
    when R (λ _. covers.of_refusals NotDir refl) (λ (_ : not (is_dir_at m.nodes e.1) ≡ false).
    when R (λ _. covers.of_refusals NotEmpty refl) (λ empty.
    ok d e (record { is_found = is; empty = inr (is_so _ empty) }))))))

-- ---- Rename

-- a name that moves to another, in another directory or in the same one
pub record CanMove (m : PlainMount) (d : ℕ) (part : Name) (e : Name × ℕ) (path : PathParts) (to : ℕ) : Type 0 where
  pub named : is_root path ≡ false
  pub is_found : visible_entry m d part ≡ Some e
  pub led : parent m path ≡ Ok to
  pub keyed : is_keyed m to ≡ true
  pub free : is_some (entry m.nodes to (last_part path)) ≡ false
  pub outside : is_at_or_above m e.1 path ≡ false
  pub alike : may_hold (context_at m.nodes to) (context_at m.nodes e.1) ≡ true
  pub apart : clashes m to (last_part path) ≡ false
  pub room : is_full_elsewhere m d to ≡ false

-- a name moves, or one of the causes against it is the refusal
at_refusal : (R : Answer → Type 0) (m after : PlainMount) (b : Bool) (r : Refusal) (more : Option Refusal)
    → R (refusal_with m r) → (b ≡ false → R (done_unless m more after)) → R (done_unless m (cond b (Some r) more) after)
at_refusal R m after b r more stopped rest =
    cond_both b (Some r) more (λ o. R (done_unless m o after)) (λ _. stopped) rest

pub at_rename : (R : Answer → Type 0) (m : PlainMount) (old_path new_path : PathParts) → Covers R m
    → ((d : ℕ) (e : Name × ℕ) (to : ℕ) → CanMove m d (last_part old_path) e new_path to → R (done (with_moved m d e.0 to (last_part new_path) e.1))) → R (answer_to_rename m old_path new_path)
at_rename R m old_path new_path covers ok =
    when R (λ _. covers.of_refusals Inval refl) (λ roots.
    at_walk R m _ (parent m old_path) covers (parent_due m old_path) (λ d _.
    when R (λ _. covers.of_refusals NoKey refl) (λ (_ : not (is_keyed m d) ≡ false).
    at_found R m (answer_to_move_from m new_path d) (visible_entry m d (last_part old_path)) covers (λ e is.
    at_walk R m _ (parent m new_path) covers (parent_due m new_path) (λ to led.
    let after = with_moved m d e.0 to (last_part new_path) e.1 in
    at_refusal R m after _ NoKey _ (covers.of_refusals NoKey refl) (λ keyed.
    at_refusal R m after _ Exists _ (covers.of_refusals Exists refl) (λ free.
    at_refusal R m after _ Inval _ (covers.of_refusals Inval refl) (λ outside.
    at_refusal R m after _ XDev _ (covers.of_refusals XDev refl) (λ alike.
    at_refusal R m after _ NoKeyClash _ (covers.of_refusals NoKeyClash refl) (λ apart.
    at_refusal R m after _ NoSpace None (covers.of_refusals NoSpace refl) (λ room.
    ok d e to (record {
      named = (or_parts (is_root old_path) (is_root new_path) roots).1;
      is_found = is;
      led = led;
      keyed = is_so _ keyed;
      free = free;
      outside = outside;
      alike = is_so _ alike;
      apart = apart;
      room = room;
    }))))))))))))
