-- Entries that are taken from the end of a list, and their replies.
use Rattle.std.proofs.Common.{◌≡◌, ℕ, ◌+◌, ◌≤◌, ◌<◌, List, [], ◌∷◌, ◌++◌, length, take, drop, reverse, refl, ap, sym, ◌∙◌, arith, append_assoc, append-nil, length-append}
use Rattle.std.proofs.Math.Seq.{take-append_seam, drop-append_seam}
use Rattle.std.proofs.lemmas.List.{reverse-append, length-map, map-append}
use Rattle.mount_model.specs.declared.reply.Reply.{Reply}
use Rattle.reply_text.specs.Logged.{PlacedLogged, LoggedEntry}
use Rattle.next_calls.specs.NextCalls.{logged_replies}

-- the list without some of its last entries, of which `least` or more remain
pub record IsShrunk (old now : PlacedLogged) (least : ℕ) : Type 0 where
  pub gone : PlacedLogged
  pub all : old ≡ now ++ gone
  pub room : least ≤ length now

-- entries were dropped, and then the replies of those before them were taken, the last one first, while
-- more than `kept` were left
pub record IsTakenBack (old now : PlacedLogged) (replies : List Reply) (kept count : ℕ) : Type 0 where
  pub taken : PlacedLogged
  pub gone : PlacedLogged
  pub all : old ≡ now ++ (taken ++ gone)
  pub replied : reverse replies ≡ logged_replies taken
  pub long : length now + length taken ≡ kept + count
  pub room : kept ≤ length now

one_shorter : (now next : PlacedLogged) (x : ℕ × LoggedEntry) → now ≡ next ++ x ∷ [] → length now ≡ length next + 1
one_shorter now next x is = ap length is ∙ length-append next (x ∷ [])

pub shrunk_none : (old : PlacedLogged) (least : ℕ) → least ≤ length old → IsShrunk old old least
shrunk_none old least room = record { gone = []; all = sym (append-nil old); room = room }

pub shrunk_more : (old now next : PlacedLogged) (least : ℕ) (x : ℕ × LoggedEntry) → IsShrunk old now least → now ≡ next ++ x ∷ [] → least < length now
    → IsShrunk old next least
shrunk_more old now next least x so is more =
    let long = one_shorter now next x is in
    record {
      gone = x ∷ so.gone;
      all = so.all ∙ ap (λ l. l ++ so.gone) is ∙ append_assoc next (x ∷ []) so.gone;
      room = omega (arith, long, more);
    }

pub taken_none : (old now : PlacedLogged) (kept count : ℕ) → IsShrunk old now (kept + count) → length now ≤ kept + count → IsTakenBack old now [] kept count
taken_none old now kept count so few =
    let room = so.room in
    record {
      taken = [];
      gone = so.gone;
      all = so.all;
      replied = refl;
      long = omega (arith, few, room);
      room = omega (arith, room);
    }

pub taken_more : (old now next : PlacedLogged) (replies more : List Reply) (kept count place : ℕ) (entry : LoggedEntry) (reply : Reply)
    → IsTakenBack old now replies kept count → now ≡ next ++ (place, entry) ∷ [] → kept < length now → reply ≡ entry.reply → more ≡ replies ++ reply ∷ []
    → IsTakenBack old next more kept count
taken_more old now next replies more kept count place entry reply so is longer its grown =
    let short = one_shorter now next (place, entry) is in
    let long = so.long in
    record {
      taken = (place, entry) ∷ so.taken;
      gone = so.gone;
      all = so.all ∙ ap (λ l. l ++ (so.taken ++ so.gone)) is ∙ append_assoc next ((place, entry) ∷ []) (so.taken ++ so.gone);
      replied = ap reverse grown ∙ reverse-append replies (reply ∷ []) ∙ ap (λ r. r ∷ reverse replies) its ∙ ap (λ l. entry.reply ∷ l) so.replied;
      long = omega (arith, short, long);
      room = omega (arith, short, longer);
    }

pub taken_kept : (old now : PlacedLogged) (replies : List Reply) (kept count : ℕ) → IsTakenBack old now replies kept count → length now ≤ kept
    → now ≡ take kept old
taken_kept old now replies kept count so few =
    let room = so.room in
    let is : length now ≡ kept = omega (arith, few, room) in
    sym (ap (take kept) so.all ∙ ap (λ n. take n (now ++ (so.taken ++ so.gone))) (sym is) ∙ take-append_seam now (so.taken ++ so.gone))

pub taken_replies : (old now : PlacedLogged) (replies : List Reply) (kept count : ℕ) → IsTakenBack old now replies kept count → length now ≤ kept
    → reverse replies ≡ take count (logged_replies (drop kept old))
taken_replies old now replies kept count so few =
    let room = so.room in
    let long = so.long in
    let is : length now ≡ kept = omega (arith, few, room) in
    let many : length (logged_replies so.taken) ≡ count = length-map _ _ ∙ omega (arith, long, is) in
    so.replied ∙ sym (
    ap (λ l. take count (logged_replies (drop kept l))) so.all
    ∙ ap (λ n. take count (logged_replies (drop n (now ++ (so.taken ++ so.gone))))) (sym is)
    ∙ ap (λ l. take count (logged_replies l)) (drop-append_seam now (so.taken ++ so.gone))
    ∙ ap (take count) (map-append (λ (x : ℕ × LoggedEntry). x.1.reply) so.taken so.gone)
    ∙ ap (λ n. take n (logged_replies so.taken ++ logged_replies so.gone)) (sym many)
    ∙ take-append_seam (logged_replies so.taken) (logged_replies so.gone))
