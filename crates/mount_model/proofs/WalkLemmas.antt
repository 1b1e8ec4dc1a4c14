-- The ends of walks: nodes that are reached from the root by names.
use Rattle.std.proofs.Common.{nat_lt, ◌≡◌, ◌≢◌, ℕ, ◌≤◌, true, false, cond, not, [], ◌∷◌, length, eqb, Option, Some, None, Ok, Err, inl, inr, refl, sym, ap, subst, ◌∙◌}
use Rattle.std.specs.List.{list_any}
use Rattle.std.specs.Str.{bytes_eq}
use Rattle.std.proofs.lemmas.Bool.{cases_Bool, not-false, ltb-false, eqb-false, or_parts}
use Rattle.plain_tree.specs.Nodes.{Name}
use Rattle.plain_tree.specs.NodesByNumber.{is_dir_at, entry}
use Rattle.plain_tree.specs.Tree.{IsReached, IsReachedWithout}
use Rattle.plain_tree.proofs.FoundLemmas.{found_entry}
use Rattle.name_crypt.specs.declared.limits.TheConstants.{MAX_NAME_BYTES}
use Rattle.mount_model.specs.declared.reply.Refusal.{Refusal}
use Rattle.mount_model.specs.declared.reply.Refusal.TheVariants.{NotFound, NotDir, NameTooLong}
use Rattle.mount_model.specs.PlainMount.{PlainMount}
use Rattle.mount_model.specs.States.{shown}
use Rattle.mount_model.specs.Walk.{PathParts, WalkResult, visible_entry, resolved_to, looked_in, walk_step, walked_on, walked_from, walk_path}
use Rattle.mount_model.specs.EntryPaths.{parent, parent_parts, last_part, passed_on, passed_from, is_at_or_above}

abbrev ok_at : ℕ → WalkResult
ok_at n = Ok n

same_end : (x y : ℕ) → ok_at x ≡ ok_at y → x ≡ y
same_end x y is = cc

no_end : (r : Refusal) (y : ℕ) → Err r ≡ ok_at y → ⊥
no_end r y is = absurd (cc)

-- a walk that continues has reached a node
went_on : (f : ℕ → WalkResult) (w : WalkResult) (y : ℕ) → walked_on f w ≡ ok_at y → (n : ℕ) × (w ≡ ok_at n) × (f n ≡ ok_at y)
went_on f (Err r) y is = absurd (no_end r y is)
went_on f (Ok n) y is = (n, refl, is)

-- ---- one step

pub record IsPlace (m : PlainMount) (d : ℕ) (part : Name) : Type 0 where
  pub dir : is_dir_at m.nodes d ≡ true
  pub short : length part ≤ MAX_NAME_BYTES

pub looked_in_ok : (m : PlainMount) (d : ℕ) (part : Name) (y : ℕ) → looked_in m d part ≡ ok_at y → (d ≡ y) × IsPlace m d part
looked_in_ok m d part y is = elim (cases_Bool (not (is_dir_at m.nodes d))) [
  | inl other ↦ absurd (no_end NotDir y (sym (ap (λ b. cond b (Err NotDir) rest) other) ∙ is))
  | inr dir ↦ elim (cases_Bool (nat_lt MAX_NAME_BYTES (length part))) [
    | inl long ↦ absurd (no_end NameTooLong y (sym (ap (λ b. cond b (Err NotDir) rest) dir ∙ ap (λ b. cond b (Err NameTooLong) (ok_at d)) long) ∙ is))
    | inr short ↦ (
      same_end d y (sym (ap (λ b. cond b (Err NotDir) rest) dir ∙ ap (λ b. cond b (Err NameTooLong) (ok_at d)) short) ∙ is),
      record { dir = not-false (is_dir_at m.nodes d) dir; short = ltb-false MAX_NAME_BYTES (length part) short },
    )
  ]
]
  where
    rest : WalkResult
    rest = cond (nat_lt MAX_NAME_BYTES (length part)) (Err NameTooLong) (ok_at d)

led_ok : (o : Option (Name × ℕ)) (y : ℕ) → resolved_to o ≡ ok_at y → (e : Name × ℕ) × (o ≡ Some e) × (e.1 ≡ y)
led_ok None y is = absurd (no_end NotFound y is)
led_ok (Some e) y is = (e, refl, same_end e.1 y is)

-- a part resolves to a node under some name
pub stepped_ok : (m : PlainMount) (d : ℕ) (part : Name) (y : ℕ) → walk_step m d part ≡ ok_at y → (name : Name) × (entry m.nodes d name ≡ Some y)
stepped_ok m d part y is =
    let went = went_on (λ _. resolved_to (visible_entry m d part)) (looked_in m d part) y is in
    let e = led_ok (visible_entry m d part) y went.2 in
    (e.0.0, found_entry m.nodes d (λ name. bytes_eq part (shown m d name)) e.0 e.1 ∙ ap (λ z. Some z) e.2)

-- ---- walks

pub walked_from_reached : (m : PlainMount) (n : ℕ) (path : PathParts) (y : ℕ) → walked_from m n path ≡ ok_at y → IsReached m.nodes n → IsReached m.nodes y
walked_from_reached m n [] y is there = subst (IsReached m.nodes) (same_end n y is) there
walked_from_reached m n (part ∷ parts) y is there =
    let went = went_on (λ x. walked_from m x parts) (walk_step m n part) y is in
    let step = stepped_ok m n part went.0 went.1 in
    walked_from_reached m went.0 parts y went.2 (IsReached.step n step.0 went.0 step.1 there)

pub walked_reached : (m : PlainMount) (path : PathParts) (y : ℕ) → walk_path m path ≡ ok_at y → IsReached m.nodes y
walked_reached m path y is = walked_from_reached m 0 path y is IsReached.root

-- the directory in which a path's last part is looked up
pub record IsParent (m : PlainMount) (path : PathParts) (d : ℕ) : Type 0 where
  pub walk : walk_path m (parent_parts path) ≡ ok_at d
  pub reached : IsReached m.nodes d
  pub dir : is_dir_at m.nodes d ≡ true
  pub short : length (last_part path) ≤ MAX_NAME_BYTES

pub parent_ok : (m : PlainMount) (path : PathParts) (d : ℕ) → parent m path ≡ ok_at d → IsParent m path d
parent_ok m path d is =
    let went = went_on (λ x. looked_in m x (last_part path)) (walk_path m (parent_parts path)) d is in
    let place = looked_in_ok m went.0 (last_part path) d went.2 in
    record {
      walk = went.1 ∙ ap ok_at place.0;
      reached = walked_reached m (parent_parts path) d (went.1 ∙ ap ok_at place.0);
      dir = ap (is_dir_at m.nodes) (sym place.0) ∙ place.1.dir;
      short = place.1.short;
    }

-- ---- what a walk passes

first_differs : (m : PlainMount) (n : ℕ) (path : PathParts) (y : ℕ) → list_any (λ x. eqb x y) (passed_from m n path) ≡ false → (n ≢ y)
first_differs m n [] y none = eqb-false n y (or_parts (eqb n y) false none).0
first_differs m n (part ∷ parts) y none =
    eqb-false n y (or_parts (eqb n y) (list_any (λ x. eqb x y) (passed_on (λ x. passed_from m x parts) (walk_step m n part))) none).0

pub passed_without : (m : PlainMount) (y n : ℕ) (path : PathParts) (d : ℕ) → walked_from m n path ≡ ok_at d → list_any (λ x. eqb x y) (passed_from m n path) ≡ false
    → IsReachedWithout m.nodes y n → IsReachedWithout m.nodes y d
passed_without m y n [] d is none there = subst (IsReachedWithout m.nodes y) (same_end n d is) there
passed_without m y n (part ∷ parts) d is none there =
    let went = went_on (λ x. walked_from m x parts) (walk_step m n part) d is in
    let step = stepped_ok m n part went.0 went.1 in
    let others : list_any (λ x. eqb x y) (passed_on (λ x. passed_from m x parts) (walk_step m n part)) ≡ false
    = (or_parts (eqb n y) (list_any (λ x. eqb x y) (passed_on (λ x. passed_from m x parts) (walk_step m n part))) none).1 in
    let later : list_any (λ x. eqb x y) (passed_from m went.0 parts) ≡ false
    = ap (λ w. list_any (λ x. eqb x y) (passed_on (λ x. passed_from m x parts) w)) (sym went.1) ∙ others in
    passed_without m y went.0 parts d went.2 later
    (IsReachedWithout.step n step.0 went.0 step.1 (first_differs m went.0 parts y later) there)

-- a directory to which the way does not pass a node is reached without it
pub reached_without : (m : PlainMount) (y : ℕ) (path : PathParts) (d : ℕ) → parent m path ≡ ok_at d → is_at_or_above m y path ≡ false → IsReachedWithout m.nodes y d
reached_without m y path d is none =
    passed_without m y 0 (parent_parts path) d (parent_ok m path d is).walk none IsReachedWithout.root
