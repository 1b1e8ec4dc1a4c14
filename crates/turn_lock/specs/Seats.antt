-- What a pass stores, beside what its seat knows.
use Rattle.std.specs.Prelude.{◌≡◌, ℕ, ◌+◌, ◌<◌, ◌≤◌, false, [], length}
use Rattle.atomic_table.specs.Seated.{TableId}
use Rattle.call_history.specs.declared.TheConstants.{MAX_PLACES}
use Rattle.call_history.specs.Entries.{by}
use Rattle.turn_lock.specs.declared.view.View.{View}
use Rattle.turn_lock.specs.Passes.{PassView}
use Rattle.turn_lock.specs.Steps.{Seated}
use Rattle.turn_lock.specs.Views.{Owns}

module _ {C R : Type 0} where
  -- what contracts see of a seat
  abbrev pub pass_view : TableId → View C R → PassView C R
  pass_view table v = record {
    table = table;
    who = v.who;
    high = v.high;
    left = v.left;
    seen = v.seen;
    mine = v.mine;
    past = v.past;
  }

  -- a seat that has no turn, and the numbers and counts that its pass stores
  pub record IsPass {V : Type 0} (me : Seated V C R) (who high left made : ℕ) : Type 0 where
    pub bare : me.1 ≡ []
    pub idle : me.0.turn ≡ false
    pub who_is : who ≡ me.0.who
    pub high_is : high ≡ me.0.high
    pub left_is : left ≡ me.0.left
    pub made_is : made ≡ length me.0.mine
    pub some_number : who < high
    pub small : left + made ≤ MAX_PLACES
    pub mine_own : by who me.0.mine ≡ me.0.mine
    pub past_own : (caller : ℕ) → ¬ Owns me.0 caller → by caller me.0.past ≡ []
