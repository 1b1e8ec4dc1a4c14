-- What is in the slot while the turn is free: a value, and the history that reaches it.
use Rattle.call_history.specs.Entries.{History}

pub record Standing (V C R : Type 0) : Type 0 where
  pub value : V
  pub history : History C R

abbrev pub standing : {V C R : Type 0} → V → History C R → Standing V C R
standing value history = record { value = value; history = history }
