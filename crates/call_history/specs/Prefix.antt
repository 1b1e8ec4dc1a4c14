-- Beginnings of a list, such as what one caller has seen of a history that went on: IsPrefix begun whole.
pub use mathlib.Core.List.{IsPrefix}
