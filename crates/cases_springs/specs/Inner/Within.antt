-- Contracts of inner functions; nothing here need be believed. Numbers of an array that lie within bounds.
use Rattle.std.specs.Prelude.{List, ℕ, ◌<◌, ◌≤◌, get_or}

pub record Within (n least most : ℕ) (l : List ℕ) : Type 0 where
  pub each : (i : ℕ) → i < n → (least ≤ get_or l i 0) × (get_or l i 0 ≤ most)
