-- What a buffer holds after an answer's bytes were written from its start; nothing here need be believed.
use Rattle.std.specs.Prelude.{◌≡◌, List, ◌++◌, ℕ, drop, length}

-- the bytes, with what stood behind them, and their length
abbrev pub Stored : List ℕ → List ℕ → List ℕ → ℕ → Type 0
Stored bytes before after size = (size ≡ length bytes) × (after ≡ bytes ++ drop (length bytes) before)
