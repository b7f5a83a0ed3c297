-- Contracts of inner functions; nothing here need be believed.
use Rattle.std.specs.Prelude.{◌≡◌, List, ◌++◌, ℕ, ◌+◌, pos, get_or, length}
use Rattle.std.proofs.lemmas.List.Edits.{sets}
use Rattle.arith.specs.Bytes.{bytes4, twos}
use Rattle.statics.specs.declared.EndFigures.{EndFigures}
use Rattle.arith.specs.Lists.{counted}

-- `bytes` stored in a buffer from `at` on, and the place behind them
pub record Wrote (before : List ℕ) (at : ℕ) (bytes after : List ℕ) (next : ℕ) : Type 0 where
  pub stored : after ≡ sets before at bytes
  pub place : next ≡ at + length bytes
  pub room : length after ≡ length before

-- the bytes of a lash's three forces, and of an end of n tiers and m lashes
abbrev pub lash_bytes : ℕ → ℕ → ℕ → List ℕ
lash_bytes pull athwart vertical = bytes4 pull ++ bytes4 athwart ++ bytes4 vertical

unfoldable pub end_bytes_of : ℕ → ℕ → EndFigures → List ℕ
end_bytes_of n m f =
    counted n (λ i. bytes4 (twos (get_or f.racking i (pos 0))))
    ++ counted (n + 1) (λ i. bytes4 (get_or f.compression i 0))
    ++ counted n (λ i. bytes4 (get_or f.tension i 0))
    ++ counted m (λ j. lash_bytes (get_or f.pull j 0) (get_or f.athwart j 0) (get_or f.vertical j 0))
