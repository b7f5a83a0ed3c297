-- Contracts of inner functions: whether no size exceeds its limit, kind by kind. Nothing here need be believed.
use Rattle.std.specs.Prelude.{ℕ, zero, suc, ◌+◌, ◌-◌, Bool, true, not, ◌&&◌, List, ltb, pos, nat_abs, get_or}
use Rattle.sheet.specs.declared.Lash.{Lash}
use Rattle.statics.specs.declared.EndFigures.{EndFigures}
use Rattle.answer.specs.Limits.{racking_limit, compression_limit, lash_vertical_limit, lash_athwart_limit}
use Rattle.answer_put.specs.Inner.Puts.{lash_limit}
use Rattle.limits.specs.declared.PullLimit.{PullLimit}

-- at n indexes from `first` on
unfoldable pub none_over : (ℕ → ℕ) → (ℕ → ℕ) → ℕ → ℕ → Bool
none_over size limit first zero = true
none_over size limit first (suc n) = none_over size limit first n && not (ltb (limit (first + n)) (size (first + n)))

-- of an end
abbrev pub none_found : ℕ → PullLimit → List Lash → ℕ → EndFigures → Bool
none_found n pull ls m f =
    ((((none_over (λ i. nat_abs (get_or f.racking (i - 1) (pos 0))) (λ i. racking_limit) 1 n
    && none_over (λ i. get_or f.compression i 0) (λ i. compression_limit) 1 n)
    && none_over (λ i. get_or f.tension i 0) (λ i. pull.limit) 0 n)
    && none_over (λ j. get_or f.pull j 0) (lash_limit ls) 0 m)
    && none_over (λ j. get_or f.vertical j 0) (λ j. lash_vertical_limit) 0 m)
    && none_over (λ j. get_or f.athwart j 0) (λ j. lash_athwart_limit) 0 m
