-- Document 01, "When a sheet is turned back": the table row by row, the order of reading, and what decoding a sheet gives.
-- Every row has a meaning on any bytes; only the first row that holds counts.
use Rattle.std.specs.Prelude.{Result, Ok, Err, ℕ, zero, suc, ◌+◌, Bool, false, not, cond, ◌&&◌, ◌||◌, length}
use mathlib.Core.List.{List, [], ◌∷◌, ◌++◌, flat_map}
use Rattle.sheet.specs.declared.Lash.{Lash}
use Rattle.sheet.specs.declared.Sheet.{Sheet}
use Rattle.sheet.specs.declared.Refusal.{Refusal}
use Rattle.sheet.specs.Layout.{head_of, tier_count, tier_place, tier_in, lash_place, lash_in, door_place, closed_place, spare_place, ◌is◌}
use Rattle.sheet.specs.Layout.{◌above◌, rule_fits, tier_fits, breaking_fits, lash_fits, sheet_of}
use Rattle.arith.specs.Bytes.{byte_at}
use Rattle.arith.specs.Lists.{below}

-- the two numbers that are returned of a sheet that is turned back
abbrev pub numbers : ℕ → ℕ → Refusal
numbers n p = record { number = n; second = p }

-- what comes of reading: the sheet is taken, or turned back
abbrev pub Reading : Type 0
Reading = Result Unit Refusal

-- a row: the two numbers that are returned, and whether its condition holds
pub record Row : Type 0 where
  pub number : ℕ
  pub second : ℕ
  pub holds : Bool

abbrev pub row : ℕ → ℕ → Bool → Row
row n p b = record { number = n; second = p; holds = b }

-- 1, sheet length: too few bytes remain for the head, count or entry due next, which takes `size` bytes from `at`
abbrev pub row1 : List ℕ → ℕ → ℕ → Row
row1 s at size = row 1 (length s) (at + size above length s)

-- 2, offset of first spare byte: bytes follow the last entry, which ends before `at`
abbrev pub row2 : List ℕ → ℕ → Row
row2 s at = row 2 at (length s above at)

-- 3, 0: rule number other than 1 or 2 (document 02, P10), or the zero byte not zero
abbrev pub row3 : List ℕ → Row
row3 s = row 3 0 (not (rule_fits (head_of s).rule) || not ((head_of s).zero is 0))

-- 4, 1: route above 12
abbrev pub row4 : List ℕ → Row
row4 s = row 4 1 ((head_of s).route above 12)

-- 5, 2: lock material above 2, or its breaking load outside the limits
abbrev pub row5 : List ℕ → Row
row5 s = row 5 2 ((head_of s).lockMaterial above 2 || not (breaking_fits (head_of s).lockBreakingLoad))

-- 6, 8: tier count 0 or above 10
abbrev pub row6 : List ℕ → Row
row6 s = row 6 8 (tier_count s is 0 || tier_count s above 10)

-- 7, offset of the tier: a tier field outside its codes or limits
abbrev pub row7 : List ℕ → ℕ → Row
row7 s k = row 7 (tier_place k) (not (tier_fits (tier_in s k)))

-- 8, offset of the tier: size differs from tier 1
abbrev pub row8 : List ℕ → ℕ → Row
row8 s k = row 8 (tier_place k) (not ((tier_in s k).size is (tier_in s 0).size))

-- 9, offset of the count: lash count above 8
abbrev pub row9 : List ℕ → ℕ → Row
row9 s at = row 9 at (byte_at s at above 8)

-- 10, offset of the lash: hook, kind, material or a measure outside codes or limits
abbrev pub row10 : List ℕ → ℕ → ℕ → Row
row10 s at k = row 10 (lash_place at k) (not (lash_fits (lash_in s at k)))

-- 11, offset of the lash: tier 0 or above the tier count n, or bottom corner of tier 1
unfoldable pub off_tiers : ℕ → Lash → Bool
off_tiers n l = l.tier is 0 || l.tier above n || l.tier is 1 && l.hook is 1

abbrev pub row11 : ℕ → List ℕ → ℕ → ℕ → Row
row11 n s at k = row 11 (lash_place at k) (off_tiers n (lash_in s at k))

-- 12, offset of the lash: not later than the lash before it at the same end, by tier, then hook, then kind
-- (`later a b`: b is later than a. The first lash of an end has none before it)
unfoldable pub later : Lash → Lash → Bool
later a b =
    b.tier above a.tier
    || b.tier is a.tier && (b.hook above a.hook
    || b.hook is a.hook && b.kind above a.kind)

unfoldable pub not_later : List ℕ → ℕ → ℕ → Bool
not_later s at zero = false
not_later s at (suc k) = not (later (lash_in s at k) (lash_in s at (suc k)))

abbrev pub row12 : List ℕ → ℕ → ℕ → Row
row12 s at k = row 12 (lash_place at k) (not_later s at k)

-- 13, 834: answer buffer under 834 bytes (`needed`: what a call needs, of which the buffer has `room`)
abbrev pub row13 : ℕ → ℕ → Row
row13 needed room = row 13 needed (needed above room)

-- The sheet is read in order; an item is tested for number 1 first, then by rising number among those of its kind

infixr 20 ◌then◌
abbrev pub ◌then◌ : List Row → List Row → List Row
a then b = a ++ b

abbrev pub head_rows : List ℕ → List Row
head_rows s = row1 s 0 8 ∷ row3 s ∷ row4 s ∷ row5 s ∷ []

abbrev pub tier_count_rows : List ℕ → List Row
tier_count_rows s = row1 s 8 1 ∷ row6 s ∷ []

abbrev pub tier_rows : List ℕ → ℕ → List Row
tier_rows s k = row1 s (tier_place k) 12 ∷ row7 s k ∷ row8 s k ∷ []

abbrev pub tiers_rows : List ℕ → List Row
tiers_rows s = tier_count_rows s then flat_map (tier_rows s) (below (tier_count s))

-- an end of a stack of n tiers, whose count stands at `at`: the count, then its lashes
abbrev pub lash_count_rows : List ℕ → ℕ → List Row
lash_count_rows s at = row1 s at 1 ∷ row9 s at ∷ []

abbrev pub lash_rows : ℕ → List ℕ → ℕ → ℕ → List Row
lash_rows n s at k = row1 s (lash_place at k) 20 ∷ row10 s at k ∷ row11 n s at k ∷ row12 s at k ∷ []

abbrev pub end_rows : ℕ → List ℕ → ℕ → List Row
end_rows n s at = lash_count_rows s at then flat_map (lash_rows n s at) (below (byte_at s at))

abbrev pub door_rows : List ℕ → List Row
door_rows s = end_rows (tier_count s) s (door_place s)

abbrev pub closed_rows : List ℕ → List Row
closed_rows s = end_rows (tier_count s) s (closed_place s)

-- 2 follows the last entry
abbrev pub ends_rows : List ℕ → List Row
ends_rows s = door_rows s then closed_rows s then row2 s (spare_place s) ∷ []

abbrev pub sheet_rows : List ℕ → List Row
sheet_rows s = head_rows s then tiers_rows s then ends_rows s

-- the first row that holds turns the sheet back; where none does, it is taken
unfoldable pub first : List Row → Reading
first [] = Ok tt
first (r ∷ rs) = cond r.holds (Err (numbers r.number r.second)) (first rs)

-- what is found where a reading turns nothing back
abbrev pub unless_refused : {A : Type 0} → Reading → A → Result A Refusal
unless_refused (Ok _) found = Ok found
unless_refused (Err why) found = Err why

-- a sheet decoded, where it is taken
unfoldable pub decoded : List ℕ → Result Sheet Refusal
decoded s = unless_refused (first (sheet_rows s)) (sheet_of s)

-- 13 comes last: what a call is turned back for that reads the sheet, then tests rows of its own, and needs so many bytes of an answer
-- buffer of `room`
unfoldable pub refusal_of : List ℕ → List Row → ℕ → ℕ → Reading
refusal_of s own needed room = first (sheet_rows s then own then row13 needed room ∷ [])

-- the check of a stack has no rows of its own, and needs this room, in which every answer fits
abbrev pub longest_answer : ℕ
longest_answer = 834

unfoldable pub refusal : List ℕ → ℕ → Reading
refusal s room = refusal_of s [] longest_answer room
