-- The two numbers that the call returns: 0 to 15, and at most 834.
use Rattle.std.specs.Prelude.{Ok, Err}
use Prim.Native.Nat.{ℕ, zero, suc, ◌+◌, ◌≤◌}
use mathlib.Core.List.{List, [], ◌∷◌, flat_map}
use mathlib.Core.Path.{◌≡◌, refl, sym, subst}
use native.Mathlib.Omega.{arith}
use lib.Dec.{lit≤}
use lib.ListN.{length}
use Rattle.arith.specs.Lists.{from}
use Rattle.sheet.specs.Layout.{tier_count, sheet_of}
use Rattle.sheet.specs.Refusals.{Reading, row13, first, sheet_rows}
use Rattle.sheet.proofs.Numbers.{sheet_numbers}
use Rattle.sheet.proofs.CallRefusals.{refusal_of_lem}
use Rattle.sheet.proofs.Rows.{or_else}
use Rattle.sheet.proofs.TakenSheets.{taken_fits}
use Rattle.answer.specs.Outcomes.{Outcome}
use Rattle.answer.proofs.Numbers.{Numbers, Small, Each, first_small, each_join}
use Rattle.side_walls.specs.SideWalls.{side_bytes}
use Rattle.side_parts.specs.ShortSheets.{row15, pitch_rows}
use Rattle.side.specs.Sides.{longest_side, side_refusal, SidedAs, Sided}
use Rattle.side.specs.Inner.Steps.{own_reading}
use Rattle.side.proofs.ReadBack.{side_length, fits}

each_tier : (p : List ℕ) (i left : ℕ) → i + left ≤ 10 → Each 15 (flat_map (λ k. row15 p k ∷ []) (from i left))
unfolding flat_map from
each_tier p i zero h = tt
each_tier p i (suc left) h = ((lit≤ tt, lit≤ tt, omega arith), each_tier p (suc i) left (omega arith))

own_small : (n : ℕ) (p : List ℕ) (room : ℕ) → n ≤ 10 → Small 15 (own_reading n p room)
own_small n p room h =
    first_small 15 _
    (each_join 15 (pitch_rows n p) (row13 longest_side room ∷ []) ((lit≤ tt, lit≤ tt, lit≤ tt), each_tier p 0 n (omega arith))
    ((lit≤ tt, lit≤ tt, lit≤ tt), tt))

module _ (s p : List ℕ) (room : ℕ) where
  refusal_small : Small 15 (side_refusal s p room)
  unfolding sheet_of
  refusal_small =
      subst (Small 15) (sym (refusal_of_lem s (pitch_rows (tier_count s) p) longest_side room)) (go (first (sheet_rows s)) refl)
    where
      go : (q : Reading) → first (sheet_rows s) ≡ q → Small 15 (or_else q (own_reading (tier_count s) p room))
      go (Ok _) e = own_small (tier_count s) p room (taken_fits s e).few
      go (Err why) e =
          let w = sheet_numbers s e in
          (w.0, omega (arith, w.1), omega (arith, w.2))

pub side_numbers : {s p before after : List ℕ} {r : Outcome} → Sided s p before after r → Numbers 15 r
side_numbers {s} {p} {before} {after} {r} c = go (side_refusal s p (length before)) refl (refusal_small s p (length before)) c.holds
  where
    go :
        (q : Reading) →
        side_refusal s p (length before) ≡ q →
        Small 15 q →
        SidedAs q (side_bytes (sheet_of s) p) before after r →
        Numbers 15 r
    go (Err why) e w h = rw h.refused (record { first = w.1; next = w.2 })
    go (Ok _) e w h =
        let few = (fits s p (length before) e).few in
        rw (h.taken, side_length (sheet_of s) p) (record { first = omega arith; next = omega arith })
