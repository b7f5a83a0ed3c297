-- The numbers read back from a side answer, and its length.
use Rattle.std.specs.Prelude.{Ok}
use Prim.Native.Nat.{ℕ, ◌+◌, ◌*◌}
use mathlib.Core.List.{List, [], ◌∷◌, ◌++◌}
use mathlib.Core.Path.{◌≡◌, refl, ap, subst, ◌∙◌}
use native.Mathlib.Omega.{arith}
use lib.ListN.{length, drop}
use Rattle.arith.specs.Bytes.{bytes4}
use Rattle.arith.specs.Lists.{counted}
use Rattle.sheet.specs.Refusals.{Reading}
use Rattle.sheet.specs.declared.Sheet.{Sheet}
use Rattle.sheet.specs.Layout.{tier_count, sheet_of}
use Rattle.sheet.specs.Fits.{Fits}
use Rattle.sheet.proofs.CallRefusals.{sheet_taken_of, own_taken_of}
use Rattle.sheet.proofs.TakenSheets.{taken_fits}
use Rattle.answer.proofs.ReadBack.{Stands, first_part, second_part, first_byte, number, section_length, the_count, the_entry}
use Rattle.side_walls.specs.SideWalls.{reported_racking, reported_shift, side_verdict, side_bytes}
use Rattle.side_walls.specs.Inner.Units.{Pitched}
use Rattle.side_walls.proofs.Most.{all_most}
use Rattle.side_parts.specs.ShortSheets.{pitch_rows}
use Rattle.side.specs.Sides.{longest_side, side_refusal, SidedAs, SideAnswered}
use Rattle.side.specs.Theorems.{SideReadBack, AllReadBack}
use Rattle.side_parts.proofs.ShortSheets.{pitched}

module _ (t : Sheet) (p : List ℕ) where
  abbrev entry : ℕ → List ℕ
  entry i = bytes4 (reported_racking t p i) ++ bytes4 (reported_shift t p i)

  pub side_length : length (side_bytes t p) ≡ 2 + 8 * t.ntiers
  unfolding side_bytes
  side_length = omega (arith, section_length entry 8 (λ i. refl) t.ntiers)

  module _ (f : Fits t) (h : Pitched t.ntiers p) (rest : List ℕ) where
    starts : Stands (side_bytes t p ++ rest) 0 ((side_verdict t p ∷ []) ++ counted t.ntiers entry)
    unfolding side_bytes
    starts = record { front = []; back = rest; split = refl; place = refl }

    tiers : Stands (side_bytes t p ++ rest) 1 (counted t.ntiers entry)
    tiers = second_part (side_verdict t p ∷ []) (counted t.ntiers entry) starts

    pub read_back : SideReadBack t p (side_bytes t p ++ rest)
    read_back =
        record {
          verdict = first_byte (side_verdict t p) (counted t.ntiers entry) starts;
          count = the_count entry 8 (λ i. refl) 1 t.ntiers tiers;
          racking =
              λ i q.
              let e = the_entry entry 8 (λ i. refl) 1 t.ntiers tiers i q in
              number (reported_racking t p i) (omega (arith, (all_most t p f h i q).0)) (first_part (bytes4 _) (bytes4 _) e);
          shift =
              λ i q.
              let e = the_entry entry 8 (λ i. refl) 1 t.ntiers tiers i q in
              number (reported_shift t p i) (omega (arith, (all_most t p f h i q).1)) (second_part (bytes4 _) (bytes4 _) e);
        }

-- a pair of sheets that is taken
module _ (s p : List ℕ) (room : ℕ) (e : side_refusal s p room ≡ Ok tt) where
  pub fits : Fits (sheet_of s)
  fits = taken_fits s (sheet_taken_of s (pitch_rows (tier_count s) p) longest_side room e)

  pub goes_with : Pitched (sheet_of s).ntiers p
  unfolding sheet_of
  goes_with =
      pitched (tier_count s) p
      (own_taken_of s (pitch_rows (tier_count s) p) longest_side room (sheet_taken_of s (pitch_rows (tier_count s) p) longest_side room e) e)

pub all_read_back : AllReadBack
all_read_back s p before after r e c =
    let a : SideAnswered (side_bytes (sheet_of s) p) before after r =
    subst (λ (q : Reading). SidedAs q (side_bytes (sheet_of s) p) before after r) e c.holds in
    let back = drop (length (side_bytes (sheet_of s) p)) before in (
      a.taken ∙ ap Ok (side_length (sheet_of s) p),
      rw a.written (read_back (sheet_of s) p (fits s p (length before) e) (goes_with s p (length before) e) back),
    )
