-- The call's steps from the last: a short buffer, a short sheet turned back, a sheet turned back; and what is answered else.
use Rattle.std.specs.Prelude.{Ok, Err}
use Prim.Native.Nat.{ℕ, ◌<◌, ◌≤◌}
use mathlib.Core.List.{List, []}
use mathlib.Core.Path.{◌≡◌, refl, sym, ap, subst, ◌∙◌}
use native.Mathlib.Nat.{zero-add}
use borrow.Author.Tests.{lt-ltb, le-ltb}
use lib.ListN.{length}
use Rattle.sheet.specs.declared.Refusal.{Refusal}
use Rattle.sheet.specs.declared.Sheet.{Sheet}
use Rattle.sheet.specs.Layout.{tier_count, sheet_of}
use Rattle.sheet.specs.Refusals.{Reading, numbers, first, decoded}
use Rattle.sheet.proofs.CallRefusals.{decoded_taken, decoded_refused, refusal_of_lem, refused_by_sheet}
use Rattle.sheet.proofs.Rows.{no_rows, row_holds, row_passed, or_else, behind_taken, behind_refused}
use Rattle.answer.specs.Outcomes.{Outcome}
use Rattle.answer_write.specs.Inner.Encoding.{Wrote}
use Rattle.answer_write.proofs.Stores.{from_start}
use Rattle.side_walls.specs.SideWalls.{side_bytes}
use Rattle.side_parts.specs.ShortSheets.{pitch_rows}
use Rattle.side.specs.Sides.{longest_side, side_refusal, Sided}
use Rattle.side.specs.Inner.Steps.{own_reading, room_reading, Settled}

by_same :
    {q w : Reading} {t : Sheet} {p before after : List ℕ} {r : Outcome} →
    w ≡ q →
    Settled q t p before after r →
    Settled w t p before after r
by_same {q} {w} {t} {p} {before} {after} {r} e h = subst (λ (x : Reading). Settled x t p before after r) (sym e) h

turned_back : {t : Sheet} {p before : List ℕ} {why : Refusal} → Settled (Err why) t p before before (Err why)
turned_back = record { holds = record { refused = refl; untouched = refl } }

module _ (t : Sheet) (p before : List ℕ) where
  abbrev room : ℕ
  room = length before

  -- the room
  pub short : room < longest_side → Settled (room_reading room) t p before before (Err (numbers 13 longest_side))
  short h = by_same (row_holds _ [] (lt-ltb room longest_side h)) turned_back

  pub answered :
      {after : List ℕ} {next : ℕ} →
      longest_side ≤ room →
      Wrote before 0 (side_bytes t p) after next →
      next ≤ room →
      Settled (room_reading room) t p before after (Ok next)
  answered h w l =
      by_same (row_passed _ [] (le-ltb room longest_side h) ∙ no_rows)
      (record { holds = record { taken = ap Ok (w.place ∙ zero-add _); written = from_start w l } })

  -- the short sheet
  pub pitch_refused :
      {why : Refusal} →
      first (pitch_rows t.ntiers p) ≡ Err why →
      Settled (own_reading t.ntiers p room) t p before before (Err why)
  pitch_refused e = by_same (behind_refused (pitch_rows t.ntiers p) _ e) turned_back

  pub pitch_taken :
      {after : List ℕ} {r : Outcome} →
      first (pitch_rows t.ntiers p) ≡ Ok tt →
      Settled (room_reading room) t p before after r →
      Settled (own_reading t.ntiers p room) t p before after r
  pitch_taken e h = by_same (behind_taken (pitch_rows t.ntiers p) _ e) h

-- the stack sheet
module _ (s p before : List ℕ) where
  sided :
      {after : List ℕ} {r : Outcome} →
      Settled (side_refusal s p (length before)) (sheet_of s) p before after r →
      Sided s p before after r
  sided h = record { holds = h.holds }

  pub sheet_refused : {why : Refusal} → decoded s ≡ Err why → Sided s p before before (Err why)
  sheet_refused e =
      sided (by_same (refused_by_sheet s (pitch_rows (tier_count s) p) longest_side (length before) (decoded_refused s e)) turned_back)

  module _ {t : Sheet} (e : decoded s ≡ Ok t) where
    past_sheet : side_refusal s p (length before) ≡ own_reading (sheet_of s).ntiers p (length before)
    unfolding sheet_of
    past_sheet =
        refusal_of_lem s (pitch_rows (tier_count s) p) longest_side (length before)
        ∙ ap (λ (q : Reading). or_else q (own_reading (tier_count s) p (length before))) (decoded_taken s e).0

    pub sheet_taken :
        {after : List ℕ} {r : Outcome} →
        Settled (own_reading t.ntiers p (length before)) t p before after r →
        Sided s p before after r
    sheet_taken {after} {r} h =
        let held =
        subst (λ (x : Sheet). Settled (own_reading x.ntiers p (length before)) x p before after r) (sym (decoded_taken s e).1) h
        in
        sided (by_same past_sheet held)
