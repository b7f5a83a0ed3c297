-- The call's steps from the last: a short buffer, a gear section turned back, a sheet that holds a lash, a sheet turned back; and what is
-- listed else.
use Rattle.std.specs.Prelude.{Ok, Err}
use Prim.Native.Nat.{ℕ, ◌<◌, ◌≤◌}
use mathlib.Core.Bool.{true, false, ◌||◌}
use mathlib.Core.List.{List, [], ◌∷◌, ◌++◌}
use mathlib.Core.Path.{◌≡◌, refl, sym, ap, ap₂, subst, ◌∙◌}
use native.Mathlib.Nat.{zero-add}
use native.Mathlib.Omega.{arith}
use borrow.Author.Tests.{lt-ltb, le-ltb}
use lib.ListN.{length, get_or, take}
use Rattle.sheet.specs.declared.Lash.{Lash}
use Rattle.sheet.specs.Refusals.{Reading}
use Rattle.sheet.specs.declared.Sheet.{Sheet}
use Rattle.sheet.specs.Ends.{door}
use Rattle.sheet.specs.Fits.{Fits}
use Rattle.sheet.specs.Layout.{blank_lash, ◌above◌}
use Rattle.sheet.specs.Refusals.{row13, first}
use Rattle.sheet.specs.Inner.Limits.{LashLimits}
use Rattle.sheet.proofs.Limits.{lash_wider}
use Rattle.sheet.proofs.Rows.{no_rows, row_holds, row_passed, behind_taken, behind_refused}
use Rattle.sheet.proofs.SheetLimits.{sheet_limits}
use Rattle.answer.specs.Outcomes.{Outcome}
use Rattle.answer_write.specs.Inner.Encoding.{Wrote}
use Rattle.answer_write.proofs.Stores.{from_start}
use Rattle.gear.specs.declared.Gear.{Gear}
use Rattle.gear.specs.Gear.{gear_lashes, row24, gear_rows, gear_of, gear_decoded, with_lashes}
use Rattle.gear.proofs.Section
use Rattle.gear.proofs.Section.{section_fits}
use Rattle.gear.proofs.Subsets.{with_lashes_fit, no_choice_refused, alike_at_both_ends}
use Rattle.arrangements.specs.Arrangements.{longest_list}
use Rattle.arrangements.specs.Inner.Named.{list_for, Aboard, gear_reading, room_reading, Settled}
use Rattle.sheet.specs.declared.Refusal.{Refusal}
use Rattle.sheet.specs.Refusals.{numbers}

by_same :
    {q w : Reading} {bytes before after : List ℕ} {r : Outcome} → w ≡ q → Settled q bytes before after r → Settled w bytes before after r
by_same {q} {w} {bytes} {before} {after} {r} e h = subst (λ (x : Reading). Settled x bytes before after r) (sym e) h

turned_back : {bytes before : List ℕ} {why : Refusal} → Settled (Err why) bytes before before (Err why)
turned_back = record { returns = refl; writes = refl }

-- the room
module _ (bytes before : List ℕ) where
  pub short : length before < longest_list → Settled (room_reading (length before)) bytes before before (Err (numbers 13 longest_list))
  short h = by_same (row_holds _ [] (lt-ltb (length before) longest_list h)) turned_back

  pub listed :
      {after : List ℕ} {next : ℕ} →
      longest_list ≤ length before →
      Wrote before 0 bytes after next →
      next ≤ longest_list →
      Settled (room_reading (length before)) bytes before after (Ok next)
  listed h w l =
      by_same (row_passed _ [] (le-ltb (length before) longest_list h) ∙ no_rows)
      (record { returns = ap Ok (w.place ∙ zero-add _); writes = from_start w (omega arith) })

-- lashes of a section that is taken are aboard
module _ {t : Sheet} (f : Fits t) (g : List ℕ) (taken : first (gear_rows t.ntiers g) ≡ Ok tt) where
  with_all : Fits (with_lashes (gear_lashes g) t)
  with_all = with_lashes_fit f (gear_lashes g) (section_fits t.ntiers g taken)

  each : (j : ℕ) → j < length (gear_lashes g) → LashLimits 10 (get_or (gear_lashes g) j blank_lash)
  each j h =
      lash_wider f.few
      ((rw (alike_at_both_ends t (gear_lashes g) door) at ((sheet_limits with_all).ends door).each) j h)

  pub aboard : Aboard t (length (gear_lashes g)) (gear_lashes g)
  aboard =
      record {
        few = (section_fits t.ntiers g taken).few;
        counted = refl;
        each = each;
        fits = λ c. no_choice_refused t g c f taken;
      }

-- a sheet that holds a lash, and the gear section
module _ (t : Sheet) (g before : List ℕ) where
  abbrev room : ℕ
  room = length before

  abbrev bytes : List ℕ
  bytes = list_for t (gear_lashes g)

  pub lash_held : t.ndoor above 0 || t.nclosed above 0 ≡ true → Settled (gear_reading t g room) bytes before before (Err (numbers 24 0))
  lash_held e = by_same (row_holds (row24 t) _ e) turned_back

  module _ (none : t.ndoor above 0 || t.nclosed above 0 ≡ false) where
    past_24 : gear_reading t g room ≡ first (gear_rows t.ntiers g ++ (row13 longest_list room ∷ []))
    past_24 = row_passed (row24 t) _ none

    pub gear_refused : {why : Refusal} → gear_decoded t.ntiers g ≡ Err why → Settled (gear_reading t g room) bytes before before (Err why)
    gear_refused e = by_same (past_24 ∙ behind_refused (gear_rows t.ntiers g) _ (Section.gear_refused t.ntiers g e)) turned_back

    module _ {d : Gear} (e : gear_decoded t.ntiers g ≡ Ok d) where
      taken : first (gear_rows t.ntiers g) ≡ Ok tt
      taken = (Section.gear_taken t.ntiers g e).0

      is : gear_of (gear_lashes g) ≡ d
      is = (Section.gear_taken t.ntiers g e).1

      held : take d.count d.lashes ≡ gear_lashes g
      held = ap (λ (x : Gear). take x.count x.lashes) (sym is) ∙ alike_at_both_ends t (gear_lashes g) door

      counted : d.count ≡ length (gear_lashes g)
      counted = ap (λ (x : Gear). x.count) (sym is)

      pub gear_aboard : Fits t → Aboard t d.count (take d.count d.lashes)
      gear_aboard f =
          subst (λ (l : List Lash). Aboard t d.count l) (sym held)
          (subst (λ (n : ℕ). Aboard t n (gear_lashes g)) (sym counted) (aboard f g taken))

      pub gear_taken :
          {after : List ℕ} {r : Outcome} →
          Settled (room_reading room) (list_for t (take d.count d.lashes)) before after r →
          Settled (gear_reading t g room) bytes before after r
      gear_taken {after} {r} h =
          by_same (past_24 ∙ behind_taken (gear_rows t.ntiers g) _ taken)
          (subst (λ (l : List Lash). Settled (room_reading room) (list_for t l) before after r) held h)
