-- What a call is turned back for, from what decoding its sheet gives, its own rows and the room; the check is the case without own rows.
use Rattle.std.specs.Prelude.{Ok, Err}
use Prim.Native.Nat.{ℕ, ◌<◌, ◌≤◌}
use mathlib.Core.List.{List, [], ◌∷◌, ◌++◌}
use mathlib.Core.Path.{◌≡◌, refl, sym, ap, ◌∙◌}
use borrow.Author.Tests.{lt-ltb, le-ltb}
use Rattle.sheet.specs.declared.Sheet.{Sheet}
use Rattle.sheet.proofs.Results.{ok_is, err_is, err_not_ok}
use Rattle.sheet.specs.Refusals.{Reading}
use Rattle.sheet.specs.Layout.{sheet_of}
use Rattle.sheet.specs.Refusals.{Row, first, row13, sheet_rows, unless_refused, decoded, refusal_of, longest_answer, refusal}
use Rattle.sheet.proofs.Rows.{no_rows, row_holds, row_passed, or_else, first_append, behind_taken, behind_refused}
use Rattle.sheet.specs.declared.Refusal.{Refusal}
use Rattle.sheet.specs.Refusals.{numbers}

-- what decoding gives says what the sheet's rows do
module _ {A : Type 0} where
  pub taken_of : (r : Reading) {found held : A} → unless_refused r found ≡ Ok held → (r ≡ Ok tt) × (found ≡ held)
  taken_of (Ok _) e = (refl, ok_is e)
  taken_of (Err why) e = err_not_ok e

  pub refused_of : (r : Reading) (found : A) {why : Refusal} → unless_refused r found ≡ Err why → r ≡ Err why
  refused_of (Ok _) found e = err_not_ok (sym e)
  refused_of (Err q) found e = ap Err (err_is e)

module _ (s : List ℕ) where
  pub decoded_taken : {t : Sheet} → decoded s ≡ Ok t → (first (sheet_rows s) ≡ Ok tt) × (sheet_of s ≡ t)
  unfolding decoded
  decoded_taken e = taken_of (first (sheet_rows s)) e

  pub decoded_refused : {why : Refusal} → decoded s ≡ Err why → first (sheet_rows s) ≡ Err why
  unfolding decoded
  decoded_refused e = refused_of (first (sheet_rows s)) (sheet_of s) e

  pub decoded_by : first (sheet_rows s) ≡ Ok tt → decoded s ≡ Ok (sheet_of s)
  unfolding decoded
  decoded_by e = rw e

  pub decoded_not : {why : Refusal} → first (sheet_rows s) ≡ Err why → decoded s ≡ Err why
  unfolding decoded
  decoded_not e = rw e

-- where the first of two readings refuses nothing, neither did it alone
first_taken : (r q : Reading) → or_else r q ≡ Ok tt → r ≡ Ok tt
first_taken (Ok _) q e = refl
first_taken (Err why) q e = err_not_ok e

-- a call with rows of its own, which needs so many bytes of `room`
module _ (s : List ℕ) (own : List Row) (needed room : ℕ) where
  abbrev behind : List Row
  behind = own ++ (row13 needed room ∷ [])

  pub refusal_of_lem : refusal_of s own needed room ≡ or_else (first (sheet_rows s)) (first behind)
  unfolding refusal_of
  refusal_of_lem = first_append (sheet_rows s) behind

  -- the sheet is refused first
  pub refused_by_sheet : {why : Refusal} → first (sheet_rows s) ≡ Err why → refusal_of s own needed room ≡ Err why
  refused_by_sheet e = refusal_of_lem ∙ ap (λ r. or_else r (first behind)) e

  pub sheet_taken_of : refusal_of s own needed room ≡ Ok tt → first (sheet_rows s) ≡ Ok tt
  sheet_taken_of e = first_taken (first (sheet_rows s)) (first behind) (sym refusal_of_lem ∙ e)

  module _ (taken : first (sheet_rows s) ≡ Ok tt) where
    past_sheet : refusal_of s own needed room ≡ first behind
    past_sheet = refusal_of_lem ∙ ap (λ r. or_else r (first behind)) taken

    -- then a row of the call's own
    pub refused_by_own : {why : Refusal} → first own ≡ Err why → refusal_of s own needed room ≡ Err why
    refused_by_own e = past_sheet ∙ behind_refused own (row13 needed room ∷ []) e

    pub own_taken_of : refusal_of s own needed room ≡ Ok tt → first own ≡ Ok tt
    own_taken_of e =
        first_taken (first own) (first (row13 needed room ∷ [])) (sym (past_sheet ∙ first_append own (row13 needed room ∷ [])) ∙ e)

    module _ (clear : first own ≡ Ok tt) where
      pub last : refusal_of s own needed room ≡ first (row13 needed room ∷ [])
      last = past_sheet ∙ behind_taken own (row13 needed room ∷ []) clear

      -- then a short buffer
      pub refused_for_room : room < needed → refusal_of s own needed room ≡ Err (numbers 13 needed)
      refused_for_room h = last ∙ row_holds _ _ (lt-ltb room needed h)

      pub all_taken_of : needed ≤ room → refusal_of s own needed room ≡ Ok tt
      all_taken_of h = last ∙ row_passed _ _ (le-ltb room needed h) ∙ no_rows

-- the check
module _ (s : List ℕ) (room : ℕ) where
  is : refusal s room ≡ refusal_of s [] longest_answer room
  unfolding refusal
  is = refl

  pub sheet_refused : {why : Refusal} → first (sheet_rows s) ≡ Err why → refusal s room ≡ Err why
  sheet_refused e = is ∙ refused_by_sheet s [] longest_answer room e

  -- where a check is not refused, its sheet is not
  pub sheet_taken : refusal s room ≡ Ok tt → first (sheet_rows s) ≡ Ok tt
  sheet_taken e = sheet_taken_of s [] longest_answer room (sym is ∙ e)

  module _ (taken : first (sheet_rows s) ≡ Ok tt) where
    pub room_last : refusal s room ≡ first (row13 longest_answer room ∷ [])
    room_last = is ∙ last s [] longest_answer room taken no_rows

    pub room_short : room < longest_answer → refusal s room ≡ Err (numbers 13 longest_answer)
    room_short h = is ∙ refused_for_room s [] longest_answer room taken no_rows h

    pub all_taken : longest_answer ≤ room → refusal s room ≡ Ok tt
    all_taken h = is ∙ all_taken_of s [] longest_answer room taken no_rows h
