-- What the program writes for the first 452 bytes of an input is what it would write for all of it.
use Rattle.std.specs.Prelude.{Ok, Err}
use Prim.Native.Nat.{ℕ}
use mathlib.Core.List.{List}
use mathlib.Core.Path.{◌≡◌, refl, sym, ap, subst, ◌∙◌}
use lib.ListN.{take}
use Rattle.sheet.specs.Refusals.{Reading}
use Rattle.sheet.specs.declared.Sheet.{Sheet}
use Rattle.sheet.specs.Layout.{sheet_of}
use Rattle.sheet.specs.Refusals.{refusal}
use Rattle.sheet.proofs.FirstBytes.{first_452, refusal_452}
use Rattle.sheet.proofs.CallRefusals.{decoded_taken, decoded_by, sheet_taken}
use Rattle.statics.specs.Loads.{rule_of}
use Rattle.answer.specs.Checked.{AnswerTo}
use Rattle.lashcheck.specs.Replies.{ReplyAs, Reply}

module _ (s : List ℕ) where
  abbrev start : List ℕ
  start = take 452 s

  same_sheet : (room : ℕ) → refusal start room ≡ Ok tt → sheet_of start ≡ sheet_of s
  same_sheet room e = sym (decoded_taken s (sym (first_452 s) ∙ decoded_by start (sheet_taken start room e))).1

  pub whole_input : {margin : ℕ} {bytes : List ℕ} → Reply margin start bytes → Reply margin s bytes
  whole_input {margin} {bytes} r = record { holds = rw (refusal_452 s 834) at (go (refusal start 834) refl r.holds) }
    where
      go : (q : Reading) → refusal start 834 ≡ q → ReplyAs q margin (sheet_of start) bytes → ReplyAs q margin (sheet_of s) bytes
      go (Err why) e h = h
      go (Ok _) e h = subst (λ (t : Sheet). AnswerTo margin (rule_of t) t bytes) (same_sheet 834 e) h
