-- What is written for a sheet, from the case that the check returned.
use Rattle.std.specs.Prelude.{Ok, Err}
use Prim.Native.Nat.{ℕ, ◌≤◌}
use mathlib.Core.List.{List}
use mathlib.Core.Path.{◌≡◌, sym, ap, subst, ◌∙◌}
use native.Mathlib.Omega.{arith}
use lib.ListN.{length, take, drop}
use lib.Seq.{take_at}
use Rattle.sheet.specs.Refusals.{Reading}
use Rattle.sheet.specs.Layout.{sheet_of}
use Rattle.sheet.specs.Refusals.{refusal}
use Rattle.answer.specs.Outcomes.{Outcome}
use Rattle.statics.specs.Loads.{rule_of}
use Rattle.answer.specs.Checked.{AnswerTo, AnsweredAs, Checked, second}
use Rattle.answer.proofs.Numbers.{Numbers, two_numbers}
use Rattle.lashcheck.specs.Lines.{Line}
use Rattle.lashcheck.specs.Replies.{ReplyAs, Reply}
use Rattle.sheet.specs.declared.Refusal.{Refusal}
use Rattle.sheet.proofs.Results.{err_is, err_not_ok}

-- what the check returned, in a buffer of 834 bytes
module _ {margin : ℕ} {s before after : List ℕ} {o : Outcome} (room : length before ≡ 834) (c : Checked margin s before after o) where
  pub answer_fits : {n : ℕ} → o ≡ Ok n → n ≤ 834
  answer_fits is = (subst (Numbers 13) is (two_numbers c)).next

  by_refusal :
      {bytes : List ℕ} →
      ((q : Reading) → AnsweredAs q margin (rule_of (sheet_of s)) (sheet_of s) before after o → ReplyAs q margin (sheet_of s) bytes) →
      Reply margin s bytes
  by_refusal f =
      record {
        holds =
            f (refusal s 834)
            (subst (λ (n : ℕ). AnsweredAs (refusal s n) margin (rule_of (sheet_of s)) (sheet_of s) before after o) room c.holds);
      }

  pub reply_taken : {n : ℕ} → o ≡ Ok n → Reply margin s (take n after)
  reply_taken {n} is = by_refusal go
    where
      go :
          (q : Reading) →
          AnsweredAs q margin (rule_of (sheet_of s)) (sheet_of s) before after o →
          ReplyAs q margin (sheet_of s) (take n after)
      go (Err why) h = err_not_ok (sym h.refused ∙ is)
      go (Ok _) h =
          let size : n ≡ length h.bytes = ap second (sym is ∙ h.taken) in
          subst (AnswerTo margin (rule_of (sheet_of s)) (sheet_of s))
          (sym (ap (take n) h.written ∙ take_at h.bytes (drop (length h.bytes) before) n (sym size))) h.answer

  pub reply_refused : {why : Refusal} {bytes : List ℕ} → o ≡ Err why → Line why.number why.second bytes → Reply margin s bytes
  reply_refused {why} {bytes} is line = by_refusal go
    where
      go : (x : Reading) → AnsweredAs x margin (rule_of (sheet_of s)) (sheet_of s) before after o → ReplyAs x margin (sheet_of s) bytes
      go (Err other) h = subst (λ (w : Refusal). Line w.number w.second bytes) (err_is (sym is ∙ h.refused)) line
      go (Ok _) h = err_not_ok (sym is ∙ h.taken)
