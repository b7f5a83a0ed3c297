-- The theorems of lists.
use Rattle.std.specs.Prelude.{Ok, Err}
use Prim.Native.Nat.{ℕ, ◌+◌, ◌*◌, ◌/◌, ◌%◌, ◌^◌, ◌<◌, ◌≤◌}
use mathlib.Core.List.{List, [], ◌∷◌, ◌++◌, Memᴰ}
use mathlib.Core.Path.{◌≡◌, refl, sym, ap, subst, ◌∙◌}
use native.Mathlib.Omega.{arith}
use borrow.Author.Tests.{eq-eqb, eqb-true}
use lib.ListN.{length, get_or, take, drop}
use lib.Seq.{take_at}
use Rattle.arith.specs.Bytes.{byte_at}
use Rattle.sheet.specs.Refusals.{first, sheet_rows, Reading}
use Rattle.sheet.specs.declared.Sheet.{Sheet}
use Rattle.sheet.specs.Layout.{sheet_of, ◌is◌}
use Rattle.sheet.specs.Refusals.{decoded, longest_answer}
use Rattle.sheet.proofs.CallRefusals.{decoded_taken, all_taken}
use Rattle.statics.specs.Loads.{Rule, rule_of}
use Rattle.answer.specs.Outcomes.{Outcome}
use Rattle.answer.specs.Answers.{answer_bytes}
use Rattle.answer.specs.Checked.{AnswerTo, kept, demanded}
use Rattle.answer.specs.Consequences.{WithinLimits}
use Rattle.answer.specs.Findings.{Finding, findings, verdict}
use Rattle.answer.specs.Inner.Named as N
use Rattle.answer.proofs.Accepted.{accepted, found}
use Rattle.answer.proofs.Theorems as A
use Rattle.choices.specs.Choices.{choices, Before}
use Rattle.choices.specs.Theorems.{Stands}
use Rattle.choices.proofs.InOrder.{all_ranked}
use Rattle.choices.proofs.Once.{all_once}
use Rattle.choices.proofs.Ranked.{ranked_at}
use Rattle.gear.specs.Bytes.{InBytes, bytes_with}
use Rattle.gear.specs.Gear.{gear_count, gear_lashes}
use Rattle.gear.proofs.Section.{few}
use Rattle.gear.proofs.ChoiceInBytes.{choice_in_bytes}
use Rattle.arrangements.specs.Arrangements.{list_refusal, with_choice, accepted_by, list_bytes, ListWritten}
use Rattle.arrangements.specs.Theorems.{listed_in, SomeNear, SaysOfEach, CheckedAlone, Theorems}
use Rattle.arrangements.specs.Inner.Named.{answer_with, list_for, list_written}
use Rattle.arrangements.proofs.Named.{sheet_is_taken, gear_is_taken, choice_fits, list_named, list_by_count}
use Rattle.arrangements.proofs.Numbers.{list_short, list_numbers}
use Rattle.arrangements.proofs.Standing.{stands_among, among_stands, ranked_among}

-- an answer by its verdict byte
module _ {margin : ℕ} (rule : Rule) (t : Sheet) {bytes : List ℕ} (a : AnswerTo margin rule t bytes) where
  verdict_is : byte_at bytes 0 ≡ verdict (findings t a.figures)
  unfolding answer_bytes
  verdict_is = ap (λ (b : List ℕ). byte_at b 0) a.encoded

  within : byte_at bytes 0 ≡ 0 → WithinLimits rule t
  within e = accepted t a.figures a.reports (sym verdict_is ∙ e)

  near : (byte_at bytes 0 ≡ 0 → ⊥) → SomeNear margin rule t
  near ne = go (findings t a.figures) refl
    where
      go : (fs : List Finding) → findings t a.figures ≡ fs → SomeNear margin rule t
      go [] e = absurd (ne (verdict_is ∙ ap verdict e))
      go (x ∷ fs) e =
          record { finding = x; near = found t a.figures a.reports x (subst (Memᴰ x) (sym e) (Memᴰ.head refl)) }

wide : (rule : Rule) (t : Sheet) {bytes : List ℕ} → AnswerTo kept rule t bytes → AnswerTo demanded rule t bytes
wide rule t {bytes} a = (A.theorems).answer_wider kept demanded (omega arith) rule t bytes a

-- the choices read back from a list
count_back : (n : ℕ) → n < 65536 → n % 256 + 256 * (n / 256 % 256) ≡ n
count_back n h = omega arith

read_back :
    (answer : ℕ → List ℕ) (m : ℕ) →
    m ≤ 8 →
    {list : List ℕ} (rest : List ℕ) →
    list ≡ list_bytes answer m ++ rest →
    listed_in list ≡ accepted_by answer m
unfolding list_bytes
read_back answer m h {list} rest e =
    let cs = accepted_by answer m in
    let small : length cs < 65536 = omega (arith, list_short answer m h) in
    ap listed_in e
    ∙ ap (λ (n : ℕ). take n (cs ++ rest)) (count_back (length cs) small)
    ∙ take_at cs rest (length cs) refl

-- what is said of each
module _ (s g before : List ℕ) (e : list_refusal s g (length before) ≡ Ok tt) where
  abbrev m : ℕ
  m = gear_count g

  few_aboard : m ≤ 8
  few_aboard = few (sheet_of s).ntiers g (gear_is_taken s g (length before) e)

  in_choices : (answer : ℕ → List ℕ) {c : ℕ} → Stands c (accepted_by answer m) → (byte_at (answer c) 0 ≡ 0) × (c < 2 ^ m)
  in_choices answer {c} k =
      let w = among_stands (λ c. byte_at (answer c) 0 is 0) (choices m) k in (
        eqb-true (byte_at (answer c) 0) 0 w.0,
        subst (λ (n : ℕ). n < 2 ^ m) w.1.there ((all_once m).only w.1.place w.1.listed),
      )

  stands_there : (answer : ℕ → List ℕ) {c : ℕ} → c < 2 ^ m → byte_at (answer c) 0 ≡ 0 → Stands c (accepted_by answer m)
  stands_there answer {c} h k =
      stands_among (λ c. byte_at (answer c) 0 is 0) (choices m) (eq-eqb (byte_at (answer c) 0) 0 k) ((all_once m).each c h)

  module _ {after : List ℕ} {r : Outcome} (w : ListWritten kept s g before after r) where
    back : listed_in after ≡ accepted_by w.answer m
    back = read_back w.answer m few_aboard _ w.written

    says_of_each : SaysOfEach s g after
    says_of_each =
        record {
          only = λ c k. (in_choices w.answer (subst (Stands c) back k)).1;
          listed =
              λ c k.
              let q = in_choices w.answer (subst (Stands c) back k) in
              within (rule_of (with_choice s g c)) (with_choice s g c) (w.answers c q.1) q.0;
          other =
              λ c h ne.
              near (rule_of (with_choice s g c)) (with_choice s g c) (wide (rule_of (with_choice s g c)) (with_choice s g c) (w.answers c h))
              (λ v. ne (subst (Stands c) (sym back) (stands_there w.answer h v)));
          in_order =
              subst (λ (l : List ℕ). (i j : ℕ) → i < j → j < length l → Before m (get_or l i 0) (get_or l j 0)) (sym back)
              (ranked_at (Before m) 0 (accepted_by w.answer m) (ranked_among _ (Before m) (choices m) (all_ranked m)));
        }

-- the plain check of the sheet with a choice
module _ (s g before : List ℕ) (c : ℕ) (answer : List ℕ) (in-sheet : InBytes s) (in-gear : InBytes g)
    (e : list_refusal s g (length before) ≡ Ok tt)
    (h : c < 2 ^ gear_count g)
    (room : longest_answer ≤ length answer) where
  abbrev bytes : List ℕ
  bytes = bytes_with s g c

  held : decoded bytes ≡ Ok (with_choice s g c)
  unfolding sheet_of
  held = choice_in_bytes s g c in-sheet in-gear (sheet_is_taken s g (length before) e) (gear_is_taken s g (length before) e)

  taken : first (sheet_rows bytes) ≡ Ok tt
  taken = (decoded_taken bytes held).0

  same : sheet_of bytes ≡ with_choice s g c
  same = (decoded_taken bytes held).1

  verdict_same : byte_at (N.written bytes answer) 0 ≡ byte_at (answer_with (sheet_of s) (gear_lashes g) c) 0
  unfolding N.written answer_bytes
  verdict_same = rw (all_taken bytes (length answer) taken room, same) refl

  abbrev with_each : ℕ → List ℕ
  with_each = answer_with (sheet_of s) (gear_lashes g)

  listed_are : listed_in (list_written s g before) ≡ accepted_by with_each (gear_count g)
  unfolding list_written
  listed_are =
      let list = list_for (sheet_of s) (gear_lashes g) in
      read_back with_each (gear_count g) (few_aboard s g before e) (drop (length list) before)
      (ap (λ (q : Reading). N.written_as q list before) e ∙ ap (λ (b : List ℕ). b ++ drop (length list) before) (list_by_count s g))

  alone : CheckedAlone s g before c answer
  alone =
      record {
        listed = λ k. verdict_same ∙ (in_choices s g before e with_each (subst (Stands c) listed_are k)).0;
        accepted = λ v. subst (Stands c) (sym listed_are) (stands_there s g before e with_each h (sym verdict_same ∙ v));
      }

pub theorems : Theorems
theorems =
    record {
      list_named = list_named;
      numbers = λ margin s g before after r w. ((list_numbers w).first, (list_numbers w).next);
      choice_fits = λ s g room c e. choice_fits s g room e c;
      says_of_each = λ s g before after r e w. says_of_each s g before e w;
      alone = λ s g before c answer in-sheet in-gear e h room. alone s g before c answer in-sheet in-gear e h room;
    }
