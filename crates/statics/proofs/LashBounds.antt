-- The lash forces of an end of a taken sheet, at shifts not to windward: parts of the athwart parts' sum, which the loads bound.
use mathlib.Core.Path.{◌≡◌, refl, sym, ap, ap₂, ◌∙◌}
use mathlib.Core.Bool.{Bool, true, false}
use mathlib.Core.List.{List, [], ◌∷◌}
use Prim.Native.Nat.{ℕ, zero, suc, ◌*◌, ◌≤◌, ◌<◌}
use native.Mathlib.Omega.{arith}
use lib.Dec.{leb, ltb}
use lib.ListN.{get_or, length}
use lib.IntN.{pos}
use borrow.Author.Tests.{le-leb, ltb-true}
use Rattle.sheet.specs.Layout.{blank_lash}
use Rattle.arith.specs.Fractions.{Frac, nat, ◌+q◌, ◌-q◌, ◌*q◌, sumq}
use Rattle.arith.proofs.Rings.{∀₁, ∀₂, ∀₃, ∀₄, ∀₅, by_cert, to, num, ◌⊞◌, ◌⊠◌}
use Rattle.arith.proofs.Rationals.{ℚR, ℚ, mk, ◌+ℚ◌, ◌-ℚ◌, ◌*ℚ◌, ◌/ℚ◌, recipℚ, ◌≤ℚ◌, <→≤, nn_int, nn_plus, nn_times, recip_nn}
use Rattle.arith.proofs.RationalTerms.{qq}
use Rattle.arith.proofs.RationalOrder.{nat_q}
use Rattle.arith.proofs.FractionsInRationals.{mk_int, mk_add, mk_sub, mk_mul, of-⊏}
use Rattle.springs.specs.Equations as S
use Rattle.springs.specs.Equations.{given}
use Rattle.springs.proofs.Chain.{natℚ}
use Rattle.sheet.specs.declared.Tier.{Tier}
use Rattle.sheet.specs.declared.Lash.{Lash}
use Rattle.sheet.specs.declared.Lashing.{Lashing}
use Rattle.sheet.specs.declared.Lashing.TheVariants.{Cross, Side}
use Rattle.sheet.specs.Lashings.{lashing_of, level_of}
use Rattle.statics.specs.Lashes.{lash_length, pull, athwart_part, vertical_part}
use Rattle.statics.specs.Ends.{chain_lash, chain_lashes}
use Rattle.statics.specs.Posts.{level_height, athwart_of, on_lee, on_windward, verticals}
use Rattle.sheet.specs.Inner.Limits.{LashLimits}
use Rattle.statics.proofs.LashLength.{length_above, length_ratio, vertical_ratio}
use Rattle.statics.proofs.LashForces.{stiffness, athwart_is, pull_is, vertical_is}
use Rattle.statics.proofs.Scales.{share_most}
use Rattle.statics.proofs.WholeNumbers.{nat_times}
use Rattle.statics.proofs.LashStiffness.{stiffness_above}
use Rattle.statics.proofs.EachLash.{Each, each_first, each_rest}
use Rattle.statics.proofs.LoadBounds.{EachTier, height_most, height_rises}
use Rattle.statics.proofs.Within.{UpTo}

-- not below 0 and at most k times the whole
pub record PartOf (k : ℕ) (whole x : Frac) : Type 0 where
  pub least : natℚ 0 ≤ℚ mk x
  pub most : mk x ≤ℚ natℚ k *ℚ mk whole

pub part_up : {k b : ℕ} {whole x : Frac} → UpTo b whole → PartOf k whole x → UpTo (k * b) x
part_up {k} {b} {whole} {x} u p =
    record {
      least = p.least;
      most = rw nat_times (go (mk x) (natℚ k) (mk whole) (natℚ b) p.most (nn_int k) u.most);
    }
  where
    go : (x k w b : ℚ) → x ≤ℚ k *ℚ w → natℚ 0 ≤ℚ k → w ≤ℚ b → x ≤ℚ k *ℚ b
    go = ∀₄ ℚR _ λ ρ. simp qq λ h z l. by_cert (to h ⊞ to z ⊠ to l) tt

part_none : {k : ℕ} {whole : Frac} → natℚ 0 ≤ℚ mk whole → PartOf k whole (nat 0)
part_none {k} {whole} h =
    record {
      least = rw (mk_int (pos 0)) (nn_int 0);
      most = rw (mk_int (pos 0)) (nn_times (natℚ k) (mk whole) (nn_int k) h);
    }

part_given : {k : ℕ} {whole x : Frac} (c : Bool) →
    natℚ 0 ≤ℚ mk whole →
    (c ≡ true → PartOf k whole x) →
    PartOf k whole (given c x)
part_given true h p = p refl
part_given false h p = part_none h

part_sum : {k : ℕ} {a b x y : Frac} → PartOf k a x → PartOf k b y → PartOf k (a +q b) (x +q y)
part_sum {k} {a} {b} {x} {y} p q =
    record {
      least = rw (mk_add x y) (nn_plus (mk x) (mk y) p.least q.least);
      most = rw (mk_add x y, mk_add a b) (most (natℚ k) (mk a) (mk b) (mk x) (mk y) p.most q.most);
    }
  where
    most : (k a b x y : ℚ) → x ≤ℚ k *ℚ a → y ≤ℚ k *ℚ b → x +ℚ y ≤ℚ k *ℚ (a +ℚ b)
    most = ∀₅ ℚR _ λ ρ. simp qq λ h l. by_cert (to h ⊞ to l) tt

module _ (n : ℕ) (Ds : List Frac) (lee : (i : ℕ) → natℚ 0 ≤ℚ mk (S.shift Ds i)) where
  -- the shift of a lash's hook
  abbrev at : Lash → Frac
  at l = S.shift Ds (level_of l)

  part_least : (l : Lash) → LashLimits n l → natℚ 0 ≤ℚ mk (athwart_of Ds l)
  part_least l f =
      rw (athwart_is l (at l))
      (nn_times (stiffness l) (mk (at l)) (rw (mk_int (pos 0)) at (<→≤ (of-⊏ (nat 0) (athwart_part l (nat 1)) (stiffness_above l f))))
      (lee (level_of l)))

  -- all athwart parts
  abbrev pub all_parts : List Lash → Frac
  all_parts ls = sumq (athwart_of Ds) ls

  -- parts of each lash's athwart part add up to a part of all
  pub sum_part : {k : ℕ} (g : Lash → Frac) →
      ((l : Lash) → LashLimits n l → PartOf k (athwart_of Ds l) (g l)) →
      (ls : List Lash) →
      Each n ls →
      PartOf k (all_parts ls) (sumq g ls)
  unfolding sumq
  sum_part g h [] f = part_none (rw (mk_int (pos 0)) (nn_int 0))
  sum_part g h (l ∷ ls) f = part_sum (h l (each_first f)) (sum_part g h ls (each_rest f))

  -- an athwart part of its own
  part_same : {A x : Frac} → natℚ 0 ≤ℚ mk A → mk x ≡ mk A → PartOf 1 A x
  part_same {A} h e = record { least = rw e h; most = rw e (one (mk A)) }
    where
      one : (x : ℚ) → x ≤ℚ natℚ 1 *ℚ x
      one = ∀₁ ℚR _ λ ρ. simp qq (by_cert (num 0) tt)

  pub all_least : (ls : List Lash) → Each n ls → natℚ 0 ≤ℚ mk (all_parts ls)
  all_least ls f = (sum_part (athwart_of Ds) (λ l lf. part_same (part_least l lf) refl) ls f).least

  pub one_part : (ls : List Lash) →
      Each n ls →
      (j : ℕ) →
      j < length ls →
      PartOf 1 (all_parts ls) (athwart_of Ds (get_or ls j blank_lash))
  unfolding sumq
  one_part [] f j h = absurd (off h)
    where
      off : j < 0 → ⊥
      off x = omega arith
  one_part (l ∷ ls) f zero h =
      record {
        least = part_least l (each_first f);
        most = rw (mk_add (athwart_of Ds l) (all_parts ls)) (go (mk (athwart_of Ds l)) (mk (all_parts ls)) (all_least ls (each_rest f)));
      }
    where
      go : (x y : ℚ) → natℚ 0 ≤ℚ y → x ≤ℚ natℚ 1 *ℚ (x +ℚ y)
      go = ∀₂ ℚR _ λ ρ. simp qq λ h. by_cert (to h) tt
  one_part (l ∷ ls) f (suc j) h =
      let rest = one_part ls (each_rest f) j (omega arith) in
      record {
        least = rest.least;
        most =
            rw (mk_add (athwart_of Ds l) (all_parts ls))
            (go (mk (athwart_of Ds l)) (mk (all_parts ls)) (mk (athwart_of Ds (get_or ls j blank_lash))) (part_least l (each_first f))
            rest.most);
      }
    where
      go : (x y z : ℚ) → natℚ 0 ≤ℚ x → z ≤ℚ natℚ 1 *ℚ y → z ≤ℚ natℚ 1 *ℚ (x +ℚ y)
      go = ∀₃ ℚR _ λ ρ. simp qq λ h l. by_cert (to h ⊞ to l) tt

  -- those at a level or above, and at level 1 or above all
  chain_part : (l : Lash) → mk (athwart_part l (nat 1) *q at l) ≡ mk (athwart_of Ds l)
  chain_part l = mk_mul (athwart_part l (nat 1)) (at l) ∙ sym (athwart_is l (at l))

  pub from_part : (ls : List Lash) → Each n ls → (i : ℕ) → PartOf 1 (all_parts ls) (S.athwart_from (chain_lashes ls) Ds i)
  unfolding sumq chain_lash
  from_part [] f i = part_none (rw (mk_int (pos 0)) (nn_int 0))
  from_part (l ∷ ls) f i =
      let own = part_least l (each_first f) in
      part_sum (part_given (leb i (level_of l)) own (λ e. part_same own (chain_part l))) (from_part ls (each_rest f) i)

  pub all_from : (ls : List Lash) → Each n ls → mk (all_parts ls) ≡ mk (S.athwart_from (chain_lashes ls) Ds 1)
  unfolding sumq chain_lash
  all_from [] f = refl
  all_from (l ∷ ls) f =
      mk_add (athwart_of Ds l) (all_parts ls)
      ∙ ap₂ ◌+ℚ◌
      (sym (chain_part l) ∙ ap (λ c. mk (given c (athwart_part l (nat 1) *q at l))) (sym (le-leb 1 (level_of l) (each_first f).raised)))
      (all_from ls (each_rest f))
      ∙ sym (mk_add (given (leb 1 (level_of l)) (athwart_part l (nat 1) *q at l)) (S.athwart_from (chain_lashes ls) Ds 1))

  -- tension and vertical part of a lash: its athwart part times N / LY
  turned_part : (k : ℕ) (l : Lash) →
      LashLimits n l →
      (N : ℕ) →
      N ≤ k * l.ly →
      (x : Frac) →
      mk x ≡ stiffness l *ℚ mk (at l) *ℚ (natℚ N /ℚ natℚ l.ly) →
      PartOf k (athwart_of Ds l) x
  turned_part k l f N h x e =
      record {
        least = rw is (nn_times A q (part_least l f) q_least);
        most = rw is (go A q (natℚ k) (part_least l f) (share_most N l.ly (omega (arith, f.ly)) k h));
      }
    where
      A : ℚ
      A = mk (athwart_of Ds l)

      q : ℚ
      q = natℚ N /ℚ natℚ l.ly

      q_least : natℚ 0 ≤ℚ q
      q_least = nn_times (natℚ N) (recipℚ (natℚ l.ly)) (nn_int N) (recip_nn (natℚ l.ly))

      is : mk x ≡ A *ℚ q
      is = e ∙ ap (λ z. z *ℚ q) (sym (athwart_is l (at l)))

      go : (A q k : ℚ) → natℚ 0 ≤ℚ A → q ≤ℚ k → A *ℚ q ≤ℚ k *ℚ A
      go = ∀₃ ℚR _ λ ρ. simp qq λ h l. by_cert (to h ⊠ to l) tt

  pub pull_part : (l : Lash) → LashLimits n l → PartOf 42 (athwart_of Ds l) (pull l (at l))
  pull_part l f =
      turned_part 42 l f (lash_length l) (length_ratio f) (pull l (at l)) (pull_is l (length_above f) (omega (arith, f.ly)) (at l))

  pub vertical_part_lem : (l : Lash) → LashLimits n l → PartOf 40 (athwart_of Ds l) (vertical_part l (at l))
  vertical_part_lem l f =
      turned_part 40 l f l.lz (vertical_ratio f) (vertical_part l (at l)) (vertical_is l (length_above f) (omega (arith, f.ly)) (at l))

  -- the vertical parts on one post of the lashes that count; `post` keeps a part or drops it
  pub verticals_part : (post : Lashing → Frac → Frac) →
      ((g : Lashing) (x : Frac) (P : Frac → Type 0) → P x → P (nat 0) → P (post g x)) →
      (counts : Lash → Bool) (ls : List Lash) →
      Each n ls →
      PartOf 40 (all_parts ls) (verticals post counts ls Ds)
  verticals_part post keeps counts ls f =
      sum_part (λ l. given (counts l) (post (lashing_of l) (vertical_part l (at l))))
      (λ l lf.
      part_given (counts l) (part_least l lf)
      (λ e. keeps (lashing_of l) (vertical_part l (at l)) (PartOf 40 (athwart_of Ds l)) (vertical_part_lem l lf) (part_none (part_least l lf))))
      ls f

  -- the athwart parts over level i, each × its height over it
  pub arms_part : (ts : List Tier) →
      EachTier ts →
      length ts ≤ 10 →
      (i : ℕ) (ls : List Lash) →
      Each n ls →
      PartOf 28960 (all_parts ls)
      (sumq (λ l. given (ltb i (level_of l)) (athwart_of Ds l *q (nat (level_height ts (level_of l)) -q nat (level_height ts i)))) ls)
  arms_part ts tf few i ls f =
      sum_part (λ l. given (ltb i (level_of l)) (athwart_of Ds l *q (nat (level_height ts (level_of l)) -q nat (level_height ts i))))
      (λ l lf.
      part_given (ltb i (level_of l)) (part_least l lf)
      (λ e.
      arm (athwart_of Ds l) (level_height ts (level_of l)) (level_height ts i) (part_least l lf)
      (height_rises ts i (level_of l) (omega (arith, ltb-true i (level_of l) e))) (omega (arith, height_most ts tf (level_of l)))))
      ls f
    where
      arm_mk : (A : Frac) (h k : ℕ) → mk (A *q (nat h -q nat k)) ≡ mk A *ℚ (natℚ h -ℚ natℚ k)
      arm_mk A h k = mk_mul A (nat h -q nat k) ∙ ap (λ z. mk A *ℚ z) (mk_sub (nat h) (nat k) ∙ ap₂ ◌-ℚ◌ (mk_int (pos h)) (mk_int (pos k)))

      least : (A h k : ℚ) → natℚ 0 ≤ℚ A → k ≤ℚ h → natℚ 0 ≤ℚ A *ℚ (h -ℚ k)
      least = ∀₃ ℚR _ λ ρ. simp qq λ a l. by_cert (to a ⊠ to l) tt

      most : (A h k : ℚ) → natℚ 0 ≤ℚ A → natℚ 0 ≤ℚ k → h ≤ℚ natℚ 28960 → A *ℚ (h -ℚ k) ≤ℚ natℚ 28960 *ℚ A
      most = ∀₃ ℚR _ λ ρ. simp qq λ a l m. by_cert (to a ⊠ (to l ⊞ to m)) tt

      arm : (A : Frac) (h k : ℕ) → natℚ 0 ≤ℚ mk A → k ≤ h → h ≤ 28960 → PartOf 28960 A (A *q (nat h -q nat k))
      arm A h k a l m =
          record {
            least = rw (arm_mk A h k) (least (mk A) (natℚ h) (natℚ k) a (nat_q k h l));
            most = rw (arm_mk A h k) (most (mk A) (natℚ h) (natℚ k) a (nn_int k) (nat_q h 28960 m));
          }

pub keeps_lee : (g : Lashing) (x : Frac) (P : Frac → Type 0) → P x → P (nat 0) → P (on_lee g x)
keeps_lee (Cross l) x P h z = h
keeps_lee (Side l) x P h z = z

pub keeps_windward : (g : Lashing) (x : Frac) (P : Frac → Type 0) → P x → P (nat 0) → P (on_windward g x)
keeps_windward (Cross l) x P h z = z
keeps_windward (Side l) x P h z = h
