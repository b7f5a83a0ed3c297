-- The copy with the new mass: its bytes, what it holds, and whether it is taken.
use Rattle.std.specs.Prelude.{Ok, Err}
use Prim.Native.Nat.{ℕ, suc, ◌+◌, ◌-◌, ◌/◌, ◌%◌, ◌<◌, ◌≤◌}
use mathlib.Core.Bool.{Bool, true, false, ◌&&◌, ◌||◌}
use mathlib.Core.List.{List, append_assoc}
use mathlib.Core.Logic.{◌≢◌}
use mathlib.Core.Path.{◌≡◌, refl, sym, ap, ◌∙◌}
use native.Mathlib.Numerals.{add-one}
use native.Mathlib.Omega.{arith}
use borrow.Author.Tests.{eqb-true, eqb-false}
use lib.Dec.{eqb}
use lib.ListN.{length, take, drop, set}
use lib.Seq.{sets, sets-eq, length-sets, get_or-set_other}
use Rattle.arith.specs.Bytes.{byte_at, le2, bytes2}
use Rattle.arith.proofs.Arrays.{entry_at, one_other}
use Rattle.arith.proofs.ByteLaws.{le2_stored}
use Rattle.sheet.specs.declared.Tier.{Tier}
use Rattle.sheet.specs.Layout.{tier_of, tier_count, tier_place, tier_in, blank_tier, tiers_in, tier_fits, within, up_to, sheet_of}
use Rattle.sheet.specs.Fits.{tier_at}
use Rattle.sheet.specs.Refusals.{first, sheet_rows}
use Rattle.sheet.specs.Inner.Changed.{with_tiers}
use Rattle.sheet.proofs.Bools.{and_true, not_false}
use Rattle.sheet.proofs.Clear.{Parts, parts, tier_clear, tiers_there}
use Rattle.sheet.proofs.Items.{tier_size}
use Rattle.sheet.proofs.OtherTiers.{OnlyTiersDiffer, other_sheet, tiers_taken, tier_refused}
use Rattle.sheet.proofs.SameBytes.{tier_same}
use Rattle.preview_moves.specs.Previews.{mass_place, with_mass}
use Rattle.preview_moves.specs.Theorems.{Copies}
use Rattle.preview_moves.specs.Inner.Moved.{weighing, moved}
use Rattle.sheet.specs.Refusals.{numbers}

-- of a tier within its limits that is given another mass, the mass alone decides
only_one : (w : Bool) → w && true && true && true && true ≡ w
only_one true = refl
only_one false = refl

third_decides : (a b m c d e f w : Bool) → a && b && m && c && d && e && f ≡ true → a && b && w && c && d && e && f ≡ w
third_decides a b m c d e f w h =
    let h6 = and_true (a && b && m && c && d && e) f h in
    let h5 = and_true (a && b && m && c && d) e h6.0 in
    let h4 = and_true (a && b && m && c) d h5.0 in
    let h3 = and_true (a && b && m) c h4.0 in
    let h1 = and_true a b (and_true (a && b) m h3.0).0 in
    rw (h1.0, h1.1, h3.1, h4.1, h5.1, h6.1) (only_one w)

pub mass_decides : (mass : ℕ) (t : Tier) → tier_fits t ≡ true → tier_fits (weighing mass t) ≡ within 1 30480 mass
unfolding tier_fits
mass_decides mass t e =
    third_decides
    (eqb t.size 20 && (eqb t.height 2438 || eqb t.height 2591)
    || eqb t.size 40 && (eqb t.height 2591 || eqb t.height 2896))
    (up_to 3 t.wind) (within 1 30480 t.mass) (up_to 1500 t.aT) (up_to 3000 t.aVmax) (up_to 1000 t.aVmin)
    (up_to t.aVmax t.aVmin) (within 1 30480 mass) e

module _ (s : List ℕ) (taken : first (sheet_rows s) ≡ Ok tt) (tier mass : ℕ) (some : 1 ≤ tier) (has : tier ≤ tier_count s) where
  abbrev copy : List ℕ
  copy = with_mass tier mass s

  abbrev k : ℕ
  k = tier - 1

  abbrev n : ℕ
  n = tier_count s

  p : Parts s
  p = parts s taken

  k_below : k < n
  k_below = omega arith

  room : mass_place tier + 2 ≤ length s
  room = omega (arith, tiers_there s p.tiers)

  as_stores : copy ≡ sets s (mass_place tier) (bytes2 mass)
  unfolding with_mass
  as_stores =
      sym (append_assoc (take (mass_place tier) s) (bytes2 mass) (drop (mass_place tier + 2) s))
      ∙ sym (sets-eq (bytes2 mass) s (mass_place tier) room)

  copy_length : length copy ≡ length s
  copy_length = ap length as_stores ∙ length-sets s (mass_place tier) (bytes2 mass)

  -- the two bytes, and all others
  mass_there : mass < 65536 → le2 copy (mass_place tier) ≡ mass
  mass_there h = ap (λ l. le2 l (mass_place tier)) as_stores ∙ le2_stored mass s (mass_place tier) h room

  elsewhere : (i : ℕ) → i ≢ mass_place tier → i ≢ mass_place tier + 1 → byte_at copy i ≡ byte_at s i
  elsewhere i a b =
      ap (λ l. byte_at l i) as_stores
      ∙ get_or-set_other (set s (mass_place tier) (mass % 256)) (suc (mass_place tier)) i (mass / 256 % 256) 0
      (λ e. b (e ∙ sym (add-one (mass_place tier))))
      ∙ get_or-set_other s (mass_place tier) i (mass % 256) 0 a

  before_mass : (i : ℕ) → i < mass_place tier → byte_at copy i ≡ byte_at s i
  before_mass i h = elsewhere i (λ e. omega (arith, h, e)) (λ e. omega (arith, h, e))

  behind_mass : (i : ℕ) → mass_place tier + 2 ≤ i → byte_at copy i ≡ byte_at s i
  behind_mass i h = elsewhere i (λ e. omega (arith, h, e)) (λ e. omega (arith, h, e))

  two_behind : (i : ℕ) → mass_place tier + 2 ≤ i → le2 copy i ≡ le2 s i
  two_behind i h = rw (behind_mass i h, behind_mass (i + 1) (omega arith))

  differ : OnlyTiersDiffer s copy
  differ =
      record {
        size = copy_length;
        front = λ i h. before_mass i (omega (arith, h));
        ends = λ i h. behind_mass i (omega (arith, h, k_below));
      }

  -- its tiers
  size_same : (j : ℕ) → (tier_in copy j).size ≡ (tier_in s j).size
  size_same j =
      tier_size copy (tier_place j)
      ∙ elsewhere (tier_place j) (λ e. omega (arith, e)) (λ e. omega (arith, e))
      ∙ sym (tier_size s (tier_place j))

  other_tier : (j : ℕ) → j ≢ k → tier_in copy j ≡ tier_in s j
  other_tier j ne =
      tier_same copy s (tier_place j)
      (λ i l u. elsewhere i (λ e. omega (arith, ne, l, u, e)) (λ e. omega (arith, ne, l, u, e)))

  this_tier : mass < 65536 → tier_in copy k ≡ weighing mass (tier_in s k)
  unfolding tier_of
  this_tier h =
      let at = tier_place k in
      rw (
        before_mass at (omega arith),
        before_mass (at + 1) (omega arith),
        before_mass (at + 2) (omega arith),
        before_mass (at + 2 + 1) (omega arith),
        mass_there h,
        two_behind (at + 6) (omega arith),
        two_behind (at + 8) (omega arith),
        two_behind (at + 10) (omega arith),
      )

  module _ (h : mass < 65536) where
    tiers_are : tiers_in copy n ≡ set (tiers_in s n) k (weighing mass (tier_at (tiers_in s n) k))
    tiers_are =
        one_other (tier_in s) (tier_in copy) blank_tier 10 n k k_below (λ j _ ne. other_tier j ne)
        ∙ ap (set (tiers_in s n) k) (this_tier h ∙ ap (weighing mass) (sym (entry_at (tier_in s) blank_tier n 10 k k_below)))

    pub copy_holds : sheet_of copy ≡ moved k mass (sheet_of s)
    unfolding sheet_of
    copy_holds = other_sheet differ ∙ ap (λ tiers. with_tiers tiers (sheet_of s)) tiers_are

    tier_fitted : (j : ℕ) → j < n → tier_fits (tier_in s j) ≡ true
    tier_fitted j q = not_false _ (tier_clear s p.tiers j q).1.0

    one_size : (j : ℕ) → j < n → (tier_in copy j).size ≡ (tier_in copy 0).size
    one_size j q =
        size_same j ∙ eqb-true _ _ (not_false _ (tier_clear s p.tiers j q).1.1.0) ∙ sym (size_same 0)

    others_fit : (j : ℕ) → j < n → j ≢ k → tier_fits (tier_in copy j) ≡ true
    others_fit j q ne = ap tier_fits (other_tier j ne) ∙ tier_fitted j q

    pub this_fits : tier_fits (tier_in copy k) ≡ within 1 30480 mass
    this_fits = ap tier_fits (this_tier h) ∙ mass_decides mass (tier_in s k) (tier_fitted k k_below)

    pub copy_taken : within 1 30480 mass ≡ true → first (sheet_rows copy) ≡ Ok tt
    copy_taken e = tiers_taken differ taken one_size each
      where
        each : (j : ℕ) → j < n → tier_fits (tier_in copy j) ≡ true
        each j q = go (eqb j k) refl
          where
            go : (b : Bool) → eqb j k ≡ b → tier_fits (tier_in copy j) ≡ true
            go true is = rw (eqb-true j k is) (this_fits ∙ e)
            go false is = others_fit j q (eqb-false j k is)

    pub copy_refused : within 1 30480 mass ≡ false → first (sheet_rows copy) ≡ Err (numbers 7 (tier_place k))
    copy_refused e =
        tier_refused differ taken one_size k k_below
        (λ j q. others_fit j (omega (arith, q)) (λ is. omega (arith, q, is)))
        (this_fits ∙ e)

pub copies : Copies
copies s tier mass taken some has h =
    record {
      size = copy_length s taken tier mass some has;
      put = mass_there s taken tier mass some has h;
      before = before_mass s taken tier mass some has;
      behind = behind_mass s taken tier mass some has;
      holds = copy_holds s taken tier mass some has h;
      taken = λ q. copy_taken s taken tier mass some has h q;
      refused = λ q. copy_refused s taken tier mass some has h q;
    }
