-- The two loops over an end's lashes: what they have found before lash j, and one turn of each.
use Prim.Native.Nat.{ℕ, suc, ◌+◌, ◌*◌, ◌/◌, ◌^◌, ◌<◌, ◌≤◌}
use mathlib.Core.Bool.{Bool, true, false, cond}
use mathlib.Core.List.{List, ◌∷◌}
use mathlib.Core.Path.{◌≡◌, refl, sym, ◌∙◌}
use native.Mathlib.Omega.{arith}
use borrow.Author.Tests.{eq-eqb, ne_eqb}
use lib.Dec.{eqb}
use lib.ListN.{length, get_or, set, take, drop, length-set}
use lib.Seq.{drop-cons, length-take-le, take-set-le, take-set-lt, drop-set-lt, drop-set-add}
use Rattle.arith.specs.Inner.Rounding.{rounded_up}
use Rattle.sheet.specs.Layout.{◌is◌, blank_lash}
use Rattle.sheet.specs.declared.Lash.{Lash}
use Rattle.sheet.specs.declared.Lashing.{Lashing}
use Rattle.sheet.specs.declared.Lashing.TheVariants.{Cross, Side}
use Rattle.sheet.specs.Lashings.{lashing_of, level_of}
use Rattle.sheet.specs.Inner.Limits.{LashLimits}
use Rattle.statics.specs.Lashes.{lash_length}
use Rattle.statics.specs.Inner.WholeNumbers.{figure_along, lash_pad, stiffness_of, part, upward}
use Rattle.statics.specs.Inner.WholeNumbers.{pull_figure, athwart_figure, vertical_figure, lee_part, windward_part}
use Rattle.lash_forces.specs.Inner.OneLash.{carried_lash, vertical_from, corner_of}
use Rattle.figures_lashes.specs.Inner.Lashes.{LevelStiffnesses, VerticalsOn}
use Rattle.statics.proofs.Arrays.{Between, fill_above}
use Rattle.statics.proofs.LashStiffness.{stiffness_most}
use Rattle.lash_forces.proofs.LashLaws.{upward_le}
use Rattle.figures_lashes.proofs.Tallies.{tally, tally_stiffness, tally_upwards, tally_le}
use Rattle.figures_lashes.proofs.Tallies.{Tallied, Only, tallied_all, tallied_le, tallied_more}

-- the lashes of an end
pub record Listed (m : ℕ) (ls : List Lash) : Type 0 where
  pub counted : length ls ≡ m
  pub few : m ≤ 8
  pub each : (j : ℕ) → j < m → LashLimits 10 (get_or ls j blank_lash)

pub listed :
    {m : ℕ} (lashes : List Lash) →
    length lashes ≡ 8 →
    (m ≤ 8) × ((j : ℕ) → j < m → LashLimits 10 (get_or (take m lashes) j blank_lash)) →
    Listed m (take m lashes)
listed {m} lashes e p = record { counted = length-take-le m lashes (omega (arith, p.0)); few = p.0; each = p.1 }

-- a lash is hooked at level suc i; at corner i
abbrev over : ℕ → Lash → Bool
over i l = eqb (suc i) (level_of l)

abbrev at_corner : ℕ → Lash → Bool
at_corner i l = eqb i (corner_of l)

only_over : {l : Lash} {at : ℕ} → suc at ≡ level_of l → Only over at l
only_over {l} {at} e =
    record {
      here = eq-eqb (suc at) (level_of l) e;
      others = λ i ne. ne_eqb (suc i) (level_of l) (λ q. ne (omega arith));
    }

only_at : {l : Lash} {at : ℕ} → at ≡ corner_of l → Only at_corner at l
only_at {l} {at} e =
    record { here = eq-eqb at (corner_of l) e; others = λ i ne. ne_eqb i (corner_of l) (λ q. ne (omega arith)) }

-- the first loop
pub record MeasuredTo (ls : List Lash) (lengths stiffnesses levels : List ℕ) (j : ℕ) : Type 0 where
  pub long : Between 0 (λ k x. x ≡ lash_length (get_or ls k blank_lash)) 8 0 j lengths
  pub stiff : Between 0 (λ k x. x ≡ stiffness_of (get_or ls k blank_lash)) 8 0 j stiffnesses
  pub levels_are : Tallied over stiffness_of ls 10 j levels

module _ {m : ℕ} {ls : List Lash} (g : Listed m ls) where
  first : {j : ℕ} {l : Lash} → j < m → get_or ls j blank_lash ≡ l → drop j ls ≡ l ∷ drop (suc j) ls
  first {j} h e = rw e at (drop-cons ls j blank_lash (omega (arith, g.counted)))

  each_stiff : (k : ℕ) → k < length ls → stiffness_of (get_or ls k blank_lash) ≤ 155000 * 2 ^ 22
  each_stiff k q = stiffness_most (get_or ls k blank_lash) (g.each k (omega (arith, g.counted)))

  module _ {lengths stiffnesses levels : List ℕ} {j : ℕ} (s : MeasuredTo ls lengths stiffnesses levels j) (h : j < m)
      {l : Lash} (own : get_or ls j blank_lash ≡ l) {stiff at : ℕ} (es : stiff ≡ stiffness_of l) (ea : suc at ≡ level_of l) where
    pub level_fits : get_or levels at 0 + stiff < 2 ^ 64
    level_fits =
        omega (
          arith,
          tallied_le s.levels_are (first h own) (only_over ea),
          tally_le (155000 * 2 ^ 22) (over at) stiffness_of ls each_stiff,
          g.counted,
          g.few,
        )

    pub measured_more :
        {long : ℕ} →
        long ≡ lash_length l →
        at < 10 →
        MeasuredTo ls (set lengths j long) (set stiffnesses j stiff) (set levels at (get_or levels at 0 + stiff)) (suc j)
    measured_more {long} el low =
        record {
          long = fill_above 0 _ 8 0 j lengths long (omega (arith, g.few)) (rw own el) s.long;
          stiff = fill_above 0 _ 8 0 j stiffnesses stiff (omega (arith, g.few)) (rw own es) s.stiff;
          levels_are = rw es (tallied_more s.levels_are (first h own) (only_over ea) low);
        }

  pub levels_all :
      {levels : List ℕ} {j : ℕ} → j ≡ m → Tallied over stiffness_of ls 10 j levels → LevelStiffnesses ls levels
  levels_all e t i = tallied_all t (omega (arith, g.counted)) i ∙ sym (tally_stiffness (suc i) ls)

-- a post takes no more than the whole vertical part
pub lee_kept : (g : Lashing) (x : ℕ) → lee_part g x ≤ x
lee_kept (Cross l) x = omega arith
lee_kept (Side l) x = omega arith

pub windward_kept : (g : Lashing) (x : ℕ) → windward_part g x ≤ x
windward_kept (Cross l) x = omega arith
windward_kept (Side l) x = omega arith

-- the vertical part of a lash on a post, at the shifts d
abbrev on : (Lashing → ℕ → ℕ) → List ℕ → Lash → ℕ
on post d l = post (lashing_of l) (upward d l)

-- the array of forces: tensions, athwart parts and vertical parts
abbrev pulls : List ℕ → List ℕ
pulls forces = take 8 forces

abbrev athwarts : List ℕ → List ℕ
athwarts forces = take 8 (drop 8 forces)

abbrev verticals : List ℕ → List ℕ
verticals forces = drop 16 forces

-- .. in which a turn sets an entry of each section
abbrev all_set : List ℕ → ℕ → ℕ → ℕ → ℕ → List ℕ
all_set forces j p a v = set (set (set forces j p) (8 + j) a) (16 + j) v

module _ (forces : List ℕ) {j : ℕ} (h : j < 8) (p a v : ℕ) where
  pulls_set : pulls (all_set forces j p a v) ≡ set (pulls forces) j p
  pulls_set =
      take-set-le 8 (set (set forces j p) (8 + j) a) (16 + j) v (omega arith)
      ∙ take-set-le 8 (set forces j p) (8 + j) a (omega arith)
      ∙ take-set-lt 8 forces j p h

  athwarts_set : athwarts (all_set forces j p a v) ≡ set (athwarts forces) j a
  athwarts_set =
      let behind : 16 + j ≡ 8 + (8 + j) = omega arith in
      rw (
        behind,
        drop-set-add 8 (set (set forces j p) (8 + j) a) (8 + j) v,
        take-set-le 8 (drop 8 (set (set forces j p) (8 + j) a)) (8 + j) v (omega arith),
        drop-set-add 8 (set forces j p) j a,
        drop-set-lt 8 forces j p h,
      ) (take-set-lt 8 (drop 8 forces) j a h)

  verticals_set : verticals (all_set forces j p a v) ≡ set (verticals forces) j v
  verticals_set =
      rw (
        drop-set-add 16 (set (set forces j p) (8 + j) a) j v,
        drop-set-lt 16 (set forces j p) (8 + j) a (omega arith),
        drop-set-lt 16 forces j p (omega arith),
      ) refl

-- the second loop
pub record FiguredTo (ls : List Lash) (d lee windward forces : List ℕ) (j : ℕ) : Type 0 where
  pub tensions : Between 0 (λ k x. x ≡ pull_figure d (get_or ls k blank_lash)) 8 0 j (take 8 forces)
  pub athwart_parts : Between 0 (λ k x. x ≡ athwart_figure d (get_or ls k blank_lash)) 8 0 j (take 8 (drop 8 forces))
  pub vertical_parts : Between 0 (λ k x. x ≡ vertical_figure d (get_or ls k blank_lash)) 8 0 j (drop 16 forces)
  pub forces_long : length forces ≡ 24
  pub lees : Tallied at_corner (on lee_part d) ls 22 j lee
  pub windwards : Tallied at_corner (on windward_part d) ls 22 j windward

upward_small : (d : List ℕ) (l : Lash) → LashLimits 10 l → upward d l ≤ 2 ^ 54
unfolding upward
upward_small d l f = upward_le (part d l) f.ly f.lz_most

carried_by : (cross : Bool) (l : Lash) → carried_lash (cond cross (Cross l) (Side l)) ≡ l
carried_by true l = refl
carried_by false l = refl

carried : (l : Lash) → carried_lash (lashing_of l) ≡ l
carried l = carried_by (l.kind is 0) l

-- the vertical part that the code puts on a post
is_upward :
    (d : List ℕ) (l : Lash) {at x : ℕ} →
    at ≡ level_of l →
    x ≡ stiffness_of l * get_or d at 0 / 2 ^ 32 →
    vertical_from x (carried_lash (lashing_of l)) ≡ upward d l
unfolding upward part
is_upward d l ea ex = rw (carried l, ex, ea) refl

-- the sum of a post at a corner
post_le :
    {m : ℕ} {ls : List Lash} (d : List ℕ) →
    Listed m ls →
    (post : Lashing → ℕ → ℕ) →
    ((g : Lashing) (x : ℕ) → post g x ≤ x) →
    (i : ℕ) →
    tally (at_corner i) (on post d) ls ≤ 8 * 2 ^ 54
post_le {ls = ls} d g post kept i =
    omega (arith, tally_le (2 ^ 54) (at_corner i) (on post d) ls each, g.counted, g.few)
  where
    each : (k : ℕ) → k < length ls → on post d (get_or ls k blank_lash) ≤ 2 ^ 54
    each k q =
        let l = get_or ls k blank_lash in
        omega (arith, kept (lashing_of l) (upward d l), upward_small d l (g.each k (omega (arith, g.counted))))

module _ {m : ℕ} {ls : List Lash} {d : List ℕ} (g : Listed m ls) where
  module _ {lee windward forces : List ℕ} {j : ℕ}
      (s : FiguredTo ls d lee windward forces j) (h : j < m) {l : Lash} (own : get_or ls j blank_lash ≡ l)
      {at corner x : ℕ}
      (ea : at ≡ level_of l)
      (ec : corner ≡ corner_of l)
      (ex : x ≡ stiffness_of l * get_or d at 0 / 2 ^ 32) where
    abbrev up : ℕ
    up = vertical_from x (carried_lash (lashing_of l))

    post_fits :
        (post : Lashing → ℕ → ℕ) →
        ((g : Lashing) (x : ℕ) → post g x ≤ x) →
        {r : List ℕ} →
        Tallied at_corner (on post d) ls 22 j r →
        get_or r corner 0 + post (lashing_of l) up < 2 ^ 64
    post_fits post kept t =
        rw (is_upward d l ea ex) (omega (arith, tallied_le t (first g h own) (only_at ec), post_le d g post kept corner))

    -- what a turn adds on each post stays in range
    pub sums_fit :
        {k : Lashing} {p q : ℕ} →
        k ≡ lashing_of l →
        p ≡ lee_part k (vertical_from x (carried_lash k)) →
        q ≡ windward_part k (vertical_from x (carried_lash k)) →
        (get_or lee corner 0 + p < 2 ^ 64) × (get_or windward corner 0 + q < 2 ^ 64)
    sums_fit ek ep eq = rw (ep, eq, ek) (post_fits lee_part lee_kept s.lees, post_fits windward_part windward_kept s.windwards)

    post_more :
        (post : Lashing → ℕ → ℕ) {r : List ℕ} →
        corner < 22 →
        Tallied at_corner (on post d) ls 22 j r →
        Tallied at_corner (on post d) ls 22 (suc j) (set r corner (get_or r corner 0 + post (lashing_of l) up))
    post_more post low t = rw (is_upward d l ea ex) (tallied_more t (first g h own) (only_at ec) low)

    pub figured_more :
        {p a v : ℕ} →
        corner < 22 →
        p ≡ figure_along (x + lash_pad) (lash_length l) l.ly →
        a ≡ rounded_up (x + lash_pad) (2 ^ 18) →
        v ≡ figure_along (x + lash_pad) l.lz l.ly →
        FiguredTo
        ls
        d
        (set lee corner (get_or lee corner 0 + lee_part (lashing_of l) up))
        (set windward corner (get_or windward corner 0 + windward_part (lashing_of l) up))
        (set (set (set forces j p) (8 + j) a) (16 + j) v)
        (suc j)
    unfolding pull_figure athwart_figure vertical_figure part
    figured_more {p} {a} {v} low ep eq ev =
        record {
          tensions =
              rw (pulls_set forces room p a v) (fill_above 0 _ 8 0 j (pulls forces) p room (rw (own, ← ea, ← ex) ep) s.tensions);
          athwart_parts =
              rw (athwarts_set forces room p a v)
              (fill_above 0 _ 8 0 j (athwarts forces) a room (rw (own, ← ea, ← ex) eq) s.athwart_parts);
          vertical_parts =
              rw (verticals_set forces room p a v)
              (fill_above 0 _ 8 0 j (verticals forces) v room (rw (own, ← ea, ← ex) ev) s.vertical_parts);
          forces_long = simp length-set s.forces_long;
          lees = post_more lee_part low s.lees;
          windwards = post_more windward_part low s.windwards;
        }
      where
        room : j < 8
        room = omega (arith, g.few)

  pub verticals_on :
      {post : Lashing → ℕ → ℕ} →
      ((g : Lashing) (x : ℕ) → post g x ≤ x) →
      {r : List ℕ} {j : ℕ} →
      j ≡ m →
      Tallied at_corner (on post d) ls 22 j r →
      VerticalsOn post ls d r
  verticals_on {post} kept e t =
      let x = tallied_all t (omega (arith, g.counted)) in
      record {
        each = λ i. x i ∙ sym (tally_upwards post (at_corner i) d ls);
        small = λ i. omega (arith, x i, post_le d g post kept i);
        long = t.long;
      }
