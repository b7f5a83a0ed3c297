-- Lashes picked one behind another into arrays.
use Prim.Native.Nat.{ℕ, suc, ◌+◌, ◌*◌, ◌-◌, ◌/◌, ◌%◌, ◌^◌, ◌<◌, ◌≤◌}
use mathlib.Core.Bool.{Bool, true, false, cond}
use mathlib.Core.List.{List, [], ◌∷◌, ◌++◌, map, append-nil, append_assoc}
use mathlib.Core.Path.{◌≡◌, refl, sym, ap, ap₂, ◌∙◌}
use native.Mathlib.Decide.{ℕ_discrete}
use native.Mathlib.Nat.{add-zero, zero-add}
use native.Mathlib.Numerals.{add-one}
use native.Mathlib.Omega.{arith}
use borrow.Author.Tests.{eq-eqb, ne_eqb}
use lib.Dec.{eqb}
use lib.ListN.{length, get_or, set, take, replicate, length-append, length-set}
use lib.Seq.{ext_get_or, get_or-set_same, get_or-set_other, take-suc, length-take-le, get_or-take, take_all}
use Rattle.std.proofs.lemmas.List.{length-map, map_push}
use Rattle.arith.specs.Lists.{from, padded}
use Rattle.arith.proofs.Arrays.{length_entries}
use Rattle.sheet.specs.declared.Lash.{Lash}
use Rattle.sheet.specs.Layout.{blank_lash}
use Rattle.sheet.specs.Lashings.{level_of}
use Rattle.sheet.specs.Inner.Limits.{LashLimits}
use Rattle.statics.specs.Lashes.{lash_length}
use Rattle.statics.specs.Inner.WholeNumbers.{stiffness_of, level_stiffness}
use Rattle.statics.specs.Inner.Computed.{stiffnesses_of}
use Rattle.statics.proofs.Arrays.{entry_at}
use Rattle.statics.proofs.LashStiffness.{stiffness_most}
use Rattle.choices.specs.Choices.{uses, chosen}
use Rattle.choices.proofs.Chosen.{few_chosen}
use Rattle.chosen_lashes.specs.Inner.Gathered.{Held, held_of}

-- one more at the end of an array's entries
module _ {A : Type 0} (blank : A) where
  set_behind : (xs : List A) (k : ℕ) (v : A) → set (xs ++ replicate (suc k) blank) (length xs) v ≡ xs ++ v ∷ replicate k blank
  set_behind [] k v = refl
  set_behind (x ∷ xs) k v = ap (λ (l : List A). x ∷ l) (set_behind xs k v)

  pub one_more :
      (size : ℕ) (xs : List A) (v : A) →
      length xs < size →
      set (padded size blank xs) (length xs) v ≡ padded size blank (xs ++ v ∷ [])
  one_more size xs v h =
      let e : size - length xs ≡ suc (size - (length xs + 1)) = omega arith in
      rw (e, length-append xs (v ∷ [])) (set_behind xs (size - (length xs + 1)) v ∙ sym (append_assoc xs (v ∷ []) _))

pub map_more :
    {A : Type 0} (f : A → ℕ) (xs : List A) (x : A) →
    length xs < 8 →
    set (padded 8 0 (map f xs)) (length xs) (f x) ≡ padded 8 0 (map f (xs ++ x ∷ []))
map_more f xs x h =
    ap (λ (n : ℕ). set (padded 8 0 (map f xs)) n (f x)) (sym (length-map xs f))
    ∙ one_more 0 8 (map f xs) (f x) (omega (arith, length-map xs f))
    ∙ ap (λ (l : List ℕ). padded 8 0 l) (sym (map_push f xs x))

-- what a choice uses of the first lashes
module _ {A : Type 0} where
  with_first : (b : Bool) (y : A) (ys zs more : List A) → ys ≡ zs ++ more → cond b (y ∷ ys) ys ≡ cond b (y ∷ zs) zs ++ more
  with_first true y ys zs more e = ap (λ (l : List A). y ∷ l) e
  with_first false y ys zs more e = e

  chosen_append : (c : ℕ) (xs : List A) (x : A) → chosen c (xs ++ x ∷ []) ≡ chosen c xs ++ cond (uses c (length xs)) (x ∷ []) []
  unfolding chosen uses
  chosen_append c [] x = refl
  chosen_append c (y ∷ ys) x = with_first (uses c 0) y _ (chosen (c / 2) ys) _ (chosen_append (c / 2) ys x)

  pub chosen_next :
      (c : ℕ) (ls : List A) (j : ℕ) (blank : A) →
      j < length ls →
      chosen c (take (suc j) ls) ≡ chosen c (take j ls) ++ cond (uses c j) (get_or ls j blank ∷ []) []
  chosen_next c ls j blank h =
      ap (chosen c) (take-suc ls j blank h)
      ∙ chosen_append c (take j ls) (get_or ls j blank)
      ∙ ap (λ (k : ℕ). chosen c (take j ls) ++ cond (uses c k) (get_or ls j blank ∷ []) []) (length-take-le j ls (omega arith))

-- the sums by level, of one lash more
level_append : (ls : List Lash) (l : Lash) (i : ℕ) →
    level_stiffness (ls ++ l ∷ []) i ≡ level_stiffness ls i + cond (eqb i (level_of l)) (stiffness_of l) 0
unfolding level_stiffness
level_append [] l i = omega arith
level_append (x ∷ ls) l i = omega (arith, level_append ls l i)

module _ (ls : List Lash) where
  pub levels_long : length (stiffnesses_of ls) ≡ 10
  unfolding stiffnesses_of
  levels_long = length_entries (λ i. level_stiffness ls (suc i)) 0 10

  pub level_entry : (i : ℕ) → i < 10 → get_or (stiffnesses_of ls) i 0 ≡ level_stiffness ls (suc i)
  unfolding stiffnesses_of
  level_entry i h = entry_at (λ i. level_stiffness ls (suc i)) 0 10 i h

module _ (ls : List Lash) (l : Lash) (at : ℕ) (e : suc at ≡ level_of l) (low : at < 10) where
  abbrev sum : ℕ
  sum = get_or (stiffnesses_of ls) at 0 + stiffness_of l

  set_long : length (set (stiffnesses_of ls) at sum) ≡ 10
  set_long = length-set (stiffnesses_of ls) at sum ∙ levels_long ls

  set_entry : (i : ℕ) → i < 10 → get_or (set (stiffnesses_of ls) at sum) i 0 ≡ get_or (stiffnesses_of (ls ++ l ∷ [])) i 0
  set_entry i h =
      elim (ℕ_discrete i at) [
        | yes q ↦
            rw (
              q,
              get_or-set_same (stiffnesses_of ls) at sum 0 (omega (arith, levels_long ls)),
              level_entry ls at low,
              level_entry (ls ++ l ∷ []) at low,
              level_append ls l (suc at),
              eq-eqb (suc at) (level_of l) e,
            ) refl
        | no ne ↦
            rw (
              get_or-set_other (stiffnesses_of ls) at i sum 0 ne,
              level_entry ls i h,
              level_entry (ls ++ l ∷ []) i h,
              level_append ls l (suc i),
              ne_eqb (suc i) (level_of l) (λ z. ne (omega arith)),
            ) (omega arith)
      ]

  pub levels_more : set (stiffnesses_of ls) at sum ≡ stiffnesses_of (ls ++ l ∷ [])
  levels_more =
      ext_get_or 0 (set (stiffnesses_of ls) at sum) (stiffnesses_of (ls ++ l ∷ [])) (set_long ∙ sym (levels_long (ls ++ l ∷ [])))
      (λ i h. set_entry i (omega (arith, h, set_long)))

-- what is in the arrays before lash j of m
pub record GatheredTo (c m : ℕ) (ls : List Lash) (j rest count : ℕ) (held : List Lash) (long stiff levels : List ℕ) : Type 0 where
  pub counted : length ls ≡ m
  pub short : count ≤ j
  pub bits : (k : ℕ) → uses rest k ≡ uses c (j + k)
  pub holds : record { lashes = held; lengths = long; stiffnesses = stiff; levels = levels; count = count } ≡ held_of (chosen c (take j ls))

pub gathered_none :
    (c m : ℕ) (ls : List Lash) →
    length ls ≡ m →
    GatheredTo c m ls 0 c 0 (replicate 8 blank_lash) (replicate 8 0) (replicate 8 0) (replicate 10 0)
unfolding chosen stiffnesses_of level_stiffness from
gathered_none c m ls e = record { counted = e; short = omega arith; bits = λ k. ap (uses c) (sym (zero-add k)); holds = refl }

-- sums of what a choice uses
level_cond : (b : Bool) (l : Lash) (ls : List Lash) (i : ℕ) → level_stiffness (cond b (l ∷ ls) ls) i ≤ stiffness_of l + level_stiffness ls i
unfolding level_stiffness
level_cond true l ls i = go (eqb i (level_of l))
  where
    go : (b : Bool) → cond b (stiffness_of l) 0 + level_stiffness ls i ≤ stiffness_of l + level_stiffness ls i
    go true = omega arith
    go false = omega arith
level_cond false l ls i = omega arith

level_le :
    (B c : ℕ) (ls : List Lash) →
    ((k : ℕ) → k < length ls → stiffness_of (get_or ls k blank_lash) ≤ B) →
    (i : ℕ) →
    level_stiffness (chosen c ls) i ≤ length ls * B
unfolding chosen level_stiffness
level_le B c [] h i = omega arith
level_le B c (l ∷ ls) h i =
    omega (
      arith,
      level_cond (uses c 0) l (chosen (c / 2) ls) i,
      h 0 (omega arith),
      level_le B (c / 2) ls (λ k q. h (suc k) (omega arith)) i,
    )

-- one turn
module _ {c m : ℕ} {ls : List Lash} (few : m ≤ 8) (each : (k : ℕ) → k < m → LashLimits 10 (get_or ls k blank_lash))
    {j rest count : ℕ} {held : List Lash} {long stiff levels : List ℕ} (s : GatheredTo c m ls j rest count held long stiff levels)
    (h : j < m) where
  abbrev picked : List Lash
  picked = chosen c (take j ls)

  bits_more : (k : ℕ) → uses (rest / 2) k ≡ uses c (suc j + k)
  unfolding uses
  bits_more k =
      let e : suc j + k ≡ j + suc k = omega arith in
      s.bits (suc k) ∙ ap (uses c) (sym e)

  own_bit : uses rest 0 ≡ uses c j
  own_bit = s.bits 0 ∙ ap (uses c) (add-zero j)

  pub gathered_skip : eqb (rest % 2) 1 ≡ false → GatheredTo c m ls (suc j) (rest / 2) count held long stiff levels
  unfolding uses
  gathered_skip e =
      let same : chosen c (take (suc j) ls) ≡ picked =
      chosen_next c ls j blank_lash (omega arith) ∙ ap (λ b. picked ++ cond b (get_or ls j blank_lash ∷ []) []) (sym own_bit ∙ e) ∙ append-nil picked in
      record { counted = s.counted; short = omega (arith, s.short); bits = bits_more; holds = rw same s.holds }

  picked_few : length picked < 8
  picked_few = omega (arith, few_chosen c (take j ls), length-take-le j ls (omega arith))

  level_is : {at : ℕ} → at < 10 → get_or levels at 0 ≡ level_stiffness picked (suc at)
  level_is {at} low = ap (λ (g : Held). get_or g.levels at 0) s.holds ∙ level_entry picked at low

  each_stiff : (k : ℕ) → k < length (take j ls) → stiffness_of (get_or (take j ls) k blank_lash) ≤ 155000 * 2 ^ 22
  each_stiff k q =
      let l : k < j = omega (arith, q, length-take-le j ls (omega arith)) in
      rw (get_or-take j ls k blank_lash l) (stiffness_most (get_or ls k blank_lash) (each k (omega arith)))

  pub level_fits : {at x : ℕ} → at < 10 → x ≡ stiffness_of (get_or ls j blank_lash) → get_or levels at 0 + x < 2 ^ 64
  level_fits {at} {x} low e =
      omega (
        arith,
        level_is low,
        level_le (155000 * 2 ^ 22) c (take j ls) each_stiff (suc at),
        length-take-le j ls (omega arith),
        stiffness_most (get_or ls j blank_lash) (each j h),
      )

  module _ {l : Lash} (own : get_or ls j blank_lash ≡ l) (e : eqb (rest % 2) 1 ≡ true) where
    picked_more : chosen c (take (suc j) ls) ≡ picked ++ l ∷ []
    unfolding uses
    picked_more =
        chosen_next c ls j blank_lash (omega arith)
        ∙ ap₂ (λ b k. picked ++ cond b (k ∷ []) []) (sym own_bit ∙ e) own

    pub gathered_use :
        {x y at : ℕ} →
        x ≡ lash_length l →
        y ≡ stiffness_of l →
        suc at ≡ level_of l →
        at < 10 →
        GatheredTo c m ls (suc j) (rest / 2) (suc count) (set held count l) (set long count x) (set stiff count y)
        (set levels at (get_or levels at 0 + y))
    gathered_use {x} {y} {at} ex ey ea low =
        let n = ap (λ (g : Held). g.count) s.holds in
        let lashes = ap (λ (g : Held). g.lashes) s.holds in
        let lengths = ap (λ (g : Held). g.lengths) s.holds in
        let stiffnesses = ap (λ (g : Held). g.stiffnesses) s.holds in
        let sums = ap (λ (g : Held). g.levels) s.holds in
        record {
          counted = s.counted;
          short = omega (arith, s.short);
          bits = bits_more;
          holds = rw (picked_more, lashes, lengths, stiffnesses, sums, n, ex, ey) (λ i. record {
            lashes = one_more blank_lash 8 picked l picked_few i;
            lengths = map_more lash_length picked l picked_few i;
            stiffnesses = map_more stiffness_of picked l picked_few i;
            levels = levels_more picked l at ea low i;
            count = sym (length-append picked (l ∷ []) ∙ add-one (length picked)) i;
          });
        }

pub gathered_all :
    {c m : ℕ} {ls : List Lash} {j rest count : ℕ} {held : List Lash} {long stiff levels : List ℕ} →
    m ≤ j →
    GatheredTo c m ls j rest count held long stiff levels →
    record { lashes = held; lengths = long; stiffnesses = stiff; levels = levels; count = count } ≡ held_of (chosen c ls)
gathered_all {c} {ls = ls} {j} h s = s.holds ∙ ap (λ (l : List Lash). held_of (chosen c l)) (take_all j ls (omega arith))
