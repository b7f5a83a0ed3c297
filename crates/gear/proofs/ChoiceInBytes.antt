-- The sheet's own bytes with those of a choice at both ends are taken, and hold the sheet with the choice. They are the bytes written of
-- that sheet but for the tiers, which are read alike.
use Rattle.std.specs.Prelude.{Ok}
use Prim.Native.Nat.{ℕ, zero, suc, ◌+◌, ◌*◌, ◌-◌, ◌<◌, ◌≤◌}
use mathlib.Core.Bool.{Bool, true, false}
use mathlib.Core.List.{List, [], ◌∷◌, ◌++◌, map, flat_map, append_assoc}
use mathlib.Core.Path.{◌≡◌, refl, sym, ap, ap₂, subst, ◌∙◌}
use native.Mathlib.Nat.{zero-add}
use native.Mathlib.Omega.{arith}
use borrow.Author.Tests.{ltb-true, ltb-false}
use lib.Dec.{ltb}
use lib.ListN.{length, get_or, take, drop, length-take, length-append, length-map, get_or-append}
use lib.Seq.{length-take-le, get_or-take, get_or-drop}
use Rattle.arith.specs.Bytes.{byte_at}
use Rattle.arith.specs.Lists.{from, below, padded, counted}
use Rattle.arith.proofs.Arrays.{length_from, length_entries, entry, entry_at, entries_are, counted_entries}
use Rattle.arith.proofs.ByteLaws.{get_d_behind}
use Rattle.choices.specs.Choices.{chosen}
use Rattle.choices.proofs.Ranked.{Each, each_join, each_of}
use Rattle.choices.proofs.Chosen.{few_chosen, each_chosen, chosen_map}
use Rattle.sheet.specs.declared.Tier.{Tier}
use Rattle.sheet.specs.declared.Lash.{Lash}
use Rattle.sheet.specs.declared.Sheet.{Sheet}
use Rattle.sheet.specs.Layout.{head_of, tier_count, tier_place, tier_in, lash_place, lash_in, door_place, tier_fits, blank_tier, blank_lash}
use Rattle.sheet.specs.Layout.{tiers_in, sheet_of}
use Rattle.sheet.specs.Fits.{tier_at, lash_at, Fits}
use Rattle.sheet.specs.Refusals.{first, sheet_rows, decoded}
use Rattle.sheet.specs.Written.{head_bytes, tier_bytes, lash_bytes, written}
use Rattle.sheet.specs.Inner.Changed.{with_tiers}
use Rattle.sheet.proofs.Clear.{parts, tiers_there}
use Rattle.sheet.proofs.OtherTiers.{OnlyTiersDiffer, other_sheet, tiers_taken}
use Rattle.sheet.proofs.CallRefusals.{decoded_taken, decoded_by}
use Rattle.sheet.proofs.SameBytes.{tier_same}
use Rattle.sheet.proofs.TakenSheets.{taken_fits, sheet_padded}
use Rattle.gear.specs.Gear.{gear_count, gear_lashes, gear_rows, with_lashes}
use Rattle.gear.specs.Bytes.{InBytes, lash_slice, chosen_end, bytes_with}
use Rattle.gear.specs.Theorems.{ChoiceInBytes, WithInBytes}
use Rattle.gear.proofs.OwnBytes.{head_own, lash_own, cut_is}
use Rattle.gear.proofs.Section.{few, there}
use Rattle.gear.proofs.Subsets.{as_put, each_choice_written}

-- the numbers below n are below n
each_below : (i n : ℕ) → Each (λ k. k < i + n) (from i n)
unfolding from
each_below i zero = tt
each_below i (suc n) =
    (omega arith, subst (λ m. Each (λ k. k < m) (from (suc i) n)) (omega arith) (each_below (suc i) n))

-- bytes from bytes
abbrev Byte : ℕ → Type 0
Byte x = x < 256

byte_at_lem : (l : List ℕ) → Each Byte l → InBytes l
byte_at_lem [] h i = omega arith
byte_at_lem (x ∷ l) h zero = h.0
byte_at_lem (x ∷ l) h (suc i) = byte_at_lem l h.1 i

slice_bytes : (s : List ℕ) → InBytes s → (at m : ℕ) → Each Byte (take m (drop at s))
slice_bytes s b at m =
    each_of Byte 0 (take m (drop at s))
    (λ i h. rw (get_or-take m (drop at s) i 0 (omega (arith, h, length-take m (drop at s))), get_or-drop at s i 0) (b (at + i)))

slices_bytes : (g : List ℕ) → InBytes g → (ks : List ℕ) → Each Byte (flat_map (lash_slice g) ks)
unfolding flat_map
slices_bytes g b [] = tt
slices_bytes g b (k ∷ ks) = each_join Byte (lash_slice g k) (flat_map (lash_slice g) ks) (slice_bytes g b (lash_place 0 k) 20) (slices_bytes g b ks)

pub with_in_bytes : WithInBytes
unfolding bytes_with
with_in_bytes s g c n bs bg e =
    byte_at_lem (take (door_place s) s ++ (chosen_end g c ++ chosen_end g c))
    (each_join Byte (take (door_place s) s) (chosen_end g c ++ chosen_end g c) (slice_bytes s bs 0 (door_place s))
    (each_join Byte (chosen_end g c) (chosen_end g c) end end))
  where
    count : length (chosen c (below (gear_count g))) < 256
    count = omega (arith, few_chosen c (below (gear_count g)), length_from 0 (gear_count g), few n g e)

    end : Each Byte (chosen_end g c)
    end = (count, slices_bytes g bg (chosen c (below (gear_count g))))

-- entries of one size
flat_length : (f : ℕ → List ℕ) (size : ℕ) → ((k : ℕ) → length (f k) ≡ size) → (i n : ℕ) → length (flat_map f (from i n)) ≡ size * n
unfolding flat_map from
flat_length f size one i zero = omega arith
flat_length f size one i (suc n) =
    length-append (f i) (flat_map f (from (suc i) n)) ∙ omega (arith, one i, flat_length f size one (suc i) n)

-- an end that holds the chosen lashes, written, is the bytes of the section
module _ (n : ℕ) (g : List ℕ) (c : ℕ) (b : InBytes g) (e : first (gear_rows n g) ≡ Ok tt) where
  abbrev places : List ℕ
  places = chosen c (below (gear_count g))

  abbrev lashes : List Lash
  lashes = chosen c (gear_lashes g)

  lashes_are : lashes ≡ map (lash_in g 0) places
  lashes_are = chosen_map (lash_in g 0) c (below (gear_count g))

  slices : (ks : List ℕ) → Each (λ k. k < gear_count g) ks → flat_map lash_bytes (map (lash_in g 0) ks) ≡ flat_map (lash_slice g) ks
  unfolding flat_map
  slices [] h = refl
  slices (k ∷ ks) h =
      ap₂ (λ (x y : List ℕ). x ++ y)
      (lash_own g b (lash_place 0 k) ∙ cut_is g b (lash_place 0 k) 20 (omega (arith, h.0, there n g e)))
      (slices ks h.1)

  listed : Each (λ k. k < gear_count g) places
  listed =
      each_chosen (λ k. k < gear_count g) c (below (gear_count g))
      (subst (λ m. Each (λ k. k < m) (below (gear_count g))) (zero-add (gear_count g)) (each_below 0 (gear_count g)))

  pub end_is : counted (length lashes) (λ k. lash_bytes (lash_at (padded 8 blank_lash lashes) k)) ≡ chosen_end g c
  end_is =
      counted_entries lash_bytes blank_lash (padded 8 blank_lash lashes) (length lashes) (ap length (as_put lashes))
      ∙ ap {B = List ℕ} (λ l. length lashes ∷ flat_map lash_bytes l) (as_put lashes)
      ∙ ap₂ (λ (m : ℕ) (l : List ℕ). m ∷ l)
      (ap length lashes_are ∙ length-map places (lash_in g 0))
      (ap (flat_map lash_bytes) lashes_are ∙ slices places listed)

module _ (s g : List ℕ) (c : ℕ) (bs : InBytes s) (bg : InBytes g) (taken : first (sheet_rows s) ≡ Ok tt) where
  fits : Fits (sheet_of s)
  fits = taken_fits s taken

  abbrev n : ℕ
  n = tier_count s

  module _ (e : first (gear_rows n g) ≡ Ok tt) where
    abbrev held : Sheet
    held = with_lashes (chosen c (gear_lashes g)) (sheet_of s)

    -- the bytes written of it, and the sheet's own, up to the door end's count; both ends behind them
    abbrev head : List ℕ
    head = head_bytes (head_of s)

    abbrev tiers : List ℕ
    tiers = counted n (λ k. tier_bytes (tier_at (tiers_in s n) k))

    abbrev front : List ℕ
    front = head ++ tiers

    abbrev own : List ℕ
    own = take (door_place s) s

    abbrev ends : List ℕ
    ends = chosen_end g c ++ chosen_end g c

    written_is : written held ≡ front ++ ends
    unfolding written sheet_of
    written_is =
        sym (append_assoc head tiers _)
        ∙ ap₂ (λ (x y : List ℕ). front ++ (x ++ y)) (end_is n g c bg e) (end_is n g c bg e)

    whole : decoded (front ++ ends) ≡ Ok held
    unfolding sheet_of
    whole = ap decoded (sym written_is) ∙ each_choice_written (sheet_of s) g c fits (sheet_padded s) e

    written_taken : first (sheet_rows (front ++ ends)) ≡ Ok tt
    written_taken = (decoded_taken (front ++ ends) whole).0

    front_length : length front ≡ tier_place n
    front_length =
        length-append head tiers
        ∙ omega (arith, flat_length (λ k. tier_bytes (tier_at (tiers_in s n) k)) 12 (λ k. refl) 0 n)

    own_length : length own ≡ tier_place n
    own_length = length-take-le (door_place s) s (tiers_there s (parts s taken).tiers)

    own_byte : (i : ℕ) → i < tier_place n → byte_at (own ++ ends) i ≡ byte_at s i
    own_byte i h = get_or-append own ends 0 i (omega (arith, h, own_length)) ∙ get_or-take (door_place s) s i 0 h

    -- the same but for the tiers' bytes
    same_front : (i : ℕ) → i < 9 → byte_at (own ++ ends) i ≡ byte_at (front ++ ends) i
    same_front i h = own_byte i (omega (arith, h)) ∙ sym (go (ltb i 8) refl)
      where
        go : (b : Bool) → ltb i 8 ≡ b → byte_at (front ++ ends) i ≡ byte_at s i
        go true q =
            get_or-append front ends 0 i (omega (arith, h, front_length))
            ∙ get_or-append head tiers 0 i (ltb-true i 8 q)
            ∙ ap (λ (l : List ℕ). get_or l i 0) (head_own s bs)
            ∙ entry (λ k. byte_at s (0 + k)) 0 0 8 i (ltb-true i 8 q)
            ∙ ap (byte_at s) (omega arith)
        go false q = let last : i ≡ 8 = omega (arith, h, ltb-false i 8 q) in rw last refl

    same_ends : (i : ℕ) → tier_place n ≤ i → byte_at (own ++ ends) i ≡ byte_at (front ++ ends) i
    same_ends i h =
        let place : i ≡ tier_place n + (i - tier_place n) = omega (arith, h) in
        ap (byte_at (own ++ ends)) place
        ∙ get_d_behind own ends (tier_place n) (i - tier_place n) own_length
        ∙ sym (get_d_behind front ends (tier_place n) (i - tier_place n) front_length)
        ∙ sym (ap (byte_at (front ++ ends)) place)

    only_tiers : OnlyTiersDiffer (front ++ ends) (own ++ ends)
    only_tiers =
        record {
          size = length-append own ends ∙ ap (λ m. m + length ends) (own_length ∙ sym front_length) ∙ sym (length-append front ends);
          front = same_front;
          ends = same_ends;
        }

    -- which are read alike
    tier_is : (k : ℕ) → k < n → tier_in (own ++ ends) k ≡ tier_in s k
    tier_is k h = tier_same (own ++ ends) s (tier_place k) (λ i _ q. own_byte i (omega (arith, h, q)))

    tier_held : (k : ℕ) → k < n → tier_at (tiers_in s n) k ≡ tier_in s k
    tier_held k h = entry_at (tier_in s) blank_tier n 10 k h

    tier_fits_lem : (k : ℕ) → k < n → tier_fits (tier_in (own ++ ends) k) ≡ true
    unfolding sheet_of
    tier_fits_lem k h = rw (tier_is k h, ← tier_held k h) (fits.tiers k h)

    tier_sizes : (k : ℕ) → k < n → (tier_in (own ++ ends) k).size ≡ (tier_in (own ++ ends) 0).size
    unfolding sheet_of
    tier_sizes k h =
        let some : 0 < n = omega (arith, h) in
        rw (tier_is k h, tier_is 0 some, ← tier_held k h, ← tier_held 0 some) (fits.sizes k h)

    tiers_are : tiers_in (own ++ ends) n ≡ tiers_in s n
    tiers_are =
        ap {B = List Tier} (padded 10 blank_tier)
        (entries_are (tier_in (own ++ ends)) blank_tier (map (tier_in s) (below n)) n (length_entries (tier_in s) blank_tier n)
        (λ k h. tier_is k h ∙ sym (entry (tier_in s) blank_tier 0 n k h ∙ ap (tier_in s) (zero-add k))))

    own_taken : first (sheet_rows (own ++ ends)) ≡ Ok tt
    own_taken = tiers_taken only_tiers written_taken tier_sizes tier_fits_lem

    own_sheet : sheet_of (own ++ ends) ≡ held
    unfolding sheet_of
    own_sheet =
        other_sheet only_tiers
        ∙ ap₂ with_tiers tiers_are (decoded_taken (front ++ ends) whole).1

    pub taken_with : decoded (bytes_with s g c) ≡ Ok held
    unfolding bytes_with
    taken_with = decoded_by (own ++ ends) own_taken ∙ ap Ok own_sheet

pub choice_in_bytes : ChoiceInBytes
choice_in_bytes s g c bs bg taken e = taken_with s g c bs bg taken e
