-- Every sheet within its limits is taken: its bytes, written out, decode to it.
use Rattle.std.specs.Prelude.{Ok}
use Prim.Native.Nat.{ℕ, zero, suc, ◌+◌, ◌*◌, ◌<◌, ◌≤◌}
use mathlib.Core.Bool.{false}
use mathlib.Core.List.{List, [], ◌∷◌, ◌++◌, map, flat_map, append_assoc, append-nil}
use mathlib.Core.Path.{◌≡◌, refl, sym, ap, ap₂, subst, subst₂, ◌∙◌}
use native.Mathlib.Omega.{arith}
use borrow.Author.Tests.{le-ltb, eq-eqb, ne_eqb}
use lib.Dec.{eqb}
use lib.ListN.{length, get_or, take, length-append}
use lib.Seq.{get_or-take}
use Rattle.sheet.specs.declared.Lash.{Lash}
use Rattle.sheet.specs.declared.Sheet.{Sheet}
use Rattle.sheet.specs.Layout.{head_of, tier_count, tier_place, lash_place, door_place, closed_place, spare_place, blank_tier, blank_lash}
use Rattle.sheet.specs.Layout.{tiers_in, lashes_in, sheet_of}
use Rattle.arith.specs.Bytes.{byte_at}
use Rattle.arith.specs.Lists.{below, padded}
use Rattle.sheet.specs.Refusals.{not_later, first, head_rows, tier_rows, tier_count_rows, tiers_rows, lash_count_rows, lash_rows, end_rows}
use Rattle.sheet.specs.Refusals.{door_rows, closed_rows, ends_rows, sheet_rows, row2, decoded}
use Rattle.sheet.specs.Fits.{EndFits, Fits, Padded}
use Rattle.sheet.specs.Written.{head_bytes, tier_bytes, lash_bytes, written}
use Rattle.sheet.specs.Theorems.{EachWritten}
use Rattle.arith.proofs.Arrays.{entries_are, full, counted_entries}
use Rattle.sheet.proofs.Clear.{Clear, clear_taken, clear_join, clear_all}
use Rattle.sheet.proofs.Limits.{tier_filled, lash_limits, lash_wider, breaking_limits}
use Rattle.sheet.proofs.ReadBack.{first_back, head_back, Entry, tier_entry, lash_entry, entries_length, entry_back}

-- a count, and the bytes of as many entries of a list
abbrev listed : {A : Type 0} → (A → List ℕ) → ℕ → List A → List ℕ
listed bytes n l = n ∷ flat_map bytes (take n l)

-- a count at `at`, and behind it entries that read as the list's
record Held {A : Type 0} (E : Entry A) (s : List ℕ) (at : ℕ) (l : List A) (n : ℕ) : Type 0 where
  count : byte_at s at ≡ n
  entries : (k : ℕ) → k < n → E.read s (at + 1 + E.size * k) ≡ get_or l k E.blank
  there : at + 1 + E.size * n ≤ length s

-- so it is where they are written
module _ {A : Type 0} (E : Entry A) (l : List A) (n : ℕ) (some : length (take n l) ≡ n) where
  counted_length : length (listed E.bytes n l) ≡ 1 + E.size * n
  counted_length = simp (entries_length E (take n l), some) (omega arith)

  module _ (good : (k : ℕ) → k < n → E.Limits (get_or l k E.blank)) (a b : List ℕ) (at : ℕ) (e : length a ≡ at) where
    counted_back : (k : ℕ) → k < n → E.read (a ++ (listed E.bytes n l ++ b)) (at + 1 + E.size * k) ≡ get_or l k E.blank
    counted_back k h =
        subst (λ s. E.read s (at + 1 + E.size * k) ≡ get_or l k E.blank)
        (append_assoc a (n ∷ []) (flat_map E.bytes (take n l) ++ b))
        (entry_back E (take n l) k (rw some h) limits (a ++ (n ∷ [])) b (at + 1) longer ∙ get_or-take n l k E.blank h)
      where
        limits : (i : ℕ) → i < length (take n l) → E.Limits (get_or (take n l) i E.blank)
        limits i q = let r : i < n = rw some at q in rw (get_or-take n l i E.blank r) (good i r)

        longer : length (a ++ (n ∷ [])) ≡ at + 1
        longer = length-append a (n ∷ []) ∙ ap (λ m. m + 1) e

    held_there : Held E (a ++ (listed E.bytes n l ++ b)) at l n
    held_there =
        record {
          count = first_back a at e n (flat_map E.bytes (take n l) ++ b);
          entries = counted_back;
          there = simp (length-append, entries_length E (take n l), some) (omega (arith, e));
        }

-- the array read is the list, with blanks behind it
array_back :
    {A : Type 0} (E : Entry A) (room : ℕ) (s : List ℕ) (at : ℕ) (l : List A) (n : ℕ) →
    Held E s at l n →
    n ≤ room →
    l ≡ padded room E.blank (take n l) →
    padded room E.blank (map (λ k. E.read s (at + 1 + E.size * k)) (below n)) ≡ l
array_back {A} E room s at l n h few e =
    ap {B = List A} (padded room E.blank)
    (entries_are (λ k. E.read s (at + 1 + E.size * k)) E.blank (take n l) n (full room E.blank l n e few)
    (λ k q. h.entries k q ∙ sym (get_or-take n l k E.blank q)))
    ∙ sym e

-- no row holds for an end that holds lashes within their limits
module _ (n : ℕ) (s : List ℕ) (at : ℕ) (lashes : List Lash) (c : ℕ) (h : Held lash_entry s at lashes c) (f : EndFits n lashes c) where
  later_clear : (k : ℕ) → k < c → not_later s at k ≡ false
  unfolding not_later
  later_clear zero q = refl
  later_clear (suc k) q = rw (h.entries k (omega (arith, q)), h.entries (suc k) q, f.ordered k q)

  lash_clear : (k : ℕ) → k < c → Clear (lash_rows n s at k)
  lash_clear k q =
      let row1 = le-ltb (length s) (lash_place at k + 20) (omega (arith, h.there, q)) in
      (row1, (rw (h.entries k q, f.fits k q), (rw (h.entries k q) (f.placed k q), (later_clear k q, tt))))

  end_clear : Clear (end_rows n s at)
  end_clear =
      clear_join (lash_count_rows s at) (flat_map (lash_rows n s at) (below (byte_at s at)))
      (le-ltb (length s) (at + 1) (omega (arith, h.there)), (rw h.count (le-ltb 8 c f.few), tt))
      (clear_all (lash_rows n s at) (byte_at s at) (λ k q. lash_clear k (rw h.count at q)))

some_tier : (n : ℕ) → 1 ≤ n → eqb n 0 ≡ false
some_tier n h = ne_eqb n 0 (λ e. omega (arith, h, e))

module _ (t : Sheet) (f : Fits t) (p : Padded t) where
  abbrev n : ℕ
  n = t.ntiers

  abbrev head : List ℕ
  head = head_bytes t.head

  abbrev tiers : List ℕ
  tiers = listed tier_bytes n t.tiers

  abbrev door : List ℕ
  door = listed lash_bytes t.ndoor t.door

  abbrev closed : List ℕ
  closed = listed lash_bytes t.nclosed t.closed

  unfoldable s : List ℕ
  s = head ++ (tiers ++ (door ++ closed))

  -- where the ends' counts and the end of the bytes are
  abbrev door_at : ℕ
  door_at = tier_place n

  abbrev closed_at : ℕ
  closed_at = lash_place door_at t.ndoor

  abbrev end_at : ℕ
  end_at = lash_place closed_at t.nclosed

  tiers_full : length (take n t.tiers) ≡ n
  tiers_full = full 10 blank_tier t.tiers n p.tiers f.few

  door_full : length (take t.ndoor t.door) ≡ t.ndoor
  door_full = full 8 blank_lash t.door t.ndoor p.door f.door.few

  closed_full : length (take t.nclosed t.closed) ≡ t.nclosed
  closed_full = full 8 blank_lash t.closed t.nclosed p.closed f.closed.few

  tiers_length : length (head ++ tiers) ≡ door_at
  tiers_length =
      length-append head tiers ∙ omega (arith, counted_length tier_entry t.tiers n tiers_full)

  door_length : length (head ++ tiers ++ door) ≡ closed_at
  door_length =
      length-append (head ++ tiers) door
      ∙ omega (arith, tiers_length, counted_length lash_entry t.door t.ndoor door_full)

  whole_length : length (head ++ tiers ++ door ++ closed) ≡ end_at
  whole_length =
      length-append (head ++ tiers ++ door) closed
      ∙ omega (arith, door_length, counted_length lash_entry t.closed t.nclosed closed_full)

  -- the bytes, regrouped
  after_tiers : head ++ tiers ++ (door ++ closed) ≡ s
  unfolding s
  after_tiers = append_assoc head tiers (door ++ closed)

  after_door : head ++ tiers ++ door ++ closed ≡ s
  after_door = append_assoc (head ++ tiers) door closed ∙ after_tiers

  tiers_held : Held tier_entry s 8 t.tiers n
  unfolding s
  tiers_held =
      held_there tier_entry t.tiers n tiers_full (λ k q. (tier_filled _ (f.tiers k q)).limits) head (door ++ closed) 8 refl

  end_held :
      (lashes : List Lash) (c : ℕ) →
      EndFits n lashes c →
      length (take c lashes) ≡ c →
      (a b : List ℕ) (at : ℕ) →
      length a ≡ at →
      Held lash_entry (a ++ (listed lash_bytes c lashes ++ b)) at lashes c
  end_held lashes c g some = held_there lash_entry lashes c some (λ k q. lash_wider f.few (lash_limits n _ (g.placed k q) (g.fits k q)))

  door_held : Held lash_entry s door_at t.door t.ndoor
  door_held =
      subst (λ l. Held lash_entry l door_at t.door t.ndoor) after_tiers
      (end_held t.door t.ndoor f.door door_full (head ++ tiers) closed door_at tiers_length)

  closed_held : Held lash_entry s closed_at t.closed t.nclosed
  closed_held =
      subst (λ l. Held lash_entry l closed_at t.closed t.nclosed)
      (ap {B = List ℕ} (λ l. head ++ tiers ++ door ++ l) (append-nil closed) ∙ after_door)
      (end_held t.closed t.nclosed f.closed closed_full (head ++ tiers ++ door) [] closed_at door_length)

  door_place_lem : door_place s ≡ door_at
  door_place_lem = ap tier_place tiers_held.count

  closed_place_lem : closed_place s ≡ closed_at
  closed_place_lem = rw (door_place_lem, door_held.count)

  spare_place_lem : spare_place s ≡ end_at
  spare_place_lem = rw (closed_place_lem, closed_held.count)

  -- no row of the table holds
  head_held : head_of s ≡ t.head
  unfolding s
  head_held = head_back t.head (tiers ++ (door ++ closed)) (omega (arith, breaking_limits t.head.lockBreakingLoad f.breaking))

  head_clear : Clear (head_rows s)
  head_clear =
      rw head_held (
        le-ltb (length s) 8 (omega (arith, tiers_held.there)),
        (
          rw (f.rule, eq-eqb t.head.zero 0 f.zero),
          (le-ltb 12 t.head.route f.route, (rw (le-ltb 2 t.head.lockMaterial f.lock, f.breaking), tt)),
        ),
      )

  tier_clear : (k : ℕ) → k < n → Clear (tier_rows s k)
  tier_clear k q =
      let first_tier = tiers_held.entries 0 (omega arith) in
      let size = eq-eqb _ _ (f.sizes k q) in (
        le-ltb (length s) (tier_place k + 12) (omega (arith, tiers_held.there)),
        (rw (tiers_held.entries k q, f.tiers k q), (rw (tiers_held.entries k q, first_tier, size), tt)),
      )

  tiers_clear : Clear (tiers_rows s)
  tiers_clear =
      clear_join (tier_count_rows s) (flat_map (tier_rows s) (below (tier_count s))) (
        le-ltb (length s) 9 (omega (arith, tiers_held.there)),
        (rw (tiers_held.count, some_tier n f.some, le-ltb 10 n f.few), tt),
      )
      (clear_all (tier_rows s) (tier_count s) (λ k q. tier_clear k (rw tiers_held.count at q)))

  door_clear : Clear (door_rows s)
  door_clear =
      subst₂ (λ m at. Clear (end_rows m s at)) (sym tiers_held.count) (sym door_place_lem)
      (end_clear n s door_at t.door t.ndoor door_held f.door)

  closed_clear : Clear (closed_rows s)
  closed_clear =
      subst₂ (λ m at. Clear (end_rows m s at)) (sym tiers_held.count) (sym closed_place_lem)
      (end_clear n s closed_at t.closed t.nclosed closed_held f.closed)

  nothing_spare : Clear (row2 s (spare_place s) ∷ [])
  nothing_spare =
      (le-ltb (spare_place s) (length s) (omega (arith, spare_place_lem, sym (ap length after_door) ∙ whole_length)), tt)

  taken : first (sheet_rows s) ≡ Ok tt
  taken =
      clear_taken (sheet_rows s)
      (clear_join (head_rows s) (tiers_rows s ++ ends_rows s) head_clear
      (clear_join (tiers_rows s) (ends_rows s) tiers_clear
      (clear_join (door_rows s) (closed_rows s ++ (row2 s (spare_place s) ∷ [])) door_clear
      (clear_join (closed_rows s) (row2 s (spare_place s) ∷ []) closed_clear nothing_spare))))

  -- and what it holds is the sheet
  tiers_back : tiers_in s (tier_count s) ≡ t.tiers
  tiers_back = rw tiers_held.count (array_back tier_entry 10 s 8 t.tiers n tiers_held f.few p.tiers)

  door_back : lashes_in s (door_place s) (byte_at s (door_place s)) ≡ t.door
  door_back =
      rw (door_place_lem, door_held.count) (array_back lash_entry 8 s door_at t.door t.ndoor door_held f.door.few p.door)

  closed_back : lashes_in s (closed_place s) (byte_at s (closed_place s)) ≡ t.closed
  closed_back =
      rw (closed_place_lem, closed_held.count)
      (array_back lash_entry 8 s closed_at t.closed t.nclosed closed_held f.closed.few p.closed)

  sheet_back : sheet_of s ≡ t
  unfolding sheet_of
  sheet_back = λ i. record {
    head = head_held i;
    tiers = tiers_back i;
    ntiers = tiers_held.count i;
    door = door_back i;
    ndoor = door_count i;
    closed = closed_back i;
    nclosed = closed_count i;
  }
    where
      door_count : byte_at s (door_place s) ≡ t.ndoor
      door_count = rw door_place_lem door_held.count

      closed_count : byte_at s (closed_place s) ≡ t.nclosed
      closed_count = rw closed_place_lem closed_held.count

  written_is : written t ≡ s
  unfolding written s
  written_is =
      ap {B = List ℕ} (λ l. head ++ l)
      (ap₂ (λ (a b : List ℕ). a ++ b) (counted_entries tier_bytes blank_tier t.tiers n tiers_full)
      (ap₂ (λ (a b : List ℕ). a ++ b) (counted_entries lash_bytes blank_lash t.door t.ndoor door_full)
      (counted_entries lash_bytes blank_lash t.closed t.nclosed closed_full)))

pub round_trip : EachWritten
unfolding decoded
round_trip t f p = rw (written_is t f p, taken t f p, sheet_back t f p)
