-- An entry that was written reads back, wherever it stands in a list of bytes.
use Prim.Native.Nat.{ℕ, zero, suc, ◌+◌, ◌*◌, ◌<◌}
use mathlib.Core.List.{List, [], ◌∷◌, ◌++◌, flat_map, append_assoc}
use mathlib.Core.Path.{◌≡◌, refl, ap, ◌∙◌}
use native.Mathlib.Nat.{add-zero}
use native.Mathlib.Omega.{arith}
use lib.ListN.{length, get_or, length-append}
use Rattle.arith.specs.Bytes.{le2, le4, bytes2, bytes4}
use Rattle.arith.proofs.ByteLaws.{get_d_behind, le2_back, le4_back}
use Rattle.sheet.specs.declared.Head.{Head}
use Rattle.sheet.specs.declared.Tier.{Tier}
use Rattle.sheet.specs.declared.Lash.{Lash}
use Rattle.sheet.specs.Layout.{head_of, tier_of, lash_of, blank_tier, blank_lash}
use Rattle.sheet.specs.Written.{head_bytes, tier_bytes, lash_bytes}
use Rattle.sheet.specs.Inner.Limits.{TierLimits, LashLimits}

-- a field behind the bytes a and p
module _ (a p b : List ℕ) (at : ℕ) (e : length a ≡ at) where
  place : length (a ++ p) ≡ at + length p
  place = length-append a p ∙ ap (λ n. n + length p) e

  pub byte_back : (x : ℕ) → get_or (a ++ (p ++ (x ∷ b))) (at + length p) 0 ≡ x
  byte_back x =
      rw (← append_assoc a p (x ∷ b)) (rw (add-zero (at + length p)) at (get_d_behind (a ++ p) (x ∷ b) (at + length p) 0 place))

  pub two_back : (v : ℕ) → v < 65536 → le2 (a ++ (p ++ (bytes2 v ++ b))) (at + length p) ≡ v
  two_back v h = rw (← append_assoc a p (bytes2 v ++ b)) (le2_back v (a ++ p) b (at + length p) place h)

  pub four_back : (v : ℕ) → v < 4294967296 → le4 (a ++ (p ++ (bytes4 v ++ b))) (at + length p) ≡ v
  four_back v h = rw (← append_assoc a p (bytes4 v ++ b)) (le4_back v (a ++ p) b (at + length p) place h)

pub head_back : (h : Head) (b : List ℕ) → h.lockBreakingLoad < 4294967296 → head_of (head_bytes h ++ b) ≡ h
unfolding head_of
head_back h b l = rw (four_back [] (h.rule ∷ h.route ∷ h.lockMaterial ∷ h.zero ∷ []) b 0 refl h.lockBreakingLoad l)

pub first_back : (a : List ℕ) (at : ℕ) → length a ≡ at → (x : ℕ) (c : List ℕ) → get_or (a ++ (x ∷ c)) at 0 ≡ x
first_back a at e x c = rw (add-zero at) at (get_d_behind a (x ∷ c) at 0 e)

module _ (a b : List ℕ) (at : ℕ) (e : length a ≡ at) where
  pub tier_back : (t : Tier) → TierLimits t → tier_of (a ++ (tier_bytes t ++ b)) at ≡ t
  unfolding tier_of
  tier_back t l =
      let p1 = t.size ∷ [] in
      let p2 = t.size ∷ t.wind ∷ [] in
      let p4 = p2 ++ bytes2 t.height in
      let p6 = p4 ++ bytes2 t.mass in
      let p8 = p6 ++ bytes2 t.aT in
      let p10 = p8 ++ bytes2 t.aVmax in
      rw (
        first_back a at e t.size _,
        byte_back a p1 _ at e t.wind,
        two_back a p2 _ at e t.height (omega arith),
        two_back a p4 _ at e t.mass (omega arith),
        two_back a p6 _ at e t.aT (omega arith),
        two_back a p8 _ at e t.aVmax (omega arith),
        two_back a p10 b at e t.aVmin (omega arith),
      )

  pub lash_back : (l : Lash) → LashLimits 10 l → lash_of (a ++ (lash_bytes l ++ b)) at ≡ l
  unfolding lash_of
  lash_back l h =
      let p1 = l.tier ∷ [] in
      let p2 = l.tier ∷ l.hook ∷ [] in
      let p3 = l.tier ∷ l.hook ∷ l.kind ∷ [] in
      let p4 = l.tier ∷ l.hook ∷ l.kind ∷ l.material ∷ [] in
      let p6 = p4 ++ bytes2 l.lx in
      let p8 = p6 ++ bytes2 l.ly in
      let p10 = p8 ++ bytes2 l.lz in
      let p12 = p10 ++ bytes2 l.area in
      let p16 = p12 ++ bytes4 l.modulus in
      rw (
        first_back a at e l.tier _,
        byte_back a p1 _ at e l.hook,
        byte_back a p2 _ at e l.kind,
        byte_back a p3 _ at e l.material,
        two_back a p4 _ at e l.lx (omega arith),
        two_back a p6 _ at e l.ly (omega arith),
        two_back a p8 _ at e l.lz (omega arith),
        two_back a p10 _ at e l.area (omega arith),
        four_back a p12 _ at e l.modulus (omega arith),
        four_back a p16 b at e l.breakingLoad (omega arith),
      )

-- a kind of entry: its bytes, of one size, and that they read back
pub record Entry (A : Type 0) : Type 1 where
  pub bytes : A → List ℕ
  pub size : ℕ
  pub sized : (x : A) → length (bytes x) ≡ size
  pub read : List ℕ → ℕ → A
  pub blank : A
  pub Limits : A → Type 0
  pub back : (a b : List ℕ) (at : ℕ) → length a ≡ at → (x : A) → Limits x → read (a ++ (bytes x ++ b)) at ≡ x

abbrev pub tier_entry : Entry Tier
tier_entry =
    record {
      bytes = tier_bytes;
      size = 12;
      sized = λ t. refl;
      read = tier_of;
      blank = blank_tier;
      Limits = TierLimits;
      back = tier_back;
    }

abbrev pub lash_entry : Entry Lash
lash_entry =
    record {
      bytes = lash_bytes;
      size = 20;
      sized = λ l. refl;
      read = lash_of;
      blank = blank_lash;
      Limits = LashLimits 10;
      back = lash_back;
    }

-- entries in a row
module _ {A : Type 0} (E : Entry A) where
  pub entries_length : (l : List A) → length (flat_map E.bytes l) ≡ E.size * length l
  unfolding flat_map
  entries_length [] = omega arith
  entries_length (x ∷ l) = simp (length-append, E.sized x, entries_length l) (omega arith)

  pub entry_back :
      (l : List A) (k : ℕ) →
      k < length l →
      ((i : ℕ) → i < length l → E.Limits (get_or l i E.blank)) →
      (a b : List ℕ) (at : ℕ) →
      length a ≡ at →
      E.read (a ++ (flat_map E.bytes l ++ b)) (at + E.size * k) ≡ get_or l k E.blank
  unfolding flat_map
  entry_back [] k h g a b at e = absurd (omega (arith, h))
  entry_back (x ∷ l) zero h g a b at e =
      rw (append_assoc (E.bytes x) (flat_map E.bytes l) b, here)
      (E.back a (flat_map E.bytes l ++ b) at e x (g 0 (omega arith)))
    where
      here : at + E.size * 0 ≡ at
      here = omega arith
  entry_back (x ∷ l) (suc k) h g a b at e =
      let more = flat_map E.bytes l in
      rw (append_assoc (E.bytes x) more b, ← append_assoc a (E.bytes x) (more ++ b), further)
      (entry_back l k (omega (arith, h)) (λ i q. g (suc i) (omega (arith, q))) (a ++ E.bytes x) b (at + E.size) longer)
    where
      further : at + E.size * suc k ≡ at + E.size + E.size * k
      further = omega arith

      longer : length (a ++ E.bytes x) ≡ at + E.size
      longer = length-append a (E.bytes x) ∙ rw (e, E.sized x)
