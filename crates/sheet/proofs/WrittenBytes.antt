-- What is written of a sheet within its limits are bytes.
use Prim.Native.Nat.{ℕ, zero, suc, ◌+◌, ◌<◌, ◌≤◌}
use mathlib.Core.List.{List, [], ◌∷◌, ◌++◌, flat_map}
use mathlib.Core.Logic.{◌⊎◌, inl, inr}
use mathlib.Core.Path.{◌≡◌}
use native.Mathlib.Omega.{arith}
use lib.ListN.{get_or}
use Rattle.arith.specs.Lists.{from, below, counted}
use Rattle.sheet.specs.declared.Tier.{Tier}
use Rattle.sheet.specs.declared.Lash.{Lash}
use Rattle.sheet.specs.Fits.{EndFits, tier_at, lash_at}
use Rattle.sheet.specs.Written.{head_bytes, tier_bytes, lash_bytes, written}
use Rattle.sheet.specs.Theorems.{WrittenInBytes}
use Rattle.sheet.specs.Inner.Limits.{Box, TierFilled, LashLimits}
use Rattle.sheet.proofs.Limits.{rule_number, tier_filled, lash_limits}

abbrev Bytes : List ℕ → Type 0
Bytes [] = Unit {0}
Bytes (x ∷ s) = (x < 256) × Bytes s

bytes_at : (s : List ℕ) → Bytes s → (i : ℕ) → get_or s i 0 < 256
bytes_at [] h i = omega arith
bytes_at (x ∷ s) h zero = h.0
bytes_at (x ∷ s) h (suc i) = bytes_at s h.1 i

join : (a b : List ℕ) → Bytes a → Bytes b → Bytes (a ++ b)
join [] b h k = k
join (x ∷ a) b h k = (h.0, join a b h.1 k)

each_from : (f : ℕ → List ℕ) (i left : ℕ) → ((k : ℕ) → k < i + left → Bytes (f k)) → Bytes (flat_map f (from i left))
unfolding flat_map from
each_from f i zero h = tt
each_from f i (suc left) h =
    join (f i) (flat_map f (from (suc i) left)) (h i (omega arith)) (each_from f (suc i) left (λ k q. h k (omega (arith, q))))

each : (f : ℕ → List ℕ) (n : ℕ) → ((k : ℕ) → k < n → Bytes (f k)) → Bytes (flat_map f (below n))
each f n h = each_from f 0 n (λ k q. h k (omega (arith, q)))

tier_bytes_lem : (t : Tier) → TierFilled t → Bytes (tier_bytes t)
tier_bytes_lem t l = (size l.box, (omega arith, omega (arith, l)))
  where
    size : Box t.size t.height → t.size < 256
    size (inl e) = omega arith
    size (inr e) = omega arith

lash_bytes_lem : {n : ℕ} (l : Lash) → n ≤ 10 → LashLimits n l → Bytes (lash_bytes l)
lash_bytes_lem l m h = omega arith

end_bytes : (n : ℕ) (lashes : List Lash) (c : ℕ) → n ≤ 10 → EndFits n lashes c → Bytes (counted c (λ k. lash_bytes (lash_at lashes k)))
end_bytes n lashes c m f = (omega (arith, f.few), each (λ k. lash_bytes (lash_at lashes k)) c lash)
  where
    lash : (k : ℕ) → k < c → Bytes (lash_bytes (lash_at lashes k))
    lash k q = lash_bytes_lem (lash_at lashes k) m (lash_limits n (lash_at lashes k) (f.placed k q) (f.fits k q))

pub written_bytes : WrittenInBytes
unfolding written
written_bytes t f =
    let tb = counted t.ntiers (λ k. tier_bytes (tier_at t.tiers k)) in
    let db = counted t.ndoor (λ k. lash_bytes (lash_at t.door k)) in
    let cb = counted t.nclosed (λ k. lash_bytes (lash_at t.closed k)) in
    bytes_at (written t)
    (join (head_bytes t.head) (tb ++ (db ++ cb)) head
    (join tb (db ++ cb) tiers
    (join db cb (end_bytes t.ntiers t.door t.ndoor f.few f.door)
    (end_bytes t.ntiers t.closed t.nclosed f.few f.closed))))
  where
    head : Bytes (head_bytes t.head)
    head = (rule (rule_number t.head.rule f.rule), omega (arith, f))
      where
        rule : (t.head.rule ≡ 1) ⊎ (t.head.rule ≡ 2) → t.head.rule < 256
        rule (inl e) = omega arith
        rule (inr e) = omega arith

    tiers : Bytes (counted t.ntiers (λ k. tier_bytes (tier_at t.tiers k)))
    tiers = (
      omega (arith, f.few),
      each (λ k. tier_bytes (tier_at t.tiers k)) t.ntiers (λ k q. tier_bytes_lem _ (tier_filled _ (f.tiers k q))),
    )
