-- The bytes of a sheet that holds given fields: document 01's layout, written out.
use Rattle.std.specs.Prelude.{ℕ, List, ◌∷◌, ◌++◌}
use Rattle.arith.specs.Bytes.{bytes2, bytes4}
use Rattle.arith.specs.Lists.{counted}
use Rattle.sheet.specs.declared.Head.{Head}
use Rattle.sheet.specs.declared.Tier.{Tier}
use Rattle.sheet.specs.declared.Lash.{Lash}
use Rattle.sheet.specs.declared.Sheet.{Sheet}
use Rattle.sheet.specs.Fits.{tier_at, lash_at}

abbrev pub head_bytes : Head → List ℕ
head_bytes h = h.rule ∷ h.route ∷ h.lockMaterial ∷ h.zero ∷ bytes4 h.lockBreakingLoad

abbrev pub tier_bytes : Tier → List ℕ
tier_bytes t =
    t.size ∷ t.wind ∷ bytes2 t.height ++ bytes2 t.mass ++ bytes2 t.aT ++ bytes2 t.aVmax ++ bytes2 t.aVmin

abbrev pub lash_bytes : Lash → List ℕ
lash_bytes l =
    l.tier
    ∷ l.hook
    ∷ l.kind
    ∷ l.material
    ∷ bytes2 l.lx ++ bytes2 l.ly ++ bytes2 l.lz ++ bytes2 l.area ++ bytes4 l.modulus ++ bytes4 l.breakingLoad

unfoldable pub written : Sheet → List ℕ
written t =
    head_bytes t.head
    ++ (counted t.ntiers (λ k. tier_bytes (tier_at t.tiers k))
    ++ (counted t.ndoor (λ k. lash_bytes (lash_at t.door k))
    ++ counted t.nclosed (λ k. lash_bytes (lash_at t.closed k))))
