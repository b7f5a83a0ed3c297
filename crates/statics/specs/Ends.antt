-- Document 01, "The springs": the equations of one end of a decoded sheet.
use Rattle.std.specs.Prelude.{cond, List, [], ◌∷◌, map, ℕ}
use Rattle.sheet.specs.Ends.{End, door, closed, tiers_of, lashes_of}
use Rattle.sheet.specs.Layout.{turned}
use Rattle.sheet.specs.Lashings.{level_of}
use Rattle.arith.specs.Fractions.{Frac, nat, ◌≈◌}
use Rattle.springs.specs.Equations as S
use Rattle.sheet.specs.declared.Tier.{Tier}
use Rattle.sheet.specs.declared.Lash.{Lash}
use Rattle.sheet.specs.declared.Sheet.{Sheet}
use Rattle.statics.specs.Loads.{Rule, load}
use Rattle.statics.specs.Lashes.{athwart_part}

-- K of a tier at an end of the sheet, N/mm (CR Table 2-4): that of the box's door end or of its closed end. A turned box shows its
-- closed end at the door end of the sheet, and the other way round (document 02, P1)
abbrev pub spring_of : End → Tier → ℕ
spring_of door t = cond (turned t) S.closed_spring S.door_spring
spring_of closed t = cond (turned t) S.door_spring S.closed_spring

-- each tier's spring and load
unfoldable pub chain_tiers : Rule → End → List Tier → List S.Tier
chain_tiers rule e [] = []
chain_tiers rule e (t ∷ above) = record { K = nat (spring_of e t); Q = load rule t above } ∷ chain_tiers rule e above

-- each lash's level, and its athwart part at a shift of 1 mm
unfoldable pub chain_lash : Lash → S.Lash
chain_lash l = record { level = level_of l; stiffness = athwart_part l (nat 1) }

abbrev pub chain_lashes : List Lash → List S.Lash
chain_lashes ls = map chain_lash ls

-- the chain of an end of a sheet
abbrev pub end_tiers : Rule → End → Sheet → List S.Tier
end_tiers rule e t = chain_tiers rule e (tiers_of t)

abbrev pub end_lashes : End → Sheet → List S.Lash
end_lashes e t = chain_lashes (lashes_of e t)

-- Ds are shifts of the levels that solve the equations of an end
pub record EndSolved (rule : Rule) (e : End) (t : Sheet) (Ds : List Frac) : Type 0 where
  pub solves : S.Solves (end_tiers rule e t) (end_lashes e t) Ds

-- exactly one solution in fractions: there is one, and any two agree up to cross products
pub record OneSolution (rule : Rule) (e : End) (t : Sheet) : Type 0 where
  pub shifts : List Frac
  pub exists : EndSolved rule e t shifts
  pub unique : (Ds Es : List Frac) → EndSolved rule e t Ds → EndSolved rule e t Es → (i : ℕ) → S.shift Ds i ≈ S.shift Es i
