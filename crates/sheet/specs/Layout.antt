-- Document 01, "The stack sheet": where each field lies, the codes and limits of the fields, and what a sheet holds.
-- A byte past the end reads 0, so that each field has a value on any bytes; the refusals say when the bytes are too few.
use Rattle.std.specs.Prelude.{ℕ, ◌+◌, ◌*◌, ◌/◌, ◌%◌, Bool, cond, ◌&&◌, ◌||◌, List, map, leb, ltb, eqb}
use Rattle.arith.specs.Bytes.{byte_at, le2, le4}
use Rattle.arith.specs.Lists.{below, padded}
use Rattle.sheet.specs.declared.Head.{Head}
use Rattle.sheet.specs.declared.Tier.{Tier}
use Rattle.sheet.specs.declared.Lash.{Lash}
use Rattle.sheet.specs.declared.Sheet.{Sheet}

-- Fields: one byte each, or two or four, the least byte first

-- the head, 8 bytes: rule number, route, lock material, a zero byte, lock breaking load
unfoldable pub head_of : List ℕ → Head
head_of s =
    record {
      rule = byte_at s 0;
      route = byte_at s 1;
      lockMaterial = byte_at s 2;
      zero = byte_at s 3;
      lockBreakingLoad = le4 s 4;
    }

-- a tier, 12 bytes: size, wind, height, mass, A_T, A_Vmax, A_Vmin
unfoldable pub tier_of : List ℕ → ℕ → Tier
tier_of s at =
    record {
      size = byte_at s at;
      wind = byte_at s (at + 1);
      height = le2 s (at + 2);
      mass = le2 s (at + 4);
      aT = le2 s (at + 6);
      aVmax = le2 s (at + 8);
      aVmin = le2 s (at + 10);
    }

-- a lash, 20 bytes: tier, hook, kind, material, LX, LY, LZ, area, modulus, breaking load
unfoldable pub lash_of : List ℕ → ℕ → Lash
lash_of s at =
    record {
      tier = byte_at s at;
      hook = byte_at s (at + 1);
      kind = byte_at s (at + 2);
      material = byte_at s (at + 3);
      lx = le2 s (at + 4);
      ly = le2 s (at + 6);
      lz = le2 s (at + 8);
      area = le2 s (at + 10);
      modulus = le4 s (at + 12);
      breakingLoad = le4 s (at + 16);
    }

-- Places

-- the tier count follows the head; the tiers, counted from 0 here, follow it
abbrev pub tier_count : List ℕ → ℕ
tier_count s = byte_at s 8

abbrev pub tier_place : ℕ → ℕ
tier_place k = 9 + 12 * k

abbrev pub tier_in : List ℕ → ℕ → Tier
tier_in s k = tier_of s (tier_place k)

-- an end's lashes, counted from 0, follow its count, which stands at `at`
abbrev pub lash_place : ℕ → ℕ → ℕ
lash_place at k = at + 1 + 20 * k

abbrev pub lash_in : List ℕ → ℕ → ℕ → Lash
lash_in s at k = lash_of s (lash_place at k)

-- the door end's count, the closed end's count and the first spare byte: each behind the last entry before it
abbrev pub door_place : List ℕ → ℕ
door_place s = tier_place (tier_count s)

abbrev pub closed_place : List ℕ → ℕ
closed_place s = lash_place (door_place s) (byte_at s (door_place s))

abbrev pub spare_place : List ℕ → ℕ
spare_place s = lash_place (closed_place s) (byte_at s (closed_place s))

-- Codes and limits

infix 50 ◌is◌ ◌above◌
abbrev pub ◌is◌ : ℕ → ℕ → Bool
x is y = eqb x y

abbrev pub ◌above◌ : ℕ → ℕ → Bool
x above y = ltb y x

-- from 0 to hi, and from lo to hi, the ends included
abbrev pub up_to : ℕ → ℕ → Bool
up_to hi x = leb x hi

abbrev pub within : ℕ → ℕ → ℕ → Bool
within lo hi x = leb lo x && leb x hi

-- rule number 1, the class rule, or 2, the fleet standard (document 02, P10)
abbrev pub rule_fits : ℕ → Bool
rule_fits x = x is 1 || x is 2

-- the wind byte is 0 where a box is sheltered and 1 where it is exposed, and gains 2 where the box stands turned (document 02, P1)
abbrev pub wind_code : Bool → Bool → ℕ
wind_code e t = cond e 1 0 + cond t 2 0

abbrev pub exposed : Tier → Bool
exposed t = t.wind % 2 is 1

abbrev pub turned : Tier → Bool
turned t = t.wind / 2 is 1

-- heights 2438 or 2591 for 20 feet, 2591 or 2896 for 40 feet; wind codes 0 to 3; mass 1 to 30,480; A_T 0 to 1,500; A_Vmax 0 to 3,000;
-- A_Vmin 0 to 1,000 and not above A_Vmax
unfoldable pub tier_fits : Tier → Bool
tier_fits t =
    (t.size is 20 && (t.height is 2438 || t.height is 2591)
    || t.size is 40 && (t.height is 2591 || t.height is 2896))
    && up_to 3 t.wind
    && within 1 30480 t.mass
    && up_to 1500 t.aT
    && up_to 3000 t.aVmax
    && up_to 1000 t.aVmin
    && up_to t.aVmax t.aVmin

-- breaking loads, of the lock and of a lash: 1 to 2,000,000
unfoldable pub breaking_fits : ℕ → Bool
breaking_fits x = within 1 2000000 x

-- hook 0 or 1; kind 0 or 1; material 0 to 3; LX 0 to 5,000; LY 500 to 10,000; LZ 500 to 20,000; area 50 to 1,000;
-- modulus 10,000 to 200,000; a breaking load
unfoldable pub lash_fits : Lash → Bool
lash_fits l =
    up_to 1 l.hook
    && up_to 1 l.kind
    && up_to 3 l.material
    && up_to 5000 l.lx
    && within 500 10000 l.ly
    && within 500 20000 l.lz
    && within 50 1000 l.area
    && within 10000 200000 l.modulus
    && breaking_fits l.breakingLoad

-- What a sheet holds. An array's entries behind its count are blank

abbrev pub blank_tier : Tier
blank_tier = record { size = 0; wind = 0; height = 0; mass = 0; aT = 0; aVmax = 0; aVmin = 0 }

abbrev pub blank_lash : Lash
blank_lash =
    record { tier = 0; hook = 0; kind = 0; material = 0; lx = 0; ly = 0; lz = 0; area = 0; modulus = 0; breakingLoad = 0 }

abbrev pub tiers_in : List ℕ → ℕ → List Tier
tiers_in s n = padded 10 blank_tier (map (tier_in s) (below n))

abbrev pub lashes_in : List ℕ → ℕ → ℕ → List Lash
lashes_in s at n = padded 8 blank_lash (map (lash_in s at) (below n))

unfoldable pub sheet_of : List ℕ → Sheet
sheet_of s =
    record {
      head = head_of s;
      tiers = tiers_in s (tier_count s);
      ntiers = tier_count s;
      door = lashes_in s (door_place s) (byte_at s (door_place s));
      ndoor = byte_at s (door_place s);
      closed = lashes_in s (closed_place s) (byte_at s (closed_place s));
      nclosed = byte_at s (closed_place s);
    }
