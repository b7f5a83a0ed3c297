-- Document 01, "Loads on one end": the route factor percents for routes 0 to 12 (CR 5.2.4(c)).
use Rattle.std.specs.Prelude.{ℕ, List, [], ◌∷◌, get_or}

abbrev pub route_percents : List ℕ
route_percents = 100 ∷ 87 ∷ 96 ∷ 95 ∷ 94 ∷ 100 ∷ 95 ∷ 73 ∷ 86 ∷ 90 ∷ 90 ∷ 73 ∷ 87 ∷ []

abbrev pub route_percent : ℕ → ℕ
route_percent route = get_or route_percents route 0
