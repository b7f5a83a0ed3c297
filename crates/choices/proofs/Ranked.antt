-- What holds of each entry of a list, and from each to each later one.
use Prim.Native.Nat.{ℕ, zero, suc, ◌<◌}
use mathlib.Core.List.{List, [], ◌∷◌, ◌++◌, map}
use native.Mathlib.Omega.{arith}
use lib.ListN.{length, get_or}

abbrev pub Each : {A : Type 0} → (A → Type 0) → List A → Type 0
Each P [] = Unit {0}
Each P (x ∷ xs) = P x × Each P xs

abbrev pub Ranked : {A : Type 0} → (A → A → Type 0) → List A → Type 0
Ranked R [] = Unit {0}
Ranked R (x ∷ xs) = Each (R x) xs × Ranked R xs

module _ {A : Type 0} (P : A → Type 0) where
  pub each_join : (xs ys : List A) → Each P xs → Each P ys → Each P (xs ++ ys)
  each_join [] ys h k = k
  each_join (x ∷ xs) ys h k = (h.0, each_join xs ys h.1 k)

  pub each_at : (d : A) (xs : List A) → Each P xs → (i : ℕ) → i < length xs → P (get_or xs i d)
  each_at d [] h i q = absurd (omega (arith, q))
  each_at d (x ∷ xs) h zero q = h.0
  each_at d (x ∷ xs) h (suc i) q = each_at d xs h.1 i (omega (arith, q))

  pub each_map : (Q : A → Type 0) (f : A → A) → ((x : A) → P x → Q (f x)) → (xs : List A) → Each P xs → Each Q (map f xs)
  each_map Q f g [] h = tt
  each_map Q f g (x ∷ xs) h = (g x h.0, each_map Q f g xs h.1)

  pub each_so : (Q : A → Type 0) → ((x : A) → P x → Q x) → (xs : List A) → Each P xs → Each Q xs
  each_so Q g [] h = tt
  each_so Q g (x ∷ xs) h = (g x h.0, each_so Q g xs h.1)

module _ {A : Type 0} (R : A → A → Type 0) where
  pub ranked_at : (d : A) (xs : List A) → Ranked R xs → (i j : ℕ) → i < j → j < length xs → R (get_or xs i d) (get_or xs j d)
  ranked_at d [] h i j q l = absurd (omega (arith, l))
  ranked_at d (x ∷ xs) h i zero q l = absurd (omega (arith, q))
  ranked_at d (x ∷ xs) h zero (suc j) q l = each_at (R x) d xs h.0 j (omega (arith, l))
  ranked_at d (x ∷ xs) h (suc i) (suc j) q l = ranked_at d xs h.1 i j (omega (arith, q)) (omega (arith, l))

  pub ranked_map :
      (S : A → A → Type 0) (f : A → A) →
      ((x y : A) → R x y → S (f x) (f y)) →
      (xs : List A) →
      Ranked R xs →
      Ranked S (map f xs)
  ranked_map S f g [] h = tt
  ranked_map S f g (x ∷ xs) h = (each_map (R x) (S (f x)) f (g x) xs h.0, ranked_map S f g xs h.1)

  -- two lists joined, where R leads from each P of the first to each Q of the second
  pub ranked_join :
      (P Q : A → Type 0) →
      ((x y : A) → P x → Q y → R x y) →
      (xs ys : List A) →
      Each P xs →
      Each Q ys →
      Ranked R xs →
      Ranked R ys →
      Ranked R (xs ++ ys)
  ranked_join P Q g [] ys p q h k = k
  ranked_join P Q g (x ∷ xs) ys p q h k =
      (each_join (R x) xs ys h.0 (each_so Q (R x) (λ y. g x y p.0) ys q), ranked_join P Q g xs ys p.1 q h.1 k)

  -- where all are P
  pub ranked_so :
      (P : A → Type 0) (S : A → A → Type 0) →
      ((x y : A) → P x → P y → R x y → S x y) →
      (xs : List A) →
      Each P xs →
      Ranked R xs →
      Ranked S xs
  ranked_so P S g [] h k = tt
  ranked_so P S g (x ∷ xs) h k = (both xs h.1 k.0, ranked_so P S g xs h.1 k.1)
    where
      both : (ys : List A) → Each P ys → Each (R x) ys → Each (S x) ys
      both [] p r = tt
      both (y ∷ ys) p r = (g x y h.0 p.0 r.0, both ys p.1 r.1)

-- by places
pub each_of :
    {A : Type 0} (P : A → Type 0) (d : A) (xs : List A) →
    ((i : ℕ) → i < length xs → P (get_or xs i d)) →
    Each P xs
each_of P d [] h = tt
each_of P d (x ∷ xs) h = (h 0 (omega arith), each_of P d xs (λ i q. h (suc i) (omega (arith, q))))

-- from each to the next is from each to each later one, where R goes on
pub ranked_of :
    {A : Type 0} (R : A → A → Type 0) (d : A) →
    ((x y z : A) → R x y → R y z → R x z) →
    (xs : List A) →
    ((i : ℕ) → suc i < length xs → R (get_or xs i d) (get_or xs (suc i) d)) →
    Ranked R xs
ranked_of R d on [] h = tt
ranked_of R d on (x ∷ []) h = (tt, tt)
ranked_of R d on (x ∷ y ∷ ys) h =
    let rest = ranked_of R d on (y ∷ ys) (λ i q. h (suc i) (omega (arith, q))) in
    let next = h 0 (omega arith) in
    ((next, each_so (R y) (R x) (λ z. on x y z next) ys rest.0), rest)
