-- The first reached node of a row.
use Rattle.std.specs.Prelude.{◌≡◌, refl, Bool, true, false, cond, List, [], ◌∷◌, ℕ, zero, suc, ◌<◌, ◌≤◌, eqb, length, get_or}
use Rattle.std.proofs.Common.{not-suc-le-zero, le_of_suc-le-suc, arith, eqb-true}
use Rattle.std.proofs.lemmas.Bool.{eqb-false}
use Rattle.lattice_nodes.specs.Steps.{first_reached}

pub first_low : (l : List ℕ) → first_reached l ≤ length l
unfolding first_reached
first_low [] = omega arith
first_low (b ∷ l) = go (eqb b 0) (first_low l)
  where
    go : (t : Bool) → first_reached l ≤ length l → cond t (suc (first_reached l)) 0 ≤ length (b ∷ l)
    go true h = omega arith
    go false h = omega arith

pub first_zero : (l : List ℕ) (i : ℕ) → i < first_reached l → get_or l i 0 ≡ 0
unfolding first_reached
first_zero [] i h = refl
first_zero (b ∷ l) i h = go (eqb b 0) refl (first_zero l) i h
  where
    go : (t : Bool) → eqb b 0 ≡ t → ((k : ℕ) → k < first_reached l → get_or l k 0 ≡ 0) → (k : ℕ)
        → k < cond t (suc (first_reached l)) 0 → get_or (b ∷ l) k 0 ≡ 0
    go true e more zero k = eqb-true b 0 e
    go true e more (suc n) k = more n (le_of_suc-le-suc k)
    go false e more n k = absurd (not-suc-le-zero k)

pub first_found : (l : List ℕ) → first_reached l < length l → get_or l (first_reached l) 0 ≡ 0 → ⊥
unfolding first_reached
first_found [] h e = not-suc-le-zero h
first_found (b ∷ l) h z = go (eqb b 0) refl (first_found l) h z
  where
    go : (t : Bool) → eqb b 0 ≡ t → (first_reached l < length l → get_or l (first_reached l) 0 ≡ 0 → ⊥)
        → cond t (suc (first_reached l)) 0 < length (b ∷ l)
        → get_or (b ∷ l) (cond t (suc (first_reached l)) 0) 0 ≡ 0 → ⊥
    go true e more k z = more (le_of_suc-le-suc k) z
    go false e more k z = eqb-false b 0 e z
