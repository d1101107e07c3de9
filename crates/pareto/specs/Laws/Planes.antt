-- Which of two rows of a table has a lower level, by the planes that it has.
use Rattle.std.specs.Prelude.{◌≡◌, refl, ℕ, ◌-◌, ◌/◌, ◌<◌, ◌≤◌, Bool, true, false, ◌&&◌, ◌||◌, List, ltb, length}
use Rattle.std.proofs.Common.{sym, ◌∙◌, lt-ltb, le-ltb}
use Rattle.pareto.specs.Table.{is_double, both_in, lower_in, lower_behind, plane_lower, double_lower, has_lower}
use Rattle.pareto.specs.Table.{relation, compared, Looked}
use Rattle.pareto.specs.declared.table.Lower.{Lower}

-- ---- by the number of planes

module _ (t : List ℕ) where
  pub lower_plane : is_double t ≡ false → (a b : ℕ) → has_lower t a b ≡ plane_lower t a b
  unfolding has_lower
  lower_plane d a b = rw d

  pub lower_double : is_double t ≡ true → (a b : ℕ) → has_lower t a b ≡ double_lower t a b
  unfolding has_lower
  lower_double d a b = rw d

  pub compared_plane : is_double t ≡ false → (a b : ℕ)
      → relation (plane_lower t a b) (plane_lower t b a) ≡ compared t a b
  unfolding compared
  compared_plane d a b = rw (lower_plane d a b, lower_plane d b a)

  pub compared_double : is_double t ≡ true → (a b : ℕ)
      → relation (double_lower t a b) (double_lower t b a) ≡ compared t a b
  unfolding compared
  compared_double d a b = rw (lower_double d a b, lower_double d b a)

-- ---- a look

-- at a row that is none of n numbers' rows
past : (x y : Bool) → x ≡ false → ((x && y) ≡ false) × ((y && x) ≡ false)
past x true e = rw e (refl, refl)
past x false e = rw e (refl, refl)

module _ (n a b : ℕ) where
  pub first_past : n / 8 ≤ a → (both_in n a b ≡ false) × (both_in n b a ≡ false)
  first_past h = past (ltb a (n / 8)) (ltb b (n / 8)) (le-ltb a (n / 8) h)

  pub second_past : n / 8 ≤ b → (both_in n a b ≡ false) × (both_in n b a ≡ false)
  second_past h = let p = past (ltb b (n / 8)) (ltb a (n / 8)) (le-ltb b (n / 8) h) in (p.1, p.0)

  pub both_in_lem : a < n / 8 → b < n / 8 → (both_in n a b ≡ true) × (both_in n b a ≡ true)
  both_in_lem h k = (rw (lt-ltb a (n / 8) h, lt-ltb b (n / 8) k), rw (lt-ltb a (n / 8) h, lt-ltb b (n / 8) k))

-- by which rows there are, and by which has a lower level
module _ (below : ℕ → ℕ → Bool) (n a b : ℕ) (x : ℕ → ℕ → Bool)
    (e : (p q : ℕ) → below p q ≡ (both_in n p q && x p q)) where
  pub looked_past : (both_in n a b ≡ false) × (both_in n b a ≡ false) → (r : Lower) → r.first ≡ false
      → r.second ≡ false → Looked below a b r
  looked_past h r f s = record { first_is = f ∙ sym (e a b ∙ rw h.0); second_is = s ∙ sym (e b a ∙ rw h.1) }

  pub looked_in : (both_in n a b ≡ true) × (both_in n b a ≡ true) → (r : Lower) → r.first ≡ x a b → r.second ≡ x b a
      → Looked below a b r
  looked_in h r f s = record { first_is = sym (e a b ∙ rw h.0 (sym f)); second_is = sym (e b a ∙ rw h.1 (sym s)) }

pub plane_is : (t : List ℕ) (a b : ℕ) → plane_lower t a b ≡ (both_in (length t) a b && lower_in t a b)
unfolding plane_lower
plane_is t a b = refl

pub double_is : (t : List ℕ) (a b : ℕ)
    → double_lower t a b ≡ (both_in (length t - 8192) a b && (lower_in t a b || lower_behind t a b))
unfolding double_lower
double_is t a b = refl
