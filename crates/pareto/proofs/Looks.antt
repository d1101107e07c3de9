-- A look at two rows of a level table, level by level and plane by plane.
use Rattle.std.proofs.Common.{◌≡◌, refl, sym, ◌∙◌, ℕ, ◌-◌, ◌/◌, ◌<◌, ◌≤◌, Bool, true, false, ◌&&◌, ◌||◌, ◌⊎◌, List, length}
use Rattle.std.proofs.Math.Logic.{⊎_elim}
use Rattle.laws.specs.First.{any_below, first_at}
use Rattle.laws.specs.Laws.Bools.{both}
use Rattle.pareto.specs.Table.{both_in, lower_in, lower_behind, plane_lower, double_lower, Looked}
use Rattle.pareto.specs.Laws.Planes.{plane_is, double_is, first_past, second_past, both_in_lem, looked_past, looked_in}
use Rattle.pareto.specs.declared.table.Lower.{Lower}

pub none_below : (p : ℕ → Bool) → any_below p 0 ≡ false
unfolding any_below first_at
none_below p = refl

-- one of the rows is past the n numbers' rows
outside : (n a b : ℕ) → (n / 8 ≤ a) ⊎ ((a < n / 8) × (n / 8 ≤ b)) → (both_in n a b ≡ false) × (both_in n b a ≡ false)
outside n a b = ⊎_elim (λ h. first_past n a b h) (λ h. second_past n a b h.1)

module _ (t : List ℕ) (a b : ℕ) (r : Lower) where
  pub plane_past : (length t / 8 ≤ a) ⊎ ((a < length t / 8) × (length t / 8 ≤ b)) → (r.first ≡ false) × (r.second ≡ false)
      → Looked (plane_lower t) a b r
  plane_past h s = looked_past (plane_lower t) (length t) a b (lower_in t) (plane_is t) (outside (length t) a b h) r s.0 s.1

  pub plane_seen : a < length t / 8 → b < length t / 8 → (r.first ≡ lower_in t a b) × (r.second ≡ lower_in t b a)
      → Looked (plane_lower t) a b r
  plane_seen h k s = looked_in (plane_lower t) (length t) a b (lower_in t) (plane_is t) (both_in_lem (length t) a b h k) r s.0 s.1

  -- of two planes
  pub double_past : ((length t - 8192) / 8 ≤ a) ⊎ ((a < (length t - 8192) / 8) × ((length t - 8192) / 8 ≤ b))
      → (r.first ≡ false) × (r.second ≡ false) → Looked (double_lower t) a b r
  double_past h s =
      looked_past (double_lower t) (length t - 8192) a b (λ p q. lower_in t p q || lower_behind t p q) (double_is t)
      (outside (length t - 8192) a b h) r s.0 s.1

  module _ (h : a < (length t - 8192) / 8) (k : b < (length t - 8192) / 8) where
    pub double_seen : r.first ≡ (lower_in t a b || lower_behind t a b) → r.second ≡ (lower_in t b a || lower_behind t b a)
        → Looked (double_lower t) a b r
    double_seen =
        looked_in (double_lower t) (length t - 8192) a b (λ p q. lower_in t p q || lower_behind t p q) (double_is t)
        (both_in_lem (length t - 8192) a b h k) r

    -- each has a lower level in the first plane
    pub near_tells : (r.first ≡ lower_in t a b) × (r.second ≡ lower_in t b a) → (r.first && r.second) ≡ true → Looked (double_lower t) a b r
    near_tells s e =
        let d = both r.first r.second e in
        double_seen (d.0 ∙ rw (sym s.0 ∙ d.0)) (d.1 ∙ rw (sym s.1 ∙ d.1))
