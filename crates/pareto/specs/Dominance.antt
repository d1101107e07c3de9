-- Document 01, "Levels": "Row a betters row b when no level of a is above b's and one is below." (000, Def. 15: a
-- dominates b in the Pareto preference, equal levels being substitutable.) Rows are their level vectors.
use Rattle.std.specs.Prelude.{ℕ, ◌<◌, ◌≤◌, Bool, true, false, ◌&&◌, ◌||◌, List, [], ◌∷◌, leb, ltb, get_or}

-- no level of a is above b's
unfoldable pub none_above : List ℕ → List ℕ → Bool
none_above [] bs = true
none_above (a ∷ rest) [] = true
none_above (a ∷ rest) (b ∷ bs) = leb a b && none_above rest bs

-- one level of a is below b's
unfoldable pub some_below : List ℕ → List ℕ → Bool
some_below [] bs = false
some_below (a ∷ rest) [] = false
some_below (a ∷ rest) (b ∷ bs) = ltb a b || some_below rest bs

unfoldable pub dominates : List ℕ → List ℕ → Bool
dominates a b = none_above a b && some_below a b

-- 000, Def. 15, part by part: nowhere a greater level, and somewhere a smaller one
pub record Pareto (a b : List ℕ) : Type 0 where
  pub nowhere_above : (k : ℕ) → get_or a k 0 ≤ get_or b k 0
  pub somewhere : ℕ
  pub below_there : get_or a somewhere 0 < get_or b somewhere 0
