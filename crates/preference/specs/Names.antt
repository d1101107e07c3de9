-- The named values of one preference, taken out of the list once for all who ask for a layer.
use Rattle.std.specs.Prelude.{ℕ, min, ◌≡◌, Bool, cond, List, ltb, ℤ, pos, get_or, length}
use Rattle.laws.specs.First.{first_at}
use Rattle.arith.specs.Gap.{eq_z}
use Rattle.preference.specs.Level.{layer_of}
use Rattle.preference.specs.declared.Names.{Names}
use Rattle.preference.specs.declared.PreferenceList.{PreferenceList}

-- what g says of the first number below n at which p holds, or another number where there is none
abbrev pub pick : (ℕ → Bool) → (ℕ → ℕ) → ℕ → ℕ → ℕ
pick p g n other = cond (ltb (first_at p n) n) (g (first_at p n)) other

-- value j is v
abbrev pub is_value : List ℤ → ℤ → ℕ → Bool
is_value values v j = eq_z (get_or values j (pos 0)) v

-- the layer of the first of n values that is v
abbrev pub look_up : List ℤ → List ℕ → ℕ → ℤ → ℕ → ℕ
look_up values layers n v others = pick (is_value values v) (λ j. get_or layers j 0) n others

-- the same, of as many of the n values and their layers as there are
abbrev pub among : List ℤ → List ℕ → ℕ → ℤ → ℕ → ℕ
among values layers n v others = look_up values layers (min n (min (length values) (length layers))) v others

-- every layer of the preference at place i is found among the names
pub record NamesOf (l : PreferenceList) (i : ℕ) (r : Names) : Type 0 where
  pub layer : (v : ℤ) (others : ℕ) → among r.values r.layers r.count v others ≡ layer_of l i v others
