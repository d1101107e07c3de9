-- Two rows of a level table, which has eight numbers to a row, and behind the longest plane of them a second one.
use Rattle.std.specs.Prelude.{◌≡◌, ℕ, ◌+◌, ◌-◌, ◌*◌, ◌/◌, Bool, true, false, ◌&&◌, ◌||◌, cond, List, ltb, get_or, length}
use Rattle.limits.specs.Limits.{columns, max_values}
use Rattle.laws.specs.First.{any_below}
use Rattle.pareto.specs.declared.table.Lower.{Lower}
use Rattle.pareto.specs.declared.table.Relation.{Relation}
use Rattle.pareto.specs.declared.table.Relation.TheVariants.{Equal, FirstDominates, SecondDominates, Incomparable}

-- place k from p on of a table is below that from q on
abbrev pub lower : List ℕ → ℕ → ℕ → ℕ → Bool
lower table p q k = ltb (get_or table (p + k) 0) (get_or table (q + k) 0)

-- a table has a second plane: it is longer than the longest first one
abbrev pub is_double : List ℕ → Bool
is_double table = ltb max_values (length table)

-- row a has a level below row b's among those of the first plane, and of the second
abbrev pub lower_in : List ℕ → ℕ → ℕ → Bool
lower_in table a b = any_below (lower table (columns * a) (columns * b)) columns

abbrev pub lower_behind : List ℕ → ℕ → ℕ → Bool
lower_behind table a b = any_below (lower table (max_values + columns * a) (max_values + columns * b)) columns

-- both are rows of so many numbers
abbrev pub both_in : ℕ → ℕ → ℕ → Bool
both_in n a b = ltb a (n / columns) && ltb b (n / columns)

-- row a of a table of one plane has a level below row b's; a row that the table has not has none
unfoldable pub plane_lower : List ℕ → ℕ → ℕ → Bool
plane_lower table a b = both_in (length table) a b && lower_in table a b

-- the same of two planes
unfoldable pub double_lower : List ℕ → ℕ → ℕ → Bool
double_lower table a b = both_in (length table - max_values) a b && (lower_in table a b || lower_behind table a b)

unfoldable pub has_lower : List ℕ → ℕ → ℕ → Bool
has_lower table a b = cond (is_double table) (double_lower table a b) (plane_lower table a b)

-- only the first of two rows has a level below the other's: "no level of a is above b's and one is below", so that it
-- dominates
abbrev pub relation : Bool → Bool → Relation
relation first second = cond first (cond second Incomparable FirstDominates) (cond second SecondDominates Equal)

-- how rows a and b of a table stand, both ways at once
unfoldable pub compared : List ℕ → ℕ → ℕ → Relation
compared table a b = relation (has_lower table a b) (has_lower table b a)

abbrev pub first_dominates : Relation → Bool
first_dominates Equal = false
first_dominates FirstDominates = true
first_dominates SecondDominates = false
first_dominates Incomparable = false

abbrev pub second_dominates : Relation → Bool
second_dominates Equal = false
second_dominates FirstDominates = false
second_dominates SecondDominates = true
second_dominates Incomparable = false

-- what a look at two rows tells both ways, where `below` says which of them has a level below the other's
pub record Looked (below : ℕ → ℕ → Bool) (a b : ℕ) (r : Lower) : Type 0 where
  pub first_is : r.first ≡ below a b
  pub second_is : r.second ≡ below b a
