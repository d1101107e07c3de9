-- What `==` tells of how two rows stand.
use Rattle.std.specs.Prelude.{◌≡◌, refl}
use denote.Enum.Bare.{sameb}
use Rattle.pareto.specs.Table.{first_dominates, second_dominates}
use Rattle.pareto.specs.contracts.table.Relation.{the_type}
use Rattle.pareto.specs.declared.table.Relation.{Relation}
use Rattle.pareto.specs.declared.table.Relation.TheVariants.{Equal, FirstDominates, SecondDominates, Incomparable}

pub same_first : (r : Relation) → sameb the_type r FirstDominates ≡ first_dominates r
same_first Equal = refl
same_first FirstDominates = refl
same_first SecondDominates = refl
same_first Incomparable = refl

pub same_second : (r : Relation) → sameb the_type r SecondDominates ≡ second_dominates r
same_second Equal = refl
same_second FirstDominates = refl
same_second SecondDominates = refl
same_second Incomparable = refl
