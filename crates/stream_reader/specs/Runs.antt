-- The runs of an accepted stream: they stand at its end, one after the other.
use Rattle.std.specs.Prelude.{ℕ, zero, suc, List, [], ◌++◌, drop, ℤ}
use Rattle.stream_format.specs.Kinds.{run_record}
use Rattle.stream_format.specs.Read.{ints_at}

-- the values of the n runs that bs begins with
unfoldable pub run_values : ℕ → List ℕ → List ℤ
run_values zero bs = []
run_values (suc n) bs = ints_at 8 bs 1 ++ run_values n (drop run_record bs)
