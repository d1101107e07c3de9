use Rattle.std.specs.Prelude.{◌*◌, ◌≤◌, vec_len}
use Rattle.test_support.proofs.levels_apart.tops_of.Given as goal

abbrev pub invariant-loop-wish : goal.invariant-loop-wish
invariant-loop-wish l = vec_len l.tops ≤ 2 * l.wish-index
