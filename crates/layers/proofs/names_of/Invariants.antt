use Rattle.std.proofs.Common.{◌≡◌, length}
use Rattle.preference.specs.Laws.Names.{Gathered}
use Rattle.layers.proofs.names_of.Given as goal

abbrev pub invariant-loop-naming : goal.invariant-loop-naming
invariant-loop-naming l =
    (length l.values ≡ 64) × (length l.layers ≡ 64) × Gathered l.fn.list l.i l.naming-index l.next l.values l.layers
