use Rattle.std.proofs.Common.{rules, tests, arith}
use Rattle.lattice_stretch.proofs.Reached.{first_is}
use Rattle.lattice_stretch.proofs.first_reached.Goals as goal

pub returns : goal.returns
returns c =
    first_is c.args.nodes.now c.first_place.result c.first_place.ensures.within
    (λ k h. let no = c.first_place.ensures.before k 0 (omega arith) h in search (rules, tests))
    (λ h e. let yes = c.first_place.ensures.there h 0 in search (rules, tests))
