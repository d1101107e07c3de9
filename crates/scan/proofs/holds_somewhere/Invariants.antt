use Rattle.std.proofs.Common.{◌≡◌, false}
use Rattle.std.specs.List.{AllWithin}
use Rattle.scan.proofs.holds_somewhere.Given as goal

abbrev pub invariant-loop-x : goal.invariant-loop-x
invariant-loop-x g l = l.somewhere ≡ false → AllWithin (λ x. goal.F-post g l.holds x false) l.block 0 l.x-index
