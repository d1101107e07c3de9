use Rattle.std.proofs.Common.{length, ◌-◌, ◌≤◌, false}
use Rattle.std.specs.List.{AllWithin}
use Rattle.scan.proofs.first_place.Given as goal

abbrev pub decreases-loop-at : goal.decreases-loop-at
decreases-loop-at g l = length l.xs - l.at

abbrev pub invariant-loop-at : goal.invariant-loop-at
invariant-loop-at g l = record {
  within : l.at ≤ length l.xs;
  before : AllWithin (λ x. goal.F-post g l.holds x false) l.xs 0 l.at;
}
