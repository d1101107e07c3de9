use Rattle.std.proofs.Common.{◌≡◌, ◌≤◌, false, length, drop}
use Rattle.std.specs.List.{AllWithin}
use Rattle.std.specs.Slice.Iter.{chunks_exact_rest, chunks_exact_size}
use Rattle.scan.proofs.passed_over.Given as goal

-- the blocks in front are passed over, and the others are left
abbrev pub invariant-loop-block : goal.invariant-loop-block
invariant-loop-block g l = record {
  sixteen : chunks_exact_size l.block-iterator ≡ 16;
  within : l.front ≤ length l.xs;
  left : chunks_exact_rest l.block-iterator ≡ drop l.front l.xs;
  before : AllWithin (λ x. goal.F-post g l.holds x false) l.xs 0 l.front;
}
