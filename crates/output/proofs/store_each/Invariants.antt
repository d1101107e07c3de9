use Rattle.std.proofs.Common.{◌≡◌, take}
use Rattle.output.specs.Writes.{content, with_bytes}
use Rattle.output.proofs.store_each.Given as goal

abbrev pub invariant-loop-b : goal.invariant-loop-b
invariant-loop-b l =
    content l.out l.next l.limit ≡ with_bytes (content l.initial.out l.at l.limit) (take l.b-index l.bytes)
