use Rattle.output.specs.Writes.{Writes}
use Rattle.sheet_lines.specs.Laws.Turns.{spaces}
use Rattle.sheet_lines.proofs.put_spaces.Given as goal

abbrev pub invariant-loop : goal.invariant-loop
invariant-loop l = Writes l.initial.out l.out (spaces l.counter)
