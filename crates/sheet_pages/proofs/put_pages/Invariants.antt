use Rattle.laws.specs.Lists.{joined}
use Rattle.output.specs.Writes.{Writes}
use Rattle.sheet_pages.specs.Pages.{page_of}
use Rattle.sheet_pages.proofs.put_pages.Given as goal

abbrev pub invariant-loop-p : goal.invariant-loop-p
invariant-loop-p l = Writes l.initial.out l.out (joined (page_of l.log l.rows) l.p)
