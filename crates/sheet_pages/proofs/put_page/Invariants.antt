use Rattle.std.proofs.Common.{◌++◌, take}
use Rattle.output.specs.Writes.{Writes}
use Rattle.sheet_lines.specs.Line.{heading_line}
use Rattle.sheet_pages.specs.Pages.{lines_of}
use Rattle.sheet_pages.proofs.put_page.Given as goal

abbrev pub invariant-loop-r : goal.invariant-loop-r
invariant-loop-r l = Writes l.fn.out l.out (heading_line ++ lines_of l.log (take l.r-index l.page))
