use Rattle.std.proofs.Common.{take_all}
use Rattle.output.specs.Laws.Stored.{writes_then}
use Rattle.sheet_pages.specs.Pages.{page_of}
use Rattle.sheet_pages.proofs.Rules.{page_slice}
use Rattle.sheet_pages.proofs.put_page.Goals as goal

pub returns : goal.returns
unfolding page_of
returns c =
    let page =
    rw (take_all c.loop-r.r-index _ c.loop-r-test.false, c.min-to.ensures, page_slice c.args.rows.now c.args.p c.requires)
    at c.loop-r.invariant in
    writes_then page (rw c.page_count-pages.ensures at c.put_foot.ensures)
