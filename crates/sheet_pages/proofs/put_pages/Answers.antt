use Rattle.std.proofs.Common.{length, arith}
use Rattle.sheet_pages.proofs.Rules.{page_begun}
use Rattle.sheet_pages.proofs.put_pages.Goals as goal

pub put_page-requires : goal.put_page-requires
put_page-requires c =
    page_begun (length c.args.rows.now) c.loop-p.p (omega (arith, c.page_count-p-end.ensures, c.loop-p-test.true))
