use Rattle.std.proofs.Common.{sym, ◌∙◌, false}
use Rattle.scan.proofs.Blocks.{block_within, block_left, block_before}
use Rattle.scan.proofs.passed_over.Goals as goal

pub loop-block-preserved : goal.loop-block-preserved
loop-block-preserved g c =
    let s = c.loop-block.invariant in
    let e = c.in-Some.ensures.steps in
    let parts = sym s.left ∙ e.1.0 in
    let size = e.1.1 ∙ s.sixteen in
    record {
      sixteen = e.0 ∙ s.sixteen;
      within = block_within _ _ _ _ _ s.within parts size;
      left = block_left _ _ _ _ _ s.within parts size;
      before =
          block_before _ _ _ _ _ s.within parts size (λ x. goal.F-post g c.args.holds.now x false) s.before
          (c.holds_somewhere.ensures c.if-holds_somewhere.false);
    }
