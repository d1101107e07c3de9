use Rattle.std.specs.Prelude.{◌≡◌, ◌+◌, ◌-◌, refl, length}
use Rattle.std.proofs.Common.{sym, arith}
use Rattle.output.specs.Writes.{contents}
use Rattle.output.specs.Laws.Stored.{with_whole, with_past}
use Rattle.output.proofs.Output.put_bytes.Goals as goal

pub returns-then-end-self : goal.returns-then-end-self
returns-then-end-self c =
    let s = c.args.self.now in
    let x = c.args.bytes.now in
    let n : s.at + length x - s.at ≡ length x = omega arith in
    let w = with_whole (contents s) x (omega (arith, c.saturating_sub.ensures, c.if-saturating_sub-bytes.false)) c.if-end-self.true in
    record { same = refl; holds = rw (c.copy_from_slice.ensures.after, n) (sym w) }

pub returns-then-self : goal.returns-then-self
returns-then-self c =
    let s = c.args.self.now in
    let x = c.args.bytes.now in
    record {
      same = refl;
      holds = sym (with_past (contents s) x (omega (arith, c.saturating_sub.ensures, c.if-saturating_sub-bytes.false)) c.if-self.true);
    }
