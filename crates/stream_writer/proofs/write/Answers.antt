use Rattle.std.proofs.Common.{sym, ◌∙◌, lt-ltb, le-ltb}
use Rattle.laws.specs.Laws.Checks.{gives_yes, gives_no}
use Rattle.refusal.specs.Laws.Refusal.{accepted_by, call_exit, refused_by, then_err, then_ok}
use Rattle.refusal.specs.declared.Refusal.TheVariants.{NoRoom}
use Rattle.stream_format.specs.Write.{write_refusal}
use Rattle.stream_writer.proofs.Left.{left_refused, left_written}
use Rattle.stream_writer.proofs.write.Goals as goal

pub returns-in_err-check : goal.returns-in_err-check
unfolding write_refusal
returns-in_err-check c =
    let e = then_err _ _ _ c.in_err-check.ensures in
    record { answer = call_exit _ _ _ _ c.from_residual.ensures.1 e; left = left_refused _ _ _ _ e }

pub returns-in_err-check-2 : goal.returns-in_err-check-2
unfolding write_refusal
returns-in_err-check-2 c =
    let e = then_ok _ _ _ c.in_ok-check.ensures (then_err _ _ _ c.in_err-check-2.ensures) in
    record { answer = call_exit _ _ _ _ c.from_residual-in_err-check-2.ensures.1 e; left = left_refused _ _ _ _ e }

pub returns-then-out-length : goal.returns-then-out-length
unfolding write_refusal
returns-then-out-length c =
    let short = lt-ltb _ _ (rw c.stream_length-length.ensures at c.if-out-length.true) in
    let e = then_ok _ _ _ c.in_ok-check.ensures (then_ok _ _ _ c.in_ok-check-2.ensures (sym (gives_yes _ 10 short))) in
    record { answer = refused_by NoRoom _ _ e; left = left_refused _ _ _ NoRoom e }

pub returns : goal.returns
unfolding write_refusal
returns c =
    let room = le-ltb _ _ (rw c.stream_length-length.ensures at c.if-out-length.false) in
    let e = then_ok _ _ _ c.in_ok-check.ensures (then_ok _ _ _ c.in_ok-check-2.ensures (sym (gives_no _ 10 room))) in
    record {
      answer = accepted_by _ _ _ (sym e) c.stream_length-length.ensures;
      left = c.store.ensures ∙ left_written _ _ _ (sym e);
    }
