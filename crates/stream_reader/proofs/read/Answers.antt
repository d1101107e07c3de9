use Rattle.std.proofs.Common.{◌≡◌, sym, ap, ◌∙◌, arith, rules, length-drop}
use Rattle.std.specs.Prelude.{◌-◌, ◌*◌, length}
use Rattle.std.proofs.lemmas.Result.{err_from_is_err_and}
use Rattle.stream_format.specs.Read.{reading, read_of}
use Rattle.stream_reader.proofs.Log.{early, late, whole, kept, at_end, fits, stored}
use Rattle.stream_reader.proofs.Part.{part}
use Rattle.stream_reader.proofs.Placed.{placed, placed_ok, placed_err}
use Rattle.stream_reader.proofs.read.Goals.{In_ok-map_err}
use Rattle.stream_reader.proofs.read.Goals as goal

pub returns-in_err-read : goal.returns-in_err-read
returns-in_err-read c =
    let p = err_from_is_err_and c.from_residual.result c.from_residual.ensures.1 in
    let e = early c.args.stream.now c.args.log.now _ _ c.in_err-read.ensures in
    rw (p.1, p.2) record { answer = e; left = kept _ _ _ _ e }

pub returns-in_err-map_err : goal.returns-in_err-map_err
returns-in_err-map_err c =
    let t : c.map_err.result ≡ placed (length c.args.stream.now) c.check_end.result = search rules in
    let p = placed_err _ _ _ _ (sym c.in_err-map_err.was ∙ t) c.from_residual-in_err-map_err.ensures.1 in
    let e = late c.args.stream.now c.args.log.now _ _ _ c.in_ok-read.ensures _ (rw p.0 at c.check_end.ensures) in
    record { answer = p.1 ∙ e; left = kept _ _ _ _ e }

-- nothing is refused
answer : (c : In_ok-map_err) → reading c.in_ok-read.read.place c.in_ok-read.read.rows c.in_ok-read.read.list
    ≡ read_of c.args.stream.now (length c.args.log.now)
answer c =
    let t : c.map_err.result ≡ placed (length c.args.stream.now) c.check_end.result = search rules in
    let p = placed_ok _ _ _ (sym c.in_ok-map_err.was ∙ t) in
    whole c.args.stream.now c.args.log.now _ _ _ c.in_ok-read.ensures (rw p at c.check_end.ensures)

pub overflow_mul-first_run : goal.overflow_mul-first_run
overflow_mul-first_run c = omega (arith, (at_end _ _ _ _ _ (answer c)).within)

pub overflow_sub-first_run : goal.overflow_sub-first_run
overflow_sub-first_run c = omega (arith, (at_end _ _ _ _ _ (answer c)).within)

pub put_runs-requires : goal.put_runs-requires
put_runs-requires c =
    let s = c.args.stream.now in
    let e = answer (goal.at.put_runs-requires c).In_ok-map_err in
    let at = length s - 33 * c.in_ok-read.read.rows in
    record {
      whole = omega (arith, (at_end _ _ _ _ _ e).within, ap length (part s at), length-drop at s);
      room = fits _ _ _ _ _ e;
    }

pub returns : goal.returns
returns c =
    let e = answer (goal.at.returns c).In_ok-map_err in
    record { answer = e; left = c.put_runs.ensures ∙ stored _ _ _ _ _ e }
