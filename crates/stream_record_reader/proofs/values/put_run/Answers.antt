use Rattle.std.proofs.Common.{ap, ◌∙◌, arith, length-take, length-drop}
use Rattle.std.specs.Prelude.{◌+◌, ◌*◌, ◌<◌, List, [], ℕ, get_or}
use Rattle.stream_record_reader.proofs.Run.{next, figure, value}
use Rattle.stream_record_reader.proofs.values.put_run.Goals as goal

pub loop-i-preserved : goal.loop-i-preserved
loop-i-preserved c =
    let t = c.args.bytes.now in
    let i = c.loop-i.i in
    let in_run : i < 8 = omega (arith, length-take {A = ℕ}, length-drop {A = ℕ}) in
    let bytes = ap (λ (fs : List (List ℕ)). get_or fs i []) c.as_chunks.ensures.front ∙ figure t i c.requires.whole in_run in
    let v = value _ _ t (1 + 4 * i) c.from_le_bytes.ensures bytes c.from_le_bytes.type_inv in
    rw v (next c.loop-i.log c.args.to i t in_run ∙ c.loop-i.invariant)
