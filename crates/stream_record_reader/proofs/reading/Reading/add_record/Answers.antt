use Rattle.stream_record_reader.proofs.Taken.{columns_kept}
use Rattle.stream_record_reader.proofs.reading.Reading.add_record.Goals as goal

pub invariant_of-self : goal.invariant_of-self
invariant_of-self c =
    let kind = c.in_ok-kind.ensures in
    let before = c.args.self.now in
    record { columns = columns_kept _ _ _ _ kind.kind kind.refused before.columns _ c.add_to.ensures }
