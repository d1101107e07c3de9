use Rattle.std.proofs.Common.{refl, arith, rules}
use Rattle.window_machine.specs.Machine.{spares}
use Rattle.window_entries.specs.Entries.{Filtered}
use Rattle.window_entries.specs.Laws.Entries.{filtered_none}
use Rattle.window_step.specs.Scans.{Undominated}
use Rattle.window_step.specs.Reads.{dominates_in}
use Rattle.window_step.proofs.Judging.{judged, dropped_few, judging_drop, judging_enter, judging_aside}
use Rattle.window_step.proofs.Machine.judge.Goals as goal
use Rattle.window_step.proofs.Machine.judge.Goals.{in-Spares, in-Removes, Joined-scan}

-- no entry dominates the row, and those that it spares are left
left_is : (c : Joined-scan) → Undominated (dominates_in c.args.self.now) c.args.row c.args.self.now.work.now c.args.self.now.standing.occupied
    × Filtered (spares (dominates_in c.args.self.now) c.args.row) c.args.self.now.work.now c.match-scan.work c.args.self.now.standing.occupied c.match-scan.left
left_is c =
    elim c.match-scan.branch [
      | in-Spares w ↦ let v = w.in-Spares.ensures in rw (w.work-is, w.left-is) (v.undominated, filtered_none _ _ _ v.spared)
      | in-Removes w ↦ let v = w.in-Removes.ensures in rw (w.work-is, w.left-is) (v.undominated, w.remove-left.ensures _ v.flags_are)
    ]

pub overflow_add-self-in-Dropped : goal.overflow_add-self-in-Dropped
overflow_add-self-in-Dropped c = omega (arith, dropped_few c.requires c.in-Dropped.ensures, c.requires.small)

pub returns-in-Dropped : goal.returns-in-Dropped
returns-in-Dropped c = judged (search rules) refl (judging_drop c.requires c.in-Dropped.ensures)

pub returns-then-left-self : goal.returns-then-left-self
returns-then-left-self c =
    let l = left_is (goal.at.returns-then-left-self c).Joined-scan in
    judged (search rules) refl (judging_enter c.requires l.0 l.1 c.if-left-self.true c.put_entry.ensures)

pub returns-else-left-self : goal.returns-else-left-self
returns-else-left-self c =
    let l = left_is (goal.at.returns-else-left-self c).Joined-scan in
    judged (search rules) refl (judging_aside c.requires l.0 l.1 c.if-left-self.false c.put_entry-else-left-self.ensures)
