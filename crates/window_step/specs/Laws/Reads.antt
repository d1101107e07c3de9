-- A machine that has the same table, capacity and lent lists, step by step.
use Rattle.std.specs.Prelude.{refl}
use Rattle.std.proofs.Common.{◌∙◌}
use Rattle.window_step.specs.Reads.{Same}
use Rattle.window_step.specs.declared.Machine.{Machine}

pub same_refl : (m : Machine) → Same m m
same_refl m = record {
  table = refl;
  capacity = refl;
  work = refl;
  marks = refl;
  work_long = refl;
  marks_long = refl;
}

pub same_trans : {a b c : Machine} → Same a b → Same b c → Same a c
same_trans p q = record {
  table = q.table ∙ p.table;
  capacity = q.capacity ∙ p.capacity;
  work = q.work ∙ p.work;
  marks = q.marks ∙ p.marks;
  work_long = q.work_long ∙ p.work_long;
  marks_long = q.marks_long ∙ p.marks_long;
}
