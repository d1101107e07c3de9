-- The level table and the competing rows, handed to the machine.
use mathlib.Core.Path.{◌≡◌, ap, ◌∙◌}
use Prim.Native.Nat.{ℕ, ◌<◌}
use native.Mathlib.Omega.{arith}
use mathlib.Core.List.{List, ◌++◌}
use lib.ListN.{length, take, drop}
use lib.Seq.{length-take-le}
use Rattle.run_log.specs.Log.{Log, row_count}
use Rattle.preference.specs.declared.PreferenceList.{PreferenceList}
use Rattle.pareto.specs.Best.{competing, marks_after}
use Rattle.level_table.specs.Table.{table_of}
use Rattle.pareto.specs.Laws.Competing.{competing_few, competing_at, competing_whole}
use Rattle.window_machine.specs.Machine.{State, machine}
use Rattle.window_step.specs.Work.{table_dominates}
use Rattle.window_passes.specs.Passes.{Waits}
use Rattle.window.specs.Engine.{machine_of, Runnable}
use Rattle.window.specs.Laws.Marks.{machine_table, machine_best, count_small}

module _ (l : PreferenceList) (log : Log) (marks work w : ℕ) (g : Runnable l log marks work w) where
  -- the competing rows can wait
  pub rows_wait : Waits w (competing log) work
  rows_wait = record {
    narrow = g.narrow;
    few = omega (arith, competing_few log, g.few);
    small = λ i h. omega (arith, competing_at log i h, g.few);
    room = omega (arith, competing_few log, g.room);
  }

  -- their list is whole
  module _ {rows : List ℕ} (r : rows ≡ take 1024 (competing log)) where
    rows_are : rows ≡ competing log
    rows_are = r ∙ competing_whole log g.few

    pub rows_handed : Waits w rows work
    rows_handed = rw rows_are rows_wait

    -- the machine on the level table, on that list and on the bytes of the rows is the machine on the log
    module _ {t : List ℕ} (e : t ≡ table_of l log.values) (lent : List ℕ) (long : length lent ≡ marks)
        {n : ℕ} (m : n ≡ row_count log.values)
      where
        runs : machine (table_dominates t) w rows (length (take n lent)) ≡ machine_of l log w
        runs = rw (e, rows_are, length-take-le n lent (omega (arith, g.marked)), m) (machine_table l log g.list g.values g.few w)

        module _ {k : ℕ} (c : k ≡ (machine (table_dominates t) w rows (length (take n lent))).count) where
          pub counted : k ≡ (machine_of l log w).count
          counted = c ∙ ap (λ (st : State). st.count) runs

          pub count_fits : k < 4294967296
          count_fits = omega (arith, counted, count_small l log w g.some g.few)

        -- with the bytes past the rows
        pub marked_all : {given : List ℕ} → given ≡ (machine (table_dominates t) w rows (length (take n lent))).marks
            → given ++ drop n lent ≡ marks_after l log lent
        unfolding marks_after
        marked_all f = rw (f ∙ ap (λ (st : State). st.marks) runs ∙ machine_best l log w g.some, m)
