-- The lattice that the engine walks has all parts of the level vectors. What goes by that cites one of the first three
-- laws.
use Rattle.std.specs.Prelude.{◌≡◌, ℕ, ◌<◌, ◌≤◌, true, false, length}
use Rattle.std.proofs.Math.Path.{refl}
use Rattle.run_log.specs.Log.{Log}
use Rattle.preference.specs.Parts.{max_levels}
use Rattle.preference.specs.Laws.Parts.{parts_few}
use Rattle.preference.specs.declared.PreferenceList.{PreferenceList}
use Rattle.level_table.specs.Table.{is_wide}
use Rattle.level_table.specs.Laws.Table.{narrow_few, wide_more}
use Rattle.pareto.specs.Best.{vector_at, vectors}
use Rattle.lattice.specs.Walked.{lattice_tops, lattice_row, lattice_rows}

pub tops_are : (l : PreferenceList) → lattice_tops l ≡ max_levels l
unfolding lattice_tops
tops_are l = refl

module _ (l : PreferenceList) (log : Log) where
  pub row_is : (r : ℕ) → lattice_row l log r ≡ vector_at l log r
  unfolding lattice_row
  row_is r = refl

  pub rows_are : lattice_rows l log ≡ vectors l log
  unfolding lattice_rows lattice_row vectors
  rows_are = refl

pub tops_few : (l : PreferenceList) → length (lattice_tops l) ≤ 16
tops_few l = rw (tops_are l) (parts_few l)

-- where the level table has one plane, and where it has two
pub narrow_tops : (l : PreferenceList) → is_wide l ≡ false → length (lattice_tops l) ≤ 8
narrow_tops l e = rw (tops_are l) (narrow_few l e)

pub wide_tops : (l : PreferenceList) → is_wide l ≡ true → 8 < length (lattice_tops l)
wide_tops l e = rw (tops_are l) (wide_more l e)
