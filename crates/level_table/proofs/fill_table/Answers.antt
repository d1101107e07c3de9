use mathlib.Core.Path.{◌≡◌, refl, sym, ap, ◌∙◌}
use Prim.Native.Nat.{ℕ, ◌+◌, ◌-◌, ◌*◌, ◌≤◌}
use native.Mathlib.Omega.{arith}
use mathlib.Core.Bool.{Bool, true, false}
use lib.IntN.{ℤ}
use mathlib.Core.List.{List, ◌++◌, append-nil}
use lib.ListN.{length, take, drop, length-drop, drop_of_length-le}
use lib.Seq.{sets, length-sets, length-take-le, take_all}
use borrow.Author.Tests.{lt-ltb, le-ltb}
use lib.Dec.{ltb}
use Rattle.laws.specs.Laws.Stores.{stored_part}
use Rattle.run_log.specs.Log.{row_count}
use Rattle.preference.specs.declared.PreferenceList.{PreferenceList}
use Rattle.level_table.specs.Table.{is_wide, plane_of, table_length, with_table}
use Rattle.level_table.specs.Laws.Table.{table_narrow, table_wide}
use Rattle.level_table.proofs.fill_table.Goals.{Then-is_wide}
use Rattle.level_table.proofs.fill_table.Goals as goal

-- a plane fits into a table of its length
plane_fits : (l : PreferenceList) (log : List ℤ) (t : Bool) → is_wide l ≡ t → 8 * row_count log ≤ table_length l log
plane_fits l log true e = omega (arith, table_wide l log e)
plane_fits l log false e = omega (arith, table_narrow l log e)

-- a second plane is due
wide : (c : Then-is_wide) → is_wide c.args.list ≡ true
wide c = sym c.is_wide.ensures ∙ c.if-is_wide.true

-- the first one leaves the table's length, and there is room for it
room : (c : Then-is_wide) → 8192 + 8 * row_count c.args.log.now ≤ length c.fill_plane.new.table
room c =
    let a = c.args in
    omega (
      arith,
      c.table_length.ensures,
      c.if-table-table_length.false,
      table_wide a.list a.log.now (wide c),
      ap length c.fill_plane.ensures,
      length-sets a.table.now 0 (plane_of a.list a.log.now 0),
    )

-- a table that is long enough is not left as it is
filled : (t : List ℕ) (l : PreferenceList) (log : List ℤ) (n : ℕ) → n ≡ table_length l log → n ≤ length t
    → ltb (length t) (table_length l log) ≡ false
filled t l log n e h = le-ltb (length t) (table_length l log) (omega (arith, e))

-- what the second plane leaves, its part put back
second : (t vs ys : List ℕ) → 8192 ≤ length t → ys ≡ sets (take (length t - 8192) (drop 8192 t)) 0 vs
    → take 8192 t ++ (ys ++ drop (length t - 8192) (drop 8192 t)) ≡ sets t 8192 vs
second t vs ys h e =
    let n = length-drop 8192 t in
    rw (
      e,
      take_all (length t - 8192) (drop 8192 t) (omega arith),
      drop_of_length-le (drop 8192 t) {i = length t - 8192} (omega arith),
      append-nil (sets (drop 8192 t) 0 vs),
    )
    (stored_part t 8192 vs h)

pub returns-then-table-table_length : goal.returns-then-table-table_length
unfolding with_table
returns-then-table-table_length c =
    let a = c.args in
    rw (lt-ltb (length a.table.now) (table_length a.list a.log.now) (omega (arith, c.if-table-table_length.true, c.table_length.ensures)))

pub fill_plane-requires : goal.fill_plane-requires
fill_plane-requires c =
    let a = c.args in (
      omega arith,
      omega (arith, c.if-table-table_length.false, c.table_length.ensures, plane_fits a.list a.log.now (is_wide a.list) refl),
    )

pub slice_bounds-fill_plane-count : goal.slice_bounds-fill_plane-count
slice_bounds-fill_plane-count c = omega (arith, room (goal.at.slice_bounds-fill_plane-count c).Then-is_wide)

pub slice_bounds-fill_plane-start : goal.slice_bounds-fill_plane-start
slice_bounds-fill_plane-start c = omega (arith, room (goal.at.slice_bounds-fill_plane-start c).Then-is_wide)

pub fill_plane-requires-then-is_wide : goal.fill_plane-requires-then-is_wide
fill_plane-requires-then-is_wide c =
    let t = c.fill_plane.new.table in
    let m = room (goal.at.fill_plane-requires-then-is_wide c).Then-is_wide in
    let n = length-drop 8192 t in
    (omega arith, rw (length-take-le (length t - 8192) (drop 8192 t) (omega arith)) (omega arith))

pub returns-then-is_wide : goal.returns-then-is_wide
unfolding with_table
returns-then-is_wide c =
    let a = c.args in
    let here = (goal.at.returns-then-is_wide c).Then-is_wide in
    let m = room here in
    rw (filled a.table.now a.list a.log.now _ c.table_length.ensures c.if-table-table_length.false, wide here)
    (second c.fill_plane.new.table (plane_of a.list a.log.now 8) _ (omega arith)
    c.fill_plane-then-is_wide.ensures
    ∙ ap (λ (t : List ℕ). sets t 8192 (plane_of a.list a.log.now 8)) c.fill_plane.ensures)

pub returns-else-is_wide : goal.returns-else-is_wide
unfolding with_table
returns-else-is_wide c =
    let a = c.args in
    rw (
      filled a.table.now a.list a.log.now _ c.table_length.ensures c.if-table-table_length.false,
      sym c.is_wide.ensures ∙ c.if-is_wide.false,
    )
    c.fill_plane.ensures
