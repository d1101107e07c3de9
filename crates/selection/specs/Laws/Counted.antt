-- The marked rows, counted one by one.
use Rattle.std.specs.Prelude.{◌≡◌, ℕ, suc, ◌+◌, ◌≤◌, cond, List, [], ◌∷◌, eqb, length, get_or}
use Rattle.std.proofs.Common.{arith, length-append}
use Rattle.laws.specs.Lists.{joined}
use Rattle.run_log.specs.Log.{marked_rows}
use Rattle.run_log.specs.Laws.Marks.{marked_in_order}
use Rattle.selection.specs.Selection.{one}

pub count_more : (marks : List ℕ) (n : ℕ)
    → length (marked_rows marks (n + 1)) ≡ length (marked_rows marks n) + one marks n
unfolding marked_rows joined
count_more marks n =
    let q : n + 1 ≡ suc n =
    omega arith in rw q (length-append (marked_rows marks n) (cond (eqb (get_or marks n 0) 1) (n ∷ []) []))

pub count_few : (marks : List ℕ) (n : ℕ) → length (marked_rows marks n) ≤ n
count_few marks n = (marked_in_order marks n).few
