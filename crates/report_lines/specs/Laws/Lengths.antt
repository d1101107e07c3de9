-- How long each text is at most.
use Rattle.std.specs.Prelude.{ℕ, ◌+◌, ◌*◌, ◌<◌, ◌≤◌, Bool, true, false, cond, List, [], ℤ, pos, length, get_or, drop}
use Rattle.std.proofs.Common.{arith, length-append, get_or-take, get_or-drop}
use Rattle.std.specs.Int.Signed.{mag}
use Rattle.laws.specs.Lists.{joined}
use Rattle.laws.specs.Laws.Joined.{joined_short}
use Rattle.run_log.specs.Log.{row_at}
use Rattle.text.specs.Laws.Text.{decimal_short, value_short}
use Rattle.report_lines.specs.Lines.{refused_text, head_text, fields_text, line_text}

pub refused_short : (k : ℕ) → k < 4294967296 → length (refused_text k) ≤ 19
unfolding refused_text
refused_short k h = simp length-append (omega (arith, decimal_short 9 k (omega arith)))

pub head_short : (rows best : ℕ) → rows ≤ 1024 → best ≤ 1024 → length (head_text rows best) ≤ 20
unfolding head_text
head_short rows best h i =
    simp length-append (omega (arith, decimal_short 3 rows (omega arith), decimal_short 3 best (omega arith)))

fields_short : (r : ℕ) (row : List ℤ) → r < 10000 → mag (get_or row 0 (pos 0)) < 2147483648
    → mag (get_or row 1 (pos 0)) < 2147483648 → length (fields_text r row) ≤ 29
unfolding fields_text
fields_short r row h f g =
    simp length-append
    (omega (arith, decimal_short 3 r h, value_short (get_or row 0 (pos 0)) f, value_short (get_or row 1 (pos 0)) g))

-- what a log lent as numbers of 32 bits shows of its values
abbrev pub Values : List ℤ → Type 0
Values log = (i : ℕ) → mag (get_or log i (pos 0)) < 2147483648

module _ (log : List ℤ) (f : Values log) where
  in_row : (r i : ℕ) → i < 8 → mag (get_or (row_at log r) i (pos 0)) < 2147483648
  in_row r i h = rw (get_or-take 8 (drop (8 * r) log) i (pos 0) h, get_or-drop (8 * r) log i (pos 0)) (f (8 * r + i))

  pub line_short : (r : ℕ) → r < 10000 → length (line_text log r) ≤ 29
  unfolding line_text
  line_short r h = fields_short r (row_at log r) h (in_row r 0 (omega arith)) (in_row r 1 (omega arith))

  -- rows that a test picks
  pub lines_short : (p : ℕ → Bool) (n : ℕ) → n ≤ 1024
      → length (joined (λ r. cond (p r) (line_text log r) []) n) ≤ n * 29
  lines_short p n h =
      let s =
      joined_short (λ r. cond (p r) (line_text log r) []) 29 n (λ r l. picked r (p r) (line_short r (omega arith))) in
      omega (arith, s)
    where
      picked : (r : ℕ) (t : Bool) → length (line_text log r) ≤ 29 → length (cond t (line_text log r) []) ≤ 29
      picked r true s = s
      picked r false s = omega arith
