-- A table that is filled part by part: what the crate's own functions promise of it.
use Rattle.std.specs.Prelude.{ℕ, zero, suc, ◌+◌, ◌*◌, ◌<◌, ◌≤◌, ◌≡◌, List, ℤ, pos, get_or, set, length}
use Rattle.std.specs.Int.Signed.{mag}
use Rattle.limits.specs.Limits.{columns, level_count}
use Rattle.run_log.specs.Log.{row_count, row_at}

-- a table, eight places to a row, with column k of its first n rows set to f 0, .., f (n - 1)
unfoldable pub with_part : (ℕ → ℕ) → ℕ → ℕ → List ℕ → List ℕ
with_part f k zero table = table
with_part f k (suc n) table = set (with_part f k n table) (columns * n + k) (f n)

-- a table with columns 0 to k - 1 of its first n rows set, to f k r in column k of row r
unfoldable pub with_parts : (ℕ → ℕ → ℕ) → ℕ → ℕ → List ℕ → List ℕ
with_parts f zero n table = table
with_parts f (suc k) n table = with_part (f k) k n (with_parts f k n table)

-- a table has column k of each row of a log
pub record Room (log : List ℤ) (table : List ℕ) (k : ℕ) : Type 0 where
  pub rows : columns * row_count log ≤ length table
  pub column : k < columns

-- a function of values gives f 0, f 1, .. at the values in a column of a log's rows
abbrev pub LevelsBy : (ℤ → ℕ → Type 0) → List ℤ → ℕ → (ℕ → ℕ) → Type 0
LevelsBy gives log column f =
    (r : ℕ) (v : ℤ) (x : ℕ) → v ≡ get_or (row_at log r) column (pos 0) → mag v < 2147483648 → x < level_count
    → gives v x
    → x ≡ f r
