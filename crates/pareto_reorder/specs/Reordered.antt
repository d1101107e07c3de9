-- A log whose rows are put in another order.
use Rattle.std.specs.Prelude.{◌≡◌, ℕ, ◌<◌}
use Rattle.run_log.specs.Log.{Log, row_count, row_at}

-- row r of the first log is row `place r` of the second, and row p of the second is row `origin p` of the first
pub record Reordered (log log' : Log) (place origin : ℕ → ℕ) : Type 0 where
  pub same_count : row_count log'.values ≡ row_count log.values
  pub place_below : (r : ℕ) → r < row_count log.values → place r < row_count log.values
  pub origin_below : (p : ℕ) → p < row_count log.values → origin p < row_count log.values
  pub origin_place : (r : ℕ) → r < row_count log.values → origin (place r) ≡ r
  pub place_origin : (p : ℕ) → p < row_count log.values → place (origin p) ≡ p
  pub same_row : (r : ℕ) → r < row_count log.values → row_at log'.values (place r) ≡ row_at log.values r
