-- The Pareto preference told wish by wish (003, Def. 3; 000, Def. 3 and Def. 15). Under each wish a lower level is
-- better. Values of one level are substitutable, but under kind 08 (document 02, order 2) only those of one side: "A
-- density 50 under the target and one 50 over it need different handling" (trivial SV-semantics: 000, Theorem 16).
use Rattle.std.specs.Prelude.{◌≡◌, ◌⊎◌, ℕ, ◌<◌, true, List, ℤ}
use Rattle.constructor.specs.Side.{is_pair}
use Rattle.run_log.specs.Log.{Log, row_count, row_at}
use Rattle.preference.specs.List.{constructor_at, places}
use Rattle.preference.specs.Level.{level_at, side_at}
use Rattle.preference.specs.Parts.{row_value}
use Rattle.preference.specs.declared.PreferenceList.{PreferenceList}
use Rattle.pareto.specs.Best.{competes}

-- v is better than w under the wish at place i
abbrev pub BetterAt : PreferenceList → ℕ → ℤ → ℤ → Type 0
BetterAt l i v w = level_at l i v < level_at l i w

-- v and w can stand for each other under it
pub record Substitutable (l : PreferenceList) (i : ℕ) (v w : ℤ) : Type 0 where
  pub same_level : level_at l i v ≡ level_at l i w
  pub same_side : is_pair (constructor_at l i) ≡ true → side_at l i v ≡ side_at l i w

-- run a is better than run b: under every wish better or substitutable, and under one better
pub record BetterRun (l : PreferenceList) (a b : List ℤ) : Type 0 where
  pub each : (i : ℕ) → i < places l
      → BetterAt l i (row_value l a i) (row_value l b i) ⊎ Substitutable l i (row_value l a i) (row_value l b i)
  pub at : ℕ
  pub counted : at < places l
  pub better : BetterAt l at (row_value l a at) (row_value l b at)

-- 000, Def. 19 by it: the row competes, and no competing row is better
pub record BestRun (l : PreferenceList) (log : Log) (r : ℕ) : Type 0 where
  pub takes_part : competes log r ≡ true
  pub unbeaten : (s : ℕ) → s < row_count log.values → competes log s ≡ true
      → BetterRun l (row_at log.values s) (row_at log.values r) → ⊥
