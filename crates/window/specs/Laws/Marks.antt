-- The machine on a log: its marks are those of the log's best matches, its count fits 32 bits, and over the log's level
-- table it is the same.
use Rattle.std.specs.Prelude.{◌≡◌, ℕ, ◌-◌, ◌≤◌, ◌<◌, Bool, ◌&&◌, [], ◌∷◌, eqb}
use Rattle.std.proofs.Math.Path.{refl, ap}
use Rattle.std.proofs.Common.{sym, ◌∙◌, eq-eqb, eqb-true}
use native.Mathlib.Omega.{arith}
use Rattle.std.proofs.Math.Nat.{mul-le-mul}
use Rattle.std.proofs.Math.Bool.{true, false, not, cond}
use Rattle.std.proofs.Math.ListN.{length}
use Rattle.laws.specs.Lists.{any_of}
use Rattle.laws.specs.Laws.AnyOf.{passing_found, passing_any}
use Rattle.laws.specs.Laws.Bools.{false_true}
use Rattle.laws.specs.Laws.Joined.{joined_cong}
use Rattle.run_log.specs.Log.{Log, row_count}
use Rattle.preference.specs.Valid.{list_refusal}
use Rattle.preference.specs.declared.PreferenceList.{PreferenceList}
use Rattle.pareto.specs.Best.{competes, competing, vector_at, row_dominates, is_best, marks_of}
use Rattle.pareto.specs.Checked.{rows_refusal}
use Rattle.level_table.specs.Table.{table_of}
use Rattle.pareto.specs.Laws.Best.{row_transitive}
use Rattle.pareto.specs.Laws.Competing.{competing_few, competing_below}
use Rattle.pareto.specs.Laws.Dominance.{dominates_irreflexive}
use Rattle.pareto.specs.Laws.Table.{compared_dominates}
use Rattle.window_machine.specs.Machine.{machine}
use Rattle.window_machine.specs.Laws.Agree.{machine_agree}
use Rattle.window_machine.specs.Laws.Ends.{count_bound}
use Rattle.window_machine.specs.Laws.Marks.{undominated, machine_marks_lem}
use Rattle.window.specs.Engine.{machine_of}
use Rattle.window_step.specs.Work.{table_dominates}

module _ (l : PreferenceList) (log : Log) where
  irreflexive : (r : ℕ) → row_dominates l log r r ≡ false
  unfolding row_dominates
  irreflexive r = go (row_dominates l log r r) refl
    where
      go : (b : Bool) → row_dominates l log r r ≡ b → b ≡ false
      go false e = refl
      go true e = absurd (dominates_irreflexive (vector_at l log r) e)

  -- a row of the log is in the list exactly where it competes
  listed : (r : ℕ) → r < row_count log.values → any_of (eqb r) (competing log) ≡ competes log r
  unfolding competing
  listed r h = go (competes log r) refl
    where
      out : competes log r ≡ false → (b : Bool) → any_of (eqb r) (competing log) ≡ b → b ≡ false
      out e false q = refl
      out e true q =
          let f = passing_found (eqb r) (competes log) (row_count log.values) q in
          false_true (sym e ∙ ap (competes log) (eqb-true r f.at f.holds) ∙ f.passes)

      go : (c : Bool) → competes log r ≡ c → any_of (eqb r) (competing log) ≡ c
      go true e = passing_any (eqb r) (competes log) (row_count log.values) r h e (eq-eqb r r refl)
      go false e = out e (any_of (eqb r) (competing log)) refl

  best_is : (r : ℕ) → r < row_count log.values → undominated (row_dominates l log) (competing log) r ≡ is_best l log r
  unfolding undominated is_best
  best_is r h = ap (λ (b : Bool). b && not (any_of (λ s. row_dominates l log s r) (competing log))) (listed r h)

  pub machine_best : (w : ℕ) → 1 ≤ w → (machine_of l log w).marks ≡ marks_of l log
  unfolding machine_of marks_of
  machine_best w pos =
      machine_marks_lem (row_dominates l log) (competing log) (row_count log.values) (competing_below log) irreflexive
      (row_transitive l log) w pos
      ∙ joined_cong _ _ (row_count log.values) (λ r h. ap (λ (b : Bool). cond b 1 0 ∷ []) (best_is r h))

  -- the count fits 32 bits
  pub count_small : (w : ℕ) → 1 ≤ w → row_count log.values ≤ 1024 → (machine_of l log w).count < 4294967296
  unfolding machine_of
  count_small w pos few =
      let n : length (competing log) ≤ 1024 = omega (arith, competing_few log) in
      let d : length (competing log) - 1 ≤ 1024 = omega arith in
      omega (arith, count_bound (row_dominates l log) w (competing log) (row_count log.values) pos, mul-le-mul n d)

  module _ (e : list_refusal l ≡ 0) (f : rows_refusal l log.values ≡ 0) (few : row_count log.values ≤ 1024) where
    table_dominates_lem : (a b : ℕ) → a < row_count log.values → b < row_count log.values
        → table_dominates (table_of l log.values) a b ≡ row_dominates l log a b
    unfolding table_dominates
    table_dominates_lem a b h j = compared_dominates l log e f few a b h j

    pub machine_table : (w : ℕ)
        → machine (table_dominates (table_of l log.values)) w (competing log) (row_count log.values)
        ≡ machine_of l log w
    unfolding machine_of
    machine_table w =
        machine_agree (table_dominates (table_of l log.values)) (row_dominates l log) w
        (row_count log.values) table_dominates_lem (competing log) (competing_below log)
