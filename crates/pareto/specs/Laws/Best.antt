-- Best matches: they are 000's (Def. 19), and every competing row that is none is dominated by one.
use Rattle.std.specs.Prelude.{◌≡◌, ℕ, zero, suc, ◌<◌, ◌≤◌, Bool, not, ◌&&◌, length}
use Rattle.std.proofs.Math.Path.{refl, sym}
use Rattle.std.proofs.Common.{◌∙◌, arith}
use Rattle.std.proofs.Math.Bool.{true, false}
use Rattle.std.proofs.lemmas.Bool.{not-true}
use Rattle.laws.specs.Lists.{any_of}
use Rattle.laws.specs.Laws.AnyOf.{Found, passing_found, passing_any}
use Rattle.laws.specs.Laws.Bools.{both, false_true}
use Rattle.run_log.specs.Log.{Log, row_count, row_at}
use Rattle.preference.specs.Laws.Parts.{levels_length}
use Rattle.preference.specs.declared.PreferenceList.{PreferenceList}
use Rattle.pareto.specs.Best.{competes, competing, vector_at, row_dominates, is_best, BestMatch}
use Rattle.pareto.specs.Laws.Dominance.{dominates_pareto, pareto_dominates, dominates_transitive, level_sum}
use Rattle.pareto.specs.Laws.Dominance.{dominates_sum}

module _ (l : PreferenceList) (log : Log) where
  -- all level vectors of a list have one length, so that rows need no condition
  same_length : (s r : ℕ) → length (vector_at l log s) ≡ length (vector_at l log r)
  unfolding vector_at
  same_length s r = levels_length l (row_at log.values s) ∙ sym (levels_length l (row_at log.values r))

  pub row_transitive : (q s r : ℕ) → row_dominates l log q s ≡ true → row_dominates l log s r ≡ true
      → row_dominates l log q r ≡ true
  unfolding row_dominates
  row_transitive q s r =
      dominates_transitive (vector_at l log q) (vector_at l log s) (vector_at l log r) (same_length q s)
      (same_length s r)

  row_sum : (s r : ℕ) → row_dominates l log s r ≡ true → level_sum (vector_at l log s) < level_sum (vector_at l log r)
  unfolding row_dominates
  row_sum s r = dominates_sum (vector_at l log s) (vector_at l log r) (same_length s r)

  -- a competing row that dominates row r
  abbrev Dominator : ℕ → Type 0
  Dominator r = Found (λ s. row_dominates l log s r) (competes log) (row_count log.values)

  dominator : (r : ℕ) → any_of (λ s. row_dominates l log s r) (competing log) ≡ true → Dominator r
  unfolding competing
  dominator r = passing_found (λ s. row_dominates l log s r) (competes log) (row_count log.values)

  dominated : (r s : ℕ) → s < row_count log.values → competes log s ≡ true → row_dominates l log s r ≡ true
      → any_of (λ q. row_dominates l log q r) (competing log) ≡ true
  unfolding competing
  dominated r s = passing_any (λ q. row_dominates l log q r) (competes log) (row_count log.values) s

  -- ---- 000, Def. 19

  pub best_match : (r : ℕ) → is_best l log r ≡ true → BestMatch l log r
  unfolding is_best
  best_match r h =
      let p = both (competes log r) (not (any_of (λ s. row_dominates l log s r) (competing log))) h in
      record {
        takes_part = p.0;
        undominated = λ s i c d.
            false_true
            (sym (not-true (any_of (λ q. row_dominates l log q r) (competing log)) p.1)
            ∙ dominated r s i c
            (unfold row_dominates in pareto_dominates (vector_at l log s) (vector_at l log r) (same_length s r) d));
      }

  none_dominates : (r : ℕ) → BestMatch l log r → (t : Bool) → any_of (λ s. row_dominates l log s r) (competing log) ≡ t
      → t ≡ false
  unfolding row_dominates
  none_dominates r b false e = refl
  none_dominates r b true e =
      let d = dominator r e in
      absurd (b.undominated d.at d.below d.passes
      (dominates_pareto (vector_at l log d.at) (vector_at l log r) (same_length d.at r) d.holds))

  pub match_best : (r : ℕ) → BestMatch l log r → is_best l log r ≡ true
  unfolding is_best
  match_best r b = rw (b.takes_part, none_dominates r b (any_of (λ s. row_dominates l log s r) (competing log)) refl)

  -- ---- every competing row that is not best is dominated by a best one

  pub record BestDominator (r : ℕ) : Type 0 where
    pub best : ℕ
    pub row : best < row_count log.values
    pub is_best_lem : is_best l log best ≡ true
    pub beats : row_dominates l log best r ≡ true

  -- a dominator is best, or one dominates it
  best_or_more : (r : ℕ) (d : Dominator r) → (Dominator d.at → BestDominator r)
      → (t : Bool) → any_of (λ s. row_dominates l log s d.at) (competing log) ≡ t → BestDominator r
  unfolding is_best
  best_or_more r d more false e = record { best = d.at; row = d.below; is_best_lem = rw (d.passes, e); beats = d.holds }
  best_or_more r d more true e = more (dominator d.at e)

  -- the sum of levels falls at each step up
  climb : (fuel r : ℕ) (d : Dominator r) → level_sum (vector_at l log d.at) ≤ fuel → BestDominator r
  climb zero r d h =
      best_or_more r d (λ q. let z : ⊥ = omega (arith, row_sum q.at d.at q.holds) in absurd z)
      (any_of (λ s. row_dominates l log s d.at) (competing log)) refl
  climb (suc fuel) r d h =
      best_or_more r d
      (λ q. climb fuel r
      (record {
        at = q.at;
        below = q.below;
        passes = q.passes;
        holds = row_transitive q.at d.at r q.holds d.holds;
      })
      (omega (arith, row_sum q.at d.at q.holds)))
      (any_of (λ s. row_dominates l log s d.at) (competing log)) refl

  not_best : (r : ℕ) → (t : Bool) → any_of (λ s. row_dominates l log s r) (competing log) ≡ t → true && not t ≡ false
      → BestDominator r
  not_best r true e h =
      let d = dominator r e in
      climb (level_sum (vector_at l log d.at)) r d (omega arith)
  not_best r false e h = false_true (sym h)

  pub dominated_by_best : (r : ℕ) → competes log r ≡ true → is_best l log r ≡ false → BestDominator r
  unfolding is_best
  dominated_by_best r c h = not_best r (any_of (λ s. row_dominates l log s r) (competing log)) refl (rw c at h)
