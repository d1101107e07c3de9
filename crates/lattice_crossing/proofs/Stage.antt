-- The edges from one block to the next: those from the first reached source on.
use Rattle.std.proofs.Common.{◌≡◌, ℕ, zero, suc, ◌+◌, ◌-◌, ◌<◌, ◌≤◌, not, true, false, Bool, cond, List, refl, sym, ap, ◌∙◌, arith, eqb, length, get_or, take, drop, length-drop}
use Rattle.std.specs.List.{count_by}
use Rattle.std.proofs.lemmas.List.Sums.{sum_by-append}
use Rattle.std.proofs.Math.Seq.{get_or-take, length-take-le, take-suc}
use Rattle.laws.specs.Lists.{joined}
use Rattle.lattice_nodes.specs.Steps.{first_reached, stage_edges}
use Rattle.lattice_nodes.specs.Laws.FirstReached.{first_low, first_zero}
use Rattle.lattice_nodes.specs.Laws.Blocks.{stage_later, stage_more}

-- an edge for each reached node
stage_count : (w : ℕ) (nodes : List ℕ) (k : ℕ) → k ≤ length nodes → length (stage_edges w nodes k) ≡ count_by (λ b. not (eqb b 0)) (take k nodes)
unfolding stage_edges joined
stage_count w nodes zero h = refl
stage_count w nodes (suc k) h =
    stage_more w nodes k
    ∙ rw (stage_count w nodes k (omega arith), take-suc nodes k 0 (omega arith), sum_by-append (λ b. cond (not (eqb b 0)) 1 0))
    (ap (λ n. count_by (λ b. not (eqb b 0)) (take k nodes) + n) (one (eqb (get_or nodes k 0) 0)))
  where
    one : (t : Bool) → cond t 0 1 ≡ 0 + cond (not t) 1 0
    one true = refl
    one false = refl

module _ (w : ℕ) (nodes : List ℕ) (next : w + w ≤ length nodes) where
  abbrev f : ℕ
  f = first_reached (take w nodes)

  pub sources_low : first_reached (take w nodes) ≤ w
  sources_low = omega (arith, first_low (take w nodes), length-take-le w nodes (omega arith))

  pub sources_zero : (i : ℕ) → i < first_reached (take w nodes) → get_or nodes i 0 ≡ 0
  sources_zero i h = sym (get_or-take w nodes i 0 (omega (arith, sources_low))) ∙ first_zero (take w nodes) i h

  pub sources_counted : length (stage_edges w nodes w)
      ≡ count_by (λ b. not (eqb b 0)) (take (w - first_reached (take w nodes)) (drop (first_reached (take w nodes)) nodes))
  sources_counted =
      let all : f + (w - f) ≡ w = omega (arith, sources_low) in
      ap (λ d. length (stage_edges w nodes d)) (sym all) ∙ stage_later w nodes f sources_zero (w - f)
      ∙ stage_count w (drop f nodes) (w - f) (omega (arith, length-drop f nodes))

pub ruleset sources = (sources_low, sources_zero, sources_counted)
