use Rattle.std.proofs.Common.{◌≡◌, ℕ, ◌+◌, ◌<◌, ◌≤◌, Bool, true, false, cond, List, [], ◌∷◌, refl, sym, ap, ◌∙◌, add-one, arith, eqb, length, get_or, set}
use Rattle.std.proofs.lemmas.List.{set-get_or}
use Rattle.laws.specs.Lists.{joined}
use Rattle.lattice_nodes.specs.Steps.{stage_edges, updated, entered_byte}
use Rattle.lattice_nodes.specs.Laws.Steps.{updated_append, get_or_updated, entered_once}
use Rattle.lattice_nodes.specs.Laws.Blocks.{stage_beyond, stage_none}
use Rattle.lattice_crossing.proofs.enter_next.Goals as goal

module _ (w : ℕ) (nodes₀ nodes : List ℕ) (i : ℕ) (bytes : nodes ≡ updated entered_byte (stage_edges w nodes₀ i) nodes₀) where
  source : i < w → w + w ≤ length nodes₀ → get_or nodes i 0 ≡ get_or nodes₀ i 0
  source h k = rw bytes (get_or_updated entered_byte entered_once (stage_edges w nodes₀ i) nodes₀ i (omega arith) ∙ rw (stage_beyond w nodes₀ i i h))

  one : (t : Bool)
      → set nodes (w + i) (cond t (get_or nodes (w + i) 0) (entered_byte (get_or nodes (w + i) 0))) ≡ updated entered_byte (cond t [] ((w + i) ∷ [])) nodes
  unfolding updated
  one true = set-get_or nodes (w + i) 0
  one false = refl

  more : (v : ℕ) → i < w → w + w ≤ length nodes₀ → v ≡ cond (eqb (get_or nodes i 0) 0) (get_or nodes (w + i) 0) (entered_byte (get_or nodes (w + i) 0))
      → set nodes (w + i) v ≡ updated entered_byte (stage_edges w nodes₀ (i + 1)) nodes₀
  unfolding stage_edges joined
  more v h k e =
      rw (add-one i)
      (ap (set nodes (w + i)) (e ∙ rw (source h k)) ∙ one (eqb (get_or nodes₀ i 0) 0)
      ∙ rw bytes (sym (updated_append entered_byte (stage_edges w nodes₀ i) (cond (eqb (get_or nodes₀ i 0) 0) [] ((w + i) ∷ [])) nodes₀)))

pub loop-i-init : goal.loop-i-init
unfolding updated
loop-i-init c = rw (stage_none c.args.w c.args.nodes.now c.args.f c.requires.by_index) refl

pub loop-i-preserved : goal.loop-i-preserved
loop-i-preserved c =
    more c.args.w c.args.nodes.now c.loop-i.nodes c.loop-i.i c.loop-i.invariant c.enter_from.result c.loop-i-test.true c.requires.f_le_w.1 c.enter_from.ensures
