use mathlib.Core.Path.{◌≡◌, refl, sym, ap, ◌∙◌}
use mathlib.Core.Bool.{false}
use mathlib.Core.List.{List, [], ◌∷◌, ◌++◌, append_assoc, append-nil}
use Prim.Native.Nat.{ℕ, suc, ◌+◌, ◌*◌, ◌/◌, ◌<◌, ◌≤◌}
use native.Mathlib.Nat.{one-mul, mul_assoc, mul-div_left}
use native.Mathlib.Numerals.{add-one}
use native.Mathlib.Omega.{arith}
use lib.ListN.{length, get_or, drop, length-append, drop_of_length-le}
use lib.Seq.{drop-cons}
use Rattle.std.proofs.Common.{Result, Ok, Err}
use Rattle.std.specs.Result.{is_ok}
use Rattle.lattice_nodes.specs.Lattice.{node_count}
use Rattle.lattice_nodes.specs.Steps.{Weights, part_edges, trail}
use Rattle.lattice_nodes.specs.Laws.Ids.{nodes_some}
use Rattle.lattice_nodes.specs.Laws.Steps.{weights_length, weight_at, nodes_grow}
use Rattle.lattice_nodes.specs.Laws.Alike.{Alike}
use Rattle.lattice_nodes.specs.Laws.Whole.{all_parts, whole_walked}
use Rattle.lattice_stretch.specs.declared.Budget.{Budget}
use Rattle.lattice_stretch.specs.declared.OverBudget.{OverBudget}
use Rattle.lattice_stretch.specs.Crossed.{Crosses, Split}
use Rattle.lattice_stretch.specs.Laws.Crossing.{exit, none_crossed, reordered, cut_off, then_more}
use Rattle.lattice_walk.proofs.cross_whole.Invariants.{Far}
use Rattle.lattice_walk.proofs.cross_whole.Goals as goal

first_part : (span w b m : ℕ) (ms rest : List ℕ) → rest ≡ m ∷ ms → span ≡ node_count rest → w ≡ node_count ms
    → part_edges span w b ++ all_parts (b * (m + 1)) ms ≡ all_parts b rest
unfolding all_parts
first_part span w b m ms rest e k h = rw (h, k, e)

module _ (ws : List ℕ) (budget : Budget) (nodes₀ : List ℕ) where
  begin : Weights ws (length nodes₀) → Far ws budget budget nodes₀ nodes₀ (length nodes₀) 0
  begin g =
      record {
        lattice = g;
        here = g.count_is;
        blocks = 1;
        all = sym (one-mul (length nodes₀));
        done = [];
        crossed = none_crossed budget nodes₀;
        left = refl;
      }

  module _ (budget' : Budget) (nodes : List ℕ) (span i : ℕ) (s : Far ws budget budget' nodes₀ nodes span i) where
    abbrev tops : List ℕ
    tops = s.lattice.tops

    long : length ws ≡ length tops
    long = ap length s.lattice.weights_are ∙ weights_length tops

    walked : (get_or nodes₀ 0 0 ≡ 0 → ⊥) → Alike (trail ws nodes₀ (length nodes₀)) (all_parts 1 tops)
    walked = whole_walked ws tops nodes₀ s.lattice.weights_are s.lattice.count_is

    finish : (get_or nodes₀ 0 0 ≡ 0 → ⊥) → length ws ≤ i → Crosses (trail ws nodes₀ (length nodes₀)) budget nodes₀ nodes (Ok budget')
    unfolding all_parts
    finish found h =
        let all : s.done ≡ all_parts 1 tops = sym (append-nil s.done) ∙ (rw (drop_of_length-le tops {i = i} (omega (arith, long))) at s.left) in
        reordered _ _ _ _ _ s.crossed _ (rw all (walked found))

    module _ (size : length nodes ≡ length nodes₀) (h : i < length ws) where
      abbrev top : ℕ
      top = get_or tops i 0

      abbrev w : ℕ
      w = get_or ws i 0

      part : drop i tops ≡ top ∷ drop (suc i) tops
      part = drop-cons tops i 0 (omega (arith, long))

      weight : w ≡ node_count (drop (suc i) tops)
      weight = ap (λ (l : List ℕ). get_or l i 0) s.lattice.weights_are ∙ weight_at tops i (omega (arith, long))

      span_is : span ≡ (top + 1) * w
      unfolding node_count
      span_is = s.here ∙ rw (part, weight)

      split : Split (length nodes) span w
      split =
          record {
            blocks = s.blocks;
            all = size ∙ s.all;
            some = rw s.here (nodes_some (drop i tops));
            low = rw (s.here, part, weight) (nodes_grow top (drop (suc i) tops));
          }

      count : length nodes / span ≡ s.blocks
      count = ap (λ (k : ℕ). k / span) (size ∙ s.all) ∙ mul-div_left s.blocks split.some

      module _ (nodes' : List ℕ) (r : Result Budget OverBudget) (c : Crosses (part_edges span w (length nodes / span)) budget' nodes nodes' r) where
        longer : Crosses (s.done ++ part_edges span w s.blocks) budget nodes₀ nodes' r
        longer = then_more _ _ _ _ _ s.crossed _ nodes' r (rw count at c)

        left' : (s.done ++ part_edges span w s.blocks) ++ all_parts (s.blocks * (top + 1)) (drop (suc i) tops) ≡ all_parts 1 tops
        left' =
            append_assoc s.done (part_edges span w s.blocks) _
            ∙ ap (λ (l : List ℕ). s.done ++ l) (first_part span w s.blocks top (drop (suc i) tops) (drop i tops) part s.here weight)
            ∙ s.left

        go_on : (budget'' : Budget) → r ≡ Ok budget'' → Far ws budget budget'' nodes₀ nodes' w (i + 1)
        go_on budget'' t =
            record {
              lattice = s.lattice;
              here = rw (add-one i) weight;
              blocks = s.blocks * (top + 1);
              all = s.all ∙ ap (λ (k : ℕ). s.blocks * k) span_is ∙ sym (mul_assoc s.blocks (top + 1) w);
              done = s.done ++ part_edges span w s.blocks;
              crossed = rw t at longer;
              left = rw (add-one i) left';
            }

        stop : (get_or nodes₀ 0 0 ≡ 0 → ⊥) → is_ok r ≡ false → (y : OverBudget) → Crosses (trail ws nodes₀ (length nodes₀)) budget nodes₀ nodes' (Err y)
        stop found t y =
            cut_off _ _ _ _ _ longer t y _ nodes'
            (omega (arith, (walked found).size, simp length-append at (ap length left'), length-append s.done (part_edges span w s.blocks)))

pub loop-weight-init : goal.loop-weight-init
loop-weight-init c = begin _ _ _ c.requires.small.lattice

pub cross_part-requires : goal.cross_part-requires
cross_part-requires c = split _ _ _ _ _ _ _ c.loop-weight.invariant c.loop-weight.auto.nodes c.loop-weight-test.true

pub returns-in_err-budget : goal.returns-in_err-budget
returns-in_err-budget c =
    exit _ _ c.from_residual.ensures.1
    (stop _ _ _ _ _ _ _ c.loop-weight.invariant c.loop-weight.auto.nodes c.loop-weight-test.true _ _ c.in_err-budget.ensures c.requires.reached refl _)

pub loop-weight-preserved : goal.loop-weight-preserved
loop-weight-preserved c =
    go_on _ _ _ _ _ _ _ c.loop-weight.invariant c.loop-weight.auto.nodes c.loop-weight-test.true _ _ c.in_ok-budget.ensures _ refl

pub returns : goal.returns
returns c = finish _ _ _ _ _ _ _ c.loop-weight.invariant c.requires.reached c.loop-weight-test.false
