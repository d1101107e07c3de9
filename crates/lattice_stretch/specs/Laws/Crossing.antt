-- Edges crossed where the budget ran out, and where it did not.
use Rattle.std.specs.Prelude.{◌≡◌, leb, refl, true, false, Result, Ok, Err, is_ok, List, [], ◌++◌, ℕ, ◌+◌, ◌<◌, ◌≤◌, length, take, drop}
use Rattle.std.proofs.Common.{sym, ap, ◌∙◌, add-zero, arith, le-leb, leb-false, leb-true, length-append}
use Rattle.std.proofs.lemmas.Bool.{lt-leb}
use Rattle.std.proofs.lemmas.List.{length-map}
use Rattle.std.specs.Result.{IsErrAnd}
use Rattle.std.proofs.lemmas.Result.{IfOk-weaker, err_from_is_err_and}
use Rattle.laws.specs.Laws.Bools.{false_true, both_ways}
use Rattle.lattice_nodes.specs.Steps.{shifted, updated, entered_byte}
use Rattle.lattice_nodes.specs.Laws.Some.{All}
use Rattle.lattice_nodes.specs.Laws.Steps.{length_updated, updated_append}
use Rattle.lattice_nodes.specs.Laws.Alike.{Alike, same_updated}
use Rattle.lattice_nodes.specs.Laws.Stretch.{updated_part}
use Rattle.lattice_stretch.specs.declared.Budget.{Budget}
use Rattle.lattice_stretch.specs.declared.OverBudget.{OverBudget}
use Rattle.lattice_stretch.specs.Crossed.{Crosses}

module _ (targets : List ℕ) (budget : Budget) (before after : List ℕ) where
  pub ran_out : (e : OverBudget) → budget.left < length targets → Crosses targets budget before after (Err e)
  ran_out e h =
      record {
        enough = sym (lt-leb (length targets) budget.left h);
        counted = tt;
        entered = λ t. false_true t;
      }

  pub went_through : (rest : Budget) → rest.left + length targets ≡ budget.left
      → after ≡ updated entered_byte targets before → Crosses targets budget before after (Ok rest)
  went_through rest c e =
      record { enough = sym (le-leb (length targets) budget.left (omega arith)); counted = c; entered = λ _. e }

pub none_crossed : (budget : Budget) (nodes : List ℕ) → Crosses [] budget nodes nodes (Ok budget)
unfolding updated
none_crossed budget nodes = went_through [] budget nodes nodes budget (add-zero budget.left) refl

module _ (xs : List ℕ) (budget : Budget) (before after : List ℕ) (r : Result Budget OverBudget)
    (c : Crosses xs budget before after r)
  where
    -- the crossings made were there to make
    pub paid_for : (rest : Budget) → r ≡ Ok rest → rest.left ≤ budget.left
    paid_for rest e = omega (arith, rw e at c.counted)

    pub kept : is_ok r ≡ true → length after ≡ length before
    kept t = ap length (c.entered t) ∙ length_updated entered_byte xs before

    -- the same edges in another order
    pub reordered : (ys : List ℕ) → Alike ys xs → Crosses ys budget before after r
    reordered ys a =
        record {
          enough = rw a.size c.enough;
          counted = rw a.size c.counted;
          entered = λ t. c.entered t ∙ sym (same_updated ys xs before a.same);
        }

    -- more edges than the budget is enough for, and more still
    pub cut_off : is_ok r ≡ false → (e : OverBudget) (ys after' : List ℕ) → length xs ≤ length ys
        → Crosses ys budget before after' (Err e)
    cut_off t e ys after' h =
        ran_out ys budget before after' e (omega (arith, leb-false (length xs) budget.left (sym c.enough ∙ t)))

-- the exit of a `?` behind edges that the budget is not enough for
pub exit : {xs : List ℕ} {budget : Budget} {before after : List ℕ} (r : Result Budget OverBudget) (e : OverBudget)
    → IsErrAnd r (λ y. y ≡ e) → Crosses xs budget before after (Err e) → Crosses xs budget before after r
exit r e x c = let p = err_from_is_err_and r x in rw (p.1, p.2) c

-- one list of edges and then another
module _ (xs : List ℕ) (budget rest : Budget) (before after : List ℕ) (c : Crosses xs budget before after (Ok rest))
    (ys : List ℕ)
  where
    both : length (xs ++ ys) ≡ length xs + length ys
    both = length-append xs ys

    enough_both : leb (length ys) rest.left ≡ leb (length (xs ++ ys)) budget.left
    enough_both =
        both_ways (leb (length ys) rest.left) (leb (length (xs ++ ys)) budget.left)
        (λ t. le-leb (length (xs ++ ys)) budget.left (omega (arith, both, c.counted, leb-true (length ys) rest.left t)))
        (λ t. le-leb (length ys) rest.left (omega (arith, both, c.counted, leb-true (length (xs ++ ys)) budget.left t)))

    pub then_more : (after' : List ℕ) (r : Result Budget OverBudget) → Crosses ys rest after after' r
        → Crosses (xs ++ ys) budget before after' r
    then_more after' r s =
        record {
          enough = s.enough ∙ enough_both;
          counted = IfOk-weaker r _ _ (λ left e. omega (arith, both, c.counted, e)) s.counted;
          entered = λ u. s.entered u ∙ rw (c.entered refl) (sym (updated_append entered_byte xs ys before));
        }

-- the edges of a part of the nodes: of the d nodes from a on
pub of_part : (a d : ℕ) (b ts : List ℕ) (budget : Budget) (last : List ℕ) (r : Result Budget OverBudget)
    → a + d ≤ length b → All (λ t. t < d) ts
    → Crosses ts budget (take d (drop a b)) last r
    → Crosses (shifted a ts) budget b (take a b ++ (last ++ drop d (drop a b))) r
of_part a d b ts budget last r h k c =
    let long : length (shifted a ts) ≡ length ts = length-map ts (λ t. a + t) in
    record {
      enough = rw long c.enough;
      counted = rw long c.counted;
      entered = λ t. rw (c.entered t) (sym (updated_part entered_byte a d ts b h k));
    }
