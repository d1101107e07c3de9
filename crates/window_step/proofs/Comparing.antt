-- What one compare of an entry's row with a row tells.
use Rattle.std.proofs.Common.{◌≡◌, refl, sym, ap, ◌∙◌, ℕ, ◌*◌, Bool, true, false, not, List, get_or}
use Rattle.std.proofs.Math.Bool.{beq, not-not}
use Rattle.pareto.specs.Table.{first_dominates, second_dominates, has_lower, compared, relation}
use Rattle.pareto.specs.declared.table.Relation.{Relation}
use Rattle.window_machine.specs.Machine.{spares}
use Rattle.window_entries.specs.Entries.{entry_at}
use Rattle.window_step.specs.Work.{table_dominates}

-- one compare tells both ways
turned : (first second : Bool) → second_dominates (relation first second) ≡ first_dominates (relation second first)
turned true true = refl
turned true false = refl
turned false true = refl
turned false false = refl

compared_turned : (t : List ℕ) (a b : ℕ) → second_dominates (compared t a b) ≡ table_dominates t b a
unfolding compared table_dominates
compared_turned t a b = turned (has_lower t a b) (has_lower t b a)

-- what `!=` says of two bools where it does not hold
pub same_bools : (a b : Bool) → not (beq a b) ≡ false → a ≡ b
same_bools true true e = refl
same_bools true false e = e
same_bools false true e = sym e
same_bools false false e = refl

-- two rows that both have a lower level, or both none, are apart
module _ (t l : List ℕ) (r i : ℕ) (b : Bool) (p : b ≡ has_lower t (get_or l (2 * i) 0) r) (q : b ≡ has_lower t r (get_or l (2 * i) 0)) where
  even : (d : Bool) → first_dominates (relation d d) ≡ false
  even true = refl
  even false = refl

  pub apart_undropped : table_dominates t (get_or l (2 * i) 0) r ≡ false
  unfolding table_dominates compared
  apart_undropped = rw (← p, ← q) (even b)

  pub apart_spared : spares (table_dominates t) r (entry_at l i) ≡ true
  unfolding table_dominates compared spares entry_at
  apart_spared = rw (← p, ← q) (ap not (even b))

-- the compare x with entry i
module _ (t l : List ℕ) (r i : ℕ) {x : Relation} (e : x ≡ compared t (get_or l (2 * i) 0) r) where
  pub first_told : first_dominates x ≡ table_dominates t (get_or l (2 * i) 0) r
  unfolding table_dominates
  first_told = ap first_dominates e

  pub second_told : second_dominates x ≡ not (spares (table_dominates t) r (entry_at l i))
  unfolding spares entry_at
  second_told = rw e (compared_turned t (get_or l (2 * i) 0) r ∙ sym (not-not (table_dominates t r (get_or l (2 * i) 0))))
