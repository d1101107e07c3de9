-- Dominance among level vectors of one length is a strict order, lowers the sum of levels (000, Lemma 4), and is what
-- 000, Def. 15 says.
use Rattle.std.specs.Prelude.{◌≡◌, true, leb, ltb, length, get_or}
use Rattle.std.proofs.Math.Path.{refl}
use Rattle.std.proofs.Common.{sym, ◌∙◌, le_trans, lt_irrefl}
use Prim.Native.Nat.{ℕ, zero, suc, ◌+◌, ◌<◌, ◌≤◌}
use native.Mathlib.Omega.{arith}
use mathlib.Core.List.{List, [], ◌∷◌}
use Rattle.std.proofs.Math.Logic.{⊎_elim}
use borrow.Author.Tests.{leb-true, le-leb, ltb-true, lt-ltb}
use Rattle.laws.specs.Laws.Bools.{both, false_true, either, or_right}
use Rattle.pareto.specs.Dominance.{none_above, some_below, dominates, Pareto}

-- ---- level by level

module _ where
  -- no level above: at every part
  pub none_at : (a b : List ℕ) → length a ≡ length b → none_above a b ≡ true → (k : ℕ) → get_or a k 0 ≤ get_or b k 0
  unfolding none_above
  none_at [] bs l h k = omega arith
  none_at (x ∷ a) [] l h k = let z : ⊥ = omega arith in absurd z
  none_at (x ∷ a) (y ∷ b) l h zero = leb-true x y (both (leb x y) (none_above a b) h).0
  none_at (x ∷ a) (y ∷ b) l h (suc k) = none_at a b (omega arith) (both (leb x y) (none_above a b) h).1 k

  pub none_of : (a b : List ℕ) → ((k : ℕ) → get_or a k 0 ≤ get_or b k 0) → none_above a b ≡ true
  unfolding none_above
  none_of [] bs h = refl
  none_of (x ∷ a) [] h = refl
  none_of (x ∷ a) (y ∷ b) h = rw (le-leb x y (h 0), none_of a b (λ k. h (suc k)))

  -- one level below: at some part
  pub below_at : (a b : List ℕ) → some_below a b ≡ true → (k : ℕ) × (get_or a k 0 < get_or b k 0)
  unfolding some_below
  below_at [] bs h = false_true h
  below_at (x ∷ a) [] h = false_true h
  below_at (x ∷ a) (y ∷ b) h =
      ⊎_elim (λ e. (0, ltb-true x y e)) (λ e. let r = below_at a b e in (suc r.0, r.1))
      (either (ltb x y) (some_below a b) h)

  pub below_of : (a b : List ℕ) → length a ≡ length b → (k : ℕ) → get_or a k 0 < get_or b k 0 → some_below a b ≡ true
  unfolding some_below
  below_of [] [] l k h = absurd (lt_irrefl 0 h)
  below_of [] (y ∷ b) l k h = let z : ⊥ = omega arith in absurd z
  below_of (x ∷ a) [] l k h = let z : ⊥ = omega arith in absurd z
  below_of (x ∷ a) (y ∷ b) l zero h = rw (lt-ltb x y h)
  below_of (x ∷ a) (y ∷ b) l (suc k) h = or_right (ltb x y) (some_below a b) (below_of a b (omega arith) k h)

pub dominates_pareto : (a b : List ℕ) → length a ≡ length b → dominates a b ≡ true → Pareto a b
unfolding dominates
dominates_pareto a b l h =
    let p = both (none_above a b) (some_below a b) h in
    let s = below_at a b p.1 in
    record { nowhere_above = none_at a b l p.0; somewhere = s.0; below_there = s.1 }

pub pareto_dominates : (a b : List ℕ) → length a ≡ length b → Pareto a b → dominates a b ≡ true
unfolding dominates
pareto_dominates a b l p = rw (none_of a b p.nowhere_above, below_of a b l p.somewhere p.below_there)

-- ---- a strict order

pub dominates_irreflexive : (a : List ℕ) → dominates a a ≡ true → ⊥
dominates_irreflexive a h = let p = dominates_pareto a a refl h in lt_irrefl (get_or a p.somewhere 0) p.below_there

pub dominates_transitive : (a b c : List ℕ) → length a ≡ length b → length b ≡ length c → dominates a b ≡ true
    → dominates b c ≡ true → dominates a c ≡ true
dominates_transitive a b c l m h k =
    let p = dominates_pareto a b l h in
    let q = dominates_pareto b c m k in
    pareto_dominates a c (l ∙ m)
    record {
      nowhere_above = λ i. le_trans (p.nowhere_above i) (q.nowhere_above i);
      somewhere = p.somewhere;
      below_there = le_trans p.below_there (q.nowhere_above p.somewhere);
    }

pub dominates_asymmetric : (a b : List ℕ) → length a ≡ length b → dominates a b ≡ true → dominates b a ≡ true → ⊥
dominates_asymmetric a b l h k = dominates_irreflexive a (dominates_transitive a b a l (sym l) h k)

-- ---- the sum of levels

unfoldable pub level_sum : List ℕ → ℕ
level_sum [] = 0
level_sum (x ∷ a) = x + level_sum a

none_sum : (a b : List ℕ) → length a ≡ length b → none_above a b ≡ true → level_sum a ≤ level_sum b
unfolding none_above level_sum
none_sum [] bs l h = omega arith
none_sum (x ∷ a) [] l h = let z : ⊥ = omega arith in absurd z
none_sum (x ∷ a) (y ∷ b) l h =
    let p = both (leb x y) (none_above a b) h in
    let i = leb-true x y p.0 in
    omega (arith, none_sum a b (omega arith) p.1)

below_sum : (a b : List ℕ) → length a ≡ length b → none_above a b ≡ true → some_below a b ≡ true
    → level_sum a < level_sum b
unfolding none_above some_below level_sum
below_sum [] bs l h k = false_true k
below_sum (x ∷ a) [] l h k = false_true k
below_sum (x ∷ a) (y ∷ b) l h k =
    let p = both (leb x y) (none_above a b) h in
    let i = leb-true x y p.0 in
    ⊎_elim
    (λ e. let j = ltb-true x y e in omega (arith, none_sum a b (omega arith) p.1))
    (λ e. omega (arith, below_sum a b (omega arith) p.1 e))
    (either (ltb x y) (some_below a b) k)

pub dominates_sum : (a b : List ℕ) → length a ≡ length b → dominates a b ≡ true → level_sum a < level_sum b
unfolding dominates
dominates_sum a b l h = let p = both (none_above a b) (some_below a b) h in below_sum a b l p.0 p.1
