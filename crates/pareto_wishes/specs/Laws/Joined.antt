-- Dominance among lists that are put together from lists of the same lengths.
use Rattle.std.specs.Prelude.{◌≡◌, ℕ, zero, suc, ◌<◌, Bool, true, false, ◌&&◌, ◌||◌, List, [], ◌∷◌, ◌++◌, leb, ltb, length}
use Rattle.std.proofs.Math.Path.{refl}
use Rattle.std.proofs.Common.{sym, ◌∙◌, not-suc-le-zero, eq-or-lt_of_le, le_of_suc-le-suc}
use Rattle.std.proofs.Math.Logic.{⊎_elim}
use native.Mathlib.Omega.{arith}
use Rattle.laws.specs.Lists.{joined}
use Rattle.laws.specs.Laws.Bools.{both, either, or_right, or_assoc, false_true}
use Rattle.laws.specs.Laws.Joined.{joined_length}
use Rattle.pareto.specs.Dominance.{none_above, some_below}

and_assoc : (a b c : Bool) → (a && (b && c)) ≡ ((a && b) && c)
and_assoc true b c = refl
and_assoc false b c = refl

none_append : (xs ys us vs : List ℕ) → length xs ≡ length ys
    → none_above (xs ++ us) (ys ++ vs) ≡ (none_above xs ys && none_above us vs)
unfolding none_above
none_append [] [] us vs l = refl
none_append [] (y ∷ ys) us vs l = let z : ⊥ = omega arith in absurd z
none_append (x ∷ xs) [] us vs l = let z : ⊥ = omega arith in absurd z
none_append (x ∷ xs) (y ∷ ys) us vs l =
    rw (none_append xs ys us vs (omega arith)) (and_assoc (leb x y) (none_above xs ys) (none_above us vs))

some_append : (xs ys us vs : List ℕ) → length xs ≡ length ys
    → some_below (xs ++ us) (ys ++ vs) ≡ (some_below xs ys || some_below us vs)
unfolding some_below
some_append [] [] us vs l = refl
some_append [] (y ∷ ys) us vs l = let z : ⊥ = omega arith in absurd z
some_append (x ∷ xs) [] us vs l = let z : ⊥ = omega arith in absurd z
some_append (x ∷ xs) (y ∷ ys) us vs l =
    rw (some_append xs ys us vs (omega arith)) (sym (or_assoc (ltb x y) (some_below xs ys) (some_below us vs)))

module _ (f g : ℕ → List ℕ) (same : (i : ℕ) → length (f i) ≡ length (g i)) where
  none_more : (n : ℕ) → none_above (joined f (suc n)) (joined g (suc n))
      ≡ (none_above (joined f n) (joined g n) && none_above (f n) (g n))
  unfolding joined
  none_more n = none_append (joined f n) (joined g n) (f n) (g n) (joined_length f g n same)

  some_more : (n : ℕ) → some_below (joined f (suc n)) (joined g (suc n))
      ≡ (some_below (joined f n) (joined g n) || some_below (f n) (g n))
  unfolding joined
  some_more n = some_append (joined f n) (joined g n) (f n) (g n) (joined_length f g n same)

  -- no level above: in no list
  pub none_each : (n : ℕ) → none_above (joined f n) (joined g n) ≡ true → (i : ℕ) → i < n
      → none_above (f i) (g i) ≡ true
  none_each zero e i h = absurd (not-suc-le-zero h)
  none_each (suc n) e i h =
      let p = both (none_above (joined f n) (joined g n)) (none_above (f n) (g n)) (sym (none_more n) ∙ e) in
      ⊎_elim (λ q. rw q p.1) (λ q. none_each n p.0 i q) (eq-or-lt_of_le (le_of_suc-le-suc h))

  pub each_none : (n : ℕ) → ((i : ℕ) → i < n → none_above (f i) (g i) ≡ true)
      → none_above (joined f n) (joined g n) ≡ true
  each_none zero h = unfold joined none_above in refl
  each_none (suc n) h = none_more n ∙ rw (each_none n (λ i q. h i (omega arith)), h n (omega arith))

  -- one level below: in some list
  pub some_there : (n : ℕ) → some_below (joined f n) (joined g n) ≡ true
      → (i : ℕ) × (i < n) × (some_below (f i) (g i) ≡ true)
  some_there zero e = false_true (unfold joined some_below in e)
  some_there (suc n) e =
      ⊎_elim
      (λ p. let q = some_there n p in (q.0, omega (arith, q.1), q.2))
      (λ p. (n, omega arith, p))
      (either (some_below (joined f n) (joined g n)) (some_below (f n) (g n)) (sym (some_more n) ∙ e))

  pub there_some : (n i : ℕ) → i < n → some_below (f i) (g i) ≡ true → some_below (joined f n) (joined g n) ≡ true
  there_some zero i h e = absurd (not-suc-le-zero h)
  there_some (suc n) i h e =
      some_more n
      ∙ ⊎_elim
      (λ q. or_right (some_below (joined f n) (joined g n)) (some_below (f n) (g n)) (rw q at e))
      (λ q. rw (there_some n i q e))
      (eq-or-lt_of_le (le_of_suc-le-suc h))
