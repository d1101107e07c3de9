-- Tests over the numbers that pass: what one that passes shows, and that one is enough.
use Rattle.std.specs.Prelude.{◌≡◌, Bool, ◌||◌, cond, List, [], ◌∷◌, ◌++◌, map}
use Rattle.std.proofs.Math.Path.{refl}
use Rattle.std.proofs.Common.{sym, ap, ◌∙◌, arith, not-suc-le-zero, eq-or-lt_of_le, le_of_suc-le-suc}
use Prim.Native.Nat.{ℕ, zero, suc, ◌<◌}
use Rattle.std.proofs.Math.Bool.{true, false, or_assoc}
use Rattle.std.proofs.Math.Logic.{⊎_elim}
use Rattle.laws.specs.Lists.{joined, passing, any_of}
use Rattle.laws.specs.Laws.Bools.{false_true, either, or_right}

pub any_map : {A B : Type 0} (p : B → Bool) (f : A → B) (xs : List A) → any_of p (map f xs) ≡ any_of (λ x. p (f x)) xs
unfolding any_of
any_map p f [] = refl
any_map p f (x ∷ xs) = ap (λ (b : Bool). p (f x) || b) (any_map p f xs)

pub any_append : {A : Type 0} (p : A → Bool) (xs ys : List A) → any_of p (xs ++ ys) ≡ any_of p xs || any_of p ys
unfolding any_of
any_append p [] ys = refl
any_append p (x ∷ xs) ys = rw (any_append p xs ys) (sym (or_assoc (p x) (any_of p xs) (any_of p ys)))

module _ (p c : ℕ → Bool) where
  -- a number below n that passes c, and at which p holds
  pub record Found (n : ℕ) : Type 0 where
    pub at : ℕ
    pub below : at < n
    pub passes : c at ≡ true
    pub holds : p at ≡ true

  last_found : (n : ℕ) (t : Bool) → c n ≡ t → any_of p (cond t (n ∷ []) []) ≡ true → (c n ≡ true) × (p n ≡ true)
  unfolding any_of
  last_found n true e h = (e, ⊎_elim (λ y. y) (λ y. false_true y) (either (p n) false h))
  last_found n false e h = false_true h

  pub passing_found : (n : ℕ) → any_of p (passing c n) ≡ true → Found n
  unfolding joined
  passing_found zero h = unfold any_of in false_true h
  passing_found (suc n) h =
      ⊎_elim
      (λ y. let f = passing_found n y in
      record { at = f.at; below = omega (arith, f.below); passes = f.passes; holds = f.holds })
      (λ y. let g = last_found n (c n) refl y in record { at = n; below = omega arith; passes = g.0; holds = g.1 })
      (either (any_of p (passing c n)) (any_of p (cond (c n) (n ∷ []) []))
      (sym (any_append p (passing c n) (cond (c n) (n ∷ []) [])) ∙ h))

  last_any : (n : ℕ) → c n ≡ true → p n ≡ true → any_of p (cond (c n) (n ∷ []) []) ≡ true
  unfolding any_of
  last_any n e h = rw (e, h)

  pub passing_any : (n s : ℕ) → s < n → c s ≡ true → p s ≡ true → any_of p (passing c n) ≡ true
  unfolding joined
  passing_any zero s l e h = absurd (not-suc-le-zero l)
  passing_any (suc n) s l e h =
      any_append p (passing c n) (cond (c n) (n ∷ []) [])
      ∙ ⊎_elim
      (λ q. or_right (any_of p (passing c n)) _ (last_any n (rw q at e) (rw q at h)))
      (λ q. rw (passing_any n s q e h))
      (eq-or-lt_of_le (le_of_suc-le-suc l))
