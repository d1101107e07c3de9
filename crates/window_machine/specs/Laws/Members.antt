-- Tests over a list, and the elements that pass.
use Rattle.std.specs.Prelude.{◌≡◌, Bool, ◌||◌}
use Rattle.std.proofs.Math.Path.{refl}
use Rattle.std.proofs.Common.{sym, ap, ◌∙◌}
use Rattle.std.proofs.Math.Bool.{true, false}
use mathlib.Core.List.Memᴰ
use mathlib.Core.List.{List, [], ◌∷◌, Memᴰ}
use Rattle.std.proofs.Math.Logic.{⊎_elim}
use Rattle.laws.specs.Lists.{any_of}
use Rattle.laws.specs.Laws.Bools.{false_true, or_right}

module _ {A : Type 0} (p : A → Bool) where
  -- a test that passes shows an element
  pub any_member : (xs : List A) → any_of p xs ≡ true → (x : A) × Memᴰ x xs × (p x ≡ true)
  unfolding any_of
  any_member [] h = false_true h
  any_member (x ∷ xs) h = go (λ k. any_member xs k) (p x) refl h
    where
      go : (any_of p xs ≡ true → (y : A) × Memᴰ y xs × (p y ≡ true)) → (b : Bool) → p x ≡ b → b || any_of p xs ≡ true
          → (y : A) × Memᴰ y (x ∷ xs) × (p y ≡ true)
      go below true q k = (x, Memᴰ.head refl, q)
      go below false q k = let z = below k in (z.0, Memᴰ.tail z.1, z.2)

  -- one that passes is enough
  pub member_any : (xs : List A) {x : A} → Memᴰ x xs → p x ≡ true → any_of p xs ≡ true
  unfolding any_of
  member_any [] m h = absurd (Memᴰ.not-nil m)
  member_any (y ∷ xs) {x} m h =
      ⊎_elim
      (λ (q : x ≡ y). rw (sym (ap p q) ∙ h))
      (λ (k : Memᴰ x xs). or_right (p y) (any_of p xs) (member_any xs k h))
      (Memᴰ.cases_cons m)

  pub member_none : (xs : List A) → any_of p xs ≡ false → {x : A} → Memᴰ x xs → p x ≡ false
  member_none xs h {x} m = go (p x) refl
    where
      go : (b : Bool) → p x ≡ b → b ≡ false
      go false q = refl
      go true q = false_true (sym h ∙ member_any xs m q)
