-- Tests over lists: an element that passes one, and a number that is among others.
use Rattle.std.specs.Prelude.{◌≡◌, refl, ◌⊎◌, Bool, ◌||◌, cond, eqb}
use Rattle.std.proofs.Common.{sym, ◌∙◌, inl, le_of_suc-le-suc, not-suc-le-zero, eq-or-lt_of_le}
use Rattle.std.proofs.Math.Logic.{inr, ⊎_elim}
use Rattle.std.proofs.Math.Bool.{true, false, or-false}
use mathlib.Core.List.{List, [], ◌∷◌, ◌++◌, map, map-append}
use Prim.Native.Nat.{ℕ, zero, suc, ◌<◌}
use Rattle.std.proofs.Math.Nat.{le_step, lt-suc_self}
use borrow.Author.Tests.{eqb-true, eq-eqb}
use Rattle.laws.specs.Lists.{joined, passing, any_of}
use Rattle.laws.specs.Laws.AnyOf.{any_append}
use Rattle.laws.specs.Laws.Bools.{false_true, either, or_right}

-- what holds of every element
abbrev pub All : {A : Type 0} → (A → Type 0) → List A → Type 0
All Q [] = Unit {0}
All Q (x ∷ xs) = Q x × All Q xs

pub all_append : {A : Type 0} (Q : A → Type 0) (xs ys : List A) → All Q xs → All Q ys → All Q (xs ++ ys)
all_append Q [] ys h k = k
all_append Q (x ∷ xs) ys h k = (h.0, all_append Q xs ys h.1 k)

-- what holds of f at each number below n holds of f at those that pass a test
pub all_passing : {A : Type 0} (Q : A → Type 0) (f : ℕ → A) (c : ℕ → Bool) (n : ℕ) → ((r : ℕ) → r < n → Q (f r))
    → All Q (map f (passing c n))
unfolding joined
all_passing Q f c zero h = tt
all_passing Q f c (suc n) h =
    rw (map-append f (passing c n) (cond (c n) (n ∷ []) []))
    (all_append Q (map f (passing c n)) (map f (cond (c n) (n ∷ []) [])) (all_passing Q f c n (λ r l. h r (le_step l)))
    (last (c n)))
  where
    last : (t : Bool) → All Q (map f (cond t (n ∷ []) []))
    last true = (h n (lt-suc_self n), tt)
    last false = tt

-- an element that passes a test p: it has what all elements have, and a test that it passes is passed over the list
pub record Witness {A : Type 0} (Q : A → Type 0) (p : A → Bool) (xs : List A) : Type 0 where
  pub it : A
  pub has : Q it
  pub passes : p it ≡ true
  pub among : (q : A → Bool) → q it ≡ true → any_of q xs ≡ true

module _ {A : Type 0} (Q : A → Type 0) (p : A → Bool) where
  pub any_elim : (xs : List A) → All Q xs → any_of p xs ≡ true → Witness Q p xs
  unfolding any_of
  any_elim [] h t = false_true t
  any_elim (x ∷ xs) h t = go (either (p x) (any_of p xs) t) (any_elim xs h.1)
    where
      go : (p x ≡ true) ⊎ (any_of p xs ≡ true) → (any_of p xs ≡ true → Witness Q p xs) → Witness Q p (x ∷ xs)
      go (inl s) f = record { it = x; has = h.0; passes = s; among = λ q t. rw t }
      go (inr s) f =
          let w =
          f s in
          record {
            it = w.it;
            has = w.has;
            passes = w.passes;
            among = λ q t. or_right (q x) (any_of q xs) (w.among q t);
          }

-- y is one of the numbers ts
unfoldable pub among : ℕ → List ℕ → Bool
among y ts = any_of (λ t. eqb t y) ts

pub among_append : (y : ℕ) (xs ys : List ℕ) → among y (xs ++ ys) ≡ among y xs || among y ys
unfolding among
among_append y xs ys = any_append (λ t. eqb t y) xs ys

pub among_one : (y x : ℕ) → among y (x ∷ []) ≡ eqb x y
unfolding among any_of
among_one y x = or-false (eqb x y)

module _ (y : ℕ) (c : Bool) (a : ℕ) (l : List ℕ) where
  pub among_cases : among y (cond c (a ∷ []) [] ++ l) ≡ true → ((c ≡ true) × (a ≡ y)) ⊎ (among y l ≡ true)
  among_cases t = go c t
    where
      go : (d : Bool) → among y (cond d (a ∷ []) [] ++ l) ≡ true → ((d ≡ true) × (a ≡ y)) ⊎ (among y l ≡ true)
      go true s =
          ⊎_elim (λ e. inl (refl, eqb-true a y e)) (λ e. inr e)
          (either (eqb a y) (among y l) (unfold among any_of in s))
      go false s = inr s

  pub among_head : c ≡ true → a ≡ y → among y (cond c (a ∷ []) [] ++ l) ≡ true
  unfolding among any_of
  among_head t e = rw (t, eq-eqb a y e)

  pub among_tail : among y l ≡ true → among y (cond c (a ∷ []) [] ++ l) ≡ true
  among_tail t = among_append y (cond c (a ∷ []) []) l ∙ or_right (among y (cond c (a ∷ []) [])) (among y l) t

-- what holds of each number that is among ts holds of all of them
pub all_among : (Q : ℕ → Type 0) (ts : List ℕ) → ((y : ℕ) → among y ts ≡ true → Q y) → All Q ts
unfolding among any_of
all_among Q [] f = tt
all_among Q (t ∷ ts) f = (f t (rw (eq-eqb t t refl)), all_among Q ts (λ y s. f y (or_right (eqb t y) (among y ts) s)))

-- a number among lists put together is in one of them
module _ (f : ℕ → List ℕ) (y : ℕ) where
  pub joined_cases : (n : ℕ) → among y (joined f n) ≡ true → (z : ℕ) × (z < n) × (among y (f z) ≡ true)
  unfolding joined
  joined_cases zero t = unfold among any_of in false_true t
  joined_cases (suc n) t =
      ⊎_elim (λ s. let r = joined_cases n s in (r.0, le_step r.1, r.2)) (λ s. (n, lt-suc_self n, s))
      (either (among y (joined f n)) (among y (f n)) (sym (among_append y (joined f n) (f n)) ∙ t))

  pub joined_among : (n z : ℕ) → z < n → among y (f z) ≡ true → among y (joined f n) ≡ true
  unfolding joined
  joined_among zero z h t = absurd (not-suc-le-zero h)
  joined_among (suc n) z h t =
      among_append y (joined f n) (f n)
      ∙ ⊎_elim (λ e. or_right (among y (joined f n)) (among y (f n)) (rw e at t)) (λ l. rw (joined_among n z l t))
      (eq-or-lt_of_le (le_of_suc-le-suc h))
