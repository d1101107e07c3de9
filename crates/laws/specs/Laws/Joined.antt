-- Lists put together one after the other; lists of one element each.
use Rattle.std.specs.Prelude.{◌≡◌, Bool, true, false, cond, get_or}
use Rattle.std.proofs.Math.Path.{refl}
use Rattle.std.proofs.Common.{ap, ◌∙◌, add-one, not-suc-le-zero, le_refl, eq-or-lt_of_le, le_of_suc-le-suc, get_or-append-add}
use Prim.Native.Nat.{ℕ, zero, suc, ◌+◌, ◌-◌, ◌*◌, ◌<◌, ◌≤◌, min}
use native.Mathlib.Omega.{arith}
use mathlib.Core.List.{List, [], ◌∷◌, ◌++◌}
use Rattle.std.proofs.Math.Logic.{⊎_elim}
use Rattle.std.proofs.Math.Dec.{ltb}
use Rattle.std.proofs.Math.Seq.{get_or_at}
use Rattle.std.proofs.Math.ListN.{length, length-append, get_or-append, get_or-eq_default}
use borrow.Author.Tests.{lt-ltb, ltb-true, ltb-false}
use Rattle.laws.specs.First.{first_at, any_below}
use Rattle.laws.specs.Lists.{joined, list_with}
use Rattle.laws.specs.Laws.First.{first_is, any_at}

-- only the lists below n matter
pub joined_cong : (f g : ℕ → List ℕ) (n : ℕ) → ((i : ℕ) → i < n → f i ≡ g i) → joined f n ≡ joined g n
unfolding joined
joined_cong f g zero h = refl
joined_cong f g (suc n) h = rw (joined_cong f g n (λ i l. h i (omega arith)), h n (omega arith))

-- only the lengths of the lists matter to their length
pub joined_length : (f g : ℕ → List ℕ) (n : ℕ) → ((i : ℕ) → length (f i) ≡ length (g i))
    → length (joined f n) ≡ length (joined g n)
unfolding joined
joined_length f g zero h = refl
joined_length f g (suc n) h =
    rw (length-append (joined f n) (f n), length-append (joined g n) (g n), joined_length f g n h, h n)

pub joined_longer : (f : ℕ → List ℕ) (n : ℕ) → length (joined f (n + 1)) ≡ length (joined f n) + length (f n)
unfolding joined
joined_longer f n = rw (add-one n) (length-append (joined f n) (f n))

-- n lists of at most b
pub joined_short : (f : ℕ → List ℕ) (b n : ℕ) → ((i : ℕ) → i < n → length (f i) ≤ b) → length (joined f n) ≤ b * n
unfolding joined
joined_short f b zero h = omega arith
joined_short f b (suc n) h =
    omega (arith, length-append (joined f n) (f n), joined_short f b n (λ i k. h i (omega arith)), h n (omega arith))

-- ---- which list has element k

joined_grows : (f : ℕ → List ℕ) (i n : ℕ) → i ≤ n → length (joined f i) ≤ length (joined f n)
unfolding joined
joined_grows f i zero h = let e : i ≡ 0 = omega arith in rw e (le_refl _)
joined_grows f i (suc n) h =
    ⊎_elim (λ e. rw e (le_refl _))
    (λ l. omega (arith, joined_grows f i n (le_of_suc-le-suc l), length-append (joined f n) (f n)))
    (eq-or-lt_of_le h)

-- the list before whose elements there are at most k, and with whose elements there are more
joined_at : (f : ℕ → List ℕ) (i k : ℕ) → length (joined f i) ≤ k → k < length (joined f (suc i)) → (n : ℕ) → i < n
    → get_or (joined f n) k 0 ≡ get_or (f i) (k - length (joined f i)) 0
unfolding joined
joined_at f i k a b zero h = absurd (not-suc-le-zero h)
joined_at f i k a b (suc n) h =
    ⊎_elim
    (λ e.
    let q : k ≡ length (joined f i) + (k - length (joined f i)) = omega arith in
    rw (← e) (ap (λ (j : ℕ). get_or (joined f i ++ f i) j 0) q
    ∙ get_or-append-add (joined f i) (f i) (k - length (joined f i)) 0))
    (λ l. get_or-append (joined f n) (f n) 0 k (omega (arith, b, joined_grows f (suc i) n l))
    ∙ joined_at f i k a b n l)
    (eq-or-lt_of_le (le_of_suc-le-suc h))

module _ (g : ℕ → List ℕ) (k : ℕ) where
  pub list_counted : (n : ℕ) → k < length (joined g n) → list_with g n k < n
  unfolding joined any_below
  list_counted zero h = absurd (not-suc-le-zero h)
  list_counted (suc n) h =
      ltb-true _ _ (any_at (λ i. ltb k (length (joined g (suc i)))) (suc n) n (omega arith) (lt-ltb _ _ h))

  before_list : (i : ℕ) → ((j : ℕ) → j < i → ltb k (length (joined g (suc j))) ≡ false) → length (joined g i) ≤ k
  unfolding joined
  before_list zero h = omega arith
  before_list (suc j) h = ltb-false _ _ (h j (omega arith))

  pub list_found : (n : ℕ) → list_with g n k < n → k < length (joined g n)
  list_found n h =
      let i = list_with g n k in
      let w = first_is (λ j. ltb k (length (joined g (suc j)))) n in
      let high = ltb-true k (length (joined g (suc i))) (w.there h) in
      omega (arith, high, joined_grows g (suc i) n h)

  -- and its place there
  pub list_within : (n : ℕ) → k < length (joined g n)
      → k - length (joined g (list_with g n k)) < length (g (list_with g n k))
  unfolding joined
  list_within n h =
      let i = list_with g n k in
      let w = first_is (λ j. ltb k (length (joined g (suc j)))) n in
      let low : length (joined g i) ≤ k = before_list i w.before in
      let high : k < length (joined g (suc i)) = ltb-true _ _ (w.there (list_counted n h)) in
      omega (arith, length-append (joined g i) (g i))

  -- element k of lists as long as these
  pub list_at : (f : ℕ → List ℕ) → ((i : ℕ) → length (f i) ≡ length (g i)) → (n : ℕ) → k < length (joined g n)
      → get_or (joined f n) k 0 ≡ get_or (f (list_with g n k)) (k - length (joined g (list_with g n k))) 0
  list_at f e n h =
      let i = list_with g n k in
      let w = first_is (λ j. ltb k (length (joined g (suc j)))) n in
      let same : (m : ℕ) → length (joined f m) ≡ length (joined g m) = λ m. joined_length f g m e in
      let low : length (joined f i) ≤ k = rw (same i) (before_list i w.before) in
      let high : k < length (joined f (suc i)) = rw (same (suc i)) (ltb-true _ _ (w.there (list_counted n h))) in
      joined_at f i k low high n (list_counted n h) ∙ rw (same i)

least_more : (k n : ℕ) → ◌≡◌ {A = ℕ} (cond (ltb (min k n) n) (min k n) (cond (ltb k (suc n)) n (suc n))) (min k (suc n))
least_more k n = go (ltb (min k n) n) refl (ltb k (suc n)) refl
  where
    go : (t : Bool) → ltb (min k n) n ≡ t → (u : Bool) → ltb k (suc n) ≡ u
        → ◌≡◌ {A = ℕ} (cond t (min k n) (cond u n (suc n))) (min k (suc n))
    go true e u f = omega (arith, ltb-true (min k n) n e)
    go false e true f = omega (arith, ltb-false (min k n) n e, ltb-true k (suc n) f)
    go false e false f = omega (arith, ltb-false k (suc n) f)

-- ---- lists of one element each

module _ (f : ℕ → ℕ) where
  pub singles_length : (n : ℕ) → length (joined (λ i. f i ∷ []) n) ≡ n
  unfolding joined
  singles_length zero = refl
  singles_length (suc n) = length-append (joined (λ i. f i ∷ []) n) (f n ∷ []) ∙ omega (arith, singles_length n)

  pub singles_past : (n k : ℕ) → n ≤ k → get_or (joined (λ i. f i ∷ []) n) k 0 ≡ 0
  singles_past n k h = get_or-eq_default (joined (λ i. f i ∷ []) n) 0 (omega (arith, singles_length n))

  at_end : (n : ℕ) → get_or (joined (λ i. f i ∷ []) (suc n)) n 0 ≡ f n
  unfolding joined
  at_end n = get_or_at (joined (λ i. f i ∷ []) n) (f n) [] 0 n (singles_length n)

  pub singles_at : (n k : ℕ) → k < n → get_or (joined (λ i. f i ∷ []) n) k 0 ≡ f k
  unfolding joined
  singles_at zero k h = absurd (not-suc-le-zero h)
  singles_at (suc n) k h =
      ⊎_elim
      (λ e. rw e (at_end n))
      (λ l. get_or-append (joined (λ i. f i ∷ []) n) (f n ∷ []) 0 k (omega (arith, singles_length n))
      ∙ singles_at n k l)
      (eq-or-lt_of_le (le_of_suc-le-suc h))

  -- element k stands in list k
  pub singles_with : (n k : ℕ) → list_with (λ i. f i ∷ []) n k ≡ min k n
  unfolding first_at
  singles_with zero k = omega arith
  singles_with (suc n) k = rw (singles_with n k, singles_length (suc n)) (least_more k n)
