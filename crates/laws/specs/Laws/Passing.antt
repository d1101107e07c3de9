-- The numbers below n that pass a test: each of them once, in order, and no other.
use Rattle.std.specs.Prelude.{◌≡◌, refl, ℕ, zero, suc, ◌+◌, ◌<◌, ◌≤◌, Bool, true, false, cond, List, [], ◌∷◌, ◌++◌, length, get_or}
use Rattle.std.proofs.Common.{sym, ap, ◌∙◌, arith, not-suc-le-zero, eq-or-lt_of_le, le_of_suc-le-suc, append-nil, ⊎_elim, length-append}
use Rattle.std.proofs.Math.ListN.{get_or-append}
use Rattle.std.proofs.lemmas.List.{get_or_at}
use Rattle.laws.specs.Lists.{joined, passing}
use Rattle.laws.specs.Laws.Bools.{false_true}

-- each element is below n and passes, they rise, so that none comes twice, and each number that passes is there
pub record Passing (p : ℕ → Bool) (n : ℕ) (xs : List ℕ) : Type 0 where
  pub few : length xs ≤ n
  pub below : (i : ℕ) → i < length xs → get_or xs i 0 < n
  pub passes : (i : ℕ) → i < length xs → p (get_or xs i 0) ≡ true
  pub rises : (i j : ℕ) → i < j → j < length xs → get_or xs i 0 < get_or xs j 0
  pub there : (r : ℕ) → r < n → p r ≡ true → (i : ℕ) × (i < length xs) × (get_or xs i 0 ≡ r)

module _ (p : ℕ → Bool) (n : ℕ) (xs : List ℕ) (h : Passing p n xs) where
  abbrev more : List ℕ
  more = xs ++ n ∷ []

  old : (i : ℕ) → i < length xs → get_or more i 0 ≡ get_or xs i 0
  old i l = get_or-append xs (n ∷ []) 0 i l

  new : get_or more (length xs) 0 ≡ n
  new = get_or_at xs n [] 0 (length xs) refl

  long : length more ≡ length xs + 1
  long = length-append xs (n ∷ [])

  -- an index of the longer list is one of the shorter, or its end
  place : (P : ℕ → Type 0) → ((i : ℕ) → i < length xs → P i) → P (length xs) → (i : ℕ) → i < length more → P i
  place P f e i l =
      let g : suc i ≤ suc (length xs) = omega (arith, long) in
      ⊎_elim (λ (q : i ≡ length xs). rw (sym q) at e) (λ (q : i < length xs). f i q)
      (eq-or-lt_of_le (le_of_suc-le-suc g))

  -- below n + 1, at n or before
  at_or_before : {A : Type 0} (r : ℕ) → r < suc n → (r ≡ n → A) → (r < n → A) → A
  at_or_before r l here before = ⊎_elim here before (eq-or-lt_of_le (le_of_suc-le-suc l))

  with_last : p n ≡ true → Passing p (suc n) more
  with_last y =
      record {
        few = omega (arith, long, h.few);
        below = place (λ i. get_or more i 0 < suc n)
            (λ i l. rw (old i l) (let b = h.below i l in omega arith)) (rw new (omega arith));
        passes = place (λ i. p (get_or more i 0) ≡ true) (λ i l. rw (old i l) (h.passes i l)) (rw new y);
        rises = λ i j l m. place (λ k. i < k → get_or more i 0 < get_or more k 0)
            (λ k q b. rw (old i (omega arith), old k q) (h.rises i k b q))
            (λ b. rw (old i b, new) (h.below i b)) j m l;
        there = λ r l z. at_or_before r l
            (λ q. (length xs, omega (arith, long), new ∙ sym q))
            (λ q. let t = h.there r q z in (t.0, omega (arith, long, t.1), old t.0 t.1 ∙ t.2));
      }

  without_last : p n ≡ false → Passing p (suc n) xs
  without_last y =
      record {
        few = omega (arith, h.few);
        below = λ i l. let b = h.below i l in omega arith;
        passes = h.passes;
        rises = h.rises;
        there = λ r l z. at_or_before r l (λ q. false_true (sym y ∙ ap p (sym q) ∙ z)) (λ q. h.there r q z);
      }

  one_more : Passing p (suc n) (xs ++ cond (p n) (n ∷ []) [])
  one_more = by_test (p n) refl
    where
      by_test : (t : Bool) → p n ≡ t → Passing p (suc n) (xs ++ cond t (n ∷ []) [])
      by_test true e = with_last e
      by_test false e = rw (append-nil xs) (without_last e)

pub passing_in_order : (p : ℕ → Bool) (n : ℕ) → Passing p n (passing p n)
unfolding joined
passing_in_order p zero =
    record {
      few = omega arith;
      below = λ i l. absurd (not-suc-le-zero l);
      passes = λ i l. absurd (not-suc-le-zero l);
      rises = λ i j l m. absurd (not-suc-le-zero m);
      there = λ r l y. absurd (not-suc-le-zero l);
    }
passing_in_order p (suc n) = one_more p n (passing p n) (passing_in_order p n)
