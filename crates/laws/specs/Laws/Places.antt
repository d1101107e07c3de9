-- The library's tests over a list's elements, told place by place.
use Rattle.std.specs.Prelude.{◌≡◌, refl, ℕ, zero, suc, ◌+◌, ◌-◌, ◌<◌, ◌≤◌, Bool, true, false, ◌||◌, cond, List, [], ◌∷◌, ◌++◌, count_by, take, length, get_or}
use Rattle.std.specs.List.{list_any}
use Rattle.std.proofs.Common.{sym, ap, ◌∙◌, arith, add-one, ⊎_elim, length-append}
use Rattle.std.proofs.lemmas.Bool.{cases_lt}
use Rattle.std.proofs.lemmas.List.{get_or_past, take_all}
use Rattle.std.proofs.lemmas.List.Folds.{list_any_more}
use Rattle.std.proofs.lemmas.List.Sums.{count_by_more_yes, count_by_more_no}
use Rattle.laws.specs.Lists.{joined, passing}
use Rattle.laws.specs.First.{first_at, any_below}
use Rattle.laws.specs.Laws.First.{any_more, any_none, any_append, none_any}
use Rattle.laws.specs.Laws.Bools.{or_none}

-- the library's test over the first n elements, place by place
pub list_any_below : {A : Type 0} (f : A → Bool) (d : A) (xs : List A) (n : ℕ) → n ≤ length xs
    → list_any f (take n xs) ≡ any_below (λ j. f (get_or xs j d)) n
unfolding first_at
list_any_below f d xs zero h = rw (any_none (λ j. f (get_or xs j d)) 0 refl)
list_any_below f d xs (suc n) h =
    rw (← add-one n, list_any_more f xs n d (omega arith), any_more (λ j. f (get_or xs j d)) n)
    (ap (λ (b : Bool). b || f (get_or xs n d)) (list_any_below f d xs n (omega arith)))

-- nothing holds from m on: the numbers below m decide
pub any_past : (p : ℕ → Bool) (m n : ℕ) → m ≤ n → ((i : ℕ) → m ≤ i → p i ≡ false) → any_below p n ≡ any_below p m
any_past p m n l h =
    let e : n ≡ m + (n - m) = omega arith in
    rw (
      e,
      any_append p m (n - m),
      none_any (λ k. p (m + k)) (n - m) (λ i q. h (m + i) (omega arith)),
      or_none (any_below p m),
    )

-- the same of the elements that there are, where the test fails at what a place past the last reads as
pub list_any_front : {A : Type 0} (f : A → Bool) (d : A) (xs : List A) (n : ℕ) → f d ≡ false
    → list_any f (take n xs) ≡ any_below (λ j. f (get_or xs j d)) n
list_any_front f d xs n e =
    ⊎_elim
    (λ (l : length xs < n).
    let whole : take n xs ≡ take (length xs) xs = take_all n xs (omega arith)
    ∙ sym (take_all (length xs) xs (omega arith)) in
    rw (whole, any_past (λ j. f (get_or xs j d)) (length xs) n (omega arith) (λ i m. rw (get_or_past xs i d m) e))
    (list_any_below f d xs (length xs) (omega arith)))
    (λ (l : n ≤ length xs). list_any_below f d xs n l)
    (cases_lt (length xs) n)

-- the library's count over the elements that there are, by the list of the places that pass
module _ {A : Type 0} (f : A → Bool) (d : A) (xs : List A) where
  passing_more : (n : ℕ) (b : Bool) → f (get_or xs n d) ≡ b
      → length (passing (λ r. f (get_or xs r d)) (suc n)) ≡ length (passing (λ r. f (get_or xs r d)) n) + cond b 1 0
  unfolding joined
  passing_more n true e = rw e (length-append (passing (λ r. f (get_or xs r d)) n) (n ∷ []))
  passing_more n false e = rw e (length-append (passing (λ r. f (get_or xs r d)) n) [])

  taken_more : (n : ℕ) (b : Bool) → f (get_or xs n d) ≡ b → f d ≡ false
      → count_by f (take (n + 1) xs) ≡ count_by f (take n xs) + cond b 1 0
  taken_more n b e z =
      ⊎_elim
      (λ (l : n < length xs). inside b e l)
      (λ (l : length xs ≤ n). past b e l)
      (cases_lt n (length xs))
    where
      inside : (b : Bool) → f (get_or xs n d) ≡ b → n < length xs
          → count_by f (take (n + 1) xs) ≡ count_by f (take n xs) + cond b 1 0
      inside true e l = count_by_more_yes f xs n d l e
      inside false e l = count_by_more_no f xs n d l e ∙ omega arith

      past : (b : Bool) → f (get_or xs n d) ≡ b → length xs ≤ n
          → count_by f (take (n + 1) xs) ≡ count_by f (take n xs) + cond b 1 0
      past b e l =
          let no : b ≡ false = sym e ∙ ap f (get_or_past xs n d l) ∙ z in
          rw (no, take_all (n + 1) xs (omega arith), take_all n xs l) (omega arith)

  pub count_passing : (n : ℕ) → f d ≡ false → count_by f (take n xs) ≡ length (passing (λ r. f (get_or xs r d)) n)
  unfolding joined
  count_passing zero z = refl
  count_passing (suc n) z =
      let b = f (get_or xs n d) in
      rw (← add-one n) (taken_more n b refl z)
      ∙ ap (λ k. k + cond b 1 0) (count_passing n z)
      ∙ sym (passing_more n b refl)
