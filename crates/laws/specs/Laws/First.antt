-- The search that counts up: its turns, its answer, and that it looks only below its end.
use Rattle.std.specs.Prelude.{◌≡◌, refl, ℕ, zero, suc, ◌+◌, ◌-◌, ◌<◌, ◌≤◌, Bool, true, false, not, ◌||◌, cond, ltb, eqb}
use Rattle.std.proofs.Common.{sym, ap, ◌∙◌, arith, zero-add, add-zero, suc-add, lt_irrefl, not-suc-le-zero, add-one, lt-ltb, le-ltb, ltb-true, ltb-false, eqb-true, ne_eqb, eq-eqb, below_more}
use Rattle.std.proofs.lemmas.Bool.{not-false}
use Rattle.laws.specs.First.{first_at, any_below, first_refusal, is_refusal}
use Rattle.laws.specs.Laws.Bools.{false_true, or_none, or_assoc}

-- nothing below k, and not at k: nothing below k + 1
pub search_on : (p : ℕ → Bool) (k : ℕ) → first_at p k ≡ k → p k ≡ false → first_at p (k + 1) ≡ k + 1
unfolding first_at
search_on p k e n = rw (add-one k) (rw (e, le-ltb k k (omega arith), n))

-- the same for d numbers from k on
pub search_past : (p : ℕ → Bool) (k d : ℕ) → first_at p k ≡ k → ((i : ℕ) → i < d → p (k + i) ≡ false)
    → first_at p (k + d) ≡ k + d
search_past p k zero e n = rw (add-zero k) e
search_past p k (suc d) e n =
    let q : k + d + 1 ≡ k + suc d = omega arith in
    rw q at (search_on p (k + d) (search_past p k d e (λ i l. n i (omega arith))) (n d (omega arith)))

hit : (p : ℕ → Bool) (k j : ℕ) → first_at p k ≡ k → p k ≡ true → first_at p (suc (j + k)) ≡ k
unfolding first_at
hit p k zero e y = rw (zero-add k, e, le-ltb k k (omega arith), y)
hit p k (suc j) e y = rw (suc-add j k, hit p k j e y, lt-ltb k (suc (j + k)) (omega arith))

-- found at k: the answer of every longer search
pub search_hit : (p : ℕ → Bool) (k n : ℕ) → first_at p k ≡ k → p k ≡ true → k < n → first_at p n ≡ k
search_hit p k n e y l =
    let q : n ≡ suc ((n - suc k) + k) = omega arith in
    ap (first_at p) q ∙ hit p k (n - suc k) e y

pub any_hit : (p : ℕ → Bool) (k n : ℕ) → first_at p k ≡ k → p k ≡ true → k < n → any_below p n ≡ true
unfolding any_below
any_hit p k n e y l = rw (search_hit p k n e y l) (lt-ltb k n l)

pub any_none : (p : ℕ → Bool) (n : ℕ) → first_at p n ≡ n → any_below p n ≡ false
unfolding any_below
any_none p n e = rw e (le-ltb n n (omega arith))

pub refusal_on : (f : ℕ → ℕ) (k : ℕ) → first_at (is_refusal f) k ≡ k → f k ≡ 0 → first_at (is_refusal f) (k + 1) ≡ k + 1
refusal_on f k e z = search_on (is_refusal f) k e (rw (eq-eqb (f k) 0 z))

pub refusal_hit : (f : ℕ → ℕ) (k n : ℕ) → first_at (is_refusal f) k ≡ k → (f k ≡ 0 → ⊥) → k < n
    → first_refusal f n ≡ f k
unfolding first_refusal
refusal_hit f k n e y l =
    let t : is_refusal f k ≡ true = rw (ne_eqb (f k) 0 y) in
    rw (any_hit (is_refusal f) k n e t l, search_hit (is_refusal f) k n e t l)

pub refusal_none : (f : ℕ → ℕ) (n : ℕ) → first_at (is_refusal f) n ≡ n → first_refusal f n ≡ 0
unfolding first_refusal
refusal_none f n e = rw (any_none (is_refusal f) n e)

-- what a search's answer k says: nothing before it, and it holds there
pub record First (p : ℕ → Bool) (n k : ℕ) : Type 0 where
  pub within : k ≤ n
  pub before : (i : ℕ) → i < k → p i ≡ false
  pub there : k < n → p k ≡ true

first_more : (p : ℕ → Bool) (n k : ℕ) → First p n k → (t : Bool) → ltb k n ≡ t → (u : Bool) → p n ≡ u
    → First p (suc n) (cond t k (cond u n (suc n)))
first_more p n k h true e u f =
    let q : k < n = ltb-true k n e in record { within = omega arith; before = h.before; there = λ l. h.there q }
first_more p n k h false e true f =
    let q : n ≤ k =
    ltb-false k n e in record { within = omega arith; before = λ i l. h.before i (omega arith); there = λ l. f }
first_more p n k h false e false f =
    let q : n ≤ k = ltb-false k n e in
    record {
      within = omega arith;
      before = λ i l. below_more (λ (j : ℕ). p j ≡ false) n (λ j m. h.before j (omega arith)) f i (omega arith);
      there = λ l. absurd (lt_irrefl (suc n) l);
    }

pub first_is : (p : ℕ → Bool) (n : ℕ) → First p n (first_at p n)
unfolding first_at
first_is p zero =
    record { within = omega arith; before = λ i l. absurd (not-suc-le-zero l); there = λ l. absurd (not-suc-le-zero l) }
first_is p (suc n) = first_more p n (first_at p n) (first_is p n) (ltb (first_at p n) n) refl (p n) refl

one_more : (p : ℕ → Bool) (k f : ℕ) → f ≤ k → (t : Bool) → ltb f k ≡ t → (u : Bool)
    → ltb (cond t f (cond u k (suc k))) (suc k) ≡ t || u
one_more p k f h true e u = lt-ltb f (suc k) (let q = ltb-true f k e in omega arith)
one_more p k f h false e true = lt-ltb k (suc k) (omega arith)
one_more p k f h false e false = le-ltb (suc k) (suc k) (omega arith)

-- one number more: it holds below, or there
pub any_more : (p : ℕ → Bool) (k : ℕ) → any_below p (k + 1) ≡ any_below p k || p k
unfolding any_below first_at
any_more p k = rw (add-one k) (one_more p k (first_at p k) (first_is p k).within (ltb (first_at p k) k) refl (p k))

any_zero : (p : ℕ → Bool) → any_below p 0 ≡ false
unfolding any_below first_at
any_zero p = refl

-- a search in two stretches
pub any_append : (p : ℕ → Bool) (m n : ℕ) → any_below p (m + n) ≡ any_below p m || any_below (λ k. p (m + k)) n
any_append p m zero = rw (add-zero m, any_zero (λ k. p (m + k))) (sym (or_none (any_below p m)))
any_append p m (suc n) =
    let e : m + suc n ≡ m + n + 1 = omega arith in
    rw (e, any_more p (m + n), any_append p m n, ← add-one n, any_more (λ k. p (m + k)) n)
    (or_assoc (any_below p m) (any_below (λ k. p (m + k)) n) (p (m + n)))

-- a search that found one shows where, and one that holds is found
pub any_found : (p : ℕ → Bool) (n : ℕ) → any_below p n ≡ true → (k : ℕ) × (k < n) × (p k ≡ true)
unfolding any_below
any_found p n h = let l = ltb-true (first_at p n) n h in (first_at p n, l, (first_is p n).there l)

pub any_at : (p : ℕ → Bool) (n k : ℕ) → k < n → p k ≡ true → any_below p n ≡ true
unfolding any_below
any_at p n k l h = found_at (ltb (first_at p n) n) refl
  where
    found_at : (t : Bool) → ltb (first_at p n) n ≡ t → t ≡ true
    found_at true e = refl
    found_at false e =
        let q = ltb-false (first_at p n) n e in
        let f = (first_is p n).before k (omega arith) in
        false_true (sym f ∙ h)

-- nothing holds anywhere
pub none_any : (p : ℕ → Bool) (n : ℕ) → ((i : ℕ) → i < n → p i ≡ false) → any_below p n ≡ false
none_any p n h = by_answer (any_below p n) refl
  where
    by_answer : (t : Bool) → any_below p n ≡ t → t ≡ false
    by_answer true e = let f = any_found p n e in false_true (sym (h f.0 f.1) ∙ f.2)
    by_answer false e = refl

none_found : (f : ℕ → ℕ) (n k : ℕ) → First (is_refusal f) n k → (t : Bool) → ltb k n ≡ t → cond t (f k) 0 ≡ 0 → n ≤ k
none_found f n k h false e z = ltb-false k n e
none_found f n k h true e z =
    let q = h.there (ltb-true k n e) in
    let r : is_refusal f k ≡ false = rw (eq-eqb (f k) 0 z) in
    false_true (sym r ∙ q)

-- no number comes: each check gives none
pub refusal_zero : (f : ℕ → ℕ) (n : ℕ) → first_refusal f n ≡ 0 → (i : ℕ) → i < n → f i ≡ 0
unfolding first_refusal any_below
refusal_zero f n z i l =
    let h = first_is (is_refusal f) n in
    let m = none_found f n (first_at (is_refusal f) n) h (ltb (first_at (is_refusal f) n) n) refl z in
    eqb-true (f i) 0 (not-false (eqb (f i) 0) (h.before i (omega arith)))

-- ---- a search looks only below its end

pub first_cong : (p q : ℕ → Bool) (n : ℕ) → ((i : ℕ) → i < n → p i ≡ q i) → first_at p n ≡ first_at q n
unfolding first_at
first_cong p q zero h = refl
first_cong p q (suc n) h = rw (first_cong p q n (λ i l. h i (omega arith)), h n (omega arith))

pub any_cong : (p q : ℕ → Bool) (n : ℕ) → ((i : ℕ) → i < n → p i ≡ q i) → any_below p n ≡ any_below q n
unfolding any_below
any_cong p q n h = ap (λ (k : ℕ). ltb k n) (first_cong p q n h)

found_cong : (f g : ℕ → ℕ) (n k : ℕ) → ((i : ℕ) → i < n → f i ≡ g i) → (t : Bool) → ltb k n ≡ t
    → ◌≡◌ {A = ℕ} (cond t (f k) 0) (cond t (g k) 0)
found_cong f g n k h true e = h k (ltb-true k n e)
found_cong f g n k h false e = refl

pub refusal_cong : (f g : ℕ → ℕ) (n : ℕ) → ((i : ℕ) → i < n → f i ≡ g i) → first_refusal f n ≡ first_refusal g n
unfolding first_refusal any_below
refusal_cong f g n h =
    let e = first_cong (is_refusal f) (is_refusal g) n (λ i l. ap (λ (k : ℕ). not (eqb k 0)) (h i l)) in
    found_cong f g n (first_at (is_refusal f) n) h (ltb (first_at (is_refusal f) n) n) refl ∙ rw e
