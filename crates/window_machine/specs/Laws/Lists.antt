-- Laws of `keep` and `marked`.
use Rattle.std.specs.Prelude.{ℕ, zero, suc, ◌+◌, ◌≤◌, ◌<◌, ◌≡◌, refl, ◌⊎◌, Bool, true, false, cond, List, [], ◌∷◌, ◌++◌, length, set, get_or}
use Rattle.std.proofs.Common.{arith, sym, ap, ◌∙◌, inl, inr, ⊎_elim, true≢false, length-set, get_or-set_same, get_or-set_other}
use mathlib.Core.List.Memᴰ
use Rattle.std.proofs.Math.Seq.{set_out}
use Rattle.std.proofs.Math.Decide.{ℕ_discrete, dec_lt}
use Rattle.window_machine.specs.Machine.{Entry, keep, marked}
use Rattle.window_machine.specs.Order.{Mem}

pub keep_in : (p : Entry → Bool) (es : List Entry) {e : Entry} → Mem e (keep p es) → Mem e es × (p e ≡ true)
unfolding keep
keep_in p [] m = absurd (Memᴰ.not-nil m)
keep_in p (x ∷ es) {e} m = go (λ h. keep_in p es h) (p x) refl m
  where
    go : (Mem e (keep p es) → Mem e es × (p e ≡ true)) → (b : Bool) → p x ≡ b
        → Mem e (cond b (x ∷ keep p es) (keep p es)) → Mem e (x ∷ es) × (p e ≡ true)
    go below true h k =
        ⊎_elim (λ (q : e ≡ x). (Memᴰ.head q, ap p q ∙ h)) (λ k'. let z = below k' in (Memᴰ.tail z.0, z.1))
        (Memᴰ.cases_cons k)
    go below false h k = let z = below k in (Memᴰ.tail z.0, z.1)

pub in_keep : (p : Entry → Bool) (es : List Entry) {e : Entry} → Mem e es → p e ≡ true → Mem e (keep p es)
unfolding keep
in_keep p [] m h = absurd (Memᴰ.not-nil m)
in_keep p (x ∷ es) {e} m h = go (λ k. in_keep p es k h) (p x) refl (Memᴰ.cases_cons m)
  where
    go : (Mem e es → Mem e (keep p es)) → (b : Bool) → p x ≡ b → (e ≡ x) ⊎ Mem e es
        → Mem e (cond b (x ∷ keep p es) (keep p es))
    go below true q (inl k) = Memᴰ.head k
    go below true q (inr k) = Memᴰ.tail (below k)
    go below false q (inl k) = absurd (true≢false (sym h ∙ ap p k ∙ q))
    go below false q (inr k) = below k

pub keep_shorter : (p : Entry → Bool) (es : List Entry) → length (keep p es) ≤ length es
unfolding keep
keep_shorter p [] = omega arith
keep_shorter p (x ∷ es) = go (keep_shorter p es) (p x)
  where
    go : length (keep p es) ≤ length es → (b : Bool) → length (cond b (x ∷ keep p es) (keep p es)) ≤ suc (length es)
    go h true = omega arith
    go h false = omega arith

pub keep_fewer : (p q : Entry → Bool) (es : List Entry) → length (keep p (keep q es)) ≤ length (keep p es)
unfolding keep
keep_fewer p q [] = omega arith
keep_fewer p q (x ∷ es) = go (keep_fewer p q es) (q x) (p x) refl
  where
    go : length (keep p (keep q es)) ≤ length (keep p es) → (b d : Bool) → p x ≡ d
        → length (keep p (cond b (x ∷ keep q es) (keep q es))) ≤ length (cond d (x ∷ keep p es) (keep p es))
    go h true true e = rw e (omega arith)
    go h true false e = rw e h
    go h false true e = omega arith
    go h false false e = h

pub keep_twice : (p : Entry → Bool) (es : List Entry) → keep p (keep p es) ≡ keep p es
unfolding keep
keep_twice p [] = refl
keep_twice p (x ∷ es) = go (keep_twice p es) (p x) refl
  where
    go : keep p (keep p es) ≡ keep p es → (b : Bool) → p x ≡ b
        → keep p (cond b (x ∷ keep p es) (keep p es)) ≡ cond b (x ∷ keep p es) (keep p es)
    go h true e = rw (e, h)
    go h false e = h

pub keep_append : (p : Entry → Bool) (a b : List Entry) → keep p (a ++ b) ≡ keep p a ++ keep p b
unfolding keep
keep_append p [] b = refl
keep_append p (x ∷ a) b = go (keep_append p a b) (p x)
  where
    go : keep p (a ++ b) ≡ keep p a ++ keep p b → (d : Bool)
        → cond d (x ∷ keep p (a ++ b)) (keep p (a ++ b)) ≡ cond d (x ∷ keep p a) (keep p a) ++ keep p b
    go h true = ap (λ (l : List Entry). x ∷ l) h
    go h false = h

pub keep_none : (p : Entry → Bool) (es : List Entry) → ((e : Entry) → Mem e es → p e ≡ false) → keep p es ≡ []
unfolding keep
keep_none p [] h = refl
keep_none p (x ∷ es) h = rw (h x (Memᴰ.head refl)) (keep_none p es (λ e k. h e (Memᴰ.tail k)))

pub keep_cong : (p q : Entry → Bool) (es : List Entry) → ((e : Entry) → Mem e es → p e ≡ q e) → keep p es ≡ keep q es
unfolding keep
keep_cong p q [] h = refl
keep_cong p q (x ∷ es) h = rw (h x (Memᴰ.head refl), keep_cong p q es (λ e k. h e (Memᴰ.tail k)))

-- ---- marks

-- row i is in the result
abbrev pub Out : List ℕ → ℕ → Type 0
Out m i = get_or m i 0 ≡ 1

pub out_below : (m : List ℕ) (i : ℕ) → Out m i → i < length m
out_below [] i h = absurd (zero_one h)
  where
    zero_one : ◌≡◌ {A = ℕ} 0 1 → ⊥
    zero_one e = omega arith
out_below (b ∷ m) zero h = omega arith
out_below (b ∷ m) (suc i) h = omega (arith, out_below m i h)

-- a byte after a store of 1
set_cases : (m : List ℕ) (j i : ℕ) → Out (set m j 1) i → Out m i ⊎ (i ≡ j)
set_cases m j i h = go (ℕ_discrete i j)
  where
    go : Dec (i ≡ j) → Out m i ⊎ (i ≡ j)
    go (yes e) = inr e
    go (no n) = inl (sym (get_or-set_other m j i 1 0 n) ∙ h)

set_old : (m : List ℕ) (j i : ℕ) → Out m i → Out (set m j 1) i
set_old m j i h = go (ℕ_discrete i j)
  where
    go : Dec (i ≡ j) → Out (set m j 1) i
    go (yes e) = rw e (get_or-set_same m j 1 0 (rw e at (out_below m i h)))
    go (no n) = get_or-set_other m j i 1 0 n ∙ h

set_bit : (m : List ℕ) (j i : ℕ) → get_or m i 0 ≤ 1 → get_or (set m j 1) i 0 ≤ 1
set_bit m j i h = go (ℕ_discrete i j) (dec_lt j (length m))
  where
    go : Dec (i ≡ j) → Dec (j < length m) → get_or (set m j 1) i 0 ≤ 1
    go (yes e) (yes l) = rw (e, get_or-set_same m j 1 0 l) (omega arith)
    go (yes e) (no l) = rw (set_out m j 1 (omega arith)) h
    go (no n) d = rw (get_or-set_other m j i 1 0 n) h

pub length_marked : (es : List Entry) (m : List ℕ) → length (marked es m) ≡ length m
unfolding marked
length_marked [] m = refl
length_marked (e ∷ es) m = length_marked es (set m e.row 1) ∙ length-set m e.row 1

pub marked_bits : (es : List Entry) (m : List ℕ) → ((i : ℕ) → get_or m i 0 ≤ 1) → (i : ℕ) → get_or (marked es m) i 0 ≤ 1
unfolding marked
marked_bits [] m h = h
marked_bits (e ∷ es) m h = marked_bits es (set m e.row 1) (λ i. set_bit m e.row i (h i))

pub marked_old : (es : List Entry) (m : List ℕ) (i : ℕ) → Out m i → Out (marked es m) i
unfolding marked
marked_old [] m i h = h
marked_old (e ∷ es) m i h = marked_old es (set m e.row 1) i (set_old m e.row i h)

pub marked_new : (es : List Entry) (m : List ℕ) {e : Entry} → Mem e es → e.row < length m → Out (marked es m) e.row
unfolding marked
marked_new [] m k l = absurd (Memᴰ.not-nil k)
marked_new (x ∷ es) m {e} k l = ⊎_elim
    (λ (q : e ≡ x). marked_old es (set m x.row 1) e.row (rw q (get_or-set_same m x.row 1 0 (rw q at l))))
    (λ (k' : Mem e es). marked_new es (set m x.row 1) k' (rw (length-set m x.row 1) l))
    (Memᴰ.cases_cons k)

-- row i is an entry's
abbrev pub RowOf : List Entry → ℕ → Type 0
RowOf es i = (e : Entry) × Mem e es × (e.row ≡ i)

pub marked_cases : (es : List Entry) (m : List ℕ) (i : ℕ) → Out (marked es m) i → Out m i ⊎ RowOf es i
unfolding marked
marked_cases [] m i h = inl h
marked_cases (x ∷ es) m i h = ⊎_elim
    (λ (o : Out (set m x.row 1) i). ⊎_elim (λ o'. inl o') (λ (q : i ≡ x.row). inr (x, Memᴰ.head refl, sym q))
    (set_cases m x.row i o))
    (λ z. inr (z.0, Memᴰ.tail z.1, z.2))
    (marked_cases es (set m x.row 1) i h)
