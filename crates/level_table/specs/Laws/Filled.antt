-- A table that is filled part by part holds the same as one that is filled from the front.
use Rattle.std.specs.Prelude.{◌≡◌, List, [], ◌∷◌, length}
use Rattle.std.proofs.Math.Path.{refl, ap}
use Rattle.std.proofs.Common.{sym, ◌∙◌, not-suc-le-zero, eq-or-lt_of_le, le_of_suc-le-suc, ext_get_or}
use Prim.Native.Nat.{ℕ, zero, suc, ◌+◌, ◌*◌, ◌/◌, ◌%◌, ◌<◌, ◌≤◌}
use native.Mathlib.Omega.{arith}
use Rattle.std.proofs.Math.Logic.{⊎_elim}
use Rattle.std.proofs.Math.Decide.{dec_lt}
use Rattle.std.proofs.Math.ListN.{get_or, set}
use Rattle.std.proofs.lemmas.List.Edits.{sets}
use Rattle.std.proofs.Math.Seq.{length-sets, get_or-set_same, get_or-set_other}
use Rattle.laws.specs.Lists.{joined}
use Rattle.laws.specs.Laws.Joined.{singles_length}
use Rattle.laws.specs.Laws.Stores.{sets_append}
use Rattle.level_table.specs.Filled.{with_part, with_parts}
use Rattle.level_table.specs.Laws.Part.{with_part_length}

-- ---- one part

module _ (f : ℕ → ℕ) (k : ℕ) (small : k < 8) (t : List ℕ) where
  part_out : (n i : ℕ) → (i % 8 ≡ k → n ≤ i / 8) → get_or (with_part f k n t) i 0 ≡ get_or t i 0
  unfolding with_part
  part_out zero i h = refl
  part_out (suc n) i h =
      get_or-set_other (with_part f k n t) (8 * n + k) i (f n) 0 (λ e. absurd (omega (arith, h (omega arith))))
      ∙ part_out n i (λ e. omega (arith, h e))

  part_in : (n i : ℕ) → i < length t → i % 8 ≡ k → i / 8 < n → get_or (with_part f k n t) i 0 ≡ f (i / 8)
  unfolding with_part
  part_in zero i l e h = absurd (not-suc-le-zero h)
  part_in (suc n) i l e h =
      ⊎_elim
      (λ (q : i / 8 ≡ n).
      let p : 8 * n + k ≡ i = omega arith in
      ap (λ (j : ℕ). get_or (set (with_part f k n t) j (f n)) i 0) p
      ∙ get_or-set_same (with_part f k n t) i (f n) 0 (omega (arith, with_part_length f k t n))
      ∙ ap f (sym q))
      (λ (q : i / 8 < n). get_or-set_other (with_part f k n t) (8 * n + k) i (f n) 0 (λ p. absurd (omega arith))
      ∙ part_in n i l e q)
      (eq-or-lt_of_le (le_of_suc-le-suc h))

-- ---- the parts, one after the other

module _ (f : ℕ → ℕ → ℕ) (n : ℕ) (t : List ℕ) where
  pub parts_length : (k : ℕ) → length (with_parts f k n t) ≡ length t
  unfolding with_parts
  parts_length zero = refl
  parts_length (suc k) = with_part_length (f k) k (with_parts f k n t) n ∙ parts_length k

  parts_out : (k i : ℕ) → k ≤ 8 → n ≤ i / 8 → get_or (with_parts f k n t) i 0 ≡ get_or t i 0
  unfolding with_parts
  parts_out zero i b h = refl
  parts_out (suc k) i b h = part_out (f k) k b (with_parts f k n t) n i (λ e. h) ∙ parts_out k i (omega arith) h

  parts_in : (k i : ℕ) → k ≤ 8 → i < length t → i % 8 < k → i / 8 < n
      → get_or (with_parts f k n t) i 0 ≡ f (i % 8) (i / 8)
  unfolding with_parts
  parts_in zero i b l m h = absurd (not-suc-le-zero m)
  parts_in (suc k) i b l m h =
      ⊎_elim
      (λ (q : i % 8 ≡ k).
      part_in (f k) k b (with_parts f k n t) n i (omega (arith, parts_length k)) q h
      ∙ ap (λ (j : ℕ). f j (i / 8)) (sym q))
      (λ (q : i % 8 < k). part_out (f k) k b (with_parts f k n t) n i (λ e. absurd (omega arith))
      ∙ parts_in k i (omega arith) l q h)
      (eq-or-lt_of_le (le_of_suc-le-suc m))

-- ---- from the front

module _ (g : ℕ → ℕ) (t : List ℕ) where
  abbrev front : ℕ → List ℕ
  front m = sets t 0 (joined (λ i. g i ∷ []) m)

  front_more : (m : ℕ) → front (suc m) ≡ set (front m) m (g m)
  unfolding joined
  front_more m =
      let n = singles_length g m in
      sets_append t 0 (joined (λ i. g i ∷ []) m) (g m ∷ []) ∙ ap (λ (k : ℕ). set (front m) k (g m)) (omega arith)

  front_out : (m i : ℕ) → m ≤ i → get_or (front m) i 0 ≡ get_or t i 0
  front_out zero i h = unfold joined in refl
  front_out (suc m) i h =
      rw (front_more m)
      (get_or-set_other (front m) m i (g m) 0 (λ e. absurd (omega arith)) ∙ front_out m i (omega arith))

  front_in : (m i : ℕ) → i < length t → i < m → get_or (front m) i 0 ≡ g i
  front_in zero i l h = absurd (not-suc-le-zero h)
  front_in (suc m) i l h =
      rw (front_more m)
      (⊎_elim
      (λ (q : i ≡ m). rw q
      (get_or-set_same (front m) m (g m) 0 (omega (arith, length-sets t 0 (joined (λ i. g i ∷ []) m)))))
      (λ (q : i < m). get_or-set_other (front m) m i (g m) 0 (λ e. absurd (omega arith)) ∙ front_in m i l q)
      (eq-or-lt_of_le (le_of_suc-le-suc h)))

pub filled : (f : ℕ → ℕ → ℕ) (n : ℕ) (t : List ℕ)
    → with_parts f 8 n t ≡ sets t 0 (joined (λ i. f (i % 8) (i / 8) ∷ []) (8 * n))
filled f n t =
    ext_get_or 0 (with_parts f 8 n t) (sets t 0 (joined (λ i. f (i % 8) (i / 8) ∷ []) (8 * n)))
    (parts_length f n t 8 ∙ sym (length-sets t 0 (joined (λ i. f (i % 8) (i / 8) ∷ []) (8 * n))))
    (λ i l. go i (omega (arith, parts_length f n t 8)) (dec_lt (i / 8) n))
  where
    go : (i : ℕ) → i < length t → Dec (i / 8 < n)
        → get_or (with_parts f 8 n t) i 0 ≡ get_or (sets t 0 (joined (λ i. f (i % 8) (i / 8) ∷ []) (8 * n))) i 0
    go i l (yes q) =
        parts_in f n t 8 i (omega arith) l (omega arith) q
        ∙ sym (front_in (λ j. f (j % 8) (j / 8)) t (8 * n) i l (omega arith))
    go i l (no q) =
        let h : n ≤ i / 8 = omega arith in
        parts_out f n t 8 i (omega arith) h ∙ sym (front_out (λ j. f (j % 8) (j / 8)) t (8 * n) i (omega arith))
