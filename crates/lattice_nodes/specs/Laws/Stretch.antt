-- Edges of a part of the nodes: numbers that stand side by side, numbers shifted, and updates at them.
use Rattle.std.specs.Prelude.{◌≡◌, true, false, eqb, length, get_or, set, take, drop}
use Rattle.std.proofs.Math.Path.{refl, ap}
use Rattle.std.proofs.Common.{sym, ◌∙◌, ⊎_elim, add-suc, suc-add, add-zero, zero-add, eq-or-lt_of_le, arith, length-set, length-drop, take-append-drop, length-take-le, eqb-true, eq-eqb, ne_eqb}
use mathlib.Core.List.{List, [], ◌∷◌, ◌++◌, map}
use Prim.Native.Nat.{ℕ, zero, suc, ◌+◌, ◌<◌, ◌≤◌}
use Rattle.std.proofs.Math.ListN.{get_or-append}
use Rattle.std.proofs.Math.Seq.{set-append_left}
use Rattle.laws.specs.Lists.{any_of}
use Rattle.laws.specs.Laws.Bools.{both_ways, or_right}
use Rattle.lattice_nodes.specs.Steps.{stretch, shifted, updated}
use Rattle.lattice_nodes.specs.Laws.Some.{All, among}

pub stretch_length : (a d : ℕ) → length (stretch a d) ≡ d
unfolding stretch
stretch_length a zero = refl
stretch_length a (suc d) = ap suc (stretch_length (suc a) d)

pub stretch_more : (a d : ℕ) → stretch a (suc d) ≡ stretch a d ++ ((a + d) ∷ [])
unfolding stretch
stretch_more a zero = rw (add-zero a)
stretch_more a (suc d) = ap (λ (l : List ℕ). a ∷ l) (stretch_more (suc a) d ∙ rw (suc-add a d, add-suc a d))

pub shift_stretch : (a b d : ℕ) → shifted a (stretch b d) ≡ stretch (a + b) d
unfolding stretch
shift_stretch a b zero = refl
shift_stretch a b (suc d) = ap (λ (l : List ℕ). (a + b) ∷ l) (shift_stretch a (suc b) d ∙ rw (add-suc a b))

pub stretch_has : (a d y : ℕ) → a ≤ y → y < a + d → among y (stretch a d) ≡ true
unfolding stretch among any_of
stretch_has a zero y h k = let w : ⊥ = omega arith in absurd w
stretch_has a (suc d) y h k =
    ⊎_elim (λ (e : a ≡ y). rw (eq-eqb a y e))
    (λ (l : a < y). or_right (eqb a y) (among y (stretch (suc a) d)) (stretch_has (suc a) d y l (omega arith)))
    (eq-or-lt_of_le h)

pub stretch_beyond : (a d y : ℕ) → y < a → among y (stretch a d) ≡ false
unfolding stretch among any_of
stretch_beyond a zero y h = refl
stretch_beyond a (suc d) y h = rw (ne_eqb a y (λ e. omega arith), stretch_beyond (suc a) d y (omega arith))

pub among_shifted : (x y : ℕ) (ts : List ℕ) → among (x + y) (shifted x ts) ≡ among y ts
unfolding among any_of
among_shifted x y [] = refl
among_shifted x y (t ∷ ts) = rw (same, among_shifted x y ts)
  where
    same : eqb (x + t) (x + y) ≡ eqb t y
    same =
        both_ways (eqb (x + t) (x + y)) (eqb t y) (λ e. eq-eqb t y (omega (arith, eqb-true (x + t) (x + y) e)))
        (λ e. eq-eqb (x + t) (x + y) (omega (arith, eqb-true t y e)))

module _ (f : ℕ → ℕ) where
  nowhere : (ts : List ℕ) → updated f ts [] ≡ []
  unfolding updated
  nowhere [] = refl
  nowhere (t ∷ ts) = nowhere ts

  past : (a x : ℕ) (ts b : List ℕ) → updated f (shifted (suc a) ts) (x ∷ b) ≡ x ∷ updated f (shifted a ts) b
  unfolding updated
  past a x [] b = refl
  past a x (t ∷ ts) b = rw (suc-add a t) (past a x ts (set b (a + t) (f (get_or b (a + t) 0))))

  unshifted : (ts b : List ℕ) → updated f (shifted zero ts) b ≡ updated f ts b
  unfolding updated
  unshifted [] b = refl
  unshifted (t ∷ ts) b = rw (zero-add t) (unshifted ts (set b t (f (get_or b t 0))))

  after : (a : ℕ) (ts b : List ℕ) → updated f (shifted a ts) b ≡ take a b ++ updated f ts (drop a b)
  after zero ts b = unshifted ts b
  after (suc a) ts [] = nowhere (shifted (suc a) ts) ∙ sym (nowhere ts)
  after (suc a) ts (x ∷ b) = past a x ts b ∙ ap (λ (l : List ℕ). x ∷ l) (after a ts b)

  before : (ts c q : List ℕ) → All (λ t. t < length c) ts → updated f ts (c ++ q) ≡ updated f ts c ++ q
  unfolding updated
  before [] c q h = refl
  before (t ∷ ts) c q h =
      rw (get_or-append c q 0 t h.0, set-append_left c q t (f (get_or c t 0)) h.0)
      (before ts (set c t (f (get_or c t 0))) q (rw (length-set c t (f (get_or c t 0))) h.1))

  -- updates of the d nodes from a on
  pub updated_part : (a d : ℕ) (ts b : List ℕ) → a + d ≤ length b → All (λ t. t < d) ts
      → updated f (shifted a ts) b ≡ take a b ++ (updated f ts (take d (drop a b)) ++ drop d (drop a b))
  updated_part a d ts b h k =
      let long : length (take d (drop a b)) ≡ d = length-take-le d (drop a b) (omega (arith, length-drop a b)) in
      after a ts b
      ∙ ap (λ (l : List ℕ). take a b ++ l)
      (ap (updated f ts) (sym (take-append-drop d (drop a b)))
      ∙ before ts (take d (drop a b)) (drop d (drop a b)) (rw long k))

  all_mapped : (d : ℕ) (b : List ℕ) → updated f (stretch zero d) b ≡ map f (take d b) ++ drop d b
  unfolding updated stretch
  all_mapped zero b = refl
  all_mapped (suc d) [] = nowhere (stretch zero (suc d))
  all_mapped (suc d) (x ∷ b) =
      ap (λ (l : List ℕ). updated f l (f x ∷ b)) (sym (shift_stretch 1 0 d)) ∙ past 0 (f x) (stretch 0 d) b
      ∙ ap (λ (l : List ℕ). f x ∷ l) (unshifted (stretch 0 d) b ∙ all_mapped d b)

  -- updates side by side
  pub updated_stretch : (a d : ℕ) (b : List ℕ)
      → updated f (stretch a d) b ≡ take a b ++ (map f (take d (drop a b)) ++ drop d (drop a b))
  updated_stretch a d b =
      ap (λ (l : List ℕ). updated f l b) (sym (shift_stretch a 0 d ∙ rw (add-zero a))) ∙ after a (stretch 0 d) b
      ∙ ap (λ (l : List ℕ). take a b ++ l) (all_mapped d (drop a b))
