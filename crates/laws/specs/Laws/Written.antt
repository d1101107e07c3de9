-- A list that a loop writes in order: after i turns its first i entries are f 0, .., f (i - 1).
use Rattle.std.specs.Prelude.{◌≡◌, List, [], ◌∷◌, ℕ, ◌+◌, ◌<◌, ◌≤◌, take, set}
use Rattle.std.proofs.Math.Path.{refl}
use Rattle.std.proofs.Common.{sym, ◌∙◌, le_antisymm, add-one, arith, take_all}
use Rattle.std.proofs.Math.ListN.{length, length-set}
use Rattle.std.proofs.Math.Seq.{take-suc-set}
use Rattle.laws.specs.Lists.{joined}

module _ (f : ℕ → ℕ) (size : ℕ) where
  pub record Written (out : List ℕ) (i : ℕ) : Type 0 where
    pub low : i ≤ size
    pub long : length out ≡ size
    pub first : take i out ≡ joined (λ k. f k ∷ []) i

  pub none_written : (out : List ℕ) → length out ≡ size → Written out 0
  unfolding joined
  none_written out e = record { low = omega arith; long = e; first = refl }

  pub one_written : (out : List ℕ) (i v : ℕ) → Written out i → i < size → v ≡ f i → Written (set out i v) (i + 1)
  unfolding joined
  one_written out i v w h e =
      let inside : i < length out = omega (arith, w.long) in
      record {
        low = omega arith;
        long = length-set out i v ∙ w.long;
        first = rw (add-one i, take-suc-set out i v inside, w.first, e);
      }

  pub all_written : (out : List ℕ) (i : ℕ) → Written out i → size ≤ i → out ≡ joined (λ k. f k ∷ []) size
  all_written out i w h =
      let end : i ≡ size = le_antisymm w.low h in
      sym (take_all i out (omega (arith, w.long))) ∙ w.first ∙ rw end
