-- The numbers that checks in order can give: each is 0 or one of a list.
use Rattle.std.specs.Prelude.{◌≡◌, Bool, cond, ◌&&◌, List, [], ◌∷◌, eqb, ℤ}
use Rattle.std.proofs.Math.Path.{refl}
use Rattle.std.proofs.Common.{sym, ap, ◌∙◌, ⊎_elim, eqb-true, ne_eqb}
use Prim.Native.Nat.{ℕ, zero, suc}
use Rattle.std.proofs.Math.Bool.{true, false}
use Rattle.laws.specs.Checks.{◌gives◌, ◌then◌}
use Rattle.laws.specs.First.{first_at, any_below, first_refusal, is_refusal}
use Rattle.laws.specs.Lists.{any_of}
use Rattle.laws.specs.Laws.Bools.{both, either, or_right, false_true}
use Rattle.run_log.specs.Log.{Log, log_refusal}
use Rattle.constructor.specs.Level.{layering_of}
use Rattle.constructor.specs.Valid.{constructor_refusal, layer_refusal, refusal_under}
use Rattle.constructor.specs.declared.Constructor.{Constructor}
use Rattle.constructor.specs.declared.Layering.{Layering}
use Rattle.constructor.specs.declared.Layering.TheVariants.{Numeric, Layers}
use Rattle.preference.specs.Valid.{column_refusal, preference_refusal, place_refusal, named_refusal, list_refusal}
use Rattle.preference.specs.Level.{value_refusal}
use Rattle.preference.specs.Parts.{row_refusal}
use Rattle.preference.specs.declared.Preference.{Preference}
use Rattle.preference.specs.declared.PreferenceList.{PreferenceList}
use Rattle.pareto.specs.Checked.{rows_refusal, checked_refusal}
use Rattle.pareto.specs.Refusals.{Among, list_refusals, checked_refusals}

-- ---- membership

-- every number of the first list is in the second
unfoldable pub within : List ℕ → List ℕ → Bool
within [] ns = true
within (m ∷ ms) ns = any_of (eqb m) ns && within ms ns

pub wider : (ms ns : List ℕ) (k : ℕ) → within ms ns ≡ true → Among ms k → Among ns k
unfolding within any_of
wider [] ns k w a = false_true a
wider (m ∷ ms) ns k w a =
    ⊎_elim
    (λ (e : eqb k m ≡ true). ap (λ (j : ℕ). any_of (eqb j) ns) (eqb-true k m e)
    ∙ (both (any_of (eqb m) ns) (within ms ns) w).0)
    (λ (b : any_of (eqb k) ms ≡ true). wider ms ns k (both (any_of (eqb m) ns) (within ms ns) w).1 b)
    (either (eqb k m) (any_of (eqb k) ms) a)

-- a number that is not 0
pub among_some : (ns : List ℕ) (k : ℕ) → (k ≡ 0 → ⊥) → Among (0 ∷ ns) k → Among ns k
unfolding any_of
among_some ns k h a = rw (ne_eqb k 0 h) at a

-- a number that is none of them
pub not_among : (ns : List ℕ) (k n : ℕ) → any_of (eqb n) ns ≡ false → Among ns k → k ≡ n → ⊥
not_among ns k n f a e = false_true (sym f ∙ ap (λ (j : ℕ). any_of (eqb j) ns) (sym e) ∙ a)

-- ---- checks in order

module _ (ns : List ℕ) where
  pub none_among : Among (0 ∷ ns) 0
  unfolding any_of
  none_among = refl

  pub gives_among : (b : Bool) (n : ℕ) → Among ns n → Among (0 ∷ ns) (b gives n)
  unfolding ◌gives◌ any_of
  gives_among true n h = or_right (eqb n 0) (any_of (eqb n) ns) h
  gives_among false n h = refl

  pub then_among : (a b : ℕ) → Among (0 ∷ ns) a → Among (0 ∷ ns) b → Among (0 ∷ ns) (a then b)
  unfolding ◌then◌
  then_among zero b h k = k
  then_among (suc a) b h k = h

  pub first_among : (f : ℕ → ℕ) (n : ℕ) → ((i : ℕ) → Among (0 ∷ ns) (f i)) → Among (0 ∷ ns) (first_refusal f n)
  unfolding first_refusal
  first_among f n h = go (any_below (is_refusal f) n)
    where
      go : (t : Bool) → Among (0 ∷ ns) (cond t (f (first_at (is_refusal f) n)) 0)
      go true = h (first_at (is_refusal f) n)
      go false = none_among

  -- ---- a list, and a log under it

  module _ (five : Among ns 5) (six : Among ns 6) (seven : Among ns 7) where
    pub preference_among : (l : PreferenceList) (n : ℕ) (p : Preference) → Among (0 ∷ ns) (preference_refusal l n p)
    unfolding preference_refusal column_refusal constructor_refusal
    preference_among l n p =
        then_among _ _ (then_among _ _ (gives_among _ 5 five) (gives_among _ 5 five))
        (then_among _ _ (gives_among _ 6 six) (gives_among _ 7 seven))

  module _ (three : Among ns 3) (six : Among ns 6) where
    pub layer_among : (c : Constructor) (layer : ℕ) → Among (0 ∷ ns) (layer_refusal c layer)
    unfolding layer_refusal
    layer_among c layer = go (layering_of c)
      where
        go : (y : Layering) → Among (0 ∷ ns) (refusal_under y layer)
        go Numeric = unfold any_of in three
        go (Layers top others) = gives_among _ 6 six

    named_among : (l : PreferenceList) (k : ℕ) → Among (0 ∷ ns) (named_refusal l k)
    unfolding named_refusal
    named_among l k = then_among _ _ (gives_among _ 3 three) (then_among _ _ (gives_among _ 3 three) (layer_among _ _))

  pub value_among : Among ns 8 → (l : PreferenceList) (i : ℕ) (v : ℤ) → Among (0 ∷ ns) (value_refusal l i v)
  unfolding value_refusal
  value_among eight l i v = gives_among _ 8 eight

pub list_among : (l : PreferenceList) → Among (0 ∷ list_refusals) (list_refusal l)
unfolding list_refusal any_of
list_among l =
    let ns = list_refusals in
    then_among ns _ _ (gives_among ns _ 1 refl)
    (then_among ns _ _ (gives_among ns _ 7 refl)
    (then_among ns _ _ (first_among ns (place_refusal l) l.count (λ i. preference_among ns refl refl refl l i _))
    (first_among ns (named_refusal l) l.namedcount (named_among ns refl refl l))))

-- from a list's numbers on
module _ (ns : List ℕ) (more_numbers : within (0 ∷ list_refusals) (0 ∷ ns) ≡ true) where
  pub list_in_lem : (l : PreferenceList) → Among (0 ∷ ns) (list_refusal l)
  list_in_lem l = wider (0 ∷ list_refusals) (0 ∷ ns) (list_refusal l) more_numbers (list_among l)

  -- from those of the log and of what is lent beside it
  pub checked_in : Among ns 8 → (l : PreferenceList) (log : Log) (more : ℕ) → Among (0 ∷ ns) (log_refusal log.values)
      → Among (0 ∷ ns) more
      → Among (0 ∷ ns) (checked_refusal l log more)
  unfolding checked_refusal rows_refusal row_refusal
  checked_in eight l log more g h =
      then_among ns _ _ (list_in_lem l)
      (then_among ns _ _ g
      (then_among ns _ _ h (first_among ns _ _ (λ r. first_among ns _ _ (λ i. value_among ns eight l i _)))))

pub log_ten : (ns : List ℕ) → Among ns 10 → (log : Log) → Among (0 ∷ ns) (log_refusal log.values)
unfolding log_refusal
log_ten ns ten log = gives_among ns _ 10 ten

pub checked_among : (l : PreferenceList) (log : Log) (more : ℕ) → Among (0 ∷ checked_refusals) more
    → Among (0 ∷ checked_refusals) (checked_refusal l log more)
unfolding within any_of
checked_among l log more h = checked_in checked_refusals refl refl l log more (log_ten checked_refusals refl log) h
