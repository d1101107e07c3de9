-- "places past the counts .. are no part of the list": two lists with the same counts and the same counted places are
-- refused alike, and have the same levels.
use Rattle.std.specs.Prelude.{◌≡◌, ℕ, ◌-◌, ◌<◌, min, Bool, cond, ◌&&◌, List, ltb, leb, ℤ}
use Rattle.std.proofs.Math.Path.{refl, ap}
use Rattle.std.proofs.Common.{◌∙◌, arith, lt_of_lt_of_le, leb-false, ltb-true}
use Rattle.std.proofs.Math.Nat.{min-le_left}
use Rattle.std.proofs.Math.Bool.{true, false, not}
use Rattle.std.proofs.Math.Dec.{eqb}
use Rattle.laws.specs.Checks.{◌gives◌, ◌then◌}
use Rattle.laws.specs.First.{first_at}
use Rattle.laws.specs.Laws.Joined.{joined_cong}
use Rattle.laws.specs.Laws.First.{first_cong, any_cong, refusal_cong}
use Rattle.arith.specs.Gap.{eq_z}
use Rattle.constructor.specs.Level.{layering_of, inside, numeric_level}
use Rattle.constructor.specs.Side.{side_of, tops_of}
use Rattle.constructor.specs.Valid.{layer_refusal}
use Rattle.constructor.specs.declared.Constructor.{Constructor}
use Rattle.constructor.specs.declared.Layering.{Layering}
use Rattle.constructor.specs.declared.Layering.TheVariants.{Numeric, Layers}
use Rattle.preference.specs.List.{preference_at, constructor_at, named_at, places, named_places}
use Rattle.preference.specs.Same.{Same}
use Rattle.preference.specs.Valid.{has_column, column_refusal, preference_refusal, place_refusal, named_refusal}
use Rattle.preference.specs.Valid.{list_refusal}
use Rattle.preference.specs.Level.{is_named, layer_of, level_under, level_at, side_at, value_refusal}
use Rattle.preference.specs.Parts.{row_value, level_parts, max_parts, levels, max_levels, row_refusal}
use Rattle.preference.specs.declared.Preference.{Preference}
use Rattle.preference.specs.declared.Named.{Named}
use Rattle.preference.specs.declared.PreferenceList.{PreferenceList}

module _ (l m : PreferenceList) (s : Same l m) where
  constructor_same : (i : ℕ) → i < l.count → constructor_at l i ≡ constructor_at m i
  constructor_same i h = ap (λ (p : Preference). p.constructor) (s.places_same i h)

  -- ---- the list's number

  column_same : (i column : ℕ) → i < l.count → column_refusal l i column ≡ column_refusal m i column
  unfolding column_refusal
  column_same i column h =
      rw (any_cong (has_column l column) (has_column m column) (min i 8)
      (λ j k. ap (λ (p : Preference). eqb p.column column) (s.places_same j (omega (arith, min-le_left i 8)))))

  place_same : (i : ℕ) → i < l.count → place_refusal l i ≡ place_refusal m i
  unfolding preference_refusal
  place_same i h = rw (s.places_same i h, column_same i (preference_at m i).column h)

  -- only a counted owner is looked at
  owner_same : (n : Named) (x : ℕ) (t : Bool) → leb l.count n.preference ≡ t
      → t gives 3 then x then layer_refusal (constructor_at l n.preference) n.layer
      ≡ t gives 3 then x then layer_refusal (constructor_at m n.preference) n.layer
  unfolding ◌gives◌ ◌then◌
  owner_same n x true e = refl
  owner_same n x false e =
      ap (λ (c : Constructor). x then layer_refusal c n.layer)
      (constructor_same n.preference (leb-false l.count n.preference e))

  named_refusal_same : (k : ℕ) → k < l.namedcount → named_refusal l k ≡ named_refusal m k
  unfolding named_refusal
  named_refusal_same k h =
      rw (s.named_same k h, s.named_same (k - 1) (omega arith))
      (owner_same (named_at m k) (ltb (named_at m k).preference (named_at m (k - 1)).preference gives 3)
      (leb l.count (named_at m k).preference) refl
      ∙ rw s.counts)

  pub refusal_same : list_refusal l ≡ list_refusal m
  unfolding list_refusal
  refusal_same =
      let p = refusal_cong (place_refusal l) (place_refusal m) l.count place_same in
      let n = refusal_cong (named_refusal l) (named_refusal m) l.namedcount named_refusal_same in
      rw (p, n, s.counts, s.naming_counts)

  -- ---- levels

  names_same : named_places l ≡ named_places m
  names_same = rw s.naming_counts

  counted_name : (k : ℕ) → k < named_places l → named_at l k ≡ named_at m k
  counted_name k h = s.named_same k (lt_of_lt_of_le h (min-le_left l.namedcount 64))

  layer_at_same : (k others : ℕ) (t : Bool) → ltb k (named_places l) ≡ t
      → cond t (named_at l k).layer others ≡ cond t (named_at m k).layer others
  layer_at_same k others true e = ap (λ (n : Named). n.layer) (counted_name k (ltb-true k (named_places l) e))
  layer_at_same k others false e = refl

  layer_same : (i : ℕ) (v : ℤ) (others : ℕ) → layer_of l i v others ≡ layer_of m i v others
  unfolding layer_of
  layer_same i v others =
      let e =
      first_cong (is_named l i v) (is_named m i v) (named_places l)
      (λ k h. ap (λ (n : Named). eqb n.preference i && eq_z n.value v) (counted_name k h)) in
      let k = first_at (is_named m i v) (named_places l) in
      rw e (layer_at_same k others (ltb k (named_places l)) refl ∙ rw names_same)

  pub level_same : (i : ℕ) (v : ℤ) → i < l.count → level_at l i v ≡ level_at m i v
  unfolding level_at
  level_same i v h =
      ap (λ (c : Constructor). level_under l i v (layering_of c)) (constructor_same i h)
      ∙ under (layering_of (constructor_at m i))
    where
      under : (y : Layering) → level_under l i v y ≡ level_under m i v y
      under Numeric = ap (λ (c : Constructor). numeric_level c v) (constructor_same i h)
      under (Layers top others) = layer_same i v others

  pub side_same : (i : ℕ) (v : ℤ) → i < l.count → side_at l i v ≡ side_at m i v
  unfolding side_at
  side_same i v h = ap (λ (c : Constructor). side_of c v) (constructor_same i h)

  pub value_same : (i : ℕ) (v : ℤ) → i < l.count → value_refusal l i v ≡ value_refusal m i v
  unfolding value_refusal
  value_same i v h = ap (λ (c : Constructor). not (inside c v) gives 8) (constructor_same i h)

  -- ---- runs

  pub places_counted : places l ≡ places m
  places_counted = rw s.counts

  counted_place : (i : ℕ) → i < places l → i < l.count
  counted_place i h = lt_of_lt_of_le h (min-le_left l.count 8)

  row_value_same : (row : List ℤ) (i : ℕ) → i < l.count → row_value l row i ≡ row_value m row i
  row_value_same row i h = rw (s.places_same i h)

  pub levels_same : (row : List ℤ) → levels l row ≡ levels m row
  unfolding levels side_at
  levels_same row =
      joined_cong (level_parts l row) (level_parts m row) (places l)
      (λ i h. rw (
        row_value_same row i (counted_place i h),
        level_same i (row_value m row i) (counted_place i h),
        constructor_same i (counted_place i h),
      ))
      ∙ rw places_counted

  pub max_levels_same : max_levels l ≡ max_levels m
  unfolding max_levels
  max_levels_same =
      joined_cong (max_parts l) (max_parts m) (places l) (λ i h. ap tops_of (constructor_same i (counted_place i h)))
      ∙ rw places_counted

  pub row_refusal_same : (row : List ℤ) → row_refusal l row ≡ row_refusal m row
  unfolding row_refusal
  row_refusal_same row =
      refusal_cong (λ i. value_refusal l i (row_value l row i)) (λ i. value_refusal m i (row_value m row i)) (places l)
      (λ i h. rw (row_value_same row i (counted_place i h), value_same i (row_value m row i) (counted_place i h)))
      ∙ rw places_counted
