-- The level of a run by the rule of a part.
use Rattle.std.specs.Prelude.{◌≡◌, ℕ, ◌+◌, ◌<◌, Bool, cond, Some, None, List, ℤ, pos, length}
use Rattle.std.proofs.Math.Path.{refl, sym, ap}
use Rattle.std.proofs.Common.{◌∙◌, arith, leb-true, leb-false}
use Rattle.std.proofs.Math.Bool.{true, false}
use Rattle.std.proofs.Math.Dec.{leb}
use Rattle.std.proofs.Math.ListN.{get_or}
use Rattle.std.specs.Int.Signed.{mag}
use Rattle.arith.specs.Gap.{gap}
use Rattle.arith.specs.Ceil.{ceil_div}
use Rattle.arith.specs.Laws.Ceil.{ceil_zero}
use Rattle.constructor.specs.Level.{layering_of, numeric_level}
use Rattle.constructor.specs.Laws.Target.{distance_outside}
use Rattle.constructor.specs.Side.{is_pair, half_of, part_in, part_by, side_by, side_of}
use Rattle.constructor.specs.Laws.Side.{part_by_half}
use Rattle.constructor.specs.declared.Constructor.{Constructor}
use Rattle.constructor.specs.declared.Constructor.TheVariants.{Lowest, Highest, Around, Between, Layered}
use Rattle.constructor.specs.declared.Constructor.TheVariants.{BetweenTrivial}
use Rattle.constructor.specs.declared.Layering.TheVariants.{Numeric, Layers}
use Rattle.preference.specs.List.{preference_at, constructor_at}
use Rattle.preference.specs.Level.{layer_of, level_at, side_at}
use Rattle.preference.specs.Laws.Parts.{level_by, level_past}
use Rattle.preference.specs.Parts.{levels, row_value, max_levels, part_of}
use Rattle.level_table.specs.Rule.{zero_rule, rule_for, rule_of}
use Rattle.preference.specs.declared.PreferenceList.{PreferenceList}

-- the parts of a level under LAYERED are the level
layers_single : (c : Constructor) (top others : ℕ) → layering_of c ≡ Layers top others → is_pair c ≡ false
layers_single (Lowest lo hi step) top others y = refl
layers_single (Highest lo hi step) top others y = refl
layers_single (Around lo hi step z) top others y = refl
layers_single (Between lo hi step low up) top others y = refl
layers_single (Layered t o) top others y = refl
layers_single (BetweenTrivial lo hi step low up) top others y = let z : ◌≡◌ {A = ℕ} 0 1 = cc in absurd (omega arith)

numeric_at : (l : PreferenceList) (i : ℕ) (v : ℤ) → layering_of (constructor_at l i) ≡ Numeric
    → level_at l i v ≡ numeric_level (constructor_at l i) v
unfolding level_at
numeric_at l i v y = rw y

layers_at : (l : PreferenceList) (i : ℕ) (v : ℤ) (top others : ℕ) → layering_of (constructor_at l i) ≡ Layers top others
    → level_at l i v ≡ layer_of l i v others
unfolding level_at
layers_at l i v top others y = rw y

module _ (l : PreferenceList) (row : List ℤ) (k : ℕ) where
  -- the place of its preference
  abbrev place : ℕ
  place = (part_of l k).place

  rule_past : leb (length (max_levels l)) k ≡ true → rule_of l k ≡ zero_rule
  unfolding rule_of
  rule_past e = rw e

  rule_counted : leb (length (max_levels l)) k ≡ false
      → rule_of l k ≡ rule_for (preference_at l place) (part_of l k).half
  unfolding rule_of
  rule_counted e = rw e

  -- by distance
  abbrev told : ℤ → ℕ
  told v =
      let r = rule_of l k in
      part_by r.half (ceil_div (gap r.target.low v + gap v r.target.up) r.step)
      (side_by r.target.low r.target.up v)

  pub rule_numeric : (rule_of l k).layering ≡ Numeric → (v : ℤ) → v ≡ get_or row (rule_of l k).column (pos 0)
      → mag v < 2147483648
      → told v ≡ get_or (levels l row) k 0
  unfolding side_at side_of
  rule_numeric y v e h = go (leb (length (max_levels l)) k) refl
    where
      go : (t : Bool) → leb (length (max_levels l)) k ≡ t → told v ≡ get_or (levels l row) k 0
      go true b =
          rw (rule_past b)
          (ceil_zero (gap (pos 0) v + gap v (pos 0)) ∙ sym (level_past l row k (leb-true (length (max_levels l)) k b)))
      go false b =
          let f = rule_counted b in
          let c = constructor_at l place in
          let w = rw f at e in
          rw (f, distance_outside c v h)
          (ap (λ (u : ℤ). part_by (half_of c (part_of l k).half) (numeric_level c u) (side_of c u)) w
          ∙ sym (level_by l k (leb-false (length (max_levels l)) k b) row
          ∙ ap (λ (n : ℕ). part_by (half_of c (part_of l k).half) n (side_of c (row_value l row place)))
          (numeric_at l place (row_value l row place) (rw f at y))))

  -- by layers
  pub rule_layers : (top others : ℕ) → (rule_of l k).layering ≡ Layers top others
      → layer_of l place (get_or row (rule_of l k).column (pos 0)) others ≡ get_or (levels l row) k 0
  rule_layers top others y = go (leb (length (max_levels l)) k) refl
    where
      go : (t : Bool) → leb (length (max_levels l)) k ≡ t
          → layer_of l place (get_or row (rule_of l k).column (pos 0)) others ≡ get_or (levels l row) k 0
      go true b =
          let q : Numeric ≡ Layers top others =
          rw (rule_past b) at y in let z : ◌≡◌ {A = ℕ} 0 1 = cc in absurd (omega arith)
      go false b =
          let f = rule_counted b in
          rw f (sym
          (level_by l k (leb-false (length (max_levels l)) k b) row
          ∙ rw (layers_single (constructor_at l place) top others (rw f at y))
          (layers_at l place (row_value l row place) top others (rw f at y))))

-- part k goes by distance, with the figures of its rule
pub record Ruled (l : PreferenceList) (k column : ℕ) (low up : ℤ) (step : ℕ) (pair : Bool) (half : ℕ) : Type 0 where
  pub numeric : (rule_of l k).layering ≡ Numeric
  pub column_is : (rule_of l k).column ≡ column
  pub low_is : (rule_of l k).target.low ≡ low
  pub up_is : (rule_of l k).target.up ≡ up
  pub step_is : (rule_of l k).step ≡ step
  pub half_is : (rule_of l k).half ≡ cond pair (Some half) None

pub ruled_level : (l : PreferenceList) (k column : ℕ) (low up : ℤ) (step : ℕ) (pair : Bool) (half : ℕ)
    → Ruled l k column low up step pair half
    → (row : List ℤ) (v : ℤ) → v ≡ get_or row column (pos 0) → mag v < 2147483648
    → part_in pair half (ceil_div (gap low v + gap v up) step) (side_by low up v) ≡ get_or (levels l row) k 0
ruled_level l k column low up step pair half h row v e b =
    sym (part_by_half pair half (ceil_div (gap low v + gap v up) step) (side_by low up v))
    ∙ rw (← h.low_is, ← h.up_is, ← h.step_is, ← h.half_is)
    (rule_numeric l row k h.numeric v (rw h.column_is e) b)
