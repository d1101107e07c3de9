-- What the engines rest on: all level vectors of a list have one length, and under an accepted list the levels of a run
-- that is not refused by 8 are at most the greatest levels, which are at most 65,535.
use Rattle.std.specs.Prelude.{◌≡◌, ℕ, zero, suc, ◌*◌, ◌<◌, ◌≤◌, Bool, List, [], ◌∷◌, ◌++◌, ℤ, get_or, length}
use Rattle.std.proofs.Math.Path.{refl}
use Rattle.std.proofs.Common.{sym, ◌∙◌, length-append}
use Rattle.std.proofs.Math.Decide.{dec_lt}
use native.Mathlib.Omega.{arith}
use Rattle.std.proofs.Math.Nat.{min-le_right}
use Rattle.std.proofs.Math.Bool.{true, false}
use Rattle.std.proofs.Math.ListN.{get_or-eq_default}
use Rattle.laws.specs.Laws.First.{refusal_zero}
use Rattle.constructor.specs.Level.{max_level}
use Rattle.constructor.specs.Side.{is_pair, pair_of, tops_of, part_in, half_of, part_by}
use Rattle.constructor.specs.Laws.Side.{parts_long, parts_single, parts_pair, parts_at, tops_single, tops_pair, tops_at}
use Rattle.constructor.specs.Laws.Side.{tops_few, tops_some, part_by_in}
use Rattle.constructor.specs.declared.Constructor.{Constructor}
use Rattle.constructor.specs.declared.Side.{Side}
use Rattle.constructor.specs.declared.Side.TheVariants.{Below, Inside, Above}
use Rattle.preference.specs.List.{constructor_at, places}
use Rattle.preference.specs.Valid.{list_refusal}
use Rattle.preference.specs.Level.{level_at, side_at, max_at, value_refusal}
use Rattle.preference.specs.Parts.{row_value, level_parts, max_parts, levels, max_levels, part_of, row_refusal}
use Rattle.laws.specs.Lists.{joined}
use Rattle.laws.specs.Laws.Joined.{joined_length, list_counted, list_found, list_within, list_at}
use Rattle.preference.specs.Laws.Level.{level_most, max_small}
use Rattle.preference.specs.Laws.Valid.{accepted, places_counted}
use Rattle.preference.specs.declared.PreferenceList.{PreferenceList}

-- each level is at most the greatest of its part, and there is one for each part
abbrev pub Within : List ℕ → List ℕ → Type 0
Within [] [] = Unit {0}
Within [] (l ∷ ls) = ⊥
Within (m ∷ ms) [] = ⊥
Within (m ∷ ms) (l ∷ ls) = (l ≤ m) × Within ms ls

-- each greatest level is at most a bound
abbrev pub AllAtMost : ℕ → List ℕ → Type 0
AllAtMost b [] = Unit {0}
AllAtMost b (m ∷ ms) = (m ≤ b) × AllAtMost b ms

pub within_at : (ms ls : List ℕ) → Within ms ls → (k : ℕ) → get_or ls k 0 ≤ get_or ms k 0
within_at [] [] h k = omega arith
within_at [] (l ∷ ls) h k = absurd h
within_at (m ∷ ms) [] h k = absurd h
within_at (m ∷ ms) (l ∷ ls) h zero = h.0
within_at (m ∷ ms) (l ∷ ls) h (suc k) = within_at ms ls h.1 k

pub at_most_at : (b : ℕ) (ms : List ℕ) → AllAtMost b ms → (k : ℕ) → get_or ms k 0 ≤ b
at_most_at b [] h k = omega arith
at_most_at b (m ∷ ms) h zero = h.0
at_most_at b (m ∷ ms) h (suc k) = at_most_at b ms h.1 k

-- ---- lists put together from lists

within_append : (ms ls ns ks : List ℕ) → Within ms ls → Within ns ks → Within (ms ++ ns) (ls ++ ks)
within_append [] [] ns ks h k = k
within_append [] (l ∷ ls) ns ks h k = absurd h
within_append (m ∷ ms) [] ns ks h k = absurd h
within_append (m ∷ ms) (l ∷ ls) ns ks h k = (h.0, within_append ms ls ns ks h.1 k)

joined_within : (f g : ℕ → List ℕ) (n : ℕ) → ((i : ℕ) → i < n → Within (f i) (g i)) → Within (joined f n) (joined g n)
unfolding joined
joined_within f g zero h = tt
joined_within f g (suc n) h =
    within_append (joined f n) (joined g n) (f n) (g n) (joined_within f g n (λ i l. h i (omega arith)))
    (h n (omega arith))

small_append : (b : ℕ) (ms ns : List ℕ) → AllAtMost b ms → AllAtMost b ns → AllAtMost b (ms ++ ns)
small_append b [] ns h k = k
small_append b (m ∷ ms) ns h k = (h.0, small_append b ms ns h.1 k)

joined_small : (b : ℕ) (f : ℕ → List ℕ) (n : ℕ) → ((i : ℕ) → i < n → AllAtMost b (f i)) → AllAtMost b (joined f n)
unfolding joined
joined_small b f zero h = tt
joined_small b f (suc n) h =
    small_append b (joined f n) (f n) (joined_small b f n (λ i l. h i (omega arith))) (h n (omega arith))

-- ---- every list

pub levels_length : (l : PreferenceList) (row : List ℤ) → length (levels l row) ≡ length (max_levels l)
unfolding levels max_levels
levels_length l row = joined_length (level_parts l row) (max_parts l) (places l) (λ i. parts_long _ _ _)

-- where part k is found, among the parts
module _ (l : PreferenceList) (k : ℕ) (h : k < length (max_levels l)) where
  pub part_place : (part_of l k).place < places l
  unfolding part_of max_levels
  part_place = list_counted (max_parts l) k (places l) h

  part_half : (part_of l k).half < length (max_parts l (part_of l k).place)
  unfolding part_of max_levels
  part_half = list_within (max_parts l) k (places l) h

  part_level : (row : List ℤ)
      → get_or (levels l row) k 0 ≡ get_or (level_parts l row (part_of l k).place) (part_of l k).half 0
  unfolding part_of levels max_levels
  part_level row = list_at (max_parts l) k (level_parts l row) (λ i. parts_long _ _ _) (places l) h

  part_max : get_or (max_levels l) k 0 ≡ get_or (max_parts l (part_of l k).place) (part_of l k).half 0
  unfolding part_of max_levels
  part_max = list_at (max_parts l) k (max_parts l) (λ i. refl) (places l) h

  -- it is the level under its preference, or one of a pair
  pub level_counted : (row : List ℤ)
      → let i = (part_of l k).place in
      get_or (levels l row) k 0
      ≡ part_in (is_pair (constructor_at l i)) (part_of l k).half (level_at l i (row_value l row i))
      (side_at l i (row_value l row i))
  level_counted row = part_level row ∙ parts_at (constructor_at l (part_of l k).place) _ _ (part_of l k).half part_half

  pub level_by : (row : List ℤ)
      → let i = (part_of l k).place in
      get_or (levels l row) k 0
      ≡ part_by (half_of (constructor_at l i) (part_of l k).half) (level_at l i (row_value l row i))
      (side_at l i (row_value l row i))
  level_by row =
      let i = (part_of l k).place in
      level_counted row
      ∙ sym (part_by_in (constructor_at l i) (part_of l k).half (level_at l i (row_value l row i))
      (side_at l i (row_value l row i)))

  -- its greatest level is the preference's
  pub max_counted : get_or (max_levels l) k 0 ≡ max_at l (part_of l k).place
  unfolding max_at
  max_counted = part_max ∙ tops_at (constructor_at l (part_of l k).place) (part_of l k).half part_half

-- and past them
pub part_counted : (l : PreferenceList) (k : ℕ) → (part_of l k).place < places l → k < length (max_levels l)
unfolding part_of max_levels
part_counted l k h = list_found (max_parts l) k (places l) h

pub part_past : (l : PreferenceList) (k : ℕ) → places l ≤ (part_of l k).place → length (max_levels l) ≤ k
part_past l k h = go (dec_lt k (length (max_levels l)))
  where
    go : Dec (k < length (max_levels l)) → length (max_levels l) ≤ k
    go (yes q) = absurd (omega (arith, part_place l k q))
    go (no q) = omega arith

-- past the last part
pub level_past : (l : PreferenceList) (row : List ℤ) (k : ℕ) → length (max_levels l) ≤ k → get_or (levels l row) k 0 ≡ 0
level_past l row k h = get_or-eq_default (levels l row) 0 (rw (levels_length l row) h)

-- ---- one part or two for each preference

parts_most : (l : PreferenceList) (n : ℕ) → length (joined (max_parts l) n) ≤ 2 * n
unfolding joined
parts_most l zero = omega arith
parts_most l (suc n) =
    omega (
      arith,
      length-append (joined (max_parts l) n) (max_parts l n),
      parts_most l n,
      tops_few (constructor_at l n),
    )

pub parts_few : (l : PreferenceList) → length (max_levels l) ≤ 16
unfolding max_levels
parts_few l = omega (arith, parts_most l (places l), min-le_right l.count 8)

parts_least : (l : PreferenceList) (n : ℕ) → n ≤ length (joined (max_parts l) n)
unfolding joined
parts_least l zero = omega arith
parts_least l (suc n) =
    omega (
      arith,
      length-append (joined (max_parts l) n) (max_parts l n),
      parts_least l n,
      tops_some (constructor_at l n),
    )

-- ---- an accepted list

module _ (l : PreferenceList) (e : list_refusal l ≡ 0) where
  counted : (i : ℕ) → i < places l → i < l.count
  counted i h = omega (arith, places_counted l e)

  pub parts_some : 0 < length (max_levels l)
  unfolding max_levels
  parts_some = omega (arith, parts_least l (places l), places_counted l e, (accepted l e).some)

  pub max_levels_small : AllAtMost 65535 (max_levels l)
  unfolding max_levels max_at
  max_levels_small =
      joined_small 65535 (max_parts l) (places l)
      (λ i h. tops_small (constructor_at l i) (is_pair (constructor_at l i)) refl (max_small l i e (counted i h)))
    where
      tops_small : (c : Constructor) (b : Bool) → is_pair c ≡ b → max_level c ≤ 65535 → AllAtMost 65535 (tops_of c)
      tops_small c true p m = rw (tops_pair c p) (m, (m, tt))
      tops_small c false p m = rw (tops_single c p) (m, tt)

  pub levels_within : (row : List ℤ) → row_refusal l row ≡ 0 → Within (max_levels l) (levels l row)
  unfolding levels max_levels row_refusal max_at
  levels_within row z =
      joined_within (max_parts l) (level_parts l row) (places l)
      (λ i h. under i (is_pair (constructor_at l i)) refl
      (level_most l i e (counted i h) (row_value l row i)
      (refusal_zero (λ j. value_refusal l j (row_value l row j)) (places l) z i h)))
    where
      pair : (m n : ℕ) (s : Side) → n ≤ m → Within (m ∷ m ∷ []) (pair_of n s)
      pair m n Below h = (omega arith, (h, tt))
      pair m n Inside h = (omega arith, (omega arith, tt))
      pair m n Above h = (h, (omega arith, tt))

      under : (i : ℕ) (b : Bool) → is_pair (constructor_at l i) ≡ b → level_at l i (row_value l row i) ≤ max_at l i
          → Within (max_parts l i) (level_parts l row i)
      under i true p m =
          let c = constructor_at l i in
          let n = level_at l i (row_value l row i) in
          let s = side_at l i (row_value l row i) in
          rw (tops_pair c p, parts_pair c n s p) (pair (max_level c) n s m)
      under i false p m =
          let c = constructor_at l i in
          let n = level_at l i (row_value l row i) in
          rw (tops_single c p, parts_single c n (side_at l i (row_value l row i)) p) (m, tt)
