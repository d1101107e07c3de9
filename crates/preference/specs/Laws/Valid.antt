-- What a list that no check refuses has.
use Rattle.std.specs.Prelude.{◌≡◌, refl, ℕ, zero, suc, ◌-◌, ◌<◌, ◌≤◌, min, false, ◌||◌, leb, ltb, eqb}
use Rattle.std.proofs.Common.{arith, ltb-false, leb-false}
use Rattle.std.proofs.Math.Nat.{min-eq_left, min-le_left}
use Rattle.std.proofs.lemmas.Bool.{eqb-false}
use Rattle.laws.specs.Checks.{◌gives◌, ◌then◌}
use Rattle.laws.specs.Laws.Bools.{neither}
use Rattle.laws.specs.Laws.Checks.{gives_none, then_none}
use Rattle.laws.specs.Laws.First.{refusal_zero}
use Rattle.laws.specs.First.{first_refusal}
use Rattle.constructor.specs.Valid.{constructor_refusal, layer_refusal}
use Rattle.preference.specs.List.{preference_at, constructor_at, named_at, places, named_places}
use Rattle.preference.specs.Valid.{taken, column_refusal, preference_refusal, place_refusal, named_refusal}
use Rattle.preference.specs.Valid.{list_refusal}
use Rattle.preference.specs.declared.Preference.{Preference}
use Rattle.preference.specs.declared.PreferenceList.{PreferenceList}

-- a preference that is not refused at place n
pub record PreferenceAccepted (l : PreferenceList) (n : ℕ) (p : Preference) : Type 0 where
  pub column_small : p.column ≤ 7
  pub column_free : taken l (min n 8) p.column ≡ false
  pub constructor_none : constructor_refusal p.constructor ≡ 0

pub preference_accepted : (l : PreferenceList) (n : ℕ) (p : Preference) → preference_refusal l n p ≡ 0
    → PreferenceAccepted l n p
unfolding preference_refusal column_refusal
preference_accepted l n p e =
    let h =
    then_none (ltb 7 p.column gives 5 then taken l (min n 8) p.column gives 5)
    (constructor_refusal p.constructor) e in
    let g = then_none (ltb 7 p.column gives 5) (taken l (min n 8) p.column gives 5) h.0 in
    record {
      column_small = ltb-false 7 p.column (gives_none (ltb 7 p.column) 4 g.0);
      column_free = gives_none (taken l (min n 8) p.column) 4 g.1;
      constructor_none = h.1;
    }

-- a named value that is not refused
pub record NamedAccepted (l : PreferenceList) (k : ℕ) : Type 0 where
  pub owner_counted : (named_at l k).preference < l.count
  pub owner_ordered : (named_at l (k - 1)).preference ≤ (named_at l k).preference
  pub layer_none : layer_refusal (constructor_at l (named_at l k).preference) (named_at l k).layer ≡ 0

pub named_accepted : (l : PreferenceList) (k : ℕ) → named_refusal l k ≡ 0 → NamedAccepted l k
unfolding named_refusal
named_accepted l k e =
    let i = (named_at l k).preference in
    let j = (named_at l (k - 1)).preference in
    let h = then_none (leb l.count i gives 3) _ e in
    let g = then_none (ltb i j gives 3) _ h.1 in
    record {
      owner_counted = leb-false l.count i (gives_none (leb l.count i) 2 h.0);
      owner_ordered = ltb-false i j (gives_none (ltb i j) 2 g.0);
      layer_none = g.1;
    }

pub record ListAccepted (l : PreferenceList) : Type 0 where
  pub some : 0 < l.count
  pub few : l.count ≤ 8
  pub few_named : l.namedcount ≤ 64
  pub each_place : (i : ℕ) → i < l.count → PreferenceAccepted l i (preference_at l i)
  pub each_named : (k : ℕ) → k < l.namedcount → NamedAccepted l k

above_zero : (n : ℕ) → (n ≡ 0 → ⊥) → 0 < n
above_zero zero h = absurd (h refl)
above_zero (suc n) h = omega arith

pub accepted : (l : PreferenceList) → list_refusal l ≡ 0 → ListAccepted l
unfolding list_refusal
accepted l e =
    let a = then_none (eqb l.count 0 || ltb 8 l.count gives 1) _ e in
    let b = then_none (ltb 64 l.namedcount gives 7) _ a.1 in
    let d =
    then_none (first_refusal (place_refusal l) l.count) (first_refusal (named_refusal l) l.namedcount) b.1 in
    let n =
    neither (eqb l.count 0) (ltb 8 l.count) (gives_none (eqb l.count 0 || ltb 8 l.count) 0 a.0) in
    record {
      some = above_zero l.count (eqb-false l.count 0 n.0);
      few = ltb-false 8 l.count n.1;
      few_named = ltb-false 64 l.namedcount (gives_none (ltb 64 l.namedcount) 6 b.0);
      each_place =
          λ i h. preference_accepted l i (preference_at l i) (refusal_zero (place_refusal l) l.count d.0 i h);
      each_named = λ k h. named_accepted l k (refusal_zero (named_refusal l) l.namedcount d.1 k h);
    }

-- an accepted list holds what it counts
pub places_counted : (l : PreferenceList) → list_refusal l ≡ 0 → places l ≡ l.count
places_counted l e = min-eq_left (accepted l e).few

-- no list holds more than it counts
pub names_counted : (l : PreferenceList) → named_places l ≤ l.namedcount
names_counted l = min-le_left l.namedcount 64
