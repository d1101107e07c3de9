-- The level of a value under an accepted list is at most its preference's greatest level, and so at most 65,535.
use Rattle.std.specs.Prelude.{◌≡◌, ℕ, ◌<◌, ◌≤◌, Bool, true, false, not, cond, ltb, eqb, ℤ}
use Rattle.std.proofs.Math.Path.{refl}
use Rattle.std.proofs.Common.{arith, le_trans, ltb-true, eqb-true}
use Rattle.std.proofs.lemmas.Bool.{not-false}
use Rattle.laws.specs.First.{first_at}
use Rattle.laws.specs.Laws.Bools.{both}
use Rattle.laws.specs.Laws.Checks.{gives_none}
use Rattle.laws.specs.Laws.First.{First, first_is}
use Rattle.arith.specs.Gap.{eq_z}
use Rattle.constructor.specs.Level.{inside, layering_of}
use Rattle.constructor.specs.Valid.{sound}
use Rattle.constructor.specs.Laws.Greatest.{max_greatest}
use Rattle.constructor.specs.Laws.Valid as form
use Rattle.constructor.specs.declared.Layering.{Layering}
use Rattle.constructor.specs.declared.Layering.TheVariants.{Numeric, Layers}
use Rattle.preference.specs.List.{constructor_at, named_at, named_places}
use Rattle.preference.specs.Valid.{list_refusal}
use Rattle.preference.specs.Level.{is_named, layer_of, level_under, level_at, max_at, value_refusal}
use Rattle.preference.specs.Laws.Valid.{ListAccepted, accepted, names_counted}
use Rattle.preference.specs.declared.PreferenceList.{PreferenceList}

module _ (l : PreferenceList) (i : ℕ) (v : ℤ) (a : ListAccepted l) where
  -- a named value of the preference is at most its top layer
  found_low : (top others k : ℕ) → layering_of (constructor_at l i) ≡ Layers top others → others ≤ top
      → First (is_named l i v) (named_places l) k
      → (t : Bool) → ltb k (named_places l) ≡ t → cond t (named_at l k).layer others ≤ top
  found_low top others k y o h false e = o
  found_low top others k y o h true e =
      let q = ltb-true k (named_places l) e in
      let w =
      eqb-true (named_at l k).preference i
      (both (eqb (named_at l k).preference i) (eq_z (named_at l k).value v) (h.there q)).0 in
      let n = a.each_named k (omega (arith, names_counted l)) in
      form.layer_accepted (constructor_at l i) (named_at l k).layer top others (rw w at n.layer_none) y

  under : (y : Layering) → layering_of (constructor_at l i) ≡ y → sound (constructor_at l i) ≡ true
      → inside (constructor_at l i) v ≡ true → level_under l i v y ≤ max_at l i
  unfolding max_at layer_of
  under Numeric y s h = (max_greatest (constructor_at l i) y s).most v h
  under (Layers top others) y s h =
      let m = form.layers_sound (constructor_at l i) top others y s in
      let k = first_at (is_named l i v) (named_places l) in
      rw m.0
      (found_low top others k y m.1 (first_is (is_named l i v) (named_places l)) (ltb k (named_places l)) refl)

module _ (l : PreferenceList) (i : ℕ) (e : list_refusal l ≡ 0) (h : i < l.count) where
  pub max_small : max_at l i ≤ 65535
  unfolding max_at
  max_small = (form.accepted (constructor_at l i) ((accepted l e).each_place i h).constructor_none).max_small

  pub level_most : (v : ℤ) → value_refusal l i v ≡ 0 → level_at l i v ≤ max_at l i
  unfolding level_at value_refusal
  level_most v z =
      let a = accepted l e in
      let s = (form.accepted (constructor_at l i) (a.each_place i h).constructor_none).is_sound in
      under l i v a (layering_of (constructor_at l i)) refl s
      (not-false (inside (constructor_at l i) v) (gives_none (not (inside (constructor_at l i) v)) 7 z))

  pub level_small : (v : ℤ) → value_refusal l i v ≡ 0 → level_at l i v ≤ 65535
  level_small v z = le_trans (level_most v z) max_small
