-- LAYERED in document 01's words (000, Def. 10): "the layer of the first NAMED with that value, else the layer of other
-- values."
use Rattle.std.specs.Prelude.{◌≡◌, refl, ℕ, ◌<◌, Bool, true, false, eqb, ℤ, pos, negsuc}
use Rattle.std.proofs.Common.{sym, ap, ◌∙◌, eq-or-lt_of_le, arith, ⊎_elim}
use borrow.Author.Tests.{eq-eqb, eqb-true, lt-ltb, le-ltb}
use Rattle.laws.specs.First.{first_at}
use Rattle.laws.specs.Laws.Bools.{both, false_true}
use Rattle.laws.specs.Laws.First.{first_is, search_hit}
use Rattle.arith.specs.Gap.{eq_z}
use Rattle.constructor.specs.Level.{layering_of}
use Rattle.constructor.specs.declared.Layering.TheVariants.{Layers}
use Rattle.preference.specs.List.{constructor_at, named_at, named_places}
use Rattle.preference.specs.Level.{is_named, layer_of, level_at}
use Rattle.preference.specs.declared.PreferenceList.{PreferenceList}

-- the named value at place k is v, and belongs to the preference at place i
abbrev pub NamedAs : PreferenceList → ℕ → ℤ → ℕ → Type 0
NamedAs l i v k = ((named_at l k).preference ≡ i) × ((named_at l k).value ≡ v)

same_int : (z : ℤ) → eq_z z z ≡ true
same_int (pos n) = eq-eqb n n refl
same_int (negsuc n) = eq-eqb n n refl

int_same : (a b : ℤ) → eq_z a b ≡ true → a ≡ b
int_same (pos a) (pos b) e = ap pos (eqb-true a b e)
int_same (pos a) (negsuc b) e = false_true e
int_same (negsuc a) (pos b) e = false_true e
int_same (negsuc a) (negsuc b) e = ap negsuc (eqb-true a b e)

none_first : (p : ℕ → Bool) (k : ℕ) → ((j : ℕ) → j < k → p j ≡ false) → first_at p k ≡ k
none_first p k h =
    let f = first_is p k in
    ⊎_elim (λ (e : first_at p k ≡ k). e) (λ (b : first_at p k < k). false_true (sym (h (first_at p k) b) ∙ f.there b))
    (eq-or-lt_of_le f.within)

module _ (l : PreferenceList) (i : ℕ) (v : ℤ) where
  named_is : (k : ℕ) → NamedAs l i v k → is_named l i v k ≡ true
  named_is k n = rw (n.0, n.1, eq-eqb i i refl) (same_int v)

  named_not : (k : ℕ) → (NamedAs l i v k → ⊥) → is_named l i v k ≡ false
  named_not k h = go (is_named l i v k) refl
    where
      go : (b : Bool) → is_named l i v k ≡ b → b ≡ false
      go false e = refl
      go true e =
          let n = both (eqb (named_at l k).preference i) _ e in
          absurd (h (eqb-true (named_at l k).preference i n.0, int_same (named_at l k).value v n.1))

  module _ (top others : ℕ) (form : layering_of (constructor_at l i) ≡ Layers top others) where
    -- the first named value that is v decides, whatever stands behind it
    pub layered_named : (k : ℕ) → k < named_places l → NamedAs l i v k → ((j : ℕ) → j < k → NamedAs l i v j → ⊥)
        → level_at l i v ≡ (named_at l k).layer
    unfolding level_at layer_of
    layered_named k h n before =
        let first = none_first (is_named l i v) k (λ j b. named_not j (before j b)) in
        rw (form, search_hit (is_named l i v) k (named_places l) first (named_is k n) h, lt-ltb k (named_places l) h)

    -- where none is, the layer of other values
    pub layered_other : ((j : ℕ) → j < named_places l → NamedAs l i v j → ⊥) → level_at l i v ≡ others
    unfolding level_at layer_of
    layered_other none =
        rw (
          form,
          none_first (is_named l i v) (named_places l) (λ j b. named_not j (none j b)),
          le-ltb (named_places l) (named_places l) (omega arith),
        )
