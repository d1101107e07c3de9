-- What a form, or a named value under it, that no check refuses has.
use Rattle.std.specs.Prelude.{◌≡◌, ℕ, ◌≤◌, true, not, ◌&&◌, ltb, leb}
use Rattle.std.proofs.Common.{arith, ltb-false, leb-true}
use Rattle.std.proofs.lemmas.Bool.{not-false}
use Rattle.laws.specs.Checks.{◌gives◌}
use Rattle.laws.specs.Laws.Bools.{both}
use Rattle.laws.specs.Laws.Checks.{gives_none, then_none}
use Rattle.constructor.specs.Level.{max_level, layering_of}
use Rattle.constructor.specs.Valid.{sound, constructor_refusal, layer_refusal}
use Rattle.constructor.specs.declared.Constructor.{Constructor}
use Rattle.constructor.specs.declared.Constructor.TheVariants.{Lowest, Highest, Around, Between, Layered}
use Rattle.constructor.specs.declared.Constructor.TheVariants.{BetweenTrivial}
use Rattle.constructor.specs.declared.Layering.TheVariants.{Layers}

pub record ConstructorAccepted (c : Constructor) : Type 0 where
  pub is_sound : sound c ≡ true
  pub max_small : max_level c ≤ 65535

pub accepted : (c : Constructor) → constructor_refusal c ≡ 0 → ConstructorAccepted c
unfolding constructor_refusal
accepted c e =
    let p = then_none (not (sound c) gives 6) (ltb 65535 (max_level c) gives 7) e in
    record {
      is_sound = not-false (sound c) (gives_none (not (sound c)) 5 p.0);
      max_small = ltb-false 65535 (max_level c) (gives_none (ltb 65535 (max_level c)) 6 p.1);
    }

-- a named value's layer is at most the top
pub layer_accepted : (c : Constructor) (layer top others : ℕ) → layer_refusal c layer ≡ 0
    → layering_of c ≡ Layers top others → layer ≤ top
unfolding layer_refusal
layer_accepted c layer top others e y = ltb-false top layer (gives_none (ltb top layer) 5 (rw y at e))

-- the layers of a sound form: M is the top, and the layer of other values does not exceed it
pub layers_sound : (c : Constructor) (top others : ℕ) → layering_of c ≡ Layers top others → sound c ≡ true
    → (max_level c ≡ top) × (others ≤ top)
unfolding max_level sound
layers_sound (Lowest lo hi step) top others y s = let z : ◌≡◌ {A = ℕ} 0 1 = cc in absurd (omega arith)
layers_sound (Highest lo hi step) top others y s = let z : ◌≡◌ {A = ℕ} 0 1 = cc in absurd (omega arith)
layers_sound (Around lo hi step m) top others y s = let z : ◌≡◌ {A = ℕ} 0 1 = cc in absurd (omega arith)
layers_sound (Between lo hi step low up) top others y s = let z : ◌≡◌ {A = ℕ} 0 1 = cc in absurd (omega arith)
layers_sound (BetweenTrivial lo hi step low up) top others y s =
    let z : ◌≡◌ {A = ℕ} 0 1 = cc in absurd (omega arith)
layers_sound (Layered t o) top others y s =
    let e : t ≡ top = cc in
    let f : o ≡ others = cc in
    (e, rw (← e, ← f) (leb-true o t (both (ltb 0 t && leb t 15) (leb o t) s).1))
