-- Demand 2 for kind 08 and every other form: dominance of level vectors, over all their parts, is the Pareto preference
-- of 000 and 003 wish by wish, with the substitutable values of each wish; and the best matches are its own.
use Rattle.std.specs.Prelude.{◌≡◌, refl, ◌⊎◌, ℕ, ◌<◌, ◌≤◌, Bool, false, ◌&&◌, List, [], ◌∷◌, ℤ, length}
use Rattle.std.proofs.Math.Path.{sym}
use Rattle.std.proofs.Common.{ap, ◌∙◌, inl, inr, eq-or-lt_of_le, arith}
use Rattle.std.proofs.Math.Logic.{⊎_elim}
use Rattle.std.proofs.Math.Bool.{true}
use Rattle.laws.specs.Laws.Bools.{both, false_true}
use Rattle.constructor.specs.Level.{layering_of, numeric_level}
use Rattle.constructor.specs.Side.{is_pair, pair_of, parts_of}
use Rattle.constructor.specs.Laws.Side.{parts_long, parts_single, parts_pair}
use Rattle.constructor.specs.Laws.Valid as form
use Rattle.constructor.specs.declared.Constructor.{Constructor}
use Rattle.constructor.specs.declared.Constructor.TheVariants.{Lowest, Highest, Around, Between, Layered}
use Rattle.constructor.specs.declared.Constructor.TheVariants.{BetweenTrivial}
use Rattle.constructor.specs.declared.Layering.TheVariants.{Numeric}
use Rattle.constructor.specs.declared.Side.{Side}
use Rattle.constructor.specs.declared.Side.TheVariants.{Below, Inside, Above}
use Rattle.run_log.specs.Log.{Log, row_count, row_at}
use Rattle.preference.specs.List.{constructor_at, places}
use Rattle.preference.specs.Valid.{list_refusal}
use Rattle.preference.specs.Level.{level_at, side_at}
use Rattle.preference.specs.Parts.{row_value, level_parts, levels}
use Rattle.preference.specs.Laws.Parts.{levels_length}
use Rattle.preference.specs.Laws.Valid.{accepted, places_counted}
use Rattle.preference.specs.declared.PreferenceList.{PreferenceList}
use Rattle.pareto.specs.Dominance.{none_above, some_below, dominates}
use Rattle.pareto.specs.Best.{competes, vector_at, is_best}
use Rattle.pareto.specs.Laws.Dominance.{dominates_pareto, pareto_dominates, dominates_irreflexive}
use Rattle.pareto.specs.Laws.Best.{best_match, match_best}
use Rattle.pareto_wishes.specs.Wishes.{BetterAt, Substitutable, BetterRun, BestRun}
use Rattle.pareto_wishes.specs.Laws.Joined.{none_each, each_none, some_there, there_some}
use Rattle.pareto_wishes.specs.Laws.Pairs.{Sided, pair_sided, pair_none, pair_lower, none_self, single_none}
use Rattle.pareto_wishes.specs.Laws.Pairs.{single_lower}

pair_numeric : (c : Constructor) → is_pair c ≡ true → layering_of c ≡ Numeric
pair_numeric (Lowest lo hi step) e = false_true e
pair_numeric (Highest lo hi step) e = false_true e
pair_numeric (Around lo hi step z) e = false_true e
pair_numeric (Between lo hi step low up) e = false_true e
pair_numeric (Layered top others) e = false_true e
pair_numeric (BetweenTrivial lo hi step low up) e = refl

module _ (l : PreferenceList) (e : list_refusal l ≡ 0) where
  -- under kind 08 level 0 is inside, and every other level outside
  sided : (i : ℕ) → i < places l → is_pair (constructor_at l i) ≡ true → (v : ℤ)
      → Sided (level_at l i v) (side_at l i v)
  unfolding level_at side_at
  sided i h p v =
      let c = constructor_at l i in
      let counted : i < l.count = omega (arith, places_counted l e) in
      let s = (form.accepted c ((accepted l e).each_place i counted).constructor_none).is_sound in
      rw (pair_numeric c p) (pair_sided c v p s)

  -- ---- one wish

  module _ (i : ℕ) (h : i < places l) (v w : ℤ) where
    abbrev parts : ℤ → List ℕ
    parts u = parts_of (constructor_at l i) (level_at l i u) (side_at l i u)

    -- nowhere above: better, or substitutable
    none_wish : none_above (parts v) (parts w) ≡ true → BetterAt l i v w ⊎ Substitutable l i v w
    none_wish q = go (is_pair (constructor_at l i)) refl
      where
        go : (b : Bool) → is_pair (constructor_at l i) ≡ b → BetterAt l i v w ⊎ Substitutable l i v w
        go true p =
            let c = constructor_at l i in
            let m = level_at l i v in
            let n = level_at l i w in
            ⊎_elim (λ x. inl x) (λ x. inr record { same_level = x.0; same_side = λ y. x.1 })
            (pair_none m n (side_at l i v) (side_at l i w) (sided i h p v) (sided i h p w)
            (rw (parts_pair c m (side_at l i v) p, parts_pair c n (side_at l i w) p) at q))
        go false p =
            let c = constructor_at l i in
            let m = level_at l i v in
            let n = level_at l i w in
            ⊎_elim
            (λ x. inr record { same_level = x; same_side = λ y. false_true (sym p ∙ y) })
            (λ x. inl x)
            (eq-or-lt_of_le
            (single_none m n (rw (parts_single c m (side_at l i v) p, parts_single c n (side_at l i w) p) at q)))

    -- better: nowhere above, and somewhere below
    better_wish : BetterAt l i v w → (none_above (parts v) (parts w) ≡ true) × (some_below (parts v) (parts w) ≡ true)
    better_wish q = go (is_pair (constructor_at l i)) refl
      where
        go : (b : Bool) → is_pair (constructor_at l i) ≡ b
            → (none_above (parts v) (parts w) ≡ true) × (some_below (parts v) (parts w) ≡ true)
        go true p =
            let c = constructor_at l i in
            rw (parts_pair c (level_at l i v) (side_at l i v) p, parts_pair c (level_at l i w) (side_at l i w) p)
            (pair_lower (level_at l i v) (level_at l i w) (side_at l i v) (side_at l i w) (sided i h p v)
            (sided i h p w) q)
        go false p =
            let c = constructor_at l i in
            rw (parts_single c (level_at l i v) (side_at l i v) p, parts_single c (level_at l i w) (side_at l i w) p)
            (single_lower (level_at l i v) (level_at l i w) q)

    -- substitutable: the same parts
    same_wish : Substitutable l i v w → parts v ≡ parts w
    same_wish q = go (is_pair (constructor_at l i)) refl
      where
        go : (b : Bool) → is_pair (constructor_at l i) ≡ b → parts v ≡ parts w
        go true p = rw (q.same_level, q.same_side p)
        go false p =
            let c = constructor_at l i in
            rw (
              parts_single c (level_at l i v) (side_at l i v) p,
              parts_single c (level_at l i w) (side_at l i w) p,
              q.same_level,
            )

    below_wish : none_above (parts v) (parts w) ≡ true → some_below (parts v) (parts w) ≡ true → BetterAt l i v w
    unfolding dominates
    below_wish q s = ⊎_elim (λ x. x) (λ x. absurd (never x)) (none_wish q)
      where
        never : Substitutable l i v w → ⊥
        never x =
            let p = same_wish x in
            let none : none_above (parts w) (parts w) ≡ true = rw p at q in
            let some : some_below (parts w) (parts w) ≡ true = rw p at s in
            dominates_irreflexive (parts w) (rw (none, some))

    -- two values outside on different sides are not substitutable under kind 08, and of one level neither is better
    pub sides_apart : is_pair (constructor_at l i) ≡ true → side_at l i v ≡ Below → side_at l i w ≡ Above
        → Substitutable l i v w → ⊥
    sides_apart p s t q = let z : ◌≡◌ {A = ℕ} 0 1 = differ (sym s ∙ q.same_side p ∙ t) in omega arith
      where
        differ : Below ≡ Above → ◌≡◌ {A = ℕ} 0 1
        differ x = cc

    pub sides_incomparable : is_pair (constructor_at l i) ≡ true → side_at l i v ≡ Below → side_at l i w ≡ Above
        → level_at l i v ≡ level_at l i w → none_above (parts v) (parts w) ≡ true → ⊥
    sides_incomparable p s t q n =
        ⊎_elim {C = ⊥} (λ x. omega arith) (λ x. sides_apart p s t x) (none_wish n)

  -- ---- all wishes

  module _ (a b : List ℤ) where
    same_long : (i : ℕ) → length (level_parts l a i) ≡ length (level_parts l b i)
    same_long i = parts_long _ _ _ ∙ sym (parts_long _ _ _)

    -- a level vector dominates another exactly where its run is better
    pub dominates_better : dominates (levels l a) (levels l b) ≡ true → BetterRun l a b
    unfolding dominates levels
    dominates_better d =
        let p = both (none_above (levels l a) (levels l b)) (some_below (levels l a) (levels l b)) d in
        let none = none_each (level_parts l a) (level_parts l b) same_long (places l) p.0 in
        let some = some_there (level_parts l a) (level_parts l b) same_long (places l) p.1 in
        record {
          each = λ i h. none_wish i h (row_value l a i) (row_value l b i) (none i h);
          at = some.0;
          counted = some.1;
          better =
              below_wish some.0 some.1 (row_value l a some.0) (row_value l b some.0)
              (none some.0 some.1) some.2;
        }

    pub better_dominates : BetterRun l a b → dominates (levels l a) (levels l b) ≡ true
    unfolding dominates levels
    better_dominates r =
        let none = each_none (level_parts l a) (level_parts l b) same_long (places l)
        (λ i h. ⊎_elim
        (λ x. (better_wish i h (row_value l a i) (row_value l b i) x).0)
        (λ x. rw (same_wish i h (row_value l a i) (row_value l b i) x) (none_self (level_parts l b i)))
        (r.each i h)) in
        let k = r.at in
        let some = there_some (level_parts l a) (level_parts l b) same_long (places l) k r.counted
        (better_wish k r.counted (row_value l a k) (row_value l b k) r.better).1 in
        rw (none, some)

  -- ---- best matches

  module _ (log : Log) (r : ℕ) where
    long : (s : ℕ) → length (vector_at l log s) ≡ length (vector_at l log r)
    unfolding vector_at
    long s = levels_length l (row_at log.values s) ∙ sym (levels_length l (row_at log.values r))

    -- a row is on the shortlist exactly where no competing row is better
    pub best_run : is_best l log r ≡ true → BestRun l log r
    unfolding vector_at
    best_run h =
        let m = best_match l log r h in
        record {
          takes_part = m.takes_part;
          unbeaten = λ s i c w.
              m.undominated s i c
              (dominates_pareto (vector_at l log s) (vector_at l log r) (long s)
              (better_dominates (row_at log.values s) (row_at log.values r) w));
        }

    pub run_best : BestRun l log r → is_best l log r ≡ true
    unfolding vector_at
    run_best b =
        match_best l log r
        record {
          takes_part = b.takes_part;
          undominated = λ s i c p.
              b.unbeaten s i c
              (dominates_better (row_at log.values s) (row_at log.values r)
              (pareto_dominates (vector_at l log s) (vector_at l log r) (long s) p));
        }
