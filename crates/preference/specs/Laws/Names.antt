-- The named values of one preference, gathered: they give every layer that the list gives.
use Rattle.std.specs.Prelude.{◌≡◌, refl, ℕ, zero, suc, ◌+◌, ◌<◌, ◌≤◌, Bool, true, false, cond, List, ltb, eqb, ℤ, pos, get_or, length, set}
use Rattle.std.proofs.Common.{sym, ap, ◌∙◌, arith, add-one, get_or-set_same, get_or-set_other, lt-ltb, le-ltb, ltb-true}
use Rattle.laws.specs.First.{first_at}
use Rattle.arith.specs.Gap.{eq_z}
use Rattle.preference.specs.List.{named_at}
use Rattle.preference.specs.Level.{is_named}
use Rattle.preference.specs.Names.{pick, look_up}
use Rattle.preference.specs.declared.PreferenceList.{PreferenceList}

pick_more : (p : ℕ → Bool) (g : ℕ → ℕ) (n other : ℕ) → pick p g (suc n) other ≡ pick p g n (cond (p n) (g n) other)
unfolding first_at
pick_more p g n other = go (ltb (first_at p n) n) refl (p n)
  where
    go : (t : Bool) → ltb (first_at p n) n ≡ t → (u : Bool) →
        let k =
        cond t (first_at p n) (cond u n (suc n)) in
        ◌≡◌ {A = ℕ} (cond (ltb k (suc n)) (g k) other) (cond t (g (first_at p n)) (cond u (g n) other))
    go true e u = rw (lt-ltb (first_at p n) (suc n) (omega (arith, ltb-true (first_at p n) n e)))
    go false e true = rw (lt-ltb n (suc n) (omega arith))
    go false e false = rw (le-ltb (suc n) (suc n) (omega arith))

pick_cong : (p q : ℕ → Bool) (g h : ℕ → ℕ) (n other : ℕ) → ((j : ℕ) → j < n → p j ≡ q j) → ((j : ℕ) → j < n → g j ≡ h j)
    → pick p g n other ≡ pick q h n other
unfolding first_at
pick_cong p q g h zero other e f = refl
pick_cong p q g h (suc n) other e f =
    pick_more p g n other
    ∙ rw (e n (omega arith), f n (omega arith))
    (pick_cong p q g h n (cond (q n) (h n) other) (λ j l. e j (omega arith)) (λ j l. f j (omega arith)))
    ∙ sym (pick_more q h n other)

-- m of the first k named values are those of the preference at place i
pub record Gathered (l : PreferenceList) (i k m : ℕ) (values : List ℤ) (layers : List ℕ) : Type 0 where
  pub few : m ≤ k
  pub layer : (v : ℤ) (others : ℕ)
      → look_up values layers m v others ≡ pick (is_named l i v) (λ j. (named_at l j).layer) k others

pub gathered_none : (l : PreferenceList) (i : ℕ) (values : List ℤ) (layers : List ℕ) → Gathered l i 0 0 values layers
unfolding first_at
gathered_none l i values layers = record { few = omega arith; layer = λ v others. refl }

module _ (l : PreferenceList) (i k m : ℕ) (values : List ℤ) (layers : List ℕ) (g : Gathered l i k m values layers)
    (a : m < length values) (b : m < length layers) where
  -- what is put at place m changes nothing before it
  put_same : (v : ℤ) (others : ℕ)
      → look_up (set values m (named_at l k).value) (set layers m (named_at l k).layer) m v others
      ≡ look_up values layers m v others
  put_same v others =
      pick_cong _ _ _ _ m others
      (λ j h. ap (λ (x : ℤ). eq_z x v)
      (get_or-set_other values m j (named_at l k).value (pos 0) (λ e. absurd (omega arith))))
      (λ j h. get_or-set_other layers m j (named_at l k).layer 0 (λ e. absurd (omega arith)))

  -- one named value more, kept where it is one of the preference's
  pub gathered_more : Gathered l i (k + 1) (cond (eqb (named_at l k).preference i) (m + 1) m)
      (set values m (named_at l k).value) (set layers m (named_at l k).layer)
  gathered_more =
      record {
        few = fewer (eqb (named_at l k).preference i);
        layer = λ v others. go v others (eqb (named_at l k).preference i) refl;
      }
    where
      fewer : (t : Bool) → cond t (m + 1) m ≤ k + 1
      fewer true = omega (arith, g.few)
      fewer false = omega (arith, g.few)

      next : (v : ℤ) (others : ℕ) → pick (is_named l i v) (λ j. (named_at l j).layer) (k + 1) others
          ≡ pick (is_named l i v) (λ j. (named_at l j).layer) k (cond (is_named l i v k) (named_at l k).layer others)
      next v others = rw (add-one k) (pick_more (is_named l i v) (λ j. (named_at l j).layer) k others)

      go : (v : ℤ) (others : ℕ) (t : Bool) → eqb (named_at l k).preference i ≡ t
          → look_up (set values m (named_at l k).value) (set layers m (named_at l k).layer) (cond t (m + 1) m) v others
          ≡ pick (is_named l i v) (λ j. (named_at l j).layer) (k + 1) others
      go v others true e =
          let values₁ = set values m (named_at l k).value in
          let layers₁ = set layers m (named_at l k).layer in
          let here = cond (eq_z (named_at l k).value v) (named_at l k).layer others in
          let first : look_up values₁ layers₁ (suc m) v others ≡ look_up values₁ layers₁ m v here =
          pick_more (λ j. eq_z (get_or values₁ j (pos 0)) v) (λ j. get_or layers₁ j 0) m others
          ∙ rw (
            get_or-set_same values m (named_at l k).value (pos 0) a,
            get_or-set_same layers m (named_at l k).layer 0 b,
          ) in
          rw (add-one m) (first ∙ put_same v here ∙ g.layer v here ∙ sym (next v others ∙ rw e))
      go v others false e = put_same v others ∙ g.layer v others ∙ sym (next v others ∙ rw e)
