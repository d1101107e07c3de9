-- What every list that reading builds has: "each on a column of its own", so that the list never counts above eight.
use Rattle.std.specs.Prelude.{◌≡◌, refl, ◌⊎◌, ℕ, ◌+◌, ◌<◌, ◌≤◌, min, Bool, false}
use Rattle.std.proofs.Common.{sym, ap, ◌∙◌, subst, ⊎_elim, arith, not-suc-le-zero, eq-or-lt_of_le, ltb-false, length-set, get_or-set_same, get_or-set_other}
use Rattle.std.proofs.lemmas.Bool.{eqb-false}
use Rattle.laws.specs.First.{first_at, any_below}
use Rattle.laws.specs.Laws.First.{first_is}
use Rattle.preference.specs.List.{zero_preference}
use Rattle.preference.specs.Valid.{has_column, taken, preference_refusal}
use Rattle.preference.specs.Laws.Valid.{PreferenceAccepted, preference_accepted}
use Rattle.preference.specs.declared.Preference.{Preference}
use Rattle.preference.specs.declared.PreferenceList.{PreferenceList}
use Rattle.stream_format.specs.Read.{zero_list, add_preference}
use Rattle.stream_format.specs.Midway.{column_at, Columns}
use Rattle.stream_format.specs.Laws.Pigeons.{pigeons, fewer}

pub columns_few : (l : PreferenceList) → Columns l → l.count ≤ 8
columns_few l h = pigeons 8 l.count (column_at l) h.low h.apart

pub columns_zero : Columns zero_list
columns_zero =
    record {
      places = refl;
      low = λ i h. absurd (not-suc-le-zero h);
      apart = λ i j h k e. absurd (not-suc-le-zero k);
    }

any_false : (p : ℕ → Bool) (n i : ℕ) → any_below p n ≡ false → i < n → p i ≡ false
unfolding any_below
any_false p n i e h = (first_is p n).before i (omega (arith, ltb-false (first_at p n) n e))

-- eight preferences have all eight columns: a free one is left only where there are fewer
module _ (l : PreferenceList) (column : ℕ) (h : Columns l) (small : column ≤ 7)
    (free : taken l (min l.count 8) column ≡ false) where
  pub other_columns : (i : ℕ) → i < l.count → column_at l i ≡ column → ⊥
  other_columns i k =
      let few = columns_few l h in
      eqb-false (column_at l i) column (any_false (has_column l column) (min l.count 8) i free (omega arith))

  pub columns_free : l.count < 8
  columns_free = fewer 8 l.count column (column_at l) h.low h.apart (omega arith) other_columns

module _ (l : PreferenceList) (p : Preference) (h : Columns l) (e : preference_refusal l l.count p ≡ 0) where
  abbrev accepted : PreferenceAccepted l l.count p
  accepted = preference_accepted l l.count p e

  pub columns_room : l.count < 8
  columns_room = columns_free l p.column h accepted.column_small accepted.column_free

  at_end : column_at (add_preference l p) l.count ≡ p.column
  at_end =
      ap (λ (q : Preference). q.column)
      (get_or-set_same l.preferences l.count p zero_preference (omega (arith, columns_room, h.places)))

  at_old : (i : ℕ) → i < l.count → column_at (add_preference l p) i ≡ column_at l i
  at_old i k =
      ap (λ (q : Preference). q.column)
      (get_or-set_other l.preferences l.count i p zero_preference (λ q. absurd (omega arith)))

  pub columns_added : Columns (add_preference l p)
  columns_added =
      record {
        places = length-set l.preferences l.count p ∙ h.places;
        low = λ i k. ⊎_elim
            (λ q. subst (λ (x : ℕ). x < 8) (sym (ap (column_at (add_preference l p)) q ∙ at_end))
            (omega (arith, accepted.column_small)))
            (λ q. subst (λ (x : ℕ). x < 8) (sym (at_old i q)) (h.low i q))
            (last_or i k);
        apart = λ i j k m q. ⊎_elim
            (λ z. other_columns l p.column h accepted.column_small accepted.column_free i (omega arith)
            (sym (at_old i (omega arith)) ∙ q ∙ ap (column_at (add_preference l p)) z ∙ at_end))
            (λ z. h.apart i j k z (sym (at_old i (omega arith)) ∙ q ∙ at_old j z))
            (last_or j m);
      }
    where
      last_or : (i : ℕ) → i < l.count + 1 → (i ≡ l.count) ⊎ (i < l.count)
      last_or i k = eq-or-lt_of_le (omega arith)
