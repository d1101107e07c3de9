-- What has all that an accepted list has is refused by no check of a list.
use Rattle.std.specs.Prelude.{◌≡◌, refl, ℕ, zero, suc, ◌-◌, ◌<◌, false, ◌||◌, leb, ltb, eqb}
use Rattle.std.proofs.Common.{◌∙◌, arith, add-one, ne_eqb, le-ltb}
use Rattle.std.proofs.lemmas.Bool.{lt-leb}
use Rattle.laws.specs.Checks.{◌gives◌}
use Rattle.laws.specs.First.{first_at, first_refusal, is_refusal}
use Rattle.laws.specs.Laws.Checks.{then_next, gives_no}
use Rattle.laws.specs.Laws.First.{refusal_on, refusal_none}
use Rattle.constructor.specs.Valid.{constructor_refusal}
use Rattle.preference.specs.List.{preference_at, named_at}
use Rattle.preference.specs.Valid.{column_refusal, preference_refusal, place_refusal, named_refusal, list_refusal}
use Rattle.preference.specs.Laws.Valid.{PreferenceAccepted, NamedAccepted, ListAccepted}
use Rattle.preference.specs.declared.Preference.{Preference}
use Rattle.preference.specs.declared.PreferenceList.{PreferenceList}

-- no number is among the first n
none_first : (f : ℕ → ℕ) (n : ℕ) → ((i : ℕ) → i < n → f i ≡ 0) → first_at (is_refusal f) n ≡ n
unfolding first_at
none_first f zero h = refl
none_first f (suc n) h =
    rw (add-one n) at (refusal_on f n (none_first f n (λ i k. h i (omega arith))) (h n (omega arith)))

first_none : (f : ℕ → ℕ) (n : ℕ) → ((i : ℕ) → i < n → f i ≡ 0) → first_refusal f n ≡ 0
first_none f n h = refusal_none f n (none_first f n h)

pub preference_none : (l : PreferenceList) (n : ℕ) (p : Preference) → PreferenceAccepted l n p
    → preference_refusal l n p ≡ 0
unfolding preference_refusal column_refusal
preference_none l n p a =
    then_next (column_refusal l n p.column) (constructor_refusal p.constructor)
    (then_next (ltb 7 p.column gives 5) _ (gives_no _ 5 (le-ltb 7 p.column a.column_small))
    ∙ gives_no _ 5 a.column_free)
    ∙ a.constructor_none

named_none : (l : PreferenceList) (k : ℕ) → NamedAccepted l k → named_refusal l k ≡ 0
unfolding named_refusal
named_none l k a =
    let i = (named_at l k).preference in
    let j = (named_at l (k - 1)).preference in
    then_next (leb l.count i gives 3) _ (gives_no _ 3 (lt-leb l.count i a.owner_counted))
    ∙ then_next (ltb i j gives 3) _ (gives_no _ 3 (le-ltb i j a.owner_ordered))
    ∙ a.layer_none

pub list_none : (l : PreferenceList) → ListAccepted l → list_refusal l ≡ 0
unfolding list_refusal
list_none l a =
    let counted : eqb l.count 0 || ltb 8 l.count ≡ false =
    rw (ne_eqb l.count 0 (λ e. absurd (omega (arith, a.some))), le-ltb 8 l.count a.few) in
    then_next (eqb l.count 0 || ltb 8 l.count gives 1) _ (gives_no _ 1 counted)
    ∙ then_next (ltb 64 l.namedcount gives 7) _ (gives_no _ 7 (le-ltb 64 l.namedcount a.few_named))
    ∙ then_next (first_refusal (place_refusal l) l.count) (first_refusal (named_refusal l) l.namedcount)
    (first_none (place_refusal l) l.count (λ i h. preference_none l i (preference_at l i) (a.each_place i h)))
    ∙ first_none (named_refusal l) l.namedcount (λ k h. named_none l k (a.each_named k h))
