-- How the stream grows with one more preference, named value or run.
use Rattle.std.specs.Prelude.{◌≡◌, refl, ℕ, zero, suc, ◌+◌, ◌*◌, ◌<◌, cond, eqb, ℤ, length, take, drop}
use Rattle.std.proofs.Common.{sym, ◌∙◌, arith, add-one, length-drop, drop_at, take_all, eq-eqb, ne_eqb}
use Rattle.std.proofs.Math.Path.{ap}
use mathlib.Core.List.{List, [], ◌++◌, append_assoc, append-nil}
use Rattle.std.proofs.lemmas.List.{drop-append-le, take-append-le}
use Rattle.preference.specs.List.{preference_at, named_at}
use Rattle.laws.specs.Lists.{joined}
use Rattle.laws.specs.Laws.Joined.{joined_cong}
use Rattle.preference.specs.declared.Preference.{Preference}
use Rattle.preference.specs.declared.Named.{Named}
use Rattle.preference.specs.declared.PreferenceList.{PreferenceList}
use Rattle.stream_format.specs.Read.{add_preference, add_named}
use Rattle.stream_format.specs.Write.{preference_bytes, named_bytes, run_bytes, named_bytes_of, preference_records, row_bytes}
use Rattle.stream_roundtrip.specs.Laws.Added.{preference_new, preference_old, named_new, named_old}

joined_none : (f : ℕ → List ℕ) (n : ℕ) → ((i : ℕ) → i < n → f i ≡ []) → joined f n ≡ []
unfolding joined
joined_none f zero h = refl
joined_none f (suc n) h = rw (joined_none f n (λ i k. h i (omega arith)), h n (omega arith))

joined_more : (f : ℕ → List ℕ) (n : ℕ) → joined f (n + 1) ≡ joined f n ++ f n
unfolding joined
joined_more f n = rw (add-one n)

-- the records of the preferences and the named values
abbrev pub head : PreferenceList → List ℕ
head m = joined (preference_records m) m.count

module _ (m : PreferenceList) (p : Preference) (room : m.count < length m.preferences) where
  pub head_preference : ((k : ℕ) → k < m.namedcount → (named_at m k).preference < m.count)
      → head (add_preference m p) ≡ head m ++ preference_bytes p
  unfolding preference_records
  head_preference owners =
      let m' = add_preference m p in
      let old =
      joined_cong (preference_records m') (preference_records m) m.count
      (λ i h. ap (λ (q : Preference). preference_bytes q ++ joined (named_bytes_of m i) m.namedcount)
      (preference_old m p i h)) in
      let none : joined (named_bytes_of m m.count) m.namedcount ≡ [] =
      joined_none (named_bytes_of m m.count) m.namedcount
      (λ k h. rw (ne_eqb (named_at m k).preference m.count (λ e. absurd (omega (arith, owners k h))))) in
      let new : preference_records m' m.count ≡ preference_bytes p =
      rw (preference_new m p room, none) (append-nil (preference_bytes p)) in
      joined_more (preference_records m') m.count ∙ rw (old, new)

module _ (m : PreferenceList) (e : Named) (room : m.namedcount < length m.named) where
  names_added : (i : ℕ)
      → joined (named_bytes_of (add_named m e) i) (m.namedcount + 1)
      ≡ joined (named_bytes_of m i) m.namedcount ++ cond (eqb e.preference i) (named_bytes e) []
  names_added i =
      let bytes : Named → List ℕ = λ d. cond (eqb d.preference i) (named_bytes d) [] in
      let old =
      joined_cong (named_bytes_of (add_named m e) i) (named_bytes_of m i) m.namedcount
      (λ k h. ap bytes (named_old m e k h)) in
      joined_more (named_bytes_of (add_named m e) i) m.namedcount ∙ rw (old, named_new m e room)

  part_added : (i : ℕ)
      → preference_records (add_named m e) i ≡ preference_records m i ++ cond (eqb e.preference i) (named_bytes e) []
  unfolding preference_records
  part_added i =
      rw (names_added i)
      (sym (append_assoc (preference_bytes (preference_at m i)) (joined (named_bytes_of m i) m.namedcount) _))

  pub head_named : e.preference + 1 ≡ m.count → head (add_named m e) ≡ head m ++ named_bytes e
  head_named last =
      let i = e.preference in
      let old =
      joined_cong (preference_records (add_named m e)) (preference_records m) i
      (λ j h. part_added j ∙ rw (ne_eqb i j (λ q. absurd (omega arith))) (append-nil (preference_records m j))) in
      let before : joined (preference_records m) i ++ preference_records m i ≡ head m =
      sym (joined_more (preference_records m) i) ∙ ap (joined (preference_records m)) last in
      ap (joined (preference_records (add_named m e))) (sym last)
      ∙ joined_more (preference_records (add_named m e)) i
      ∙ rw (old, part_added i, eq-eqb i i refl)
      (sym (append_assoc (joined (preference_records m) i) (preference_records m i) (named_bytes e)))
      ∙ ap (λ (x : List ℕ). x ++ named_bytes e) before

-- a run more
pub rows_more : (n : ℕ) (v w : List ℤ) → length v ≡ 8 * n → length w ≡ 8
    → joined (row_bytes (v ++ w)) (n + 1) ≡ joined (row_bytes v) n ++ run_bytes w
rows_more n v w h k =
    let old = joined_cong (row_bytes (v ++ w)) (row_bytes v) n (λ i l. ap run_bytes
    (ap (take 8) (drop-append-le (8 * i) v w (omega arith))
    ∙ take-append-le 8 (drop (8 * i) v) w (omega (arith, length-drop (8 * i) v)))) in
    joined_more (row_bytes (v ++ w)) n ∙ rw (old, drop_at v w (8 * n) h, take_all 8 w (omega arith))
