-- What was read of a list that was written: some of its preferences, and the named values that stand before the next
-- record.
use Rattle.std.specs.Prelude.{◌≡◌, refl, ℕ, zero, suc, ◌+◌, ◌-◌, ◌*◌, ◌<◌, ◌≤◌, length}
use Rattle.std.proofs.Common.{sym, ap, ◌∙◌, arith, not-suc-le-zero, length-set, below_more}
use Rattle.std.proofs.Math.Decide.{dec_lt}
use Rattle.preference.specs.List.{preference_at, named_at}
use Rattle.preference.specs.Laws.Valid as lists
use Rattle.preference.specs.declared.PreferenceList.{PreferenceList}
use Rattle.stream_format.specs.Read.{zero_list, add_preference, add_named}
use Rattle.preference.specs.Same.{Same}
use Rattle.stream_roundtrip.specs.Laws.Added.{preference_new, preference_old, named_new, named_old}

-- ---- where a named value stands among the records: after the preference that it belongs to, and after the named
-- values before it

abbrev pub rank : PreferenceList → ℕ → ℕ
rank l k = 64 * (named_at l k).preference + k

rank_parts : (o k i n : ℕ) → k < 64 → n < 64 → 64 * o + k ≡ 64 * i + n → (o ≡ i) × (k ≡ n)
rank_parts o k i n k-small n-small e = (omega arith, omega arith)

-- the rank that named value n would have under preference i is no other's
pub rank_other : (l : PreferenceList) (i n k : ℕ) → l.namedcount ≤ 64 → n < l.namedcount → k < l.namedcount
    → ((named_at l n).preference ≡ i → ⊥) → rank l k ≡ 64 * i + n → ⊥
rank_other l i n k few n-in k-in other e =
    let s = rank_parts (named_at l k).preference k i n (omega arith) (omega arith) e in
    other (ap (λ (j : ℕ). (named_at l j).preference) (sym s.1) ∙ s.0)

module _ (l : PreferenceList) (a : lists.ListAccepted l) where
  owners_rise : (j d : ℕ) → j + d < l.namedcount → (named_at l j).preference ≤ (named_at l (j + d)).preference
  owners_rise j zero h = let e : j + 0 ≡ j = omega arith in rw e (omega arith)
  owners_rise j (suc d) h =
      let e : j + suc d - 1 ≡ j + d = omega arith in
      let o = rw e at (a.each_named (j + suc d) h).owner_ordered in
      omega (arith, owners_rise j d (omega arith))

  rank_rises : (j k : ℕ) → j < k → k < l.namedcount → rank l j < rank l k
  rank_rises j k h m =
      let e : j + (k - j) ≡ k = omega arith in
      let o = rw e at (owners_rise j (k - j) (omega arith)) in
      omega arith

-- ---- what was read of a list: its first i preferences, and its named values of a rank below q

pub record Part (l : PreferenceList) (i q : ℕ) (m : PreferenceList) : Type 0 where
  pub places : length m.preferences ≡ 8
  pub names : length m.named ≡ 64
  pub count_is : m.count ≡ i
  pub preferences_same : (j : ℕ) → j < i → preference_at m j ≡ preference_at l j
  pub named_same : (k : ℕ) → k < m.namedcount → named_at m k ≡ named_at l k
  pub namedcount_in : m.namedcount ≤ l.namedcount
  pub behind : (k : ℕ) → k < m.namedcount → rank l k < q
  pub ahead : (k : ℕ) → m.namedcount ≤ k → k < l.namedcount → q ≤ rank l k

pub part_none : (l : PreferenceList) → Part l 0 0 zero_list
part_none l =
    record {
      places = refl;
      names = refl;
      count_is = refl;
      preferences_same = λ j h. absurd (not-suc-le-zero h);
      named_same = λ k h. absurd (not-suc-le-zero h);
      namedcount_in = omega arith;
      behind = λ k h. absurd (not-suc-le-zero h);
      ahead = λ k h n. omega arith;
    }

module _ (l m : PreferenceList) (i q : ℕ) (h : Part l i q m) where
  pub part_preference : i < 8 → Part l (suc i) q (add_preference m (preference_at l i))
  part_preference room =
      let p = preference_at l i in
      let fits : m.count < length m.preferences = omega (arith, h.places, h.count_is) in
      let new : preference_at (add_preference m p) i ≡ p =
      ap (preference_at (add_preference m p)) (sym h.count_is) ∙ preference_new m p fits in
      let old : (j : ℕ) → j < i → preference_at (add_preference m p) j ≡ preference_at l j =
      λ j k. preference_old m p j (omega (arith, h.count_is)) ∙ h.preferences_same j k in
      record {
        places = length-set m.preferences m.count p ∙ h.places;
        names = h.names;
        count_is = omega (arith, h.count_is);
        preferences_same =
            λ j k. below_more (λ (j : ℕ). preference_at (add_preference m p) j ≡ preference_at l j) i old new j
            (omega arith);
        named_same = h.named_same;
        namedcount_in = h.namedcount_in;
        behind = h.behind;
        ahead = h.ahead;
      }

  -- the same named values have a rank below q'
  part_moved : (q' : ℕ) → ((k : ℕ) → k < m.namedcount → rank l k < q')
      → ((k : ℕ) → m.namedcount ≤ k → k < l.namedcount → q' ≤ rank l k) → Part l i q' m
  part_moved q' f g =
      record {
        places = h.places;
        names = h.names;
        count_is = h.count_is;
        preferences_same = h.preferences_same;
        named_same = h.named_same;
        namedcount_in = h.namedcount_in;
        behind = f;
        ahead = g;
      }

  pub part_skip : ((k : ℕ) → k < l.namedcount → rank l k ≡ q → ⊥) → Part l i (suc q) m
  part_skip f =
      part_moved (suc q)
      (λ k n. omega (arith, h.behind k n))
      (λ k n o. elim (dec_lt q (rank l k)) [ yes y ↦ y | no y ↦ absurd (f k o (omega (arith, y, h.ahead k n o))) ])

  module _ (a : lists.ListAccepted l) (k : ℕ) (k-in : k < l.namedcount) (k-rank : rank l k ≡ q) where
    -- the named value of rank q is the next one
    pub part_next : m.namedcount ≡ k
    part_next = elim (dec_lt k m.namedcount) [
      | yes y ↦ absurd (omega (arith, h.behind k y))
      | no y ↦ elim (dec_lt m.namedcount k) [
        | yes z ↦ absurd
            (omega (
              arith,
              h.ahead m.namedcount (omega arith) (omega arith),
              rank_rises l a m.namedcount k z k-in,
            ))
        | no z ↦ omega (arith, y, z)
      ]
    ]

    pub part_named : Part l i (suc q) (add_named m (named_at l k))
    part_named =
        let e = named_at l k in
        let n = part_next in
        let fits : m.namedcount < length m.named = omega (arith, h.names, a.few_named) in
        let new : named_at (add_named m e) m.namedcount ≡ named_at l m.namedcount =
        named_new m e fits ∙ ap (named_at l) (sym n) in
        let old : (j : ℕ) → j < m.namedcount → named_at (add_named m e) j ≡ named_at l j =
        λ j o. named_old m e j o ∙ h.named_same j o in
        record {
          places = h.places;
          names = length-set m.named m.namedcount e ∙ h.names;
          count_is = h.count_is;
          preferences_same = h.preferences_same;
          named_same = below_more (λ (j : ℕ). named_at (add_named m e) j ≡ named_at l j) m.namedcount old new;
          namedcount_in = omega arith;
          behind =
              below_more (λ (j : ℕ). rank l j < suc q) m.namedcount (λ j o. omega (arith, h.behind j o))
              (rw n (omega arith));
          ahead = λ j o p. omega (arith, rank_rises l a k j (omega arith) p);
        }

-- the named values of preference i were read: those of later ones follow
pub part_after : (l m : PreferenceList) (i : ℕ) → l.namedcount ≤ 64 → Part l (suc i) (64 * i + l.namedcount) m
    → Part l (suc i) (64 * suc i) m
part_after l m i few h =
    part_moved l m (suc i) (64 * i + l.namedcount) h (64 * suc i) (λ k n. omega (arith, h.behind k n))
    (λ k n o. omega (arith, h.ahead k n o))

-- every preference and every named value was read
pub part_whole : (l m : PreferenceList) → lists.ListAccepted l → Part l l.count (64 * l.count) m → Same l m
part_whole l m a h =
    let all : m.namedcount ≡ l.namedcount = elim (dec_lt m.namedcount l.namedcount) [
      | yes y ↦ absurd
          (omega (
            arith,
            h.ahead m.namedcount (omega arith) y,
            (a.each_named m.namedcount y).owner_counted,
            a.few_named,
          ))
      | no y ↦ omega (arith, y, h.namedcount_in)
    ] in
    record {
      counts = sym h.count_is;
      naming_counts = sym all;
      places_same = λ i n. sym (h.preferences_same i n);
      named_same = λ k n. sym (h.named_same k (omega arith));
    }
