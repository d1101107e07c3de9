-- Reading what was written gives the same list and log.
use Rattle.std.specs.Prelude.{◌≡◌, Bool, true, false, cond, eqb, ℤ, pos, length, drop}
use Rattle.std.proofs.Math.Path.{refl, ap}
use Rattle.std.proofs.Common.{sym, ◌∙◌, subst, length-take, take-add, take_all, get_or-take, get_or-drop}
use Prim.Native.Nat.{ℕ, zero, suc, ◌+◌, ◌-◌, ◌*◌, ◌<◌, ◌≤◌}
use native.Mathlib.Omega.{arith}
use Rattle.std.proofs.Math.Decide.{dec_lt}
use mathlib.Core.List.{List, [], ◌∷◌, ◌++◌, append_assoc, append-nil}
use Rattle.std.proofs.Math.ListN.{take, length-append, get_or-eq_default}
use borrow.Author.Tests.{ne_eqb, lt-ltb, le-ltb, lt-leb, eqb-true, eqb-false}
use Rattle.laws.specs.Laws.Checks.{then_next, gives_no}
use Rattle.constructor.specs.Level.{layering_of}
use Rattle.constructor.specs.Valid.{layer_refusal, refusal_under}
use Rattle.constructor.specs.declared.Constructor.{Constructor}
use Rattle.constructor.specs.declared.Layering.{Layering}
use Rattle.constructor.specs.declared.Layering.TheVariants.{Numeric, Layers}
use Rattle.preference.specs.List.{preference_at, constructor_at, named_at}
use Rattle.preference.specs.Valid.{preference_refusal, list_refusal}
use Rattle.laws.specs.Lists.{joined}
use Rattle.preference.specs.Laws.Valid as lists
use Rattle.preference.specs.declared.Preference.{Preference}
use Rattle.preference.specs.declared.Named.{Named}
use Rattle.preference.specs.declared.PreferenceList.{PreferenceList}
use Rattle.run_log.specs.Log.{row_count, row_at, log_refusal}
use Rattle.run_log.specs.Laws.Log as logs
use Rattle.word.specs.Word.{word_bytes, int_bytes}
use Rattle.stream_format.specs.Kinds.{kinds, kind_of}
use Rattle.stream_format.specs.Read.{named_of, last_constructor, is_layers, ends_layered, out_of_place, naming_refusal}
use Rattle.stream_format.specs.Read.{figures_refusal}
use Rattle.stream_format.specs.Read.{add_preference, add_named, with_record, start, read_of}
use Rattle.stream_format.specs.Write.{kind_for, constructor_bytes, preference_bytes, named_bytes, ints_bytes, run_bytes}
use Rattle.stream_format.specs.Write.{named_bytes_of, preference_records, row_bytes, stream_of}
use Rattle.stream_format.specs.Laws.Lengths.{constructor_long, kind_class, named_long, ints_long}
use Rattle.stream_format.specs.Laws.Read.{Accepts}
use Rattle.stream_format.specs.ReadAnswer.{ReadAnswer}
use Rattle.stream_roundtrip.specs.Terms.{LogFits, Fits, ReadsAs}
use Rattle.preference.specs.Same.{Same}
use Rattle.stream_roundtrip.specs.Laws.Added.{preference_refusal_same}
use Rattle.stream_roundtrip.specs.Laws.Checks.{preference_none}
use Rattle.stream_roundtrip.specs.Laws.Codec.{preference_back, named_back, run_back}
use Rattle.stream_roundtrip.specs.Laws.Part.{rank, rank_other, Part, part_none, part_preference, part_skip}
use Rattle.stream_roundtrip.specs.Laws.Part.{part_next}
use Rattle.stream_roundtrip.specs.Laws.Part.{part_named, part_after, part_whole}
use Rattle.stream_roundtrip.specs.Laws.Reads.{Reads, reads_none, reads_more, reads_answer, reads_values}

-- ---- the preferences and the named values are read

record Reading (l : PreferenceList) (i q : ℕ) (x : List ℕ) : Type 0 where
  answer : ReadAnswer
  reads : Reads x [] answer
  rows_none : answer.rows ≡ 0
  part : Part l i q answer.list

moved : (l : PreferenceList) (i q q' : ℕ) (x : List ℕ) (h : Reading l i q x) → Part l i q' h.answer.list
    → Reading l i q' x
moved l i q q' x h p = record { answer = h.answer; reads = h.reads; rows_none = h.rows_none; part = p }

reading_of : (l : PreferenceList) (i : ℕ) {q q' : ℕ} {x y : List ℕ} → q ≡ q' → x ≡ y → Reading l i q x
    → Reading l i q' y
reading_of l i e d h = rw (e, d) at h

layered : (y : Layering) (layer : ℕ) → refusal_under y layer ≡ 0 → is_layers y ≡ true
layered Numeric layer e = absurd (omega arith)
layered (Layers top others) layer e = refl

module _ (l : PreferenceList) (log : List ℤ) (f : Fits l log) (a : lists.ListAccepted l) where
  module _ (i q : ℕ) (x : List ℕ) (h : Reading l i q x) (i-in : i < l.count) where
    preference_accepts : (rest : List ℕ) → Accepts h.answer (preference_bytes (preference_at l i) ++ rest)
    unfolding preference_bytes out_of_place figures_refusal
    preference_accepts rest =
        let p = preference_at l i in
        let m = h.answer.list in
        let y = kind_class p.constructor in
        record {
          known = rw y;
          placed = rw y (le-ltb 0 h.answer.rows (omega (arith, h.rows_none)));
          whole =
              omega (arith, constructor_long p.constructor, length-append (constructor_bytes p.constructor) rest);
          figures = rw (y, preference_back p rest (f.constructors i))
              (ap (λ (n : ℕ). preference_refusal m n p) h.part.count_is
              ∙ preference_refusal_same l m i p h.part.preferences_same
              ∙ preference_none l i p (a.each_place i i-in));
        }

    read_preference : Reading l (suc i) q (x ++ preference_bytes (preference_at l i))
    unfolding preference_bytes with_record
    read_preference =
        let p = preference_at l i in
        let k = kind_for p.constructor in
        let y = kind_class p.constructor in
        let r = h.answer in
        let next : ReadAnswer =
        record {
          refusal = 0;
          place = r.place + (1 + (kind_of k).body);
          rows = r.rows;
          list = add_preference r.list p;
        } in
        record {
          answer = next;
          reads =
              reads_more x [] r h.reads k (p.column ∷ constructor_bytes p.constructor)
              (constructor_long p.constructor) next [] preference_accepts
              (λ rest. rw (y, preference_back p rest (f.constructors i))) (λ rest. rw y);
          rows_none = h.rows_none;
          part = part_preference l r.list i q h.part (omega (arith, a.few));
        }

  module _ (i q : ℕ) (x : List ℕ) (h : Reading l (suc i) q x) (k : ℕ) (k-in : k < l.namedcount) (k-rank : rank l k ≡ q)
      (k-owner : (named_at l k).preference ≡ i) where
    -- it belongs to the preference that was read last
    count_before : h.answer.list.count - 1 ≡ (named_at l k).preference
    count_before = omega (arith, h.part.count_is)

    last_same : last_constructor h.answer.list ≡ constructor_at l (named_at l k).preference
    last_same =
        ap (constructor_at h.answer.list) count_before
        ∙ ap (λ (p : Preference). p.constructor)
        (h.part.preferences_same (named_at l k).preference (omega arith))

    named_accepts : (rest : List ℕ) → Accepts h.answer (named_bytes (named_at l k) ++ rest)
    unfolding named_bytes int_bytes word_bytes kind_of kinds out_of_place ends_layered figures_refusal naming_refusal
        layer_refusal
    named_accepts rest =
        let m = h.answer.list in
        let e = named_at l k in
        let n = (a.each_named k k-in).layer_none in
        let some = lt-ltb 0 m.count (omega (arith, h.part.count_is)) in
        let few =
        lt-leb 64 m.namedcount (omega (arith, part_next l m (suc i) q h.part a k k-in k-rank, a.few_named)) in
        record {
          known = refl;
          placed =
              rw (
                le-ltb 0 h.answer.rows (omega (arith, h.rows_none)),
                some,
                last_same,
                layered (layering_of (constructor_at l e.preference)) e.layer n,
              );
          whole = omega arith;
          figures =
              then_next (layer_refusal (last_constructor m) e.layer) _
              (ap (λ (c : Constructor). layer_refusal c e.layer) last_same ∙ n) ∙ gives_no _ 7 few;
        }

    read_named : Reading l (suc i) (suc q) (x ++ named_bytes (named_at l k))
    unfolding named_bytes with_record kind_of kinds
    read_named =
        let e = named_at l k in
        let r = h.answer in
        let withNamed : Named → ReadAnswer =
        λ d. record { refusal = 0; place = r.place + 6; rows = r.rows; list = add_named r.list d } in
        record {
          answer = withNamed e;
          reads =
              reads_more x [] r h.reads 6 (int_bytes e.value ++ e.layer ∷ []) (omega (arith, named_long e))
              (withNamed e) [] named_accepts
              (λ rest. ap withNamed
              (ap (λ (j : ℕ). named_of j (named_bytes e ++ rest)) count_before ∙ named_back e rest (f.values k)))
              (λ rest. refl);
          rows_none = h.rows_none;
          part = part_named l r.list (suc i) q h.part a k k-in k-rank;
        }

  -- named value n, where it belongs to preference i
  read_one : (i n : ℕ) (x : List ℕ) → n < l.namedcount → (b : Bool) → eqb (named_at l n).preference i ≡ b
      → Reading l (suc i) (64 * i + n) x
      → Reading l (suc i) (suc (64 * i + n)) (x ++ cond b (named_bytes (named_at l n)) [])
  read_one i n x n-in true e h =
      let o = eqb-true (named_at l n).preference i e in
      read_named i (64 * i + n) x h n n-in (ap (λ (j : ℕ). 64 * j + n) o) o
  read_one i n x n-in false e h =
      let q = 64 * i + n in
      rw (append-nil x)
      (moved l (suc i) q (suc q) x h
      (part_skip l h.answer.list (suc i) q h.part
      (λ k k-in. rank_other l i n k a.few_named n-in k-in (eqb-false (named_at l n).preference i e))))

  -- the named values of preference i among the first n
  read_names : (i : ℕ) (x : List ℕ) (n : ℕ) → n ≤ l.namedcount → Reading l (suc i) (64 * i) x
      → Reading l (suc i) (64 * i + n) (x ++ joined (named_bytes_of l i) n)
  unfolding joined
  read_names i x zero n-in h = reading_of l (suc i) (omega arith) (sym (append-nil x)) h
  read_names i x (suc n) n-in h =
      let y = joined (named_bytes_of l i) n in
      reading_of l (suc i) (omega arith) (append_assoc x y (named_bytes_of l i n))
      (read_one i n (x ++ y) n-in (eqb (named_at l n).preference i) refl (read_names i x n (omega arith) h))

  read_parts : (n : ℕ) → n ≤ l.count → Reading l n (64 * n) (joined (preference_records l) n)
  unfolding joined preference_records
  read_parts zero n-in = record { answer = start; reads = reads_none; rows_none = refl; part = part_none l }
  read_parts (suc n) n-in =
      let x = joined (preference_records l) n in
      let p = preference_bytes (preference_at l n) in
      let h = read_preference n (64 * n) x (read_parts n (omega arith)) n-in in
      let g = read_names n (x ++ p) l.namedcount (omega arith) h in
      reading_of l (suc n) refl (append_assoc x p (joined (named_bytes_of l n) l.namedcount))
      (moved l (suc n) (64 * n + l.namedcount) (64 * suc n) _ g
      (part_after l g.answer.list n a.few_named g.part))

-- ---- the runs are read

record ReadingRuns (l : PreferenceList) (log : List ℤ) (n : ℕ) (x : List ℕ) : Type 0 where
  answer : ReadAnswer
  reads : Reads x (take (8 * n) log) answer
  rows_are : answer.rows ≡ n
  same : Same l answer.list

runs_of : (l : PreferenceList) (log : List ℤ) (n : ℕ) {x y : List ℕ} → x ≡ y → ReadingRuns l log n x
    → ReadingRuns l log n y
runs_of l log n e h = rw e at h

row_fits : (log : List ℤ) (n : ℕ) → LogFits log → LogFits (row_at log n)
row_fits log n f j = elim (dec_lt j 8) [
  | yes h ↦ rw (get_or-take 8 (drop (8 * n) log) j (pos 0) h, get_or-drop (8 * n) log j (pos 0)) (f (8 * n + j))
  | no h ↦ (let k : length (row_at log n) ≤ j = omega (arith, h, length-take 8 (drop (8 * n) log)) in
      rw (get_or-eq_default (row_at log n) (pos 0) k) (record { sfits = omega arith }))
]

module _ (l : PreferenceList) (log : List ℤ) (some : 0 < l.count) (fits : LogFits log)
    (few : row_count log ≤ 1024) where
  module _ (n : ℕ) (n-in : n < row_count log) (x : List ℕ) (h : ReadingRuns l log n x) where
    run_accepts : (rest : List ℕ) → Accepts h.answer (run_bytes (row_at log n) ++ rest)
    unfolding run_bytes kind_of kinds out_of_place figures_refusal
    run_accepts rest =
        let r = h.answer in
        record {
          known = refl;
          placed = ne_eqb r.list.count 0 (λ e. absurd (omega (arith, h.same.counts)));
          whole =
              omega (
                arith,
                length-append (ints_bytes (row_at log n)) rest,
                ints_long (row_at log n),
                logs.row_long log n n-in,
              );
          figures = gives_no _ 7 (lt-leb 1024 r.rows (omega (arith, h.rows_are)));
        }

    read_run : ReadingRuns l log (suc n) (x ++ row_bytes log n)
    unfolding run_bytes with_record kind_of kinds
    read_run =
        let r = h.answer in
        let vs = row_at log n in
        let long = logs.row_long log n n-in in
        let next : ReadAnswer = record { refusal = 0; place = r.place + 33; rows = r.rows + 1; list = r.list } in
        let eight : 8 * n + 8 ≡ 8 * suc n = omega arith in
        let values : take (8 * n) log ++ vs ≡ take (8 * suc n) log = rw (← eight) (sym (take-add (8 * n) 8 log)) in
        record {
          answer = next;
          reads =
              rw values at
              (reads_more x (take (8 * n) log) r h.reads 7 (ints_bytes vs)
              (omega (arith, ints_long vs)) next vs run_accepts (λ rest. refl)
              (λ rest. run_back vs rest long (row_fits log n fits)));
          rows_are = omega (arith, h.rows_are);
          same = h.same;
        }

  read_rows : (x : List ℕ) → ReadingRuns l log 0 x → (n : ℕ) → n ≤ row_count log
      → ReadingRuns l log n (x ++ joined (row_bytes log) n)
  unfolding joined
  read_rows x h zero n-in = runs_of l log 0 (sym (append-nil x)) h
  read_rows x h (suc n) n-in =
      let y = joined (row_bytes log) n in
      runs_of l log (suc n) (append_assoc x y (row_bytes log n))
      (read_run n n-in (x ++ y) (read_rows x h n (omega arith)))

pub read_back : (l : PreferenceList) (log : List ℤ) (room : ℕ) → Fits l log → list_refusal l ≡ 0 → log_refusal log ≡ 0
    → length log ≤ room → ReadsAs (stream_of l log) room l log
unfolding stream_of
read_back l log room f e d fits =
    let a = lists.accepted l e in
    let b = logs.accepted log d in
    let g = read_parts l log f a l.count (omega arith) in
    let begun : ReadingRuns l log 0 (joined (preference_records l) l.count) =
    record {
      answer = g.answer;
      reads = g.reads;
      rows_are = g.rows_none;
      same = part_whole l g.answer.list a g.part;
    } in
    let h =
    read_rows l log a.some f.numbers b.few (joined (preference_records l) l.count) begun (row_count log)
    (omega arith) in
    let s = stream_of l log in
    let v = take (8 * row_count log) log in
    let r = h.answer in
    let answer : read_of s room ≡ r =
    reads_answer s v r h.reads room (omega (arith, a.some, h.same.counts))
    (omega (arith, b.eights, h.rows_are)) in
    record {
      refusal = ap (λ (y : ReadAnswer). y.refusal) answer ∙ h.reads.going;
      place = ap (λ (y : ReadAnswer). y.place) answer ∙ h.reads.place;
      rows = ap (λ (y : ReadAnswer). y.rows) answer ∙ h.rows_are;
      list = subst (λ (y : ReadAnswer). Same l y.list) (sym answer) h.same;
      values = reads_values s v r h.reads ∙ take_all (8 * row_count log) log (omega (arith, b.eights));
    }
