-- Writing what was read gives the same bytes.
use Rattle.std.specs.Prelude.{◌≡◌, Bool, not, ltb, ℤ, get_or}
use Rattle.std.proofs.Math.Path.{refl, sym, ap}
use Rattle.std.proofs.Common.{◌∙◌, not-suc-le-zero, length-set, take-add, drop-drop, get_or-drop, below_more}
use Prim.Native.Nat.{ℕ, zero, suc, ◌+◌, ◌-◌, ◌*◌, ◌<◌, ◌≤◌}
use native.Mathlib.Omega.{arith}
use Rattle.std.proofs.Math.Bool.{true, false}
use mathlib.Core.List.{List, [], ◌++◌, append_assoc, append-nil}
use Rattle.std.proofs.Math.ListN.{length, take, drop, length-append}
use Rattle.std.proofs.Math.Seq.{take_all}
use borrow.Author.Tests.{ltb-true, ltb-false, not-false, eq-eqb}
use Rattle.laws.specs.Laws.Bools.{both, neither, false_true}
use Rattle.laws.specs.Laws.Checks.{then_none}
use Rattle.constructor.specs.Valid.{layer_refusal}
use Rattle.constructor.specs.Level.{layering_of}
use Rattle.preference.specs.List.{preference_at, constructor_at, named_at}
use Rattle.preference.specs.Valid.{preference_refusal, place_refusal, list_refusal}
use Rattle.laws.specs.Lists.{joined}
use Rattle.preference.specs.Laws.Valid.{NamedAccepted, preference_accepted}
use Rattle.preference.specs.declared.Preference.{Preference}
use Rattle.preference.specs.declared.Named.{Named}
use Rattle.preference.specs.declared.PreferenceList.{PreferenceList}
use Rattle.word.specs.Laws.Word.{Bytes}
use Rattle.run_log.specs.Log.{row_count}
use Rattle.run_log.specs.Laws.Log.{accepted_rows}
use Rattle.stream_format.specs.Kinds.{class_of, body_of}
use Rattle.stream_format.specs.Read.{goes, preference_of, named_of, ints_at, last_constructor, is_layers, ends_layered}
use Rattle.stream_format.specs.Read.{out_of_place, naming_refusal, figures_refusal, is_unknown, zero_list, add_preference}
use Rattle.stream_format.specs.Read.{add_named, with_record, steps, start, records, read_of, values_under, values_from}
use Rattle.stream_format.specs.Read.{values_of}
use Rattle.stream_format.specs.Write.{preference_bytes, named_bytes, run_bytes, row_bytes, stream_of}
use Rattle.stream_format.specs.Midway.{Columns}
use Rattle.stream_format.specs.Laws.Columns.{columns_zero, columns_few, columns_added}
use Rattle.stream_format.specs.Laws.Read.{Accepts, accepts, preference_room, named_room, run_room, step_goes}
use Rattle.stream_format.specs.Laws.Read.{steps_ended}
use Rattle.stream_format.specs.Laws.Values.{values_end}
use Rattle.stream_format.specs.Laws.Rows.{refused_stays}
use Rattle.stream_format.specs.Laws.Accepted.{records_end, read_accepted}
use Rattle.stream_format.specs.Kinds.{Class}
use Rattle.stream_format.specs.Kinds.{Unknown, PreferenceRecord, NamedRecord, RunRecord}
use Rattle.stream_format.specs.ReadAnswer.{ReadAnswer}
use Rattle.stream_roundtrip.specs.Terms.{WritesAs}
use Rattle.stream_roundtrip.specs.Laws.Added.{preference_new, preference_old, named_new, named_old}
use Rattle.stream_roundtrip.specs.Laws.Added.{preference_refusal_same}
use Rattle.stream_roundtrip.specs.Laws.Checks.{list_none}
use Rattle.stream_roundtrip.specs.Laws.Codec.{Again, written_again}
use Rattle.stream_roundtrip.specs.Laws.Stream.{head, head_preference, head_named, rows_more}

-- ---- what no check refuses stays so

-- a list that reading has built so far
record Sound (m : PreferenceList) : Type 0 where
  columns : Columns m
  names : length m.named ≡ 64
  few_named : m.namedcount ≤ 64
  each_place : (i : ℕ) → i < m.count → place_refusal m i ≡ 0
  each_named : (k : ℕ) → k < m.namedcount → NamedAccepted m k

sound_zero : Sound zero_list
sound_zero =
    record {
      columns = columns_zero;
      names = refl;
      few_named = omega arith;
      each_place = λ i h. absurd (not-suc-le-zero h);
      each_named = λ k h. absurd (not-suc-le-zero h);
    }

-- the named value x at place k, after y or as the first
named_at_lem : (m : PreferenceList) (k : ℕ) (x y : Named) → named_at m k ≡ x → named_at m (k - 1) ≡ y
    → x.preference < m.count → y.preference ≤ x.preference
    → layer_refusal (constructor_at m x.preference) x.layer ≡ 0 → NamedAccepted m k
named_at_lem m k x y e f counted ordered none =
    record { owner_counted = rw e counted; owner_ordered = rw (e, f) ordered; layer_none = rw e none }

module _ (m : PreferenceList) (h : Sound m) where
  module _ (p : Preference) (e : preference_refusal m m.count p ≡ 0) (room : m.count < 8) where
    old_place : (i : ℕ) → i < m.count → place_refusal (add_preference m p) i ≡ 0
    old_place i n =
        ap (preference_refusal (add_preference m p) i) (preference_old m p i n)
        ∙ preference_refusal_same m (add_preference m p) i (preference_at m i)
        (λ j k. preference_old m p j (omega arith))
        ∙ h.each_place i n

    new_place : place_refusal (add_preference m p) m.count ≡ 0
    new_place =
        ap (preference_refusal (add_preference m p) m.count) (preference_new m p (omega (arith, h.columns.places)))
        ∙ preference_refusal_same m (add_preference m p) m.count p (λ j k. preference_old m p j k)
        ∙ e

    sound_preference : Sound (add_preference m p)
    sound_preference =
        record {
          columns = columns_added m p h.columns e;
          names = h.names;
          few_named = h.few_named;
          each_place = below_more (λ (i : ℕ). place_refusal (add_preference m p) i ≡ 0) m.count old_place new_place;
          each_named = λ k n.
              let a = h.each_named k n in
              let same =
              ap (λ (q : Preference). layer_refusal q.constructor (named_at m k).layer)
              (preference_old m p (named_at m k).preference a.owner_counted) in
              record {
                owner_counted = omega (arith, a.owner_counted);
                owner_ordered = a.owner_ordered;
                layer_none = same ∙ a.layer_none;
              };
        }

  module _ (d : Named) (last : d.preference + 1 ≡ m.count)
      (e : layer_refusal (constructor_at m d.preference) d.layer ≡ 0) (room : m.namedcount < 64) where
    old_named : (k : ℕ) → k < m.namedcount → NamedAccepted (add_named m d) k
    old_named k n =
        let a = h.each_named k n in
        named_at_lem (add_named m d) k (named_at m k) (named_at m (k - 1)) (named_old m d k n)
        (named_old m d (k - 1) (omega arith)) a.owner_counted a.owner_ordered a.layer_none

    new_named : (n : ℕ) → m.namedcount ≡ n → NamedAccepted (add_named m d) n
    new_named zero z =
        let here : named_at (add_named m d) 0 ≡ d =
        ap (named_at (add_named m d)) (sym z) ∙ named_new m d (omega (arith, h.names)) in
        named_at_lem (add_named m d) 0 d d here here (omega arith) (omega arith) e
    new_named (suc n) z =
        let here : named_at (add_named m d) (suc n) ≡ d =
        ap (named_at (add_named m d)) (sym z) ∙ named_new m d (omega (arith, h.names)) in
        let q : suc n - 1 ≡ n = omega arith in
        named_at_lem (add_named m d) (suc n) d (named_at m n) here
        (ap (named_at (add_named m d)) q ∙ named_old m d n (omega arith)) (omega arith)
        (omega (arith, (h.each_named n (omega arith)).owner_counted)) e

    sound_named : Sound (add_named m d)
    sound_named =
        record {
          columns = record { places = h.columns.places; low = h.columns.low; apart = h.columns.apart };
          names = length-set m.named m.namedcount d ∙ h.names;
          few_named = omega arith;
          each_place =
              λ i n. preference_refusal_same m (add_named m d) i (preference_at m i) (λ j k. refl) ∙ h.each_place i n;
          each_named =
              below_more (NamedAccepted (add_named m d)) m.namedcount old_named (new_named m.namedcount refl);
        }

-- ---- what was read so far is what was written

record Kept (s : List ℕ) (v : List ℤ) (r : ReadAnswer) : Type 0 where
  sound : Sound r.list
  few_rows : r.rows ≤ 1024
  long : length v ≡ 8 * r.rows
  written : head r.list ++ joined (row_bytes v) r.rows ≡ take r.place s

module _ (s : List ℕ) (v : List ℤ) (r : ReadAnswer) (by : Bytes s) (h : Kept s v r)
    (a : Accepts r (drop r.place s)) where
  abbrev bs : List ℕ
  bs = drop r.place s

  bytes : Bytes bs
  bytes i = rw (get_or-drop r.place s i 0) (by (r.place + i))

  again : Again bs (suc (body_of bs)) (class_of bs)
  again = written_again bs bytes a.whole

  -- with the bytes of the record
  grown : (x y : List ℕ) → x ≡ take r.place s → y ≡ take (suc (body_of bs)) bs
      → x ++ y ≡ take (r.place + (1 + body_of bs)) s
  grown x y e f =
      let q : 1 + body_of bs ≡ suc (body_of bs) = omega arith in
      rw (e, f, q) (sym (take-add r.place (suc (body_of bs)) s))

  -- before any run
  head_written : r.rows ≡ 0 → head r.list ≡ take r.place s
  unfolding joined
  head_written z = sym (append-nil (head r.list)) ∙ (rw z at h.written)

  kept_preference : class_of bs ≡ PreferenceRecord → Kept s (v ++ values_under (class_of bs) bs) (with_record r bs)
  unfolding with_record out_of_place figures_refusal joined
  kept_preference y =
      let m = r.list in
      let p = preference_of bs in
      let rows : r.rows ≡ 0 = omega (arith, ltb-false 0 r.rows (rw y at a.placed)) in
      let room = preference_room r bs a h.sound.columns y in
      let wide : m.count < length m.preferences = omega (arith, h.sound.columns.places) in
      rw (y, append-nil v)
      (record {
        sound = sound_preference m h.sound p (rw y at a.figures) room;
        few_rows = h.few_rows;
        long = h.long;
        written = ap (λ (n : ℕ). head (add_preference m p) ++ joined (row_bytes v) n) rows
            ∙ append-nil (head (add_preference m p))
            ∙ head_preference m p wide (λ k n. (h.sound.each_named k n).owner_counted)
            ∙ grown (head m) (preference_bytes p) (head_written rows) (rw y at again);
      })

  kept_named : class_of bs ≡ NamedRecord → Kept s (v ++ values_under (class_of bs) bs) (with_record r bs)
  unfolding with_record out_of_place ends_layered figures_refusal naming_refusal joined
  kept_named y =
      let m = r.list in
      let d = named_of (m.count - 1) bs in
      let placed = neither (ltb 0 r.rows) (not (ends_layered m)) (rw y at a.placed) in
      let rows : r.rows ≡ 0 = omega (arith, ltb-false 0 r.rows placed.0) in
      let some =
      ltb-true 0 m.count
      (both (ltb 0 m.count) (is_layers (layering_of (last_constructor m)))
      (not-false (ends_layered m) placed.1)).0 in
      let room = named_room r bs a y in
      let deep : m.namedcount < length m.named = omega (arith, h.sound.names) in
      let figures : naming_refusal m (get_or bs 5 0) ≡ 0 = rw y at a.figures in
      let last : m.count - 1 + 1 ≡ m.count = omega arith in
      let same : (i : ℕ) → named_bytes (named_of i bs) ≡ take (suc (body_of bs)) bs = rw y at again in
      rw (y, append-nil v)
      (record {
        sound =
            sound_named m h.sound d last
            (then_none (layer_refusal (last_constructor m) (get_or bs 5 0)) _ figures).0 room;
        few_rows = h.few_rows;
        long = h.long;
        written = ap (λ (n : ℕ). head (add_named m d) ++ joined (row_bytes v) n) rows
            ∙ append-nil (head (add_named m d))
            ∙ head_named m d deep last
            ∙ grown (head m) (named_bytes d) (head_written rows) (same (m.count - 1));
      })

  kept_run : class_of bs ≡ RunRecord → Kept s (v ++ values_under (class_of bs) bs) (with_record r bs)
  unfolding with_record ints_at
  kept_run y =
      let w = ints_at 8 bs 1 in
      rw y
      (record {
        sound = h.sound;
        few_rows = omega (arith, run_room r bs a y);
        long = length-append v w ∙ omega (arith, h.long);
        written = ap (λ (x : List ℕ). head r.list ++ x) (rows_more r.rows v w h.long refl)
            ∙ sym (append_assoc (head r.list) (joined (row_bytes v) r.rows) (run_bytes w))
            ∙ grown (head r.list ++ joined (row_bytes v) r.rows) (run_bytes w) h.written (rw y at again);
      })

  kept_record : (class : Class) → class_of bs ≡ class → is_unknown class ≡ false
      → Kept s (v ++ values_under (class_of bs) bs) (with_record r bs)
  kept_record Unknown y k = false_true (sym k)
  kept_record PreferenceRecord y k = kept_preference y
  kept_record NamedRecord y k = kept_named y
  kept_record RunRecord y k = kept_run y

-- ---- every record

kept_of : (s : List ℕ) (r : ReadAnswer) {v w : List ℤ} → v ≡ w → Kept s v r → Kept s w r
kept_of s r e h = rw e at h

module _ (s : List ℕ) (by : Bytes s) where
  -- what n more steps keep
  abbrev Keep : ℕ → List ℤ → ReadAnswer → ReadAnswer → Type 0
  Keep n v r q = (steps n s q).refusal ≡ 0 → Kept s (v ++ values_from n (drop r.place s)) (steps n s q)

  kept_going : (n : ℕ) (v : List ℤ) (r : ReadAnswer) → Kept s v r → goes s r ≡ true
      → ((w : List ℤ) (q : ReadAnswer) → q.refusal ≡ 0 → Kept s w q → Keep n w q q) → Keep (suc n) v r r
  unfolding steps values_from with_record
  kept_going n v r h g keep =
      let bs = drop r.place s in
      let w = values_under (class_of bs) bs in
      let rest = values_from n (drop (r.place + (1 + body_of bs)) s) in
      let values : (v ++ w) ++ rest ≡ v ++ values_from (suc n) bs =
      append_assoc v w rest
      ∙ ap (λ (d : List ℕ). v ++ (w ++ values_from n d)) (sym (drop-drop (1 + body_of bs) r.place s)) in
      step_goes (λ (q : ReadAnswer). (steps n s q).refusal ≡ 0 → Kept s (v ++ values_from (suc n) bs) (steps n s q)) s r
      g
      (λ none e. let a = accepts r bs none in
      kept_of s _ values
      (keep (v ++ w) (with_record r bs) refl (kept_record s v r by h a (class_of bs) refl a.known) e))
      (λ k q e. absurd (refused_stays n s k r.place e))

  kept_ended : (n : ℕ) (v : List ℤ) (r : ReadAnswer) → r.refusal ≡ 0 → Kept s v r → goes s r ≡ false → Keep n v r r
  kept_ended n v r z h g e =
      let past : length s ≤ r.place = ltb-false r.place (length s) (rw (eq-eqb r.refusal 0 z) at g) in
      rw (steps_ended n s r g, values_end n r.place s past, append-nil v) h

  kept_steps : (n : ℕ) (v : List ℤ) (r : ReadAnswer) → r.refusal ≡ 0 → Kept s v r → Keep n v r r
  unfolding steps values_from
  kept_steps zero v r z h e = rw (append-nil v) h
  kept_steps (suc n) v r z h e = by_going (goes s r) refl (kept_steps n)
    where
      by_going : (b : Bool) → goes s r ≡ b
          → ((w : List ℤ) (q : ReadAnswer) → q.refusal ≡ 0 → Kept s w q → Keep n w q q)
          → Kept s (v ++ values_from (suc n) (drop r.place s)) (steps (suc n) s r)
      by_going true g keep = kept_going n v r h g keep e
      by_going false g keep = kept_ended (suc n) v r z h g e

kept_start : (s : List ℕ) → Kept s [] start
unfolding joined
kept_start s = record { sound = sound_zero; few_rows = omega arith; long = refl; written = refl }

accepted_list : (m : PreferenceList) → Sound m → 0 < m.count → list_refusal m ≡ 0
accepted_list m h some =
    list_none m
    (record {
      some = some;
      few = columns_few m h.columns;
      few_named = h.few_named;
      each_place = λ i n. preference_accepted m i (preference_at m i) (h.each_place i n);
      each_named = h.each_named;
    })

kept_whole : (s : List ℕ) → Bytes s → (records s).refusal ≡ 0 → Kept s (values_of s) (records s)
unfolding records values_of
kept_whole s by z = kept_steps s by (length s) [] start refl (kept_start s) z

module _ (s : List ℕ) (room : ℕ) (by : Bytes s) (e : (read_of s room).refusal ≡ 0) where
  pub write_back : WritesAs (read_of s room).list (values_of s) s
  unfolding stream_of
  write_back =
      let a = read_accepted s room e in
      let k = kept_whole s by a.going_on in
      let m = (records s).list in
      let v = values_of s in
      let rows : row_count v ≡ (records s).rows = omega (arith, k.long) in
      rw a.answer
      (record {
        list_refusal_lem = accepted_list m k.sound a.some;
        log_refusal_lem = accepted_rows v (records s).rows k.long k.few_rows;
        stream =
            ap (λ (n : ℕ). head m ++ joined (row_bytes v) n) rows ∙ k.written
            ∙ ap (λ (n : ℕ). take n s) (records_end s a.going_on) ∙ take_all (length s) s (omega arith);
      })
