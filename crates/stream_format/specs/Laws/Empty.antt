-- Reading gives 1 exactly for the empty stream: the first record is a preference, or it is refused by 2 or 3.
use Rattle.std.specs.Prelude.{◌≡◌, refl, ℕ, zero, suc, ◌*◌, ◌<◌, Bool, not, List, [], ◌∷◌, ltb, length, drop}
use Rattle.std.proofs.Common.{sym, ◌∙◌, arith, pos_of_ne-zero, ne_eqb, eqb-true, ltb-true}
use Rattle.std.proofs.Math.Bool.{true, false}
use Rattle.std.proofs.Math.Dec.{eqb}
use Rattle.std.proofs.lemmas.Bool.{eqb-false, not-false}
use Rattle.laws.specs.Checks.{◌gives◌, ◌then◌}
use Rattle.laws.specs.Laws.Checks.{gives_no}
use Rattle.laws.specs.Laws.Bools.{both, neither, false_true}
use Rattle.constructor.specs.Level.{layering_of}
use Rattle.constructor.specs.Valid.{constructor_refusal, layer_refusal, refusal_under}
use Rattle.constructor.specs.declared.Constructor.{Constructor}
use Rattle.constructor.specs.declared.Layering.{Layering}
use Rattle.constructor.specs.declared.Layering.TheVariants.{Numeric, Layers}
use Rattle.preference.specs.Valid.{column_refusal, preference_refusal}
use Rattle.stream_format.specs.Kinds.{class_of}
use Rattle.stream_format.specs.Read.{last_constructor, is_layers, ends_layered, out_of_place, naming_refusal}
use Rattle.stream_format.specs.Read.{figures_refusal, is_unknown, record_refusal, list_after, refused_at}
use Rattle.stream_format.specs.Read.{unless_refused, with_record, step, steps, start, records, end_refusal, finish}
use Rattle.stream_format.specs.Read.{read_of}
use Rattle.stream_format.specs.Laws.Read.{accepts, step_keeps, steps_keep}
use Rattle.stream_format.specs.Laws.Accepted.{records_end}
use Rattle.stream_format.specs.Kinds.{Class}
use Rattle.stream_format.specs.Kinds.{Unknown, PreferenceRecord, NamedRecord, RunRecord}
use Rattle.stream_format.specs.ReadAnswer.{ReadAnswer}

pub empty_one : (room : ℕ) → read_of [] room ≡ refused_at 1 0
unfolding read_of finish records steps end_refusal ◌gives◌ ◌then◌
empty_one room = refl

-- ---- no record has the number 1

abbrev Other : ℕ → Type 0
Other n = n ≡ 1 → ⊥

gives_other : (b : Bool) (n : ℕ) → Other (b gives (suc (suc n)))
unfolding ◌gives◌
gives_other true n e = absurd (omega arith)
gives_other false n e = absurd (omega arith)

then_other : (a b : ℕ) → Other a → Other b → Other (a then b)
unfolding ◌then◌
then_other zero b h k = k
then_other (suc a) b h k = h

under_other : (y : Layering) (layer : ℕ) → Other (refusal_under y layer)
under_other Numeric layer = λ e. absurd (omega arith)
under_other (Layers top others) layer = gives_other (ltb top layer) 4

layer_other : (c : Constructor) (layer : ℕ) → Other (layer_refusal c layer)
unfolding layer_refusal
layer_other c layer = under_other (layering_of c) layer

figures_other : (class : Class) (r : ReadAnswer) (bs : List ℕ) → Other (figures_refusal class r bs)
unfolding figures_refusal preference_refusal column_refusal constructor_refusal naming_refusal
figures_other Unknown r bs = λ e. absurd (omega arith)
figures_other PreferenceRecord r bs =
    then_other _ _ (then_other _ _ (gives_other _ 3) (gives_other _ 3))
    (then_other _ _ (gives_other _ 4) (gives_other _ 5))
figures_other NamedRecord r bs = then_other _ _ (layer_other _ _) (gives_other _ 5)
figures_other RunRecord r bs = gives_other _ 5

record_other : (r : ReadAnswer) (bs : List ℕ) → Other (record_refusal r bs)
unfolding record_refusal
record_other r bs =
    then_other _ _ (gives_other _ 0)
    (then_other _ _ (gives_other _ 1) (then_other _ _ (gives_other _ 2) (figures_other (class_of bs) r bs)))

-- ---- a record that is accepted leaves a preference

counted : (class : Class) (r : ReadAnswer) (bs : List ℕ) → is_unknown class ≡ false → out_of_place class r ≡ false
    → 0 < (list_after class r.list bs).count
unfolding out_of_place ends_layered
counted Unknown r bs k p = false_true (sym k)
counted PreferenceRecord r bs k p = omega arith
counted NamedRecord r bs k p =
    let l = r.list in
    let e = (neither (ltb 0 r.rows) (not (ends_layered l)) p).1 in
    ltb-true 0 l.count
    (both (ltb 0 l.count) (is_layers (layering_of (last_constructor l))) (not-false (ends_layered l) e)).0
counted RunRecord r bs k p = pos_of_ne-zero (eqb-false r.list.count 0 p)

record Begun (r : ReadAnswer) : Type 0 where
  other : Other r.refusal
  begun : r.refusal ≡ 0 → 0 < r.place → 0 < r.list.count

begun_step : (s : List ℕ) (r : ReadAnswer) → Begun r → Begun (step s r)
unfolding with_record
begun_step s r h =
    let bs = drop r.place s in
    step_keeps Begun s r
    (λ g e. record {
      other = λ q. absurd (omega arith);
      begun = λ z q. counted (class_of bs) r bs (accepts r bs e).known (accepts r bs e).placed;
    })
    (λ k n. record { other = λ q. record_other r bs (n ∙ q); begun = λ z q. absurd (omega arith) })
    (λ g. h)

records_begun : (s : List ℕ) → Begun (records s)
unfolding records
records_begun s =
    steps_keep Begun s (begun_step s) (length s) start
    (record { other = λ q. absurd (omega arith); begun = λ z q. absurd (omega arith) })

end_other : (n place : ℕ) (r : ReadAnswer) → Other n → Other r.refusal → Other (unless_refused n place r).refusal
end_other zero place r h k = k
end_other (suc n) place r h k = h

module _ (b : ℕ) (bs : List ℕ) (room : ℕ) where
  -- what was read of a stream that has a first byte
  abbrev r : ReadAnswer
  r = records (b ∷ bs)

  end_refusal_lem : r.refusal ≡ 0 → Other (end_refusal r room)
  unfolding end_refusal
  end_refusal_lem z =
      let c = (records_begun (b ∷ bs)).begun z (omega (arith, records_end (b ∷ bs) z)) in
      let e : eqb r.list.count 0 gives 1 ≡ 0 =
      gives_no _ 1 (ne_eqb r.list.count 0 (λ q. absurd (omega arith))) in
      then_other _ _ (λ q. absurd (omega arith)) (gives_other (ltb room (8 * r.rows)) 8)

  read_other : (t : Bool) → eqb r.refusal 0 ≡ t → Other (read_of (b ∷ bs) room).refusal
  unfolding read_of finish
  read_other true t =
      rw t (end_other (end_refusal r room) _ r (end_refusal_lem (eqb-true r.refusal 0 t))
      (records_begun (b ∷ bs)).other)
  read_other false t = rw t (records_begun (b ∷ bs)).other

pub one_empty : (s : List ℕ) (room : ℕ) → (read_of s room).refusal ≡ 1 → s ≡ []
one_empty [] room e = refl
one_empty (b ∷ bs) room e = absurd (read_other b bs room (eqb (records (b ∷ bs)).refusal 0) refl e)
