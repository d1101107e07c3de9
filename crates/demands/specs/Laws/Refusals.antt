-- The numbers that each call can give: 0, or one of its list.
use Rattle.std.specs.Prelude.{◌≡◌, refl, ℕ, zero, suc, Bool, true, false, cond, List, [], ◌∷◌, eqb, ℤ, length, get_or, drop}
use Rattle.std.proofs.Common.{sym, ap, ◌∙◌, eqb-true}
use Rattle.laws.specs.Lists.{any_of}
use Rattle.run_log.specs.Log.{Log, log_refusal, marks_refusal, mark_values_refusal}
use Rattle.preference.specs.Level.{level_refusal}
use Rattle.preference.specs.declared.PreferenceList.{PreferenceList}
use Rattle.pareto.specs.Checked.{checked_refusal}
use Rattle.pareto.specs.Refusals.{Among, checked_refusals}
use Rattle.pareto.specs.Laws.Refusals.{within, wider, none_among, gives_among, then_among, layer_among}
use Rattle.pareto.specs.Laws.Refusals.{preference_among}
use Rattle.pareto.specs.Laws.Refusals.{value_among, list_in_lem, checked_among}
use Rattle.stream_format.specs.Read.{last_constructor, naming_refusal, figures_refusal, record_refusal, unless_refused}
use Rattle.stream_format.specs.Read.{with_record}
use Rattle.stream_format.specs.Read.{step, start, records, end_refusal, finish, read_of}
use Rattle.stream_format.specs.Write.{write_refusal}
use Rattle.stream_format.specs.Laws.Read.{step_keeps, steps_keep}
use Rattle.stream_format.specs.Kinds.{Class}
use Rattle.stream_format.specs.Kinds.{Unknown, PreferenceRecord, NamedRecord, RunRecord}
use Rattle.stream_format.specs.ReadAnswer.{ReadAnswer}
use Rattle.lattice.specs.Engine.{lattice_refusal}
use Rattle.lattice.specs.Laws.Checked.{marks_among}
use Rattle.window.specs.Engine.{sizes_refusal, window_refusal}
use Rattle.dominator.specs.Engine.{dominator_refusal}
use Rattle.sheet_pages.specs.Call.{handed_refusal, room_refusal, sheet_refusal}
use Rattle.demands.specs.Refusals.{level_refusals, read_refusals, write_refusals, lattice_refusals, window_refusals}
use Rattle.demands.specs.Refusals.{dominator_refusals, sheet_refusals}

pub lattice_among : (l : PreferenceList) (log : Log) (marks nodes budget : ℕ)
    → Among (0 ∷ lattice_refusals) (lattice_refusal l log marks nodes budget)
unfolding lattice_refusal within any_of
lattice_among l log marks nodes budget =
    let ns = lattice_refusals in
    then_among ns _ _
    (wider (0 ∷ checked_refusals) (0 ∷ ns) (checked_refusal l log (marks_refusal log.values marks)) refl
    (marks_among l log marks))
    (then_among ns _ _ (gives_among ns _ 9 refl)
    (then_among ns _ _ (gives_among ns _ 10 refl) (gives_among ns _ 11 refl)))

pub window_among : (l : PreferenceList) (log : Log) (marks work w : ℕ)
    → Among (0 ∷ window_refusals) (window_refusal l log marks work w)
unfolding window_refusal sizes_refusal any_of
window_among l log marks work w =
    let ns = window_refusals in
    checked_among l log (sizes_refusal log marks work w)
    (then_among ns _ _ (gives_among ns _ 10 refl)
    (then_among ns _ _ (gives_among ns _ 10 refl) (gives_among ns _ 10 refl)))

pub dominator_among : (l : PreferenceList) (log : Log) (row : ℕ)
    → Among (0 ∷ dominator_refusals) (dominator_refusal l log row)
unfolding dominator_refusal within any_of
dominator_among l log row =
    let ns = dominator_refusals in
    then_among ns _ _
    (wider (0 ∷ checked_refusals) (0 ∷ ns) (checked_refusal l log 0) refl
    (checked_among l log 0 (none_among checked_refusals)))
    (then_among ns _ _ (gives_among ns _ 12 refl) (gives_among ns _ 13 refl))

pub level_among : (l : PreferenceList) (i : ℕ) (v : ℤ) → Among (0 ∷ level_refusals) (level_refusal l i v)
unfolding level_refusal within any_of
level_among l i v =
    let ns = level_refusals in
    then_among ns _ _ (list_in_lem ns refl l) (then_among ns _ _ (gives_among ns _ 10 refl) (value_among ns refl l i v))

pub write_among : (l : PreferenceList) (log : List ℤ) (room : ℕ) → Among (0 ∷ write_refusals) (write_refusal l log room)
unfolding write_refusal log_refusal within any_of
write_among l log room =
    let ns = write_refusals in
    then_among ns _ _ (list_in_lem ns refl l) (then_among ns _ _ (gives_among ns _ 10 refl) (gives_among ns _ 10 refl))

pub sheet_among : (log : List ℤ) (marks : List ℕ) (room : ℕ) → Among (0 ∷ sheet_refusals) (sheet_refusal log marks room)
unfolding sheet_refusal handed_refusal room_refusal log_refusal mark_values_refusal any_of
sheet_among log marks room =
    let ns = sheet_refusals in
    then_among ns _ _
    (then_among ns _ _ (gives_among ns _ 10 refl)
    (then_among ns _ _ (gives_among ns _ 10 refl) (gives_among ns _ 14 refl)))
    (gives_among ns _ 15 refl)

-- ---- reading

abbrev pub record_refusals : List ℕ
record_refusals = 2 ∷ 3 ∷ 4 ∷ 5 ∷ 6 ∷ 7 ∷ []

figures_among : (class : Class) (r : ReadAnswer) (bs : List ℕ)
    → Among (0 ∷ record_refusals) (figures_refusal class r bs)
unfolding figures_refusal naming_refusal any_of
figures_among Unknown r bs = refl
figures_among PreferenceRecord r bs = preference_among record_refusals refl refl refl r.list _ _
figures_among NamedRecord r bs =
    then_among record_refusals _ _ (layer_among record_refusals refl refl (last_constructor r.list) (get_or bs 5 0))
    (gives_among record_refusals _ 7 refl)
figures_among RunRecord r bs = gives_among record_refusals _ 7 refl

record_among : (r : ReadAnswer) (bs : List ℕ) → Among (0 ∷ record_refusals) (record_refusal r bs)
unfolding record_refusal any_of
record_among r bs =
    let ns = record_refusals in
    then_among ns _ _ (gives_among ns _ 2 refl)
    (then_among ns _ _ (gives_among ns _ 3 refl) (then_among ns _ _ (gives_among ns _ 4 refl) (figures_among _ r bs)))

step_among : (s : List ℕ) (r : ReadAnswer) → Among (0 ∷ record_refusals) r.refusal
    → Among (0 ∷ record_refusals) (step s r).refusal
unfolding with_record
step_among s r h =
    step_keeps (λ (a : ReadAnswer). Among (0 ∷ record_refusals) a.refusal) s r
    (λ g e. none_among record_refusals)
    (λ k e. ap (λ (j : ℕ). any_of (eqb j) (0 ∷ record_refusals)) (sym e) ∙ record_among r (drop r.place s))
    (λ g. h)

records_among : (s : List ℕ) → Among (0 ∷ record_refusals) (records s).refusal
unfolding records
records_among s =
    steps_keep (λ (a : ReadAnswer). Among (0 ∷ record_refusals) a.refusal) s (step_among s) (length s) start
    (none_among record_refusals)

-- where the end gives one of a list that has a record's numbers
pub read_in : (ns : List ℕ) → within (0 ∷ record_refusals) (0 ∷ ns) ≡ true → (s : List ℕ) (room : ℕ)
    → ((records s).refusal ≡ 0 → Among (0 ∷ ns) (end_refusal (records s) room))
    → Among (0 ∷ ns) (read_of s room).refusal
unfolding read_of finish
read_in ns w s room h = go (eqb (records s).refusal 0) refl
  where
    all : Among (0 ∷ ns) (records s).refusal
    all = wider (0 ∷ record_refusals) (0 ∷ ns) (records s).refusal w (records_among s)

    unless : (n place : ℕ) → Among (0 ∷ ns) n → Among (0 ∷ ns) (unless_refused n place (records s)).refusal
    unless zero place k = all
    unless (suc n) place k = k

    go : (t : Bool) → eqb (records s).refusal 0 ≡ t
        → Among (0 ∷ ns)
        (cond t (unless_refused (end_refusal (records s) room) (length s) (records s)) (records s)).refusal
    go true e = unless (end_refusal (records s) room) (length s) (h (eqb-true (records s).refusal 0 e))
    go false e = all

pub read_among : (s : List ℕ) (room : ℕ) → Among (0 ∷ read_refusals) (read_of s room).refusal
unfolding end_refusal within any_of
read_among s room =
    let ns = read_refusals in
    read_in ns refl s room (λ z. then_among ns _ _ (gives_among ns _ 1 refl) (gives_among ns _ 10 refl))
