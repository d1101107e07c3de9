-- Reading over runs: a whole run that the log has room for changes the place and the rows alone.
use Rattle.std.specs.Prelude.{◌≡◌, ℕ, ◌+◌, ◌<◌, ◌≤◌, true, leb, List, length, get_or, drop}
use Rattle.std.proofs.Common.{ap, ◌∙◌, arith, length-drop}
use native.Mathlib.Nat.{add-zero}
use lib.Seq.{get_or-drop}
use borrow.Author.Tests.{lt-ltb, lt-leb, ne_eqb}
use Rattle.laws.specs.Checks.{◌gives◌, ◌then◌}
use Rattle.preference.specs.declared.PreferenceList.{PreferenceList}
use Rattle.stream_format.specs.Kinds.{Kind, RunRecord, kind, kinds, kind_of, kind_byte}
use Rattle.stream_format.specs.Read.{is_unknown, out_of_place, figures_refusal, record_refusal, list_after, rows_after}
use Rattle.stream_format.specs.Read.{reading, with_record, goes, step}
use Rattle.stream_format.specs.Midway.{Midway, to_read}
use Rattle.stream_format.specs.Laws.Read.{step_goes, midway_step, to_read_falls}
use Rattle.stream_format.specs.ReadAnswer.{ReadAnswer}

module _ (s : List ℕ) (place rows : ℕ) (l : PreferenceList) (wish : 0 < l.count) (seven : get_or s place 0 ≡ 7) (whole : place + 33 ≤ length s)
    (room : rows < 1024) where
  abbrev bs : List ℕ
  bs = drop place s

  is_run : kind_of (kind_byte bs) ≡ kind RunRecord 32
  unfolding kind_of kinds
  is_run = ap kind_of (get_or-drop place s 0 0 ∙ ap (λ (k : ℕ). get_or s k 0) (add-zero place) ∙ seven)

  here : goes s (reading place rows l) ≡ true
  here = lt-ltb place (length s) (omega (arith, whole))

  accepted : record_refusal (reading place rows l) bs ≡ 0
  unfolding record_refusal out_of_place figures_refusal ◌gives◌ ◌then◌
  accepted =
      let r = reading place rows l in
      ap (λ (k : Kind). is_unknown k.class gives 2 then out_of_place k.class r gives 3 then leb (length bs) k.body gives 4
      then figures_refusal k.class r bs) is_run
      ∙ rw (
        ne_eqb l.count 0 (λ e. absurd (omega (arith, e, wish))),
        lt-leb (length bs) 32 (omega (arith, whole, length-drop place s)),
        lt-leb 1024 rows room,
      )

  after : with_record (reading place rows l) bs ≡ reading (place + 33) (rows + 1) l
  unfolding with_record
  after = ap (λ (k : Kind). reading (place + (1 + k.body)) (rows_after k.class rows) (list_after k.class l bs)) is_run

  run_step : step s (reading place rows l) ≡ reading (place + 33) (rows + 1) l
  run_step =
      step_goes (λ (a : ReadAnswer). a ≡ reading (place + 33) (rows + 1) l) s (reading place rows l) here (λ e. after)
      (λ k e. absurd (omega (arith, accepted, e)))

  -- reading goes on after the run, and less is left
  pub midway_run : Midway s (reading place rows l) → Midway s (reading (place + 33) (rows + 1) l)
  midway_run m = rw run_step at (midway_step s (reading place rows l) here m)

  pub run_falls : to_read s (reading (place + 33) (rows + 1) l) < to_read s (reading place rows l)
  run_falls = rw run_step at (to_read_falls s (reading place rows l) here)
