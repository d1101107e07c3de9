-- Every accepted call leaves the marks of the list and the log at the front of the lent bytes.
use Rattle.std.specs.Prelude.{◌≡◌, ℕ, ◌<◌, List, length, get_or}
use Rattle.std.proofs.Common.{ap, ◌∙◌}
use Rattle.laws.specs.Outcome.{accepted}
use Rattle.run_log.specs.Log.{Log, row_count}
use Rattle.preference.specs.Same.{Same}
use Rattle.preference.specs.declared.PreferenceList.{PreferenceList}
use Rattle.pareto.specs.Best.{mark_at, marks_after}
use Rattle.pareto.specs.Call.{Call, Leaves}
use Rattle.pareto.specs.Laws.Call.{accepted_leaves}
use Rattle.pareto.specs.Laws.Counted.{after_counted}
use Rattle.pareto.specs.Laws.Marks.{mark_there}
use Rattle.lattice.specs.Engine.{lattice_call}
use Rattle.window.specs.Engine.{window_call}
use Rattle.console.specs.Flat.{flat_lattice_call, flat_window_call}
use Rattle.demands.specs.Calls.{AcceptedCall, by_lattice, by_window, by_flat_lattice, by_flat_window}

-- the bytes lent to a call, and that it left the marks at their front
pub record After (l : PreferenceList) (log : Log) (after : List ℕ) : Type 0 where
  pub lent : List ℕ
  pub left : after ≡ marks_after l log lent

call_after : (c : Call) (marks after : List ℕ) (n : ℕ) → Leaves c marks (accepted n) after
    → After c.list c.log after
call_after c marks after n a = record { lent = marks; left = (accepted_leaves c marks n after a).2 }

-- the list of a stream, counted places compared
counted : (m l : PreferenceList) (log' log : Log) (after : List ℕ) → Same m l → log' ≡ log → After m log' after
    → After l log after
counted m l log' log after s e a =
    record {
      lent = a.lent;
      left = a.left ∙ ap (λ (g : Log). marks_after m g a.lent) e ∙ after_counted m l s log a.lent;
    }

pub after_call : (l : PreferenceList) (log : Log) (after : List ℕ) → AcceptedCall l log after → After l log after
after_call l log after (by_lattice marks nodes budget n a) =
    call_after (lattice_call l log (length marks) nodes budget) marks after n a
after_call l log after (by_window marks work w n a) =
    call_after (window_call l log (length marks) work w) marks after n a
after_call l log after (by_flat_lattice s marks budget n e f a) =
    counted _ l _ log after e f (call_after (flat_lattice_call s (length marks) budget) marks after n a)
after_call l log after (by_flat_window s marks w n e f a) =
    counted _ l _ log after e f (call_after (flat_window_call s (length marks) w) marks after n a)

-- a row's byte after the call is its mark
pub call_mark : (l : PreferenceList) (log : Log) (after : List ℕ) → AcceptedCall l log after → (r : ℕ)
    → r < row_count log.values
    → get_or after r 0 ≡ mark_at l log r
call_mark l log after a r h =
    let b = after_call l log after a in
    ap (λ (m : List ℕ). get_or m r 0) b.left ∙ mark_there l log b.lent r h
