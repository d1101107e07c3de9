-- The flat calls, from what reading answers and what an engine leaves.
use Rattle.std.specs.Prelude.{◌≡◌, ℕ, ◌*◌, List, ℤ, length, take}
use Rattle.std.proofs.Common.{ap, ◌∙◌}
use Rattle.laws.specs.Outcome.{Outcome, refused}
use Rattle.refusal.specs.Refusal.{number}
use Rattle.refusal.specs.declared.Refusal.{Refusal}
use Rattle.preference.specs.declared.PreferenceList.{PreferenceList}
use Rattle.run_log.specs.Log.{log_of}
use Rattle.pareto.specs.Call.{counting, Leaves}
use Rattle.stream_format.specs.Read.{read_of}
use Rattle.lattice.specs.Engine.{lattice_call}
use Rattle.window.specs.Engine.{window_call}
use Rattle.selection.specs.Stream.{list_in, log_in}
use Rattle.selection.specs.Laws.Stream.{stream_refused, stream_read}
use Rattle.console.specs.Flat.{flat_lattice_call, flat_window_call}

-- a stream that reading refuses
module _ (s marks marks' : List ℕ) (figure : ℕ) (told : Outcome ℕ) (r : Refusal) (t : told ≡ refused (number r))
    (kept : marks' ≡ marks) (e : number r ≡ (read_of s 8192).refusal)
  where
    pub lattice_refused : Leaves (flat_lattice_call s (length marks) figure) marks told marks'
    lattice_refused =
        rw (t, kept) (stream_refused s (λ l log. counting (lattice_call l log (length marks) 32768 figure)) marks r e)

    pub window_refused : Leaves (flat_window_call s (length marks) figure) marks told marks'
    window_refused =
        rw (t, kept) (stream_refused s (λ l log. counting (window_call l log (length marks) 4096 figure)) marks r e)

-- a stream that it accepts
module _ (s marks marks' : List ℕ) (figure : ℕ) (told ends : Outcome ℕ) (l : PreferenceList) (rows : ℕ)
    (xs numbers : List ℤ) (t : told ≡ ends) where
  pub lattice_read : Leaves (counting (lattice_call l (log_of xs) (length marks) 32768 figure)) marks ends marks'
      → 0 ≡ (read_of s 8192).refusal → l ≡ list_in s → xs ≡ take (8 * rows) numbers
      → take (8 * rows) numbers ≡ (log_in s).values
      → Leaves (flat_lattice_call s (length marks) figure) marks told marks'
  lattice_read b e p q v =
      rw t (stream_read s (λ l log. counting (lattice_call l log (length marks) 32768 figure)) marks l _ ends marks' e p
      (ap log_of (q ∙ v)) b)

  pub window_read : Leaves (counting (window_call l (log_of xs) (length marks) 4096 figure)) marks ends marks'
      → 0 ≡ (read_of s 8192).refusal → l ≡ list_in s → xs ≡ take (8 * rows) numbers
      → take (8 * rows) numbers ≡ (log_in s).values
      → Leaves (flat_window_call s (length marks) figure) marks told marks'
  window_read b e p q v =
      rw t (stream_read s (λ l log. counting (window_call l log (length marks) 4096 figure)) marks l _ ends marks' e p
      (ap log_of (q ∙ v)) b)
