-- What a call leaves: the output as it was where a check refuses, and else the stream at its front.
use Rattle.std.specs.Prelude.{◌≡◌, ℕ, List, ℤ, length}
use Rattle.std.proofs.Common.{◌∙◌, ne_eqb}
use Rattle.std.proofs.lemmas.List.Edits.{sets}
use Rattle.refusal.specs.Refusal.{number}
use Rattle.refusal.specs.declared.Refusal.{Refusal}
use Rattle.refusal.specs.Laws.Refusal.{number_some}
use Rattle.preference.specs.declared.PreferenceList.{PreferenceList}
use Rattle.stream_format.specs.Write.{stream_of, write_refusal, out_after}

module _ (l : PreferenceList) (log : List ℤ) (out : List ℕ) where
  pub left_refused : (r : Refusal) → number r ≡ write_refusal l log (length out) → out ≡ out_after l log out
  unfolding out_after
  left_refused r e = rw (ne_eqb (write_refusal l log (length out)) 0 (λ z. number_some r (e ∙ z)))

  pub left_written : write_refusal l log (length out) ≡ 0 → sets out 0 (stream_of l log) ≡ out_after l log out
  unfolding out_after
  left_written z = rw z
