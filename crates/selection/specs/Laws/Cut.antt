-- A program reads so many bytes of a stream that what it prints of them is what it would print of the whole stream: no
-- record begins behind byte 34,334, and none has more than 33.
use Rattle.std.specs.Prelude.{◌≡◌, ℕ, ◌<◌, ◌≤◌, List, length, take}
use Rattle.std.proofs.Common.{sym, ap, ◌∙◌, arith, take_all}
use Rattle.std.proofs.Math.Decide.{dec_lt}
use Rattle.stream_format.specs.Read.{read_of}
use Rattle.stream_format.specs.Laws.Cut.{read_cut, cut_refused}
use Rattle.stream_format.specs.ReadAnswer.{ReadAnswer}

-- what is printed of a stream that cannot be read is told by its number
module _ (text : List ℕ → List ℕ) (refusedAs : ℕ → List ℕ)
    (told : (s : List ℕ) → ((read_of s 8192).refusal ≡ 0 → ⊥) → text s ≡ refusedAs (read_of s 8192).refusal) where
  cut_longer : (n : ℕ) (s : List ℕ) → 34367 ≤ n → n ≤ length s → text (take n s) ≡ text s
  cut_longer n s late long =
      let same : (read_of (take n s) 8192).refusal ≡ (read_of s 8192).refusal =
      ap (λ (r : ReadAnswer). r.refusal) (read_cut s n late long 8192) in
      let refused = cut_refused s n late long 8192 in
      told (take n s) refused ∙ ap refusedAs same ∙ sym (told s (λ z. refused (same ∙ z)))

  -- a stream that is cut there, or ends before
  pub text_cut : (n : ℕ) (s : List ℕ) → 34367 ≤ n → text (take n s) ≡ text s
  text_cut n s late = go (dec_lt (length s) n)
    where
      go : Dec (length s < n) → text (take n s) ≡ text s
      go (yes q) = ap text (take_all n s (omega arith))
      go (no q) = cut_longer n s late (omega arith)
