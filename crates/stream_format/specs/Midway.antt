-- What reading has at each record: the reader's inner functions ask and promise it of what was read so far.
use Rattle.std.specs.Prelude.{◌≡◌, ℕ, suc, ◌+◌, ◌-◌, ◌<◌, ◌≤◌, cond, List, eqb, length}
use Rattle.preference.specs.List.{preference_at}
use Rattle.preference.specs.declared.PreferenceList.{PreferenceList}
use Rattle.stream_format.specs.Read.{steps, records}
use Rattle.stream_format.specs.ReadAnswer.{ReadAnswer}

abbrev pub column_at : PreferenceList → ℕ → ℕ
column_at l i = (preference_at l i).column

-- the first n of these numbers are below m
abbrev pub Low : (ℕ → ℕ) → ℕ → ℕ → Type 0
Low f n m = (i : ℕ) → i < n → f i < m

-- and no two of them are the same
abbrev pub Apart : (ℕ → ℕ) → ℕ → Type 0
Apart f n = (i j : ℕ) → i < j → j < n → f i ≡ f j → ⊥

-- "each on a column of its own"
pub record Columns (l : PreferenceList) : Type 0 where
  pub places : length l.preferences ≡ 8
  pub low : Low (column_at l) l.count 8
  pub apart : Apart (column_at l) l.count

-- what is left to read
unfoldable pub to_read : List ℕ → ReadAnswer → ℕ
to_read s r = cond (eqb r.refusal 0) (suc (length s) - r.place) 0

-- n steps are enough for what is left
abbrev pub Enough : List ℕ → ReadAnswer → ℕ → Type 0
Enough s r n = r.refusal ≡ 0 → length s ≤ r.place + n

-- reading at r: the steps that are left give what the whole stream gives, and are enough
pub record Midway (s : List ℕ) (r : ReadAnswer) : Type 0 where
  pub left : ℕ
  pub whole : steps left s r ≡ records s
  pub enough : Enough s r left
  pub columns : Columns r.list
