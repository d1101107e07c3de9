-- What reading a stream gives, as document 01 has it: "It returns the number (0 if accepted), the byte place of the
-- record (for 0, 1 and 10, the stream's length), the rows read and the wish list, both zero on refusal".
use Rattle.std.specs.Prelude.{ℕ}
use Rattle.preference.specs.declared.PreferenceList.{PreferenceList}

pub record ReadAnswer : Type 0 where
  pub refusal : ℕ
  pub place : ℕ
  pub rows : ℕ
  pub list : PreferenceList
