-- Document 01, "Runs and records": the table of kinds, and the kind that document 02 adds.
use Rattle.std.specs.Prelude.{ℕ, List, [], ◌∷◌, get_or}

-- what a record says; the table has a row for kind 00, which no record has
pub data Class : Type 0 where
  Unknown : Class
  PreferenceRecord : Class
  NamedRecord : Class
  RunRecord : Class

-- what the kind byte of a record fixes: its class and the bytes of its body
pub record Kind : Type 0 where
  pub class : Class
  pub body : ℕ

-- "07 RUN | eight values | 32"
abbrev pub run_body : ℕ
run_body = 32

-- the bytes of a run's record, and of the longest record of a wish and of a named value: the kind and the body
abbrev pub run_record : ℕ
run_record = 33

abbrev pub wish_record : ℕ
wish_record = 22

abbrev pub named_record : ℕ
named_record = 6

abbrev pub kind : Class → ℕ → Kind
kind class body = record { class = class; body = body }

-- what each kind from 00 on is, and the bytes of its body
unfoldable pub kinds : List Kind
kinds =
    kind Unknown 0 ∷
    -- 01 LOWEST, 02 HIGHEST
    kind PreferenceRecord 13 ∷
    kind PreferenceRecord 13 ∷
    -- 03 AROUND
    kind PreferenceRecord 17 ∷
    -- 04 BETWEEN
    kind PreferenceRecord 21 ∷
    -- 05 LAYERED
    kind PreferenceRecord 3 ∷
    -- 06 NAMED
    kind NamedRecord 5 ∷
    -- 07 RUN
    kind RunRecord run_body ∷
    -- 08, document 02, order 2: "Kind 08, refused by 2 until now, has BETWEEN's body."
    kind PreferenceRecord 21 ∷
    []

unfoldable pub kind_of : ℕ → Kind
kind_of k = get_or kinds k (kind Unknown 0)

-- of the record that a list of bytes begins with
abbrev pub kind_byte : List ℕ → ℕ
kind_byte bs = get_or bs 0 0

abbrev pub class_of : List ℕ → Class
class_of bs = (kind_of (kind_byte bs)).class

abbrev pub body_of : List ℕ → ℕ
body_of bs = (kind_of (kind_byte bs)).body
