-- Document 01, "Window machine", sentence by sentence. `dom a b` says that row a dominates row b (01: betters), w is
-- the window's size. A timestamp is what 01 calls a stamp; the overflow is what a pass has set aside.
use Rattle.std.specs.Prelude.{ℕ, zero, suc, ◌+◌, ◌*◌, Bool, true, false, not, cond, List, [], ◌∷◌, ◌++◌, map, length, set, replicate, ltb}
use Rattle.laws.specs.Lists.{any_of}

-- a row with its timestamp; a row that was not read yet has 0, which is smaller than every timestamp given
pub record Entry : Type 0 where
  pub row : ℕ
  pub timestamp : ℕ

-- "State: a window of up to w entries, a waiting list, a result, a clock from 0." The result is the marks; what waits
-- is handed to a pass
pub record State : Type 0 where
  pub window : List Entry
  pub overflow : List Entry
  pub marks : List ℕ
  pub clock : ℕ
  pub count : ℕ

-- what is left of a list by a test
unfoldable pub keep : (Entry → Bool) → List Entry → List Entry
keep p [] = []
keep p (e ∷ es) = cond (p e) (e ∷ keep p es) (keep p es)

-- the marks with 1 at each entry's row
unfoldable pub marked : List Entry → List ℕ → List ℕ
marked [] m = m
marked (e ∷ es) m = marked es (set m e.row 1)

unfoldable pub older : ℕ → Entry → Bool
older s e = ltb e.timestamp s

unfoldable pub younger : ℕ → Entry → Bool
younger s e = not (older s e)

-- "if r has a stamp, first release to the result every entry whose stamp is smaller"
unfoldable pub release : ℕ → State → State
release s st = record {
  window = keep (younger s) st.window;
  overflow = st.overflow;
  marks = marked (keep (older s) st.window) st.marks;
  clock = st.clock;
  count = st.count;
}

module _ (dom : ℕ → ℕ → Bool) where
  -- an entry dominates row r
  unfoldable pub dominated : ℕ → List Entry → Bool
  dominated r es = any_of (λ e. dom e.row r) es

  -- "Compare r with the entries, smallest stamp first, each compare counted, until one betters r"; the window is in
  -- timestamp order
  unfoldable pub compares : ℕ → List Entry → ℕ
  compares r [] = 0
  compares r (e ∷ es) = suc (cond (dom e.row r) 0 (compares r es))

  -- "Add 1 to the clock.", and the compares to the count
  unfoldable pub tick : ℕ → State → State
  tick r st = record {
    window = st.window;
    overflow = st.overflow;
    marks = st.marks;
    clock = st.clock + 1;
    count = st.count + compares r st.window;
  }

  -- row r does not dominate e
  unfoldable pub spares : ℕ → Entry → Bool
  spares r e = not (dom r e.row)

  -- "Otherwise remove the entries that r betters."
  unfoldable pub remove : ℕ → State → State
  remove r st = record {
    window = keep (spares r) st.window;
    overflow = st.overflow;
    marks = st.marks;
    clock = st.clock;
    count = st.count;
  }

-- "enter r with the clock as stamp"
unfoldable pub enter : ℕ → State → State
enter r st = record {
  window = st.window ++ (record { row = r; timestamp = st.clock } ∷ []);
  overflow = st.overflow;
  marks = st.marks;
  clock = st.clock;
  count = st.count;
}

-- "else set r aside with that stamp"
unfoldable pub set_aside : ℕ → State → State
set_aside r st = record {
  window = st.window;
  overflow = st.overflow ++ (record { row = r; timestamp = st.clock } ∷ []);
  marks = st.marks;
  clock = st.clock;
  count = st.count;
}

-- the rows set aside are the next pass's to read
unfoldable pub renew : State → State
renew st = record {
  window = st.window;
  overflow = [];
  marks = st.marks;
  clock = st.clock;
  count = st.count;
}

-- "releases the window and ends"
unfoldable pub finish : State → State
finish st = record {
  window = [];
  overflow = [];
  marks = marked st.window st.marks;
  clock = st.clock;
  count = st.count;
}

unfoldable pub is_empty : List Entry → Bool
is_empty [] = true
is_empty (e ∷ es) = false

-- "If fewer than w remain, enter r ..; else set r aside"
unfoldable pub place : ℕ → ℕ → State → State
place w r st = cond (ltb (length st.window) w) (enter r st) (set_aside r st)

module _ (dom : ℕ → ℕ → Bool) (w : ℕ) where
  -- ".. until one betters r: then r is dropped. Otherwise .."
  unfoldable pub judge : ℕ → State → State
  judge r st = cond (dominated dom r st.window) (tick dom r st) (place w r (remove dom r (tick dom r st)))

  -- "To read row r"
  unfoldable pub read : Entry → State → State
  read x st = judge x.row (release x.timestamp st)

  -- "Pass one reads all rows in order; a later pass reads what the pass before set aside, in that order."
  unfoldable pub pass : List Entry → State → State
  pass [] st = st
  pass (x ∷ xs) st = pass xs (read x st)

  -- passes, at most `fuel`: "A pass that sets nothing aside releases the window and ends."
  unfoldable pub passes : ℕ → List Entry → State → State
  passes zero xs st = st
  passes (suc fuel) xs st =
      let after = pass xs (renew st) in
      let more = passes fuel after.overflow after in
      cond (is_empty after.overflow) (finish after) more

-- a row that was not read yet
abbrev pub unread : ℕ → Entry
unread r = record { row = r; timestamp = 0 }

-- n marks, all 0
unfoldable pub start : ℕ → State
start n = record { window = []; overflow = []; marks = replicate n 0; clock = 0; count = 0 }

-- more passes than this change nothing (Laws/Ends.antt)
abbrev pub enough : List ℕ → ℕ
enough rows = length rows * length rows + 1

-- the machine on the rows that compete, in order, of a log of n rows; its count is "that of its compares in all passes"
unfoldable pub machine : (ℕ → ℕ → Bool) → ℕ → List ℕ → ℕ → State
machine dom w rows n = passes dom w (enough rows) (map unread rows) (start n)
