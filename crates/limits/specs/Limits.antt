-- The limits of document 01, each with its sentence. Code has them from src/lib.rt under the same names.
use Rattle.std.specs.Prelude.{ℕ, ◌+◌, ◌*◌, ◌^◌}

-- "A run is eight signed 32-bit numbers, columns 0 to 7"
abbrev pub columns : ℕ
columns = 8

-- "at most 1,024 rows"
abbrev pub max_runs : ℕ
max_runs = 1024

-- how many numbers the longest log has: "eight to a row"
abbrev pub max_values : ℕ
max_values = columns * max_runs

-- "wishes, one to eight in a list"
abbrev pub max_wishes : ℕ
max_wishes = 8

-- "The wish list holds its eight places and 64 named values"
abbrev pub max_named : ℕ
max_named = 64

-- "top layer (1 to 15)"
abbrev pub max_layer : ℕ
max_layer = 15

-- 7: "M above 65,535"
abbrev pub greatest_level : ℕ
greatest_level = 65535

-- how many levels there are up to the greatest
abbrev pub level_count : ℕ
level_count = greatest_level + 1

-- 9: "more than 32,768 nodes"
abbrev pub max_nodes : ℕ
max_nodes = 32768

-- "the lattice engine with budget 262,144", which no log exceeds (lattice/specs/Theorems.antt)
abbrev pub enough_budget : ℕ
enough_budget = 262144

-- 10: "w not 1 to 1,024"
abbrev pub max_window : ℕ
max_window = 1024

-- "The work list, at least 2 × (rows + w) numbers of 32 bits"
abbrev pub max_work : ℕ
max_work = 2 * (max_runs + max_window)

-- "or the window engine with w 64 where refusal 9 would come"
abbrev pub program_window : ℕ
program_window = 64

-- how many bytes the longest accepted stream has (stream_roundtrip/specs/Theorems.antt)
abbrev pub max_stream_bytes : ℕ
max_stream_bytes = 34334

-- how many bytes the longest shift sheet has: 1,024 runs on 21 pages, 102 bytes a line (document 02, order 1;
-- sheet_pages/specs/Laws/Pages.antt: `pages_short`)
abbrev pub max_sheet_bytes : ℕ
max_sheet_bytes = 108732

-- a number of 32 bits is below this
abbrev pub u32_end : ℕ
u32_end = 2 ^ 32

-- a place in memory is below this: it has 64 bits
abbrev pub usize_end : ℕ
usize_end = 2 ^ 64
