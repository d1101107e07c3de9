-- What is read so far, and what a record changes of it, as answers of reading.
use Rattle.std.specs.Prelude.{ℕ, ◌^◌, Result, Ok, Err}
use Rattle.refusal.specs.Refusal.{number}
use Rattle.refusal.specs.declared.Refusal.{Refusal}
use Rattle.stream_format.specs.Read.{reading, refused_at}
use Rattle.stream_format.specs.ReadAnswer.{ReadAnswer}
use Rattle.stream_record_reader.specs.declared.reading.Reading.{Reading}

-- nothing is refused so far
abbrev pub so_far : Reading → ReadAnswer
so_far r = reading r.place r.rows r.list

-- a record at a place is read, or refused
abbrev pub after : ℕ → Result Unit Refusal → Reading → ReadAnswer
after place (Ok none) r = so_far r
after place (Err e) r = refused_at (number e) place

-- no stream is so long, so that a place past a record is still a place
abbrev pub places_end : ℕ
places_end = 2 ^ 63
