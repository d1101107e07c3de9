-- A refusal that is told with its place: what `map_err` makes of a check's answer, and how a `?` ends with it.
use Rattle.std.specs.Prelude.{◌≡◌, refl, ℕ, Result, Ok, Err}
use Rattle.std.specs.Result.{IsErrAnd}
use Rattle.std.proofs.lemmas.Result.{err_from_is_err_and}
use Rattle.refusal.specs.Refusal.{number}
use Rattle.refusal.specs.declared.Refusal.{Refusal}
use Rattle.stream_format.specs.Read.{refused_at, read_answer}
use Rattle.stream_format.specs.declared.ReadRefusal.{ReadRefusal}
use Rattle.stream_format.specs.declared.StreamRead.{StreamRead}

abbrev pub placed : {A : Type 0} → ℕ → Result A Refusal → Result A ReadRefusal
placed place (Ok x) = Ok x
placed place (Err e) = Err (record { refusal = e; place = place })

pub placed_ok : {A : Type 0} (r : Result A Refusal) (place : ℕ) (x : A) → Ok x ≡ placed place r → r ≡ Ok x
placed_ok (Ok y) place x h = cc
placed_ok (Err e) place x h = cc

pub placed_err : {A : Type 0} (r : Result A Refusal) (place : ℕ) (d : ReadRefusal) (q : Result StreamRead ReadRefusal)
    → Err d ≡ placed place r → IsErrAnd q (λ y. y ≡ d)
    → (r ≡ Err d.refusal) × (read_answer q ≡ refused_at (number d.refusal) place)
placed_err (Ok x) place d q h k = cc
placed_err (Err e) place d q h k =
    let p = err_from_is_err_and q k in
    let f : d ≡ record { refusal = e; place = place } = cc in
    rw (p.1, p.2, f) (refl, refl)
