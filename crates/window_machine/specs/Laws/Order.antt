-- The window stands in the order of its stamps, so the first entry has the smallest timestamp.
use Rattle.std.specs.Prelude.{ℕ, ◌+◌, ◌<◌, refl, Bool, true, false, cond, length, ltb}
use Rattle.std.proofs.Common.{arith, ap, ⊎_elim}
use mathlib.Core.List.Memᴰ
use mathlib.Core.List.{List, [], ◌∷◌, ◌++◌}
use Rattle.window_machine.specs.Order.{Mem, Rising, Ordered}
use Rattle.window_machine.specs.Laws.Lists.{keep_in}
use Rattle.window_machine.specs.Machine.{Entry, State, keep, younger, release, dominated, spares, tick, remove}
use Rattle.window_machine.specs.Machine.{enter, set_aside, place, judge, read, pass, start}

keep_rising : (p : Entry → Bool) (es : List Entry) → Rising es → Rising (keep p es)
unfolding keep
keep_rising p [] h = tt
keep_rising p (x ∷ es) h = go (keep_rising p es h.1) (p x)
  where
    go : Rising (keep p es) → (b : Bool) → Rising (cond b (x ∷ keep p es) (keep p es))
    go r true = ((λ e k. h.0 e (keep_in p es k).0), r)
    go r false = r

push_rising : (es : List Entry) (x : Entry) → Rising es → ((e : Entry) → Mem e es → e.timestamp < x.timestamp)
    → Rising (es ++ (x ∷ []))
push_rising [] x r h = ((λ e k. absurd (Memᴰ.not-nil k)), tt)
push_rising (y ∷ es) x r h = (
  (λ e k. ⊎_elim (λ k'. r.0 e k')
      (λ k'. omega (arith, ap (λ (z : Entry). z.timestamp) (Memᴰ.eq_of_singleton k'), h y (Memᴰ.head refl)))
      (Memᴰ.append_cases es k)),
  push_rising es x r.1 (λ e k. h e (Memᴰ.tail k)),
)

module _ (dom : ℕ → ℕ → Bool) (w : ℕ) where
  pub read_ordered : (x : Entry) (st : State) → Ordered st → Ordered (read dom w x st)
  unfolding read judge place release tick remove enter set_aside dominated
  read_ordered x st g = go (dominated dom x.row kept)
    where
      kept : List Entry
      kept = keep (younger x.timestamp) st.window

      rises₁ : Rising kept
      rises₁ = keep_rising (younger x.timestamp) st.window g.rises

      left : List Entry
      left = keep (spares dom x.row) kept

      rises₂ : Rising left
      rises₂ = keep_rising (spares dom x.row) kept rises₁

      old₁ : (e : Entry) → Mem e kept → e.timestamp < st.clock + 1
      old₁ e k = omega (arith, g.given e (keep_in (younger x.timestamp) st.window k).0)

      old₂ : (e : Entry) → Mem e left → e.timestamp < st.clock + 1
      old₂ e k = old₁ e (keep_in (spares dom x.row) kept k).0

      now : Entry
      now = record { row = x.row; timestamp = st.clock + 1 }

      next : State
      next = remove dom x.row (tick dom x.row (release x.timestamp st))

      go₂ : (b : Bool) → Ordered (cond b (enter x.row next) (set_aside x.row next))
      go₂ true = record {
        rises = push_rising left now rises₂ old₂;
        given = λ e k.
            ⊎_elim (λ (k' : Mem e left). omega (arith, old₂ e k'))
            (λ (k' : Mem e (now ∷ [])). omega
            (arith, ap (λ (z : Entry). z.timestamp) (Memᴰ.eq_of_singleton k')))
            (Memᴰ.append_cases left k);
      }
      go₂ false = record { rises = rises₂; given = λ e k. omega (arith, old₂ e k) }

      go : (b : Bool) → Ordered (cond b (tick dom x.row (release x.timestamp st)) (place w x.row next))
      go true = record { rises = rises₁; given = λ e k. omega (arith, old₁ e k) }
      go false = go₂ (ltb (length next.window) w)

  pub pass_ordered : (xs : List Entry) (st : State) → Ordered st → Ordered (pass dom w xs st)
  unfolding pass
  pass_ordered [] st g = g
  pass_ordered (x ∷ xs) st g = pass_ordered xs (read dom w x st) (read_ordered x st g)

pub start_ordered : (n : ℕ) → Ordered (start n)
unfolding start
start_ordered n = record { rises = tt; given = λ e k. absurd (Memᴰ.not-nil k) }
