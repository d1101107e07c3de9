-- The machine asks only about rows of its list: dominances that agree below n give the same machine on rows below n.
use Prim.Native.Nat.{ℕ, zero, suc, ◌<◌}
use Rattle.std.specs.Prelude.{◌≡◌, Bool, true, false, ltb, length}
use Rattle.std.proofs.Math.Path.{refl, ap, subst}
use Rattle.std.proofs.Common.{◌∙◌, ⊎_elim}
use Rattle.std.proofs.Math.Bool.{not, cond}
use mathlib.Core.List.Memᴰ
use mathlib.Core.List.{List, [], ◌∷◌, ◌++◌, map, Memᴰ}
use Rattle.laws.specs.Lists.{any_of}
use Rattle.window_machine.specs.Machine.{Entry, State, keep, younger, release, dominated, compares, tick, spares}
use Rattle.window_machine.specs.Machine.{remove, enter, set_aside, place, judge, read, pass, renew, finish}
use Rattle.window_machine.specs.Machine.{is_empty, passes, unread, enough, start, machine}
use Rattle.window_machine.specs.Order.{Mem}
use Rattle.window_machine.specs.Laws.Lists.{keep_in, keep_cong}

-- every row is below n
abbrev Below : ℕ → List Entry → Type 0
Below n es = (e : Entry) → Mem e es → e.row < n

record Rows (n : ℕ) (st : State) : Type 0 where
  occupied : Below n st.window
  aside : Below n st.overflow

push_below : (n : ℕ) (es : List Entry) (x : Entry) → Below n es → x.row < n → Below n (es ++ (x ∷ []))
push_below n es x h l e k =
    ⊎_elim (λ (k' : Mem e es). h e k') (λ (k' : Mem e (x ∷ [])). rw (Memᴰ.eq_of_singleton k') l)
    (Memᴰ.append_cases es k)

keep_below : (n : ℕ) (p : Entry → Bool) (es : List Entry) → Below n es → Below n (keep p es)
keep_below n p es h e k = h e (keep_in p es k).0

module _ (dom : ℕ → ℕ → Bool) (w n : ℕ) where
  read_rows : (x : Entry) → x.row < n → (st : State) → Rows n st → Rows n (read dom w x st)
  unfolding read judge place release tick remove enter set_aside dominated
  read_rows x l st g = go (dominated dom x.row kept)
    where
      kept : List Entry
      kept = keep (younger x.timestamp) st.window

      in_kept : Below n kept
      in_kept = keep_below n (younger x.timestamp) st.window g.occupied

      left : List Entry
      left = keep (spares dom x.row) kept

      in_left : Below n left
      in_left = keep_below n (spares dom x.row) kept in_kept

      next : State
      next = remove dom x.row (tick dom x.row (release x.timestamp st))

      go₂ : (b : Bool) → Rows n (cond b (enter x.row next) (set_aside x.row next))
      go₂ true = record { occupied = push_below n left _ in_left l; aside = g.aside }
      go₂ false = record { occupied = in_left; aside = push_below n st.overflow _ g.aside l }

      go : (b : Bool) → Rows n (cond b (tick dom x.row (release x.timestamp st)) (place w x.row next))
      go true = record { occupied = in_kept; aside = g.aside }
      go false = go₂ (ltb (length next.window) w)

  pass_rows : (xs : List Entry) → Below n xs → (st : State) → Rows n st → Rows n (pass dom w xs st)
  unfolding pass
  pass_rows [] h st g = g
  pass_rows (x ∷ xs) h st g =
      pass_rows xs (λ e k. h e (Memᴰ.tail k)) (read dom w x st) (read_rows x (h x (Memᴰ.head refl)) st g)

module _ (dom dom' : ℕ → ℕ → Bool) (w n : ℕ) (same : (a b : ℕ) → a < n → b < n → dom a b ≡ dom' a b) where
  dominated_agree : (r : ℕ) → r < n → (es : List Entry) → Below n es → dominated dom r es ≡ dominated dom' r es
  unfolding dominated any_of
  dominated_agree r l [] h = refl
  dominated_agree r l (e ∷ es) h =
      rw (same e.row r (h e (Memᴰ.head refl)) l, dominated_agree r l es (λ f k. h f (Memᴰ.tail k)))

  compares_agree : (r : ℕ) → r < n → (es : List Entry) → Below n es → compares dom r es ≡ compares dom' r es
  unfolding compares
  compares_agree r l [] h = refl
  compares_agree r l (e ∷ es) h =
      rw (same e.row r (h e (Memᴰ.head refl)) l, compares_agree r l es (λ f k. h f (Memᴰ.tail k)))

  spared_agree : (r : ℕ) → r < n → (es : List Entry) → Below n es → keep (spares dom r) es ≡ keep (spares dom' r) es
  unfolding spares
  spared_agree r l es h = keep_cong (spares dom r) (spares dom' r) es (λ e k. ap not (same r e.row l (h e k)))

  judge_agree : (r : ℕ) → r < n → (st : State) → Below n st.window → judge dom w r st ≡ judge dom' w r st
  unfolding judge tick remove
  judge_agree r l st h =
      rw (dominated_agree r l st.window h, compares_agree r l st.window h, spared_agree r l st.window h)

  pass_agree : (xs : List Entry) → Below n xs → (st : State) → Rows n st → pass dom w xs st ≡ pass dom' w xs st
  unfolding pass read release
  pass_agree [] h st g = refl
  pass_agree (x ∷ xs) h st g =
      let l = h x (Memᴰ.head refl) in
      ap (pass dom w xs)
      (judge_agree x.row l (release x.timestamp st)
      (keep_below n (younger x.timestamp) st.window g.occupied))
      ∙ pass_agree xs (λ e k. h e (Memᴰ.tail k)) (read dom' w x st) (read_rows dom' w n x l st g)

  passes_agree : (fuel : ℕ) (xs : List Entry) → Below n xs → (st : State) → Below n st.window
      → passes dom w fuel xs st ≡ passes dom' w fuel xs st
  unfolding passes renew
  passes_agree zero xs h st g = refl
  passes_agree (suc fuel) xs h st g =
      let after = pass dom' w xs (renew st) in
      let none : Rows n (renew st) = record { occupied = g; aside = λ e k. absurd (Memᴰ.not-nil k) } in
      let r = pass_rows dom' w n xs h (renew st) none in
      rw (pass_agree xs h (renew st) none)
      (ap (λ (st' : State). cond (is_empty after.overflow) (finish after) st')
      (passes_agree fuel after.overflow r.aside after r.occupied))

  pub machine_agree : (rows : List ℕ) → ((r : ℕ) → Memᴰ r rows → r < n)
      → machine dom w rows n ≡ machine dom' w rows n
  unfolding machine start
  machine_agree rows below =
      passes_agree (enough rows) (map unread rows)
      (λ e k. let z = Memᴰ.of_map unread rows k in subst (λ (f : Entry). f.row < n) z.2 (below z.0 z.1))
      (start n) (λ e k. absurd (Memᴰ.not-nil k))
