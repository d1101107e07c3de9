-- What holds between two reads: the rows alive (marked, in the window or waiting) are apart where it matters, and reach
-- every row of the list.
use Rattle.std.specs.Prelude.{ℕ, ◌+◌, ◌≤◌, ◌<◌, ◌≡◌, ◌⊎◌, Bool, cond, length, get_or, ltb}
use Rattle.std.proofs.Common.{arith, sym, ap, ◌∙◌, ⊎_elim}
use Rattle.std.proofs.Math.Path.{refl}
use Rattle.std.proofs.Math.Logic.{inl, inr}
use Rattle.std.proofs.Math.Bool.{true, false, not}
use mathlib.Core.List.Memᴰ
use mathlib.Core.List.{List, [], ◌∷◌, ◌++◌, append_assoc}
use borrow.Author.Tests.{ltb-true, not-true}
use Rattle.window_machine.specs.Order.{Mem}
use Rattle.window_machine.specs.Laws.Lists.{Out, RowOf, keep_in, in_keep, length_marked, marked_bits, marked_old}
use Rattle.window_machine.specs.Laws.Lists.{marked_new, marked_cases}
use Rattle.window_machine.specs.Laws.Members.{any_member, member_none}
use Rattle.window_machine.specs.Machine.{Entry, State, keep, marked, older, younger, release, dominated, spares}
use Rattle.window_machine.specs.Machine.{tick, remove, enter, set_aside, place, judge, read, pass}

-- row j is in the result, in the window or waiting
pub data Alive (Q W : List Entry) (m : List ℕ) (j : ℕ) : Type 0 where
  out : Out m j → Alive Q W m j
  occupied : (e : Entry) → Mem e W → e.row ≡ j → Alive Q W m j
  waits : (e : Entry) → Mem e Q → e.row ≡ j → Alive Q W m j

-- the timestamps of the rows that wait never fall
abbrev pub Sorted : List Entry → Type 0
Sorted [] = Unit {0}
Sorted (x ∷ xs) = ((e : Entry) → Mem e xs → x.timestamp ≤ e.timestamp) × Sorted xs

sorted_push : (Q : List Entry) (x : Entry) → Sorted Q → ((e : Entry) → Mem e Q → e.timestamp ≤ x.timestamp)
    → Sorted (Q ++ (x ∷ []))
sorted_push [] x s h = ((λ e k. absurd (Memᴰ.not-nil k)), tt)
sorted_push (y ∷ Q) x s h = (
  (λ e k. ⊎_elim (λ k'. s.0 e k')
      (λ k'. omega (arith, ap (λ (z : Entry). z.timestamp) (Memᴰ.eq_of_singleton k'), h y (Memᴰ.head refl)))
      (Memᴰ.append_cases Q k)),
  sorted_push Q x s.1 (λ e k. h e (Memᴰ.tail k)),
)

module _ (dom : ℕ → ℕ → Bool) where
  abbrev pub Apart : ℕ → ℕ → Type 0
  Apart i j = (dom i j ≡ false) × (dom j i ≡ false)

  abbrev pub Reaches : ℕ → ℕ → Type 0
  Reaches x j = (x ≡ j) ⊎ (dom x j ≡ true)

  -- every row of In is alive, or an alive row dominates it
  abbrev pub Covers : (ℕ → Type 0) → List Entry → List Entry → List ℕ → Type 0
  Covers In Q W m = (j : ℕ) → In j → (x : ℕ) × Alive Q W m x × Reaches x j

  -- rows Q wait, W is the window, m the marks, t the clock: entries are apart from each other and from the rows that
  -- met them, marked rows from all that are alive
  pub record Inv (In : ℕ → Type 0) (n : ℕ) (Q W : List Entry) (m : List ℕ) (t : ℕ) : Type 0 where
    pub len : length m ≡ n
    pub bits : (i : ℕ) → get_or m i 0 ≤ 1
    pub in_q : (e : Entry) → Mem e Q → (e.row < n) × (e.timestamp ≤ t)
    pub in_w : (e : Entry) → Mem e W → (e.row < n) × (e.timestamp ≤ t)
    pub order : Sorted Q
    pub apart_w : (e f : Entry) → Mem e W → Mem f W → dom e.row f.row ≡ false
    pub apart_q : (e q : Entry) → Mem e W → Mem q Q → e.timestamp < q.timestamp → Apart e.row q.row
    pub apart_m : (i j : ℕ) → Out m i → Alive Q W m j → Apart i j
    pub real : (j : ℕ) → Alive Q W m j → In j
    pub cover : Covers In Q W m

  -- the same of a state, with the rows of the pass that are still to be read
  abbrev pub InvS : (ℕ → Type 0) → ℕ → List Entry → State → Type 0
  InvS In n xs st = Inv In n (xs ++ st.overflow) st.window st.marks st.clock

  dominator : (r : ℕ) (W : List Entry) → dominated dom r W ≡ true → (e : Entry) × Mem e W × (dom e.row r ≡ true)
  unfolding dominated
  dominator r W = any_member (λ e. dom e.row r) W

  undominated_by : (r : ℕ) (W : List Entry) → dominated dom r W ≡ false → (e : Entry) → Mem e W → dom e.row r ≡ false
  unfolding dominated
  undominated_by r W h e = member_none (λ e. dom e.row r) W h

  module _ (irr : (i : ℕ) → dom i i ≡ false)
      (trans : (i j k : ℕ) → dom i j ≡ true → dom j k ≡ true → dom i k ≡ true) where
    reach : (y x j : ℕ) → Reaches y x → Reaches x j → Reaches y j
    reach y x j (inl p) (inl q) = inl (p ∙ q)
    reach y x j (inl p) (inr q) = inr (ap (λ (z : ℕ). dom z j) p ∙ q)
    reach y x j (inr p) (inl q) = inr (ap (λ (z : ℕ). dom y z) (sym q) ∙ p)
    reach y x j (inr p) (inr q) = inr (trans y x j p q)

    -- every row that was alive is reached by one that is alive now
    abbrev Follows : (Q W : List Entry) (m : List ℕ) (Q' W' : List Entry) (m' : List ℕ) → Type 0
    Follows Q W m Q' W' m' = (x : ℕ) → Alive Q W m x → (y : ℕ) × Alive Q' W' m' y × Reaches y x

    cover_step : {In : ℕ → Type 0} {Q W Q' W' : List Entry} {m m' : List ℕ} → Follows Q W m Q' W' m' → Covers In Q W m
        → Covers In Q' W' m'
    cover_step f c j l =
        let a = c j l in
        let b = f a.0 a.1 in
        (b.0, b.1, reach b.0 a.0 j b.2 a.2)

    module _ {In : ℕ → Type 0} {n t : ℕ} {x : Entry} {Q W : List Entry} {m : List ℕ} (v : Inv In n (x ∷ Q) W m t) where
      least : (q : Entry) → Mem q (x ∷ Q) → x.timestamp ≤ q.timestamp
      least q k =
          ⊎_elim (λ (i : q ≡ x). omega (arith, ap (λ (z : Entry). z.timestamp) i)) (λ (k' : Mem q Q). v.order.0 q k')
          (Memᴰ.cases_cons k)

      back : (j : ℕ) → Alive (x ∷ Q) (keep (younger x.timestamp) W) (marked (keep (older x.timestamp) W) m) j
          → Alive (x ∷ Q) W m j
      back j (out o) =
          ⊎_elim (λ (p : Out m j). out p) (λ z. occupied z.0 (keep_in (older x.timestamp) W z.1).0 z.2)
          (marked_cases (keep (older x.timestamp) W) m j o)
      back j (occupied e k q) = occupied e (keep_in (younger x.timestamp) W k).0 q
      back j (waits e k q) = waits e k q

      onward : (j : ℕ) → Alive (x ∷ Q) W m j
          → Alive (x ∷ Q) (keep (younger x.timestamp) W) (marked (keep (older x.timestamp) W) m) j
      unfolding younger
      onward j (out o) = out (marked_old (keep (older x.timestamp) W) m j o)
      onward j (occupied e k q) = go (older x.timestamp e) refl
        where
          go : (b : Bool) → older x.timestamp e ≡ b
              → Alive (x ∷ Q) (keep (younger x.timestamp) W) (marked (keep (older x.timestamp) W) m) j
          go true i =
              out (rw q at
              (marked_new (keep (older x.timestamp) W) m (in_keep (older x.timestamp) W k i)
              (rw v.len (v.in_w e k).0)))
          go false i = occupied e (in_keep (younger x.timestamp) W k (ap not i)) q
      onward j (waits e k q) = waits e k q

      -- an entry older than every waiting row is apart from every row alive
      free : (e : Entry) → Mem e W → older x.timestamp e ≡ true → (j : ℕ) → Alive (x ∷ Q) W m j → Apart e.row j
      unfolding older
      free e k o j (out p) = let a = v.apart_m j e.row p (occupied e k refl) in (a.1, a.0)
      free e k o j (occupied f l q) = rw (← q) (v.apart_w e f k l, v.apart_w f e l k)
      free e k o j (waits f l q) =
          rw (← q) (v.apart_q e f k l (omega (arith, least f l, ltb-true e.timestamp x.timestamp o)))

      released : Inv In n (x ∷ Q) (keep (younger x.timestamp) W) (marked (keep (older x.timestamp) W) m) t
      released = record {
        len = length_marked (keep (older x.timestamp) W) m ∙ v.len;
        bits = marked_bits (keep (older x.timestamp) W) m v.bits;
        in_q = v.in_q;
        in_w = λ e k. v.in_w e (keep_in (younger x.timestamp) W k).0;
        order = v.order;
        apart_w =
            λ e f k l. v.apart_w e f (keep_in (younger x.timestamp) W k).0
            (keep_in (younger x.timestamp) W l).0;
        apart_q = λ e q k l s. v.apart_q e q (keep_in (younger x.timestamp) W k).0 l s;
        apart_m = λ i j o a. ⊎_elim
            (λ (p : Out m i). v.apart_m i j p (back j a))
            (λ (z : RowOf (keep (older x.timestamp) W) i). let y = keep_in (older x.timestamp) W z.1 in
            rw z.2 at (free z.0 y.0 y.1 j (back j a)))
            (marked_cases (keep (older x.timestamp) W) m i o);
        real = λ j a. v.real j (back j a);
        cover = cover_step (λ y a. (y, onward y a, inl refl)) v.cover;
      }

      dropped : dominated dom x.row W ≡ true → Inv In n Q W m (t + 1)
      dropped h = record {
        len = v.len;
        bits = v.bits;
        in_q = λ e k. ((v.in_q e (Memᴰ.tail k)).0, omega (arith, (v.in_q e (Memᴰ.tail k)).1));
        in_w = λ e k. ((v.in_w e k).0, omega (arith, (v.in_w e k).1));
        order = v.order.1;
        apart_w = v.apart_w;
        apart_q = λ e q k l s. v.apart_q e q k (Memᴰ.tail l) s;
        apart_m = λ i j o a. v.apart_m i j o (wider j a);
        real = λ j a. v.real j (wider j a);
        cover = cover_step follows v.cover;
      }
        where
          wider : (j : ℕ) → Alive Q W m j → Alive (x ∷ Q) W m j
          wider j (out o) = out o
          wider j (occupied e k q) = occupied e k q
          wider j (waits e k q) = waits e (Memᴰ.tail k) q

          by : (e : Entry) × Mem e W × (dom e.row x.row ≡ true)
          by = dominator x.row W h

          follows : Follows (x ∷ Q) W m Q W m
          follows j (out o) = (j, out o, inl refl)
          follows j (occupied e k q) = (j, occupied e k q, inl refl)
          follows j (waits e k q) = ⊎_elim
              (λ (i : e ≡ x). (
                by.0.row,
                occupied by.0 by.1 refl,
                inr (ap (λ (z : ℕ). dom by.0.row z) (sym q ∙ ap (λ (z : Entry). z.row) i) ∙ by.2),
              ))
              (λ (k' : Mem e Q). (j, waits e k' q, inl refl))
              (Memᴰ.cases_cons k)

      module _ (h : dominated dom x.row W ≡ false) where
        abbrev now : Entry
        now = record { row = x.row; timestamp = t + 1 }

        abbrev rest : List Entry
        rest = keep (spares dom x.row) W

        rest_in : {e : Entry} → Mem e rest → Mem e W
        rest_in k = (keep_in (spares dom x.row) W k).0

        -- what is left of the window is apart from the row read
        apart : (e : Entry) → Mem e rest → Apart e.row x.row
        unfolding spares
        apart e k = (
          undominated_by x.row W h e (rest_in k),
          not-true (dom x.row e.row) (keep_in (spares dom x.row) W k).1,
        )

        -- an entry of the window stays, or the row read dominates it
        stays : (e : Entry) → Mem e W → Mem e rest ⊎ (dom x.row e.row ≡ true)
        unfolding spares
        stays e k = go (dom x.row e.row) refl
          where
            go : (b : Bool) → dom x.row e.row ≡ b → Mem e rest ⊎ (dom x.row e.row ≡ true)
            go true q = inr q
            go false q = inl (in_keep (spares dom x.row) W k (ap not q))

        entered : Inv In n Q (rest ++ (now ∷ [])) m (t + 1)
        entered = record {
          len = v.len;
          bits = v.bits;
          in_q = λ e k. ((v.in_q e (Memᴰ.tail k)).0, omega (arith, (v.in_q e (Memᴰ.tail k)).1));
          in_w = λ e k. ⊎_elim
              (λ (k' : Mem e rest). ((v.in_w e (rest_in k')).0, omega (arith, (v.in_w e (rest_in k')).1)))
              (λ (k' : Mem e (now ∷ [])). let q = Memᴰ.eq_of_singleton k' in (
                rw q (v.in_q x (Memᴰ.head refl)).0,
                omega (arith, ap (λ (z : Entry). z.timestamp) q),
              ))
              (Memᴰ.append_cases rest k);
          order = v.order.1;
          apart_w = λ e f k l. pairwise e f (Memᴰ.append_cases rest k) (Memᴰ.append_cases rest l);
          apart_q = λ e q k l s. ⊎_elim
              (λ (k' : Mem e rest). v.apart_q e q (rest_in k') (Memᴰ.tail l) s)
              (λ (k' : Mem e (now ∷ [])). absurd
              (omega (
                arith,
                s,
                ap (λ (z : Entry). z.timestamp) (Memᴰ.eq_of_singleton k'),
                (v.in_q q (Memᴰ.tail l)).1,
              )))
              (Memᴰ.append_cases rest k);
          apart_m = λ i j o a. v.apart_m i j o (wider j a);
          real = λ j a. v.real j (wider j a);
          cover = cover_step follows v.cover;
        }
          where
            pairwise : (e f : Entry) → Mem e rest ⊎ Mem e (now ∷ []) → Mem f rest ⊎ Mem f (now ∷ [])
                → dom e.row f.row ≡ false
            pairwise e f (inl k) (inl l) = v.apart_w e f (rest_in k) (rest_in l)
            pairwise e f (inl k) (inr l) = rw (Memᴰ.eq_of_singleton l) (apart e k).0
            pairwise e f (inr k) (inl l) = rw (Memᴰ.eq_of_singleton k) (apart f l).1
            pairwise e f (inr k) (inr l) = rw (Memᴰ.eq_of_singleton k, Memᴰ.eq_of_singleton l) (irr x.row)

            wider : (j : ℕ) → Alive Q (rest ++ (now ∷ [])) m j → Alive (x ∷ Q) W m j
            wider j (out o) = out o
            wider j (occupied e k q) = ⊎_elim
                (λ (k' : Mem e rest). occupied e (rest_in k') q)
                (λ (k' : Mem e (now ∷ [])). waits x (Memᴰ.head refl)
                (sym (ap (λ (z : Entry). z.row) (Memᴰ.eq_of_singleton k')) ∙ q))
                (Memᴰ.append_cases rest k)
            wider j (waits e k q) = waits e (Memᴰ.tail k) q

            here : Mem now (rest ++ (now ∷ []))
            here = Memᴰ.append_right rest (Memᴰ.head refl)

            follows : Follows (x ∷ Q) W m Q (rest ++ (now ∷ [])) m
            follows j (out o) = (j, out o, inl refl)
            follows j (occupied e k q) = ⊎_elim
                (λ (k' : Mem e rest). (j, occupied e (Memᴰ.append_left (now ∷ []) k') q, inl refl))
                (λ (b : dom x.row e.row ≡ true). (x.row, occupied now here refl, inr (rw q at b)))
                (stays e k)
            follows j (waits e k q) = ⊎_elim
                (λ (i : e ≡ x). (j, occupied now here (sym (ap (λ (z : Entry). z.row) i) ∙ q), inl refl))
                (λ (k' : Mem e Q). (j, waits e k' q, inl refl))
                (Memᴰ.cases_cons k)

        overflowed : Inv In n (Q ++ (now ∷ [])) rest m (t + 1)
        overflowed = record {
          len = v.len;
          bits = v.bits;
          in_q = λ e k. ⊎_elim
              (λ (k' : Mem e Q). ((v.in_q e (Memᴰ.tail k')).0, omega (arith, (v.in_q e (Memᴰ.tail k')).1)))
              (λ (k' : Mem e (now ∷ [])). let q = Memᴰ.eq_of_singleton k' in (
                rw q (v.in_q x (Memᴰ.head refl)).0,
                omega (arith, ap (λ (z : Entry). z.timestamp) q),
              ))
              (Memᴰ.append_cases Q k);
          in_w = λ e k. ((v.in_w e (rest_in k)).0, omega (arith, (v.in_w e (rest_in k)).1));
          order = sorted_push Q now v.order.1 (λ e k. omega (arith, (v.in_q e (Memᴰ.tail k)).1));
          apart_w = λ e f k l. v.apart_w e f (rest_in k) (rest_in l);
          apart_q = λ e q k l s. ⊎_elim
              (λ (l' : Mem q Q). v.apart_q e q (rest_in k) (Memᴰ.tail l') s)
              (λ (l' : Mem q (now ∷ [])). rw (Memᴰ.eq_of_singleton l') (apart e k))
              (Memᴰ.append_cases Q l);
          apart_m = λ i j o a. v.apart_m i j o (wider j a);
          real = λ j a. v.real j (wider j a);
          cover = cover_step follows v.cover;
        }
          where
            wider : (j : ℕ) → Alive (Q ++ (now ∷ [])) rest m j → Alive (x ∷ Q) W m j
            wider j (out o) = out o
            wider j (occupied e k q) = occupied e (rest_in k) q
            wider j (waits e k q) = ⊎_elim
                (λ (k' : Mem e Q). waits e (Memᴰ.tail k') q)
                (λ (k' : Mem e (now ∷ [])). waits x (Memᴰ.head refl)
                (sym (ap (λ (z : Entry). z.row) (Memᴰ.eq_of_singleton k')) ∙ q))
                (Memᴰ.append_cases Q k)

            here : Mem now (Q ++ (now ∷ []))
            here = Memᴰ.append_right Q (Memᴰ.head refl)

            follows : Follows (x ∷ Q) W m (Q ++ (now ∷ [])) rest m
            follows j (out o) = (j, out o, inl refl)
            follows j (occupied e k q) = ⊎_elim
                (λ (k' : Mem e rest). (j, occupied e k' q, inl refl))
                (λ (b : dom x.row e.row ≡ true). (x.row, waits now here refl, inr (rw q at b)))
                (stays e k)
            follows j (waits e k q) = ⊎_elim
                (λ (i : e ≡ x). (j, waits now here (sym (ap (λ (z : Entry). z.row) i) ∙ q), inl refl))
                (λ (k' : Mem e Q). (j, waits e (Memᴰ.append_left (now ∷ []) k') q, inl refl))
                (Memᴰ.cases_cons k)

    module _ (In : ℕ → Type 0) (w n : ℕ) where
      judged : (x : Entry) (xs : List Entry) (st : State) → InvS In n (x ∷ xs) st
          → InvS In n xs (judge dom w x.row st)
      unfolding judge place enter set_aside remove tick
      judged x xs st v = go (dominated dom x.row st.window) refl
        where
          next : State
          next = remove dom x.row (tick dom x.row st)

          go₂ : (b : Bool) → dominated dom x.row st.window ≡ false
              → InvS In n xs (cond b (enter x.row next) (set_aside x.row next))
          go₂ true h = entered v h
          go₂ false h =
              rw (← (append_assoc xs st.overflow (record { row = x.row; timestamp = st.clock + 1 } ∷ [])))
              (overflowed v h)

          go : (b : Bool) → dominated dom x.row st.window ≡ b
              → InvS In n xs (cond b (tick dom x.row st) (place w x.row next))
          go true h = dropped v h
          go false h = go₂ (ltb (length next.window) w) h

      reads : (x : Entry) (xs : List Entry) (st : State) → InvS In n (x ∷ xs) st → InvS In n xs (read dom w x st)
      unfolding read release
      reads x xs st v = judged x xs (release x.timestamp st) (released v)

      pub passed : (xs : List Entry) (st : State) → InvS In n xs st → InvS In n [] (pass dom w xs st)
      unfolding pass
      passed [] st v = v
      passed (x ∷ xs) st v = passed xs (read dom w x st) (reads x xs st v)
