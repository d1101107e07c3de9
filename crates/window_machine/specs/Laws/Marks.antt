-- Theorem: for every window, the machine's marks are 1 exactly at the rows of the list that no row of the list
-- dominates.
use Prim.Native.Nat.{ℕ, zero, suc, ◌≤◌, ◌<◌}
use Rattle.std.proofs.Common.{arith, sym, ap, subst, ◌∙◌, ⊎_elim, inl, true≢false, ext_get_or, eqb-true, eq-eqb}
use Rattle.std.specs.Prelude.{◌≡◌, Bool, false, not, ◌&&◌, cond, eqb, length, replicate}
use Rattle.std.proofs.Math.Path.{refl}
use Rattle.std.proofs.Math.Bool.{true}
use Rattle.std.proofs.lemmas.Bool.{false≢true}
use mathlib.Core.List.Memᴰ
use mathlib.Core.List.{List, [], ◌∷◌, map, append-nil, Memᴰ}
use Rattle.std.proofs.Math.ListN.{get_or}
use Rattle.std.proofs.lemmas.List.{length-replicate}
use Rattle.laws.specs.Lists.{joined, any_of}
use Rattle.laws.specs.Laws.Joined.{singles_at, singles_length}
use Rattle.window_machine.specs.Machine.{Entry, State, marked, pass, renew, finish, is_empty, passes, unread}
use Rattle.window_machine.specs.Machine.{enough, start, machine}
use Rattle.window_machine.specs.Laws.Ends.{ends, machine_ends}
use Rattle.window_machine.specs.Laws.Invariant.{Alive, out, occupied, waits, Sorted, Apart, Reaches, Inv, InvS}
use Rattle.window_machine.specs.Laws.Invariant.{passed}
use Rattle.window_machine.specs.Order.{Mem}
use Rattle.window_machine.specs.Laws.Lists.{Out, RowOf, length_marked, marked_bits, marked_old, marked_new}
use Rattle.window_machine.specs.Laws.Lists.{marked_cases}
use Rattle.window_machine.specs.Laws.Members.{any_member, member_any, member_none}

-- row r is in the list, and no row of the list dominates it
unfoldable pub undominated : (ℕ → ℕ → Bool) → List ℕ → ℕ → Bool
undominated dom rows r = any_of (eqb r) rows && not (any_of (λ s. dom s r) rows)

-- ---- the end of the last pass

module _ (dom : ℕ → ℕ → Bool) (irr : (i : ℕ) → dom i i ≡ false)
    (trans : (i j k : ℕ) → dom i j ≡ true → dom j k ≡ true → dom i k ≡ true) (In : ℕ → Type 0) (w n : ℕ) where
  -- what the last release makes of the marks
  record Final (m : List ℕ) : Type 0 where
    long : length m ≡ n
    bytes : (i : ℕ) → get_or m i 0 ≤ 1
    only : (i : ℕ) → Out m i → In i
    sound : (i j : ℕ) → Out m i → In j → dom j i ≡ false
    complete : (j : ℕ) → In j → ((i : ℕ) → In i → dom i j ≡ false) → Out m j

  module _ {W : List Entry} {m : List ℕ} {t : ℕ} (v : Inv dom In n [] W m t) where
    alive_out : (j : ℕ) → Alive [] W m j → Out (marked W m) j
    alive_out j (out o) = marked_old W m j o
    alive_out j (occupied e k q) = rw q at (marked_new W m k (rw v.len (v.in_w e k).0))
    alive_out j (waits e k q) = absurd (Memᴰ.not-nil k)

    out_real : (i : ℕ) → Out (marked W m) i → In i
    out_real i o =
        ⊎_elim (λ (p : Out m i). v.real i (out p)) (λ (z : RowOf W i). v.real i (occupied z.0 z.1 z.2))
        (marked_cases W m i o)

    apart_occupied : (e : Entry) → Mem e W → (j : ℕ) → Alive [] W m j → Apart dom e.row j
    apart_occupied e k j (out o) = let a = v.apart_m j e.row o (occupied e k refl) in (a.1, a.0)
    apart_occupied e k j (occupied f l q) = rw (← q) (v.apart_w e f k l, v.apart_w f e l k)
    apart_occupied e k j (waits f l q) = absurd (Memᴰ.not-nil l)

    apart_all : (i j : ℕ) → Out (marked W m) i → Alive [] W m j → Apart dom i j
    apart_all i j o a = ⊎_elim
        (λ (p : Out m i). v.apart_m i j p a)
        (λ (z : RowOf W i). rw z.2 at (apart_occupied z.0 z.1 j a))
        (marked_cases W m i o)

    final : Final (marked W m)
    final = record {
      long = length_marked W m ∙ v.len;
      bytes = marked_bits W m v.bits;
      only = out_real;
      sound = λ i j o l. let c = v.cover j l in none_better i j o c.0 c.1 c.2 (dom j i) refl;
      complete = λ j l none. let c = v.cover j l in ⊎_elim
          (λ (q : c.0 ≡ j). rw q at (alive_out c.0 c.1))
          (λ (b : dom c.0 j ≡ true). absurd (true≢false (sym b ∙ none c.0 (v.real c.0 c.1))))
          c.2;
    }
      where
        none_better : (i j : ℕ) → Out (marked W m) i → (x : ℕ) → Alive [] W m x → Reaches dom x j → (b : Bool)
            → dom j i ≡ b → b ≡ false
        none_better i j o x a r true h = absurd (true≢false (⊎_elim
            (λ (q : x ≡ j). sym h ∙ (rw q at (apart_all i x o a).1))
            (λ (b : dom x j ≡ true). sym (trans x j i b h) ∙ (apart_all i x o a).1)
            r))
        none_better i j o x a r false h = refl

  -- passes that end, end so
  abbrev Ended : ℕ → Type 0
  Ended fuel =
      (xs : List Entry) (st : State) → Inv dom In n xs st.window st.marks st.clock
      → ends dom w fuel xs st ≡ true → Final (passes dom w fuel xs st).marks

  ended : (fuel : ℕ) → Ended fuel
  unfolding ends passes renew finish is_empty
  ended zero xs st v e = absurd (false≢true e)
  ended (suc fuel) xs st v e =
      go (pass dom w xs (renew st)) (passed dom irr trans In w n xs (renew st) (rw (append-nil xs) v)) (ended fuel)
      (is_empty (pass dom w xs (renew st)).overflow) refl e
    where
      nothing : (l : List Entry) → is_empty l ≡ true → l ≡ []
      nothing [] h = refl
      nothing (y ∷ l) h = absurd (false≢true h)

      go : (after : State) → InvS dom In n [] after → Ended fuel → (b : Bool) → is_empty after.overflow ≡ b
          → cond b true (ends dom w fuel after.overflow after) ≡ true
          → Final (cond b (finish after) (passes dom w fuel after.overflow after)).marks
      go after u below true q h =
          final (subst (λ (l : List Entry). Inv dom In n l after.window after.marks after.clock)
          (nothing after.overflow q) u)
      go after u below false q h = below after.overflow after u h

-- ---- the start

fresh_sorted : (rows : List ℕ) → Sorted (map unread rows)
fresh_sorted [] = tt
fresh_sorted (r ∷ rows) = ((λ e k. omega arith), fresh_sorted rows)

zeros : (c i : ℕ) → get_or {A = ℕ} (replicate c 0) i 0 ≡ 0
zeros zero i = refl
zeros (suc c) zero = refl
zeros (suc c) (suc i) = zeros c i

module _ (dom : ℕ → ℕ → Bool) (rows : List ℕ) (n : ℕ) (below : (r : ℕ) → Memᴰ r rows → r < n) where
  abbrev In : ℕ → Type 0
  In r = Memᴰ r rows

  fresh_in : (e : Entry) → Mem e (map unread rows) → In e.row × (e.timestamp ≡ 0)
  fresh_in e k =
      let z = Memᴰ.of_map unread rows k in
      (subst In (ap (λ (f : Entry). f.row) z.2) z.1, sym (ap (λ (f : Entry). f.timestamp) z.2))

  started : Inv dom In n (map unread rows) [] (replicate n 0) 0
  started = record {
    len = length-replicate n 0;
    bits = λ i. omega (arith, zeros n i);
    in_q = λ e k. let z = fresh_in e k in (below e.row z.0, omega (arith, z.1));
    in_w = λ e k. absurd (Memᴰ.not-nil k);
    order = fresh_sorted rows;
    apart_w = λ e f k l. absurd (Memᴰ.not-nil k);
    apart_q = λ e q k l s. absurd (Memᴰ.not-nil k);
    apart_m = λ i j o a. absurd (omega (arith, o, zeros n i));
    real = alive;
    cover = λ j l. (j, waits (unread j) (Memᴰ.map unread l) refl, inl refl);
  }
    where
      alive : (j : ℕ) → Alive (map unread rows) [] (replicate n 0) j → In j
      alive j (out o) = absurd (omega (arith, o, zeros n j))
      alive j (occupied e k q) = absurd (Memᴰ.not-nil k)
      alive j (waits e k q) = subst In q (fresh_in e k).0

  module _ (irr : (i : ℕ) → dom i i ≡ false) (trans : (i j k : ℕ) → dom i j ≡ true → dom j k ≡ true → dom i k ≡ true)
      (w : ℕ) (pos : 1 ≤ w) where
    machine_final : Final dom irr trans In w n (machine dom w rows n).marks
    unfolding machine start
    machine_final =
        ended dom irr trans In w n (enough rows) (map unread rows) (start n) started (machine_ends dom w rows n pos)

    machine_at : (i : ℕ) → get_or (machine dom w rows n).marks i 0 ≡ cond (undominated dom rows i) 1 0
    unfolding undominated
    machine_at i = go (any_of (eqb i) rows) refl (any_of (λ s. dom s i) rows) refl
      where
        none : (get_or (machine dom w rows n).marks i 0 ≡ 1 → ⊥) → get_or (machine dom w rows n).marks i 0 ≡ 0
        none h = omega (arith, machine_final.bytes i)

        go : (a : Bool) → any_of (eqb i) rows ≡ a → (b : Bool) → any_of (λ s. dom s i) rows ≡ b
            → get_or (machine dom w rows n).marks i 0 ≡ cond (a && not b) 1 0
        go true p true q =
            let z = any_member (λ s. dom s i) rows q in
            none (λ o. true≢false (sym z.2 ∙ machine_final.sound i z.0 o z.1))
        go true p false q =
            let z = any_member (eqb i) rows p in
            let e : z.0 ≡ i = sym (eqb-true i z.0 z.2) in
            machine_final.complete i (subst In e z.1) (λ s k. member_none (λ s. dom s i) rows q k)
        go false p b q =
            none (λ o. true≢false (sym (member_any (eqb i) rows (machine_final.only i o) (eq-eqb i i refl)) ∙ p))

    pub machine_marks_lem : (machine dom w rows n).marks ≡ joined (λ r. cond (undominated dom rows r) 1 0 ∷ []) n
    machine_marks_lem =
        let mark : ℕ → ℕ = λ r. cond (undominated dom rows r) 1 0 in
        let long = machine_final.long in
        ext_get_or 0 (machine dom w rows n).marks (joined (λ r. mark r ∷ []) n) (long ∙ sym (singles_length mark n))
        (λ i l. machine_at i ∙ sym (singles_at mark n i (omega arith)))
