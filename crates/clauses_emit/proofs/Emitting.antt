-- Clauses counted and written one after the other: one clause, several, what is still to come in a loop, and what has come out in the end.
-- Assumes nothing.
use mathlib.Core.Path.{◌≡◌, refl, sym, ap, ◌∙◌}
use mathlib.Core.Bool.{Bool, true, false, ◌&&◌}
use mathlib.Core.List.{List, [], ◌∷◌, ◌++◌, append-nil}
use Prim.Native.Nat.{ℕ, ◌+◌, ◌-◌, ◌≤◌, ◌<◌}
use native.Mathlib.Omega.{arith}
use native.Mathlib.Decide.{dec_lt}
use lib.ListN.{length, take, drop, length-append, length-drop, drop_of_length-le}
use lib.Seq.{take_all, length-take-le}
use lib.Dec.{ltb, leb}
use borrow.Author.Tests.{lt-ltb, le-ltb, lt-leb, leb-true}
use Rattle.lists.specs.Lists.{over}
use Rattle.lists.proofs.Members.{and-true}
use Rattle.lists.proofs.Copying.{length_over}
use Rattle.clauses_emit.specs.Emit.{Counts, State, with_list, counted_by, place, written, emit_one, emit}

-- ---- one clause

-- the test that a clause of n literals is written
abbrev pub Tested : Bool → Counts → ℕ → ℕ → Type 0
Tested b t n room = b ≡ (t.write && leb (t.words + 1 + n) room)

module _ (t : Counts) (n room : ℕ) where
  pub writes_full : room < t.words → Tested false t n room
  writes_full l = sym (ap (λ b. t.write && b) (lt-leb (t.words + 1 + n) room (omega arith)) ∙ and_none t.write)
    where
      and_none : (b : Bool) → (b && false) ≡ false
      and_none true = refl
      and_none false = refl

  pub counted-full : room < t.words → t ≡ counted_by t n room
  unfolding counted_by
  counted-full h = sym (rw (lt-ltb _ _ h, counted_by))

  pub counted-more : t.words ≤ room → record { write = t.write; clauses = t.clauses + 1; words = t.words + 1 + n } ≡ counted_by t n room
  unfolding counted_by
  counted-more h = sym (rw (le-ltb _ _ h, counted_by))

module _ (t : Counts) (c list : List ℕ) where
  unwritten : Tested false t (length c) (length list) → written t c list ≡ list
  unfolding written
  unwritten e = rw (sym e, written)

  -- the counts and the buffer, each by itself
  emit-one : emit (c ∷ []) (with_list t list) ≡ with_list (counted_by t (length c) (length list)) (written t c list)
  unfolding emit emit_one
  emit-one = go (dec_lt (length list) t.words)
    where
      go : Dec (length list < t.words) → emit_one c (with_list t list) ≡ with_list (counted_by t (length c) (length list)) (written t c list)
      go (yes h) = rw (lt-ltb _ _ h, emit_one) (λ i. with_list (counted-full t (length c) (length list) h i) (sym (unwritten (writes_full t (length c) (length list) h)) i))
      go (no h) = rw (le-ltb (length list) t.words (omega arith), emit_one) (λ i. with_list (counted-more t (length c) (length list) (omega arith) i) (written t c list))

  module _ {n : ℕ} {b : Bool} {r : Counts} (e : n ≡ length c) (d : Tested b t n (length list)) (k : r ≡ counted_by t n (length list)) where
    counts : r ≡ counted_by t (length c) (length list)
    counts = k ∙ ap (λ m. counted_by t m (length list)) e

    test : {v : Bool} → b ≡ v → Tested v t (length c) (length list)
    test f = sym f ∙ d ∙ ap (λ m. t.write && leb (t.words + 1 + m) (length list)) e

    pub put_unwritten : b ≡ false → with_list r list ≡ emit (c ∷ []) (with_list t list)
    put_unwritten f = (λ i. with_list (counts i) (sym (unwritten (test f)) i)) ∙ sym emit-one

    -- the clause's words are stored in the remaining buffer
    pub put_stored : b ≡ true → {out : List ℕ} → out ≡ over (n ∷ c) (take (length list - t.words) (drop t.words list))
        → with_list r (take t.words list ++ (out ++ drop (length list - t.words) (drop t.words list))) ≡ emit (c ∷ []) (with_list t list)
    unfolding written place
    put_stored f {out} s =
        let l = length-drop t.words list in
        let all : take (length list - t.words) (drop t.words list) ≡ drop t.words list = take_all (length list - t.words) (drop t.words list) (omega arith) in
        let none : drop (length list - t.words) (drop t.words list) ≡ [] = drop_of_length-le (drop t.words list) {i = length list - t.words} (omega arith) in
        let there : take t.words list ++ (out ++ drop (length list - t.words) (drop t.words list)) ≡ written t c list
        = (λ i. take t.words list ++ (s i ++ none i)) ∙ ap (λ x. take t.words list ++ x) (append-nil _ ∙ (λ i. over (e i ∷ c) (all i))) ∙ sym (rw (sym (test f), written)) in
        (λ i. with_list (counts i) (there i)) ∙ sym emit-one

  -- where a clause of n literals is written
  pub put_room : (n : ℕ) {b : Bool} → Tested b t n (length list) → b ≡ true → t.words + 1 + n ≤ length list
  put_room n d f = leb-true _ _ (and-true t.write (leb (t.words + 1 + n) (length list)) (sym d ∙ f)).1

-- ---- several clauses

pub emit-append : (cs ds : List (List ℕ)) (s : State) → emit (cs ++ ds) s ≡ emit ds (emit cs s)
unfolding emit
emit-append [] ds s = refl
emit-append (c ∷ cs) ds s = emit-append cs ds (emit_one c s)

-- nothing changes once there are more words than the buffer has
pub emit-full : (cs : List (List ℕ)) (s : State) → length s.list < s.tally.words → emit cs s ≡ s
unfolding emit emit_one
emit-full [] s h = refl
emit-full (c ∷ cs) s h = rw (lt-ltb _ _ h, emit_one) (emit-full cs s h)

pub length-place : (k : ℕ) (xs list : List ℕ) → k + length xs ≤ length list → length (place k xs list) ≡ length list
unfolding place
length-place k xs list h =
    let d = length-drop k list in
    omega (arith, length-append (take k list) (over xs (drop k list)), length-take-le k list (omega arith), length_over xs (drop k list) (omega arith))

pub length-written : (t : Counts) (c list : List ℕ) → length (written t c list) ≡ length list
unfolding written
length-written t c list = go (t.write && leb (t.words + 1 + length c) (length list)) refl
  where
    go : (b : Bool) → (t.write && leb (t.words + 1 + length c) (length list)) ≡ b → length {A = ℕ} (elim b [ true ↦ place t.words (length c ∷ c) list | false ↦ list ]) ≡ length list
    go true e = length-place t.words (length c ∷ c) list (omega (arith, leb-true (t.words + 1 + length c) (length list) (and-true t.write (leb (t.words + 1 + length c) (length list)) e).1))
    go false e = refl

-- the buffer's length through one clause
length-emit_one : (c : List ℕ) (s : State) → length (emit_one c s).list ≡ length s.list
unfolding emit_one
length-emit_one c s = go (ltb (length s.list) s.tally.words) refl
  where
    go : (b : Bool) → ltb (length s.list) s.tally.words ≡ b → length (emit_one c s).list ≡ length s.list
    go true e = rw (e, emit_one) refl
    go false e = rw (e, emit_one) (length-written s.tally c s.list)

length-emit : (cs : List (List ℕ)) (s : State) → length (emit cs s).list ≡ length s.list
unfolding emit
length-emit [] s = refl
length-emit (c ∷ cs) s = length-emit cs (emit_one c s) ∙ length-emit_one c s

-- the counts stay in order through one clause, and through several
one_kept : (c : List ℕ) (s : State) → s.tally.clauses ≤ s.tally.words → (emit_one c s).tally.clauses ≤ (emit_one c s).tally.words
unfolding emit_one
one_kept c s h = go (ltb (length s.list) s.tally.words) refl
  where
    go : (b : Bool) → ltb (length s.list) s.tally.words ≡ b → (emit_one c s).tally.clauses ≤ (emit_one c s).tally.words
    go true e = rw (e, emit_one) h
    go false e = rw (e, emit_one) (omega arith)

kept : (cs : List (List ℕ)) (s : State) → s.tally.clauses ≤ s.tally.words → (emit cs s).tally.clauses ≤ (emit cs s).tally.words
unfolding emit
kept [] s h = h
kept (c ∷ cs) s h = kept cs (emit_one c s) (one_kept c s h)

pub ordered_by : (cs : List (List ℕ)) (s : State) {next : State} → next ≡ emit cs s → s.tally.clauses ≤ s.tally.words → next.tally.clauses ≤ next.tally.words
ordered_by cs s e h = rw e (kept cs s h)

-- ---- a loop: the clauses still to come make of the with_list now what all clauses make of the first with_list

pub record Coming (all : List (List ℕ)) (start : State) (rest : List (List ℕ)) (now : State) : Type 0 where
  pub meets : emit all start ≡ emit rest now
  pub long : length now.list ≡ length start.list

pub coming : (all : List (List ℕ)) (start : State) → Coming all start all start
coming all start = record { meets = refl; long = refl }

module _ {all : List (List ℕ)} {start now : State} where
  -- the first of them come
  pub come_on : (cs rest : List (List ℕ)) {next : State} → Coming all start (cs ++ rest) now → next ≡ emit cs now → Coming all start rest next
  come_on cs rest {next} w e = record {
    meets = w.meets ∙ emit-append cs rest now ∙ ap (emit rest) (sym e);
    long = rw e (length-emit cs now) ∙ w.long;
  }

  -- the same clauses, told in another way
  pub come_as : {rest rest' : List (List ℕ)} → rest ≡ rest' → Coming all start rest now → Coming all start rest' now
  come_as e w = record { meets = w.meets ∙ ap (λ cs. emit cs now) e; long = w.long }

  pub come_all : {all' rest : List (List ℕ)} → all ≡ all' → Coming all start rest now → Coming all' start rest now
  come_all e w = record { meets = ap (λ cs. emit cs start) (sym e) ∙ w.meets; long = w.long }

  pub come : Coming all start [] now → now ≡ emit all start
  unfolding emit
  come w = sym w.meets

  -- the buffer is too short
  pub come_full : {rest : List (List ℕ)} → Coming all start rest now → length now.list < now.tally.words → now ≡ emit all start
  come_full {rest} w h = sym (w.meets ∙ emit-full rest now h)
