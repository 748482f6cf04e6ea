-- What has come out in the end: a list measured, a list written, and the list of a table that was read. Assumes nothing.
use mathlib.Core.Path.{◌≡◌, refl, sym, ap, ◌∙◌}
use mathlib.Core.Bool.{Bool, true, false}
use mathlib.Core.List.{List, [], ◌∷◌, ◌++◌, append_assoc}
use Prim.Native.Nat.{ℕ, suc, ◌+◌, ◌≤◌, ◌<◌}
use native.Mathlib.Omega.{arith}
use native.Mathlib.Nat.{add-zero, zero-add}
use native.Mathlib.Decide.{dec_lt}
use lib.ListN.{length, take, drop, length-append, take-append-drop}
use lib.Seq.{length-take-le, drop-drop, take_at, drop_at}
use lib.Dec.{ltb}
use borrow.Author.Tests.{lt-ltb, le-ltb, le-leb, lt-leb}
use Rattle.lists.specs.Lists.{over}
use Rattle.cnf.specs.Clauses.{words_of}
use Rattle.refusals.specs.declared.Refusal.TheVariants.{ListLength}
use Rattle.std.specs.Prelude.{Ok, Err}
use Rattle.clauses_emit.specs.Emit.{Counts, State, with_list, place, written, emit_one, emit}
use Rattle.clauses.specs.Whole.{listed_by}
use Rattle.clauses_emit.proofs.Emitting.{emit-full, length-place, length-written}

-- ---- the words of clauses

words-cons : (c : List ℕ) (cs : List (List ℕ)) → words_of (c ∷ cs) ≡ (length c ∷ c) ++ words_of cs
unfolding words_of
words-cons c cs = refl

length-words : (c : List ℕ) (cs : List (List ℕ)) → length (words_of (c ∷ cs)) ≡ 1 + length c + length (words_of cs)
length-words c cs = ap length (words-cons c cs) ∙ omega (arith, length-append (length c ∷ c) (words_of cs))

-- ---- words put after words

place_none : (k : ℕ) (list : List ℕ) → place k [] list ≡ list
unfolding place over
place_none k list = take-append-drop k list

place-behind : (k : ℕ) (xs ys list : List ℕ) → k + length xs ≤ length list → place (k + length xs) ys (place k xs list) ≡ place k (xs ++ ys) list
unfolding place over
place-behind k xs ys list h =
    let p = take k list in
    let r = drop (length xs) (drop k list) in
    let lp : length p ≡ k = length-take-le k list (omega arith) in
    let lpx : length (p ++ xs) ≡ k + length xs = length-append p xs ∙ ap (λ n. n + length xs) lp in
    let whole : p ++ (xs ++ r) ≡ (p ++ xs) ++ r = sym (append_assoc p xs r) in
    let front : take (k + length xs) (p ++ (xs ++ r)) ≡ p ++ xs = ap (take (k + length xs)) whole ∙ take_at (p ++ xs) r (k + length xs) lpx in
    let back : drop (k + length xs) (p ++ (xs ++ r)) ≡ r = ap (drop (k + length xs)) whole ∙ drop_at (p ++ xs) r (k + length xs) lpx in
    let tail : drop (length ys) r ≡ drop (length (xs ++ ys)) (drop k list) = drop-drop (length ys) (length xs) (drop k list) ∙ ap (λ n. drop n (drop k list)) (sym (length-append xs ys)) in
    (λ i. front i ++ (ys ++ drop (length ys) (back i)))
    ∙ append_assoc p xs (ys ++ drop (length ys) r)
    ∙ ap (λ z. p ++ z) (sym (append_assoc xs ys (drop (length ys) r)) ∙ ap (λ z. (xs ++ ys) ++ z) tail)

-- ---- a list that fits

abbrev tally : Bool → ℕ → ℕ → Counts
tally w a k = record { write = w; clauses = a; words = k }

-- the buffer with words, where they are to be written
abbrev filled : Bool → ℕ → List ℕ → List ℕ → List ℕ
filled true k xs list = place k xs list
filled false k xs list = list

one-fits :
    (c : List ℕ) (w : Bool) (a k : ℕ) (list : List ℕ) → k + 1 + length c ≤ length list
    → emit_one c (with_list (tally w a k) list) ≡ with_list (tally w (a + 1) (k + 1 + length c)) (filled w k (length c ∷ c) list)
unfolding emit_one written
one-fits c true a k list h = let l : k ≤ length list = omega arith in rw (le-ltb _ _ l, emit_one, le-leb _ _ h, written)
one-fits c false a k list h = let l : k ≤ length list = omega arith in rw (le-ltb _ _ l, emit_one)

fits :
    (cs : List (List ℕ)) (w : Bool) (a k : ℕ) (list : List ℕ) → k + length (words_of cs) ≤ length list
    → emit cs (with_list (tally w a k) list) ≡ with_list (tally w (a + length cs) (k + length (words_of cs))) (filled w k (words_of cs) list)
unfolding emit words_of
fits [] w a k list h = λ i. with_list (tally w (sym (add-zero a) i) (sym (add-zero k) i)) (none w i)
  where
    none : (w : Bool) → list ≡ filled w k [] list
    none true = sym (place_none k list)
    none false = refl
fits (c ∷ cs) w a k list h =
    let n = length-words c cs in
    let one : k + 1 + length c ≤ length list = omega (arith, n) in
    let e : a + 1 + length cs ≡ a + suc (length cs) = omega arith in
    let f : k + 1 + length c + length (words_of cs) ≡ k + length (words_of (c ∷ cs)) = omega (arith, n) in
    ap (emit cs) (one-fits c w a k list one)
    ∙ fits cs w (a + 1) (k + 1 + length c) (filled w k (length c ∷ c) list) (omega (arith, n, kept w one))
    ∙ (λ i. with_list (tally w (e i) (f i)) (behind w one i))
  where
    kept : (w : Bool) → k + 1 + length c ≤ length list → length (filled w k (length c ∷ c) list) ≡ length list
    kept true l = length-place k (length c ∷ c) list (omega arith)
    kept false l = refl

    behind : (w : Bool) → k + 1 + length c ≤ length list → filled w (k + 1 + length c) (words_of cs) (filled w k (length c ∷ c) list) ≡ filled w k (words_of (c ∷ cs)) list
    behind true l =
        let e : k + 1 + length c ≡ k + suc (length c) = omega arith in
        ap (λ m. place m (words_of cs) (place k (length c ∷ c) list)) e ∙ place-behind k (length c ∷ c) (words_of cs) list (omega arith)
    behind false l = refl

-- ---- a list that does not fit

one-full : (c : List ℕ) (s : State) → length s.list < s.tally.words → emit_one c s ≡ s
unfolding emit_one
one-full c s h = rw (lt-ltb _ _ h, emit_one)

one_more : (c : List ℕ) (s : State) → s.tally.words ≤ length s.list → ((emit_one c s).tally.words ≡ s.tally.words + 1 + length c) × (length (emit_one c s).list ≡ length s.list)
unfolding emit_one
one_more c s h = rw (le-ltb _ _ h, emit_one) (refl, length-written s.tally c s.list)

exceeds : (cs : List (List ℕ)) (s : State) → length s.list < s.tally.words + length (words_of cs) → length s.list < (emit cs s).tally.words
unfolding emit words_of
exceeds [] s h = omega arith
exceeds (c ∷ cs) s h = go (dec_lt (length s.list) s.tally.words) (exceeds cs (emit_one c s))
  where
    go :
        Dec (length s.list < s.tally.words)
        → (length (emit_one c s).list < (emit_one c s).tally.words + length (words_of cs) → length (emit_one c s).list < (emit cs (emit_one c s)).tally.words)
        → length s.list < (emit cs (emit_one c s)).tally.words
    go (yes l) ih = let e : emit cs (emit_one c s) ≡ s = ap (emit cs) (one-full c s l) ∙ emit-full cs s l in rw e l
    go (no l) ih = let m = one_more c s (omega arith) in let k = ih (omega (arith, length-words c cs)) in omega arith

-- ---- a list that is only measured

one_measured : (c : List ℕ) (s : State) → s.tally.write ≡ false → ((emit_one c s).list ≡ s.list) × ((emit_one c s).tally.write ≡ false)
unfolding emit_one written
one_measured c s h = go (ltb (length s.list) s.tally.words) refl
  where
    go : (t : Bool) → ltb (length s.list) s.tally.words ≡ t → ((emit_one c s).list ≡ s.list) × ((emit_one c s).tally.write ≡ false)
    go true e = rw (e, emit_one) (refl, h)
    go false e = rw (e, emit_one) (rw (h, written), h)

measures : (cs : List (List ℕ)) (s : State) → s.tally.write ≡ false → (emit cs s).list ≡ s.list
unfolding emit
measures [] s h = refl
measures (c ∷ cs) s h = let m = one_measured c s h in measures cs (emit_one c s) m.1 ∙ m.0

-- ---- written where it fits

module _ (cs : List (List ℕ)) (room : List ℕ) {z t : Counts} {room' : List ℕ} (none : z ≡ tally true 0 0) (m : with_list t room' ≡ emit cs (with_list z room)) where
  made : with_list t room' ≡ emit cs (with_list (tally true 0 0) room)
  made = m ∙ ap (λ x. emit cs (with_list x room)) none

  written-whole : length (words_of cs) ≤ length room → with_list t room' ≡ with_list (tally true (length cs) (length (words_of cs))) (over (words_of cs) room)
  written-whole h = made ∙ fits cs true 0 0 room (omega arith) ∙ (λ i. with_list (tally true (zero-add (length cs) i) (zero-add (length (words_of cs)) i)) (front i))
    where
      front : place 0 (words_of cs) room ≡ over (words_of cs) room
      front = unfold place in refl

  -- the room was long enough, or it was not
  shorter : t.words ≤ length room → length (words_of cs) ≤ length room
  shorter h = go (dec_lt (length room) (length (words_of cs)))
    where
      go : Dec (length room < length (words_of cs)) → length (words_of cs) ≤ length room
      go (yes l) = let e = ap (λ (s : State). s.tally.words) made in absurd (omega (arith, exceeds cs (with_list (tally true 0 0) room) (omega arith)))
      go (no l) = omega arith

  longer : length room < t.words → length room < length (words_of cs)
  longer h = go (dec_lt (length room) (length (words_of cs)))
    where
      go : Dec (length room < length (words_of cs)) → length room < length (words_of cs)
      go (yes l) = l
      go (no l) = let e = ap (λ (s : State). s.tally.words) (written-whole (omega arith)) in absurd (omega arith)

  pub room-short : (list : List ℕ) → length room < t.words → length room ≡ length list → record { answer = Err ListLength; list = list } ≡ listed_by cs list
  unfolding listed_by
  room-short list h e = let l : length list < length (words_of cs) = omega (arith, longer h) in rw (lt-leb _ _ l, listed_by)

  pub room_copied :
      (list : List ℕ) {out : List ℕ} → t.words ≤ length room → length room ≤ length list → out ≡ over (take t.words room') list
      → record { answer = Ok (record { clauses = t.clauses; words = t.words }); list = out } ≡ listed_by cs list
  unfolding listed_by
  room_copied list {out} h k o =
      let e = written-whole (shorter h) in
      let words : take t.words room' ≡ words_of cs = (λ i. take (e i).tally.words (e i).list) ∙ front in
      let l : length (words_of cs) ≤ length list = omega (arith, shorter h) in
      rw (le-leb _ _ l, listed_by) (λ i. record { answer = Ok (record { clauses = (e i).tally.clauses; words = (e i).tally.words }); list = (o ∙ ap (λ ws. over ws list) words) i })
    where
      front : take (length (words_of cs)) (over (words_of cs) room) ≡ words_of cs
      front = unfold over in take_at (words_of cs) (drop (length (words_of cs)) room) (length (words_of cs)) refl

-- ---- measured, then written

module _ (cs : List (List ℕ)) (list : List ℕ) {z t : Counts} {list' : List ℕ} (none : z ≡ tally false 0 0) (m : with_list t list' ≡ emit cs (with_list z list)) where
  measured : with_list t list' ≡ emit cs (with_list (tally false 0 0) list)
  measured = m ∙ ap (λ x. emit cs (with_list x list)) none

  same-list : list' ≡ list
  same-list = ap (λ (s : State). s.list) measured ∙ measures cs (with_list (tally false 0 0) list) refl

  pub refused : length list' < t.words → record { answer = Err ListLength; list = list' } ≡ listed_by cs list
  unfolding listed_by
  refused h = go (dec_lt (length list) (length (words_of cs)))
    where
      go : Dec (length list < length (words_of cs)) → record { answer = Err ListLength; list = list' } ≡ listed_by cs list
      go (yes l) = rw (lt-leb _ _ l, listed_by) (λ i. record { answer = Err ListLength; list = same-list i })
      go (no l) = let e = ap (λ (s : State). s.tally.words) (measured ∙ fits cs false 0 0 list (omega arith)) in absurd (omega (arith, ap length same-list))

  pub delivered :
      {y t' : Counts} {list'' : List ℕ} → t.words ≤ length list' → y ≡ tally true 0 0 → with_list t' list'' ≡ emit cs (with_list y list')
      → record { answer = Ok (record { clauses = t'.clauses; words = t'.words }); list = list'' } ≡ listed_by cs list
  unfolding listed_by
  delivered {y} {t'} {list''} h n w = go (dec_lt (length list) (length (words_of cs)))
    where
      go : Dec (length list < length (words_of cs)) → record { answer = Ok (record { clauses = t'.clauses; words = t'.words }); list = list'' } ≡ listed_by cs list
      go (yes l) =
          let e = ap (λ (s : State). s.tally.words) measured in
          absurd (omega (arith, exceeds cs (with_list (tally false 0 0) list) (omega arith), ap length same-list))
      go (no l) =
          let k : length (words_of cs) ≤ length list = omega arith in
          let e = written-whole cs list n (w ∙ ap (λ x. emit cs (with_list y x)) same-list) k in
          rw (le-leb _ _ k, listed_by) (λ i. record { answer = Ok (record { clauses = (e i).tally.clauses; words = (e i).tally.words }); list = (e i).list })
