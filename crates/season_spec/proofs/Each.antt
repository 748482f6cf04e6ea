-- From table to table: each answer is a lone reduction's, with the guesses and buffers that it was allowed. Assumes nothing.
use mathlib.Core.Path.{◌≡◌, refl, sym, ap, ◌∙◌, subst}
use mathlib.Core.List.{List, [], ◌∷◌, ◌++◌, map}
use Prim.Native.Nat.{ℕ, zero, suc, ◌+◌, ◌-◌, ◌*◌, ◌≤◌, ◌<◌}
use native.Mathlib.Nat.{suc-mul}
use native.Mathlib.Omega.{arith}
use lib.ListN.{length, get_or, take, drop}
use lib.Seq.{drop-drop, drop-append-add, take-append-le, length-take-le, take-take}
use Rattle.std.specs.Prelude.{Result}
use Rattle.lists.specs.Lists.{sum}
use Rattle.limits.specs.declared.Limits.{Limits}
use Rattle.refusals.specs.declared.Refusal.{Refusal}
use Rattle.reduce_spec.specs.Reduce.{Reduced, reduce_of}
use Rattle.reduce_spec.specs.declared.Reduction.{Reduction}
use Rattle.season_spec.specs.Seasons.{guesses_in, map_taken, out_taken, Reductions, reductions_from}
use Rattle.season_spec.specs.Demands.{table_at, answer_at, maps_taken, maps_before, out_before, IsLone}
use Rattle.season_spec.proofs.Lone.{Leaves, leaves, same_reduced}

-- ---- a lone reduction over equal bytes, guesses and buffers, and any clause buffer of the same length

relisted : (L : Limits) (b : List ℕ) (a : ℕ) (list other map out : List ℕ) → length list ≡ length other → {xs : List (Result Reduction Refusal)} {map' out' : List ℕ}
    → IsLone L b a list map out xs map' out' → IsLone L b a other map out xs map' out'
relisted L b a list other map out e {xs} {map'} {out'} h =
    let s = same_reduced L b list other map out e a in
    record {
      same_answer = h.same_answer ∙ ap (λ (x : Result Reduction Refusal). x ∷ []) s.answer;
      same_map = subst (λ (x : Result Reduction Refusal). take (map_taken b x) map' ≡ take (map_taken b x) (reduce_of L b a other map out).map) s.answer (h.same_map ∙ ap (take (map_taken b (reduce_of L b a list map out).answer)) s.map);
      same_out = subst (λ (x : Result Reduction Refusal). take (out_taken x) out' ≡ take (out_taken x) (reduce_of L b a other map out).out) s.answer (h.same_out ∙ ap (take (out_taken (reduce_of L b a list map out).answer)) s.out);
    }

pub moved : (L : Limits) (list : List ℕ) {b c : List ℕ} {a k : ℕ} {map map2 out out2 map' map2' out' out2' : List ℕ} {xs : List (Result Reduction Refusal)}
    → b ≡ c → a ≡ k → map ≡ map2 → out ≡ out2 → map' ≡ map2' → out' ≡ out2' → IsLone L b a list map out xs map' out' → IsLone L c k list map2 out2 xs map2' out2'
moved L list {xs = xs} e f g h p q w = subst (λ x. x) (λ i. IsLone L (e i) (f i) list (g i) (h i) xs (p i) (q i)) w

-- ---- where table i + 1 of a season is table i of its rest

next_table : (n : ℕ) (ns tables : List ℕ) (i : ℕ) → table_at (drop n tables) ns i ≡ table_at tables (n ∷ ns) (suc i)
unfolding table_at sum
next_table n ns tables i = ap (take (get_or ns i 0)) (drop-drop (sum (take i ns)) n tables)

module _ (L : Limits) (share : ℕ) where
  -- all shares so far, and what was saved before, less the guesses reported
  unfoldable pub allowed : ℕ → List (Result Reduction Refusal) → ℕ → ℕ
  allowed saved rs i = (i + 1) * share + saved - sum (map guesses_in (take i rs))

  -- table i of a season stands as a lone reduction
  abbrev AloneIn : ℕ → List ℕ → List ℕ → List ℕ → List ℕ → List ℕ → ℕ → Type 0
  AloneIn saved lengths tables list maps out i =
      let r = reductions_from L share saved lengths tables list maps out in
      let m = maps_before tables lengths r.answers i in
      let o = out_before r.answers i in
      IsLone L (table_at tables lengths i) (allowed saved r.answers i) list (drop m maps) (drop o out) (answer_at r.answers i) (drop m r.maps) (drop o r.out)

  -- the guesses of the first i tables are within their shares and what was saved
  pub used : (saved : ℕ) (lengths tables list maps out : List ℕ) (i : ℕ) → sum (map guesses_in (take i (reductions_from L share saved lengths tables list maps out).answers)) ≤ i * share + saved
  unfolding reductions_from sum
  used saved [] tables list maps out zero = omega arith
  used saved [] tables list maps out (suc i) = omega arith
  used saved (n ∷ ns) tables list maps out zero = omega arith
  used saved (n ∷ ns) tables list maps out (suc i) =
      let r = reduce_of L (take n tables) (share + saved) list maps out in
      omega (arith, (leaves L (take n tables) (share + saved) list maps out).guesses, used (share + saved - guesses_in r.answer) ns (drop n tables) r.list (drop (map_taken (take n tables) r.answer) r.map) (drop (out_taken r.answer) r.out) i, suc-mul i share)

  pub counted : (saved : ℕ) (lengths tables list maps out : List ℕ) → length (reductions_from L share saved lengths tables list maps out).answers ≡ length lengths
  unfolding reductions_from
  counted saved [] tables list maps out = refl
  counted saved (n ∷ ns) tables list maps out =
      let r = reduce_of L (take n tables) (share + saved) list maps out in
      ap suc (counted (share + saved - guesses_in r.answer) ns (drop n tables) r.list (drop (map_taken (take n tables) r.answer) r.map) (drop (out_taken r.answer) r.out))

  -- the first table, and the tables after it
  module _ (saved n : ℕ) (ns tables list maps out : List ℕ) where
    abbrev b : List ℕ
    b = take n tables

    abbrev r : Reduced
    r = reduce_of L b (share + saved) list maps out

    abbrev w : Leaves b (share + saved) list maps out r
    w = leaves L b (share + saved) list maps out

    abbrev m : ℕ
    m = map_taken b r.answer

    abbrev l : ℕ
    l = out_taken r.answer

    abbrev left : ℕ
    left = share + saved - guesses_in r.answer

    abbrev rest : Reductions
    rest = reductions_from L share left ns (drop n tables) r.list (drop m r.map) (drop l r.out)

    -- what is written first stands before what the others write
    front : (k : ℕ) (xs ys : List ℕ) → k ≤ length xs → take k (take k xs ++ ys) ≡ take k xs
    front k xs ys h = take-append-le k (take k xs) ys (omega (arith, length-take-le k xs h)) ∙ take-take k k xs (omega arith)

    behind : (k i : ℕ) (xs ys : List ℕ) → k ≤ length xs → drop i ys ≡ drop (k + i) (take k xs ++ ys)
    behind k i xs ys h = sym (drop-append-add (take k xs) ys i) ∙ ap (λ (j : ℕ). drop (j + i) (take k xs ++ ys)) (length-take-le k xs h)

    first_alone : AloneIn saved (n ∷ ns) tables list maps out 0
    unfolding reductions_from table_at answer_at allowed maps_before out_before sum
    first_alone =
        moved L list refl (omega arith) refl refl refl refl
        (record { same_answer = refl; same_map = front m r.map rest.maps w.map-fits; same_out = front l r.out rest.out w.out-fits })

    next-alone : (i : ℕ) → AloneIn left ns (drop n tables) r.list (drop m r.map) (drop l r.out) i → AloneIn saved (n ∷ ns) tables list maps out (suc i)
    unfolding reductions_from answer_at allowed maps_before maps_taken out_before sum
    next-alone i h =
        let m' = maps_before (drop n tables) ns rest.answers i in
        let o' = out_before rest.answers i in
        moved L list
        (next_table n ns tables i)
        (omega (arith, w.guesses, used left ns (drop n tables) r.list (drop m r.map) (drop l r.out) i, suc-mul (i + 1) share))
        (ap (drop m') w.map-rest ∙ drop-drop m' m maps)
        (ap (drop o') w.out-rest ∙ drop-drop o' l out)
        (behind m m' r.map rest.maps w.map-fits)
        (behind l o' r.out rest.out w.out-fits)
        (relisted L _ _ r.list list _ _ w.list-long h)

  pub alone_in : (saved : ℕ) (lengths tables list maps out : List ℕ) (i : ℕ) → i < length lengths → AloneIn saved lengths tables list maps out i
  alone_in saved [] tables list maps out i h = absurd (omega arith)
  alone_in saved (n ∷ ns) tables list maps out zero h = first_alone saved n ns tables list maps out
  alone_in saved (n ∷ ns) tables list maps out (suc i) h =
      next-alone saved n ns tables list maps out i
      (alone_in (left saved n ns tables list maps out) ns (drop n tables) (r saved n ns tables list maps out).list (drop (m saved n ns tables list maps out) (r saved n ns tables list maps out).map) (drop (l saved n ns tables list maps out) (r saved n ns tables list maps out).out) i (omega arith))
