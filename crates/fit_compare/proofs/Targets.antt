-- Where the second table goes, by its records and by a list that is filled place by place. Assumes nothing.
use mathlib.Core.Path.{◌≡◌, refl, sym, ap, ◌∙◌}
use mathlib.Core.List.{List, [], ◌∷◌, map, Memᴰ}
use Prim.Native.Nat.{ℕ, ◌+◌, ◌-◌, ◌*◌, ◌/◌, ◌%◌, ◌<◌, ◌≤◌}
use native.Mathlib.Omega.{arith}
use native.Mathlib.Decide.{ℕ_discrete, dec_lt}
use lib.ListN.{length, get_or, set, take, replicate, length-set, length-replicate, get_or-eq_default}
use lib.Seq.{get_or-take, get_or-set_same, get_or-set_other}
use Rattle.lists.specs.Lists.{filter, same}
use Rattle.lists.proofs.Members.{filter-mem}
use Rattle.table_spec.specs.File.{records}
use Rattle.table_spec.specs.Language.{targets}
use Rattle.table_find.specs.Spans.{starts_with}
use Rattle.table_find.proofs.Walks.{records-cons, records_end}
use Rattle.fit_spec.specs.Fit.{after}
use Rattle.fit_rounds.specs.Rows.{Ascends, Nexts, NextMoves, NextReturns}

-- ---- the records that start with the key, as the part of the section that they are

module _ {w : ℕ} (section key found : List ℕ) (l : length key + 1 ≡ w) (e : records w found ≡ filter (starts_with key) (records w section)) where
  targets_of : targets (records w section) key ≡ map (λ r. get_or r (length key) 0) (records w found)
  unfolding targets starts_with
  targets_of = ap (map (λ r. get_or r (length key) 0)) (sym e)

  pub no_target : (sink : ℕ) → length found < w → sink ≡ after (records w section) sink key
  unfolding after
  no_target sink h = sym (ap (λ (xs : List ℕ). get_or xs 0 sink) (targets_of ∙ ap (map (λ r. get_or r (length key) 0)) (records_end w found 0 (omega arith))))

  pub a_target : (sink : ℕ) → w ≤ length found → get_or found (w - 1) 0 ≡ after (records w section) sink key
  unfolding after
  a_target sink h =
      let p : w - 1 ≡ length key = omega arith in
      let t = get_or-take w found (length key) 0 (omega arith) in
      sym (ap (λ (xs : List ℕ). get_or xs 0 sink) (targets_of ∙ ap (map (λ r. get_or r (length key) 0)) (records-cons w found 0 (omega arith) (omega arith))) ∙ t ∙ ap (λ i. get_or found i 0) (sym p))

-- a target is below n, the sink is n
pub after-most : (ss : List (List ℕ)) (n : ℕ) (key : List ℕ) → ((r : List ℕ) → Memᴰ r ss → get_or r (length key) 0 < n) → after ss n key ≤ n
unfolding after targets
after-most ss n key h = go (filter (λ r. same key (take (length key) r)) ss) (λ r m. h r (filter-mem _ ss r m).0)
  where
    go : (rs : List (List ℕ)) → ((r : List ℕ) → Memᴰ r rs → get_or r (length key) 0 < n) → get_or (map (λ r. get_or r (length key) 0) rs) 0 n ≤ n
    go [] k = omega arith
    go (r ∷ rs) k = let l = k r (Memᴰ.head refl) in omega arith

-- ---- a list filled place by place

pub record Filling (value : ℕ → ℕ) (size : ℕ) (t : List ℕ) (i : ℕ) : Type 0 where
  pub inside : i ≤ size
  pub long : length t ≡ size
  pub done : (j : ℕ) → j < i → get_or t j 0 ≡ value j

pub filling : (value : ℕ → ℕ) (size : ℕ) → Filling value size (replicate size 0) 0
filling value size = record { inside = omega arith; long = length-replicate size 0; done = λ j h. absurd (omega arith) }

module _ {value : ℕ → ℕ} {size : ℕ} {t : List ℕ} {i : ℕ} (w : Filling value size t i) where
  pub fill_on : {v : ℕ} → i < size → v ≡ value i → Filling value size (set t i v) (i + 1)
  fill_on {v} h e = record { inside = omega arith; long = length-set t i v ∙ w.long; done = λ j l. go j l (ℕ_discrete j i) }
    where
      go : (j : ℕ) → j < i + 1 → Dec (j ≡ i) → get_or (set t i v) j 0 ≡ value j
      go j l (yes d) = ap (λ k. get_or (set t i v) k 0) d ∙ get_or-set_same t i v 0 (omega (arith, w.long)) ∙ e ∙ ap value (sym d)
      go j l (no d) = get_or-set_other t i j v 0 d ∙ w.done j (omega arith)

  pub filled : size ≤ i → (j : ℕ) → j < size → get_or t j 0 ≡ value j
  filled h j l = w.done j (omega arith)

-- the state, symbol and popped state of a place
abbrev pub move_at : List (List ℕ) → ℕ → ℕ → ℕ
move_at ss n i = after ss n (i / 32 ∷ i % 32 ∷ [])

abbrev pub return_at : List (List ℕ) → ℕ → ℕ → ℕ
return_at ss n i = after ss n (i / 800 ∷ i / 25 % 32 ∷ i % 25 ∷ [])

-- places filled with targets are at most n, and so is what stands past them
places-most : (size n : ℕ) {value : ℕ → ℕ} {t : List ℕ} → n ≤ 24 → length t ≡ size → ((j : ℕ) → value j ≤ n) → ((j : ℕ) → j < size → get_or t j 0 ≡ value j) → Nexts n t
places-most size n {value} {t} few long most d = record { few = few; within = λ i. go i (dec_lt i size) }
  where
    go : (i : ℕ) → Dec (i < size) → get_or t i 0 ≤ n
    go i (yes l) = omega (arith, d i l, most i)
    go i (no l) = omega (arith, get_or-eq_default t 0 {n = i} (omega arith))

module _ {n : ℕ} {s t : List ℕ} where
  pub moves-most : Ascends 3 n s → length t ≡ 800 → ((j : ℕ) → j < 800 → get_or t j 0 ≡ move_at (records 3 s) n j) → Nexts n t
  moves-most h l = places-most 800 n h.few l (λ j. after-most (records 3 s) n _ (λ r m. h.named.states r m 2 (λ z. absurd (omega arith)) (omega arith)))

  pub returns-most : Ascends 4 n s → length t ≡ 20000 → ((j : ℕ) → j < 20000 → get_or t j 0 ≡ return_at (records 4 s) n j) → Nexts n t
  returns-most h l = places-most 20000 n h.few l (λ j. after-most (records 4 s) n _ (λ r m. h.named.states r m 3 (λ z. absurd (omega arith)) (omega arith)))

pub next-moves : {ss : List (List ℕ)} {n : ℕ} {t : List ℕ} → n ≤ 24 → ((j : ℕ) → j < 800 → get_or t j 0 ≡ move_at ss n j) → NextMoves n ss t
next-moves {ss} {n} h d = record { at = λ b a lb la. d (b * 32 + a) (omega arith) ∙ (λ i. after ss n (first b a la i ∷ second b a la i ∷ [])) }
  where
    first : (b a : ℕ) → a < 32 → (b * 32 + a) / 32 ≡ b
    first b a l = omega arith

    second : (b a : ℕ) → a < 32 → (b * 32 + a) % 32 ≡ a
    second b a l = omega arith

pub next-returns : {ss : List (List ℕ)} {n : ℕ} {t : List ℕ} → n ≤ 24 → ((j : ℕ) → j < 20000 → get_or t j 0 ≡ return_at ss n j) → NextReturns n ss t
next-returns {ss} {n} h d = record { at = λ b a c lb la lc. d ((b * 32 + a) * 25 + c) (omega arith) ∙ (λ i. after ss n (first b a c la (omega arith) i ∷ second b a c la (omega arith) i ∷ third b a c (omega arith) i ∷ [])) }
  where
    first : (b a c : ℕ) → a < 32 → c < 25 → ((b * 32 + a) * 25 + c) / 800 ≡ b
    first b a c l k = omega arith

    second : (b a c : ℕ) → a < 32 → c < 25 → ((b * 32 + a) * 25 + c) / 25 % 32 ≡ a
    second b a c l k = omega arith

    third : (b a c : ℕ) → c < 25 → ((b * 32 + a) * 25 + c) % 25 ≡ c
    third b a c k = omega arith
