-- What is still to come at each turn of the loops over states and over the records of a state and a symbol. Assumes nothing.
use mathlib.Core.Path.{◌≡◌, refl, sym, ap, ◌∙◌, subst}
use mathlib.Core.Logic.{◌≢◌, ◌⊎◌, inl, inr}
use mathlib.Core.Bool.{Bool, true, false}
use mathlib.Core.List.Memᴰ.{not-nil}
use mathlib.Core.List.{List, [], ◌∷◌, ◌++◌, Memᴰ}
use Prim.Native.Nat.{ℕ, zero, suc, ◌+◌, ◌*◌, ◌/◌, ◌%◌, ◌-◌, ◌^◌, ◌<◌, ◌≤◌}
use native.Mathlib.Omega.{arith}
use native.Mathlib.Numerals.{add-one}
use native.Mathlib.Nat.{add-zero, add-mul, mul-le-mul_right, div-mul-le_self}
use lib.ListN.{length, get_or, set, take, drop, drop_of_length-le}
use lib.Seq.{drop-cons, slice, slice_empty, slice-cons, set-get_or, take-add, drop_at, length-take-le}
use lib.Dec.{eqb}
use lib.Bits.{bit_or, or_zero_r}
use borrow.Author.Tests.{eq-eqb, ne_eqb}
use Rattle.lists.specs.Bits.{has_bit, has}
use Rattle.lists.proofs.Bits.{no_bit}
use Rattle.limits.specs.Limits.{state_most, symbol_most}
use Rattle.table_spec.specs.File.{records}
use Rattle.table_spec.proofs.Bytes.{length-records}
use Rattle.table_spec.proofs.Chunks.{chunk_on, chunk_end}
use Rattle.table_find.proofs.Spanning.{span-records}
use Rattle.tops_spec.specs.Tops.{add}
use Rattle.script_spec.specs.Script.{Level, gains, gained, gain, by_return}
use Rattle.table_index.specs.Index.{Lent, place_of, places, Indexed}
use Rattle.script_levels.specs.Levels.{all_gain, popped, Few}
use Rattle.table_index.proofs.Index.{symbol-small, state-small}
use Rattle.table_index.proofs.Blocks.{begin_rising}

-- nothing is gained by no tops
add_none : (g : Level) (q : ℕ) {w : ℕ} → w ≡ 0 → add g q w ≡ g
unfolding add
add_none g q e = ap (λ w. set g q (bit_or (get_or g q 0) w)) e ∙ ap (set g q) (or_zero_r (get_or g q 0)) ∙ set-get_or g q 0

-- ---- the records of a section, those before index i passed

module _ (gain : List ℕ → ℕ) (to a : ℕ) (rs : List (List ℕ)) (before : Level) where
  pub record Passing (i : ℕ) (g : Level) : Type 0 where
    pub inside : i ≤ length rs
    pub meets : gained gain to a rs before ≡ gained gain to a (drop i rs) g

  passing : Passing 0 before
  passing = record { inside = omega arith; meets = refl }

  module _ {i : ℕ} {g : Level} (p : Passing i g) where
    passed-all : length rs ≤ i → g ≡ gained gain to a rs before
    unfolding gained
    passed-all l = sym (p.meets ∙ ap (λ xs. gained gain to a xs g) (drop_of_length-le rs {i = i} l))

    one : i < length rs → {h : Level} → h ≡ gains gain to a (get_or rs i []) g → Passing (i + 1) h
    unfolding gained
    one l e = record { inside = omega arith; meets = p.meets ∙ ap (λ xs. gained gain to a xs g) (drop-cons rs i [] l) ∙ (λ j. gained gain to a (drop (sym (add-one i) j) rs) (sym e j)) }

  -- a record by another symbol, and one whose target gains nothing
  other : (r : List ℕ) (g : Level) → get_or r 1 0 ≢ a → g ≡ gains gain to a r g
  unfolding gains
  other r g n = sym (rw (ne_eqb (get_or r 1 0) a n, gains))

  own : (r : List ℕ) (g : Level) → get_or r 1 0 ≡ a → add g (get_or r to 0) (gain r) ≡ gains gain to a r g
  unfolding gains
  own r g e = sym (rw (eq-eqb (get_or r 1 0) a e, gains))

  nothing : (r : List ℕ) (g : Level) → gain r ≡ 0 → g ≡ gains gain to a r g
  unfolding gains
  nothing r g e = go (eqb (get_or r 1 0) a) refl
    where
      go : (t : Bool) → eqb (get_or r 1 0) a ≡ t → g ≡ gains gain to a r g
      go true f = sym (rw (f, gains) (add_none g (get_or r to 0) e))
      go false f = sym (rw (f, gains))

  -- no record from i up to j changes anything
  abbrev Skipped : ℕ → ℕ → Type 0
  Skipped i j = (k : ℕ) → i ≤ k → k < j → (get_or (get_or rs k []) 1 0 ≢ a) ⊎ (gain (get_or rs k []) ≡ 0)

  skip_by : (n i : ℕ) {g : Level} → Passing i g → i + n ≤ length rs → Skipped i (i + n) → Passing (i + n) g
  skip_by zero i {g} p l s = rw add-zero p
  skip_by (suc n) i {g} p l s = rw e (skip_by n (i + 1) (one p (omega arith) (go (s i (omega arith) (omega arith)))) (omega arith) (λ k a b. s k (omega arith) (omega arith)))
    where
      e : i + suc n ≡ i + 1 + n
      e = omega arith

      go : (get_or (get_or rs i []) 1 0 ≢ a) ⊎ (gain (get_or rs i []) ≡ 0) → g ≡ gains gain to a (get_or rs i []) g
      go (inl d) = other (get_or rs i []) g d
      go (inr d) = nothing (get_or rs i []) g d

  skip : {i j : ℕ} {g : Level} → Passing i g → i ≤ j → j ≤ length rs → Skipped i j → Passing j g
  skip {i} {j} {g} p l m s = let e : i + (j - i) ≡ j = omega arith in rw e at (skip_by (j - i) i p (omega arith) (rw e s))

  -- every record from i up to j is by the symbol, and its target gains what another rule says
  abbrev Alike : (List ℕ → ℕ) → ℕ → ℕ → Type 0
  Alike rule i j = (k : ℕ) → i ≤ k → k < j → (get_or (get_or rs k []) 1 0 ≡ a) × (rule (get_or rs k []) ≡ gain (get_or rs k []))

  run_by : (rule : List ℕ → ℕ) (n i : ℕ) {g : Level} → Passing i g → i + n ≤ length rs → Alike rule i (i + n) → Passing (i + n) (all_gain rule to (slice i (i + n) rs) g)
  unfolding all_gain
  run_by rule zero i {g} p l s = rw (add-zero, slice_empty i rs) p
  run_by rule (suc n) i {g} p l s =
      let c = s i (omega arith) (omega arith) in
      let e : i + 1 + n ≡ i + suc n = omega arith in
      let rest = run_by rule n (i + 1) (one p (omega arith) (ap (add g (get_or (get_or rs i []) to 0)) c.1 ∙ own (get_or rs i []) g c.0)) (omega arith) (λ k a b. s k (omega arith) (omega arith)) in
      rw (slice-cons i (i + suc n) rs [] (omega arith) l) (rw (e, add-one) at rest)

  run : (rule : List ℕ → ℕ) {i j : ℕ} {g h : Level} → Passing i g → i ≤ j → j ≤ length rs → Alike rule i j → h ≡ all_gain rule to (slice i j rs) g → Passing j h
  run rule {i} {j} {g} {h} p l m s d =
      let e : i + (j - i) ≡ j = omega arith in
      let all = rw e at (run_by rule (j - i) i p (omega arith) (rw e s)) in
      rw d all

-- ---- the states, those below q passed: the next record is where q begins

module _ (gain : List ℕ → ℕ) (to a : ℕ) (rs : List (List ℕ)) (starts : List ℕ) (n : ℕ) (before : Level) where
  pub record Stepping (q : ℕ) (g : Level) : Type 0 where
    pub inside : q ≤ n
    pub passing : Passing gain to a rs before (get_or starts (q * symbol_most) 0) g

module _ {w n : ℕ} {s : List ℕ} (wide : 3 ≤ w) (few : n ≤ state_most) (h : Lent w n s) {starts : List ℕ} (x : Indexed n (records w s) starts) (gain : List ℕ → ℕ) (to : ℕ) {a : ℕ} (la : a < symbol_most) (before : Level) where
  abbrev rs : List (List ℕ)
  rs = records w s

  -- what a record between two places is
  low : (y k : ℕ) → y ≤ places n → get_or starts y 0 ≤ k → k < length rs → y ≤ place_of (get_or rs k [])
  low y k m l i = (x.each y m).behind k l i

  high : (y k : ℕ) → y ≤ places n → k < get_or starts y 0 → place_of (get_or rs k []) < y
  high y k m l = (x.each y m).before k l

  there : (y k : ℕ) → y ≤ places n → k < get_or starts y 0 → k < length rs
  there y k m l = omega (arith, (x.each y m).within)

  pub stepping : Stepping gain to a rs starts n before 0 before
  stepping = record { inside = omega arith; passing = skip gain to a rs before (passing gain to a rs before) (omega arith) (x.each 0 (omega arith)).within (λ k b c. absurd (omega (arith, high 0 k (omega arith) c))) }

  module _ {q : ℕ} {g : Level} (p : Stepping gain to a rs starts n before q g) where
    pub stepped_all : n ≤ q → g ≡ gained gain to a rs before
    stepped_all l =
        passed-all gain to a rs before
        (skip gain to a rs before p.passing (x.each (q * symbol_most) (omega (arith, p.inside))).within (omega arith)
        (λ k b c. absurd (omega (arith, low (q * symbol_most) k (omega (arith, p.inside)) b c, symbol-small h k c, state-small h k c 0 (λ z. omega arith) (omega arith)))))
        (omega arith)

    module _ (l : q < n) where
      -- a state that gives nothing
      pub step-over : ((r : List ℕ) → get_or r 0 0 ≡ q → gain r ≡ 0) → Stepping gain to a rs starts n before (q + 1) g
      step-over z =
          record {
            inside = omega arith;
            passing =
                skip gain to a rs before p.passing (begin_rising x (q * symbol_most) ((q + 1) * symbol_most) (omega arith) (omega arith)) (x.each ((q + 1) * symbol_most) (omega arith)).within
                (λ k b c. let i = there ((q + 1) * symbol_most) k (omega arith) c in inr (z (get_or rs k []) (omega (arith, low (q * symbol_most) k (omega arith) b i, high ((q + 1) * symbol_most) k (omega arith) c, symbol-small h k i))));
          }

      -- the records of the state by the symbol
      pub step_by_lem :
          (rule : List ℕ → ℕ) {i j : ℕ} {g' : Level} → ((r : List ℕ) → get_or r 0 0 ≡ q → rule r ≡ gain r) → i ≡ get_or starts (q * symbol_most + a) 0
          → j ≡ get_or starts (q * symbol_most + a + 1) 0 → g' ≡ all_gain rule to (slice i j rs) g → Stepping gain to a rs starts n before (q + 1) g'
      step_by_lem rule {i} {j} {g'} same d e f =
          let y = q * symbol_most in
          let one = skip gain to a rs before p.passing (begin_rising x y (y + a) (omega arith) (omega arith)) (x.each (y + a) (omega arith)).within
          (λ k b c. let i = there (y + a) k (omega arith) c in inl (λ z. omega (arith, z, low y k (omega arith) b i, high (y + a) k (omega arith) c))) in
          let two = run gain to a rs before rule one (begin_rising x (y + a) (y + a + 1) (omega arith) (omega arith)) (x.each (y + a + 1) (omega arith)).within
          (λ k b c. let i = there (y + a + 1) k (omega arith) c in let lo = low (y + a) k (omega arith) b i in let hi = high (y + a + 1) k (omega arith) c in let sm = symbol-small h k i in (omega arith, same (get_or rs k []) (omega arith))) (f ∙ (λ k. all_gain rule to (slice (d k) (e k) rs) g)) in
          record {
            inside = omega arith;
            passing =
                skip gain to a rs before two (begin_rising x (y + a + 1) ((q + 1) * symbol_most) (omega arith) (omega arith)) (x.each ((q + 1) * symbol_most) (omega arith)).within
                (λ k b c. let i = there ((q + 1) * symbol_most) k (omega arith) c in inl (λ z. omega (arith, z, low (y + a + 1) k (omega arith) b i, high ((q + 1) * symbol_most) k (omega arith) c)));
          }

-- ---- the part of a section between two places of the index

mem-drop : {A : Type 0} {x : A} (k : ℕ) (xs : List A) → Memᴰ x (drop k xs) → Memᴰ x xs
mem-drop zero xs m = m
mem-drop (suc k) [] m = m
mem-drop (suc k) (y ∷ xs) m = Memᴰ.tail (mem-drop k xs m)

mem-take : {A : Type 0} {x : A} (k : ℕ) (xs : List A) → Memᴰ x (take k xs) → Memᴰ x xs
mem-take zero xs m = absurd (not-nil m)
mem-take (suc k) [] m = m
mem-take (suc k) (y ∷ xs) (Memᴰ.head e) = Memᴰ.head e
mem-take (suc k) (y ∷ xs) (Memᴰ.tail m) = Memᴰ.tail (mem-take k xs m)

-- the two places of a state and a symbol
pub block-there : {n : ℕ} {rs : List (List ℕ)} {starts : List ℕ} → Indexed n rs starts → {q a i j : ℕ} → q < n → a < symbol_most → i ≡ get_or starts (q * symbol_most + a) 0
    → j ≡ get_or starts (q * symbol_most + a + 1) 0 → (i ≤ j) × (j ≤ length rs)
block-there x {q} {a} l m d e =
    (omega (arith, begin_rising x (q * symbol_most + a) (q * symbol_most + a + 1) (omega arith) (omega arith), d, e), omega (arith, (x.each (q * symbol_most + a + 1) (omega arith)).within, e))

module _ (w : ℕ) (s : List ℕ) (i j : ℕ) (wide : 3 ≤ w) (le : i ≤ j) (h : j ≤ length (records w s)) where
  pub part-records : records w (take (j * w - i * w) (drop (i * w) s)) ≡ slice i j (records w s)
  part-records =
      let m = j - i in
      let l : j ≡ i + m = omega arith in
      ap (λ v. records w (take (v * w - i * w) (drop (i * w) s))) l
      ∙ ap (λ v. records w (take v (drop (i * w) s))) (omega (arith, add-mul i m w))
      ∙ span-records w s i m (omega arith) (omega (arith, length-records w s))
      ∙ sym (ap (λ v. slice i v (records w s)) l ∙ ap (drop i) (take-add i m (records w s)) ∙ drop_at (take i (records w s)) (take m (drop i (records w s))) i (length-take-le i (records w s) (omega arith)))

  pub part-few : Lent w state_most s → Few w (take (j * w - i * w) (drop (i * w) s))
  part-few o r m = o.states r (mem-take j (records w s) (mem-drop i (take j (records w s)) (rw part-records at m)))

  pub part-gain : (rule : List ℕ → ℕ) (to : ℕ) (g : Level) {g' : Level} → g' ≡ all_gain rule to (records w (take (j * w - i * w) (drop (i * w) s))) g → g' ≡ all_gain rule to (slice i j (records w s)) g
  part-gain rule to g e = e ∙ ap (λ rs. all_gain rule to rs g) part-records

  pub part-ends : (i * w ≤ j * w) × (j * w ≤ length s)
  part-ends = (mul-le-mul_right w le, omega (arith, mul-le-mul_right w h, ap (λ k. k * w) (length-records w s), div-mul-le_self (length s) w))

-- ---- what the targets of a state gain

by_word : ℕ → Bool → ℕ
by_word q b = elim b [ true ↦ 0 | false ↦ 2 ^ q ]

module _ (f : Level) (q : ℕ) {call : Bool} {x : ℕ} (e : x ≡ get_or f q 0) where
  pub gain-internal : call ≡ false → x ≡ gain call f q
  unfolding gain
  gain-internal c = e ∙ ap (λ b. gain b f q) (sym c)

  pub gain-none : call ≡ true → x ≡ 0 → 0 ≡ gain call f q
  unfolding gain by_word
  gain-none c z = ap (by_word q) (sym (eq-eqb (get_or f q 0) 0 (sym e ∙ z))) ∙ ap (λ b. gain b f q) (sym c)

  pub gain-call : call ≡ true → (x ≡ 0 → ⊥) → 2 ^ q ≡ gain call f q
  unfolding gain by_word
  gain-call c z = ap (by_word q) (sym (ne_eqb (get_or f q 0) 0 (λ n. z (e ∙ n)))) ∙ ap (λ b. gain b f q) (sym c)

no_state : (x : ℕ) → has_bit 0 x ≡ false
unfolding has_bit
no_state x = ne_eqb (0 / 2 ^ x % 2) 1 (no_bit x)

module _ (f below : Level) {q reached : ℕ} (e : reached ≡ get_or f q 0) where
  pub popped-same : (r : List ℕ) → get_or r 0 0 ≡ q → popped reached below r ≡ by_return f below r
  unfolding popped by_return has
  popped-same r d = ap (λ x. popped x below r) (e ∙ ap (λ i. get_or f i 0) (sym d))

  pub popped-none : reached ≡ 0 → (r : List ℕ) → get_or r 0 0 ≡ q → by_return f below r ≡ 0
  unfolding popped
  popped-none z r d = sym (popped-same r d) ∙ ap (λ x. popped x below r) z ∙ rw (no_state (get_or r 2 0), popped)

-- ---- the records found: so many of them are left

module _ (rule : List ℕ → ℕ) (to w : ℕ) (found : List ℕ) (before : Level) where
  pub record Running (rest : List ℕ) (g : Level) : Type 0 where
    pub among : (r : List ℕ) → Memᴰ r (records w rest) → Memᴰ r (records w found)
    pub meets : all_gain rule to (records w found) before ≡ all_gain rule to (records w rest) g

  pub running : {rest : List ℕ} → rest ≡ found → Running rest before
  running e = record { among = λ r m. subst (λ (v : List ℕ). Memᴰ r (records w v)) e m; meets = ap (λ v. all_gain rule to (records w v) before) (sym e) }

module _ {rule : List ℕ → ℕ} {to w : ℕ} {found : List ℕ} {before : Level} {rest : List ℕ} {g : Level} (p : Running rule to w found before rest g) where
  module _ (x after : List ℕ) (some : 0 < w) (e : rest ≡ x ++ after) (h : length x ≡ w) where
    taken : records w rest ≡ x ∷ records w after
    taken = chunk_on rest x after some e h

    -- a state of the record taken
    pub run-few : Few w found → (i : ℕ) → i ≢ 1 → i < w → get_or x i 0 < state_most
    run-few f = f x (p.among x (rw taken (Memᴰ.head refl)))

    pub run_on : {h : Level} → h ≡ add g (get_or x to 0) (rule x) → Running rule to w found before after h
    unfolding all_gain
    run_on d = record {
      among = λ r m. p.among r (rw taken (Memᴰ.tail m));
      meets = p.meets ∙ ap (λ xs. all_gain rule to xs g) taken ∙ (λ j. all_gain rule to (records w after) (sym d j));
    }

  pub run_end : length rest < w → g ≡ all_gain rule to (records w found) before
  unfolding all_gain
  run_end l = sym (p.meets ∙ ap (λ xs. all_gain rule to xs g) (chunk_end rest l))

-- a return that finds its stack state among those reached, and one that does not
module _ (reached : ℕ) (below : Level) (r : List ℕ) {b : Bool} {s : ℕ} (d : s ≡ get_or r 2 0) (e : b ≡ has_bit reached s) where
  pub popped_yes : b ≡ true → get_or below s 0 ≡ popped reached below r
  unfolding popped
  popped_yes y = ap (λ i. get_or below i 0) d ∙ sym (rw (ap (has_bit reached) (sym d) ∙ sym e ∙ y, popped))

  pub popped_no : b ≡ false → (g : Level) (q : ℕ) → g ≡ add g q (popped reached below r)
  unfolding popped
  popped_no n g q = sym (add_none g q (rw (ap (has_bit reached) (sym d) ∙ sym e ∙ n, popped)))
