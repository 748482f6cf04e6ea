-- What is still to come at each turn of the loops. Assumes nothing.
use mathlib.Core.Path.{◌≡◌, refl, sym, ap, ◌∙◌}
use mathlib.Core.Logic.{◌≢◌}
use mathlib.Core.Bool.{Bool, true, false}
use mathlib.Core.List.{List, [], ◌∷◌, ◌++◌, Memᴰ}
use Prim.Native.Nat.{ℕ, suc, ◌+◌, ◌-◌, ◌*◌, ◌^◌, ◌<◌, ◌≤◌}
use native.Mathlib.Omega.{arith}
use native.Mathlib.Nat.{suc-mul, mul-le-mul}
use native.Mathlib.Numerals.{add-one}
use lib.ListN.{length, get_or, take, drop, length-take}
use lib.Seq.{get_or-take, get_or-drop}
use lib.Dec.{eqb}
use lib.Count.{ones_in}
use Rattle.std.specs.List.{sum_by}
use Rattle.std.proofs.lemmas.List.Sums.{sum_by-cons}
use Rattle.lists.specs.Lists.{same}
use Rattle.lists.specs.Bits.{has, ones_over}
use Rattle.lists.proofs.Members.{same_true}
use Rattle.lists.proofs.Words.{ones_le}
use Rattle.limits.specs.Limits.{state_most}
use Rattle.table_spec.specs.File.{Table, records}
use Rattle.table_spec.proofs.Chunks.{Left, on, ended, chunk_on}
use Rattle.tops_spec.specs.Tops.{add, live, by_internals, by_calls, by_returns, round, rounds}
use Rattle.tops.specs.declared.Kind.{Kind}
use Rattle.tops.specs.declared.Kind.TheVariants.{Internal, Call, Return}
use Rattle.tops_spec.proofs.Walks.{length-add}
use Rattle.tops.specs.Steps.{StateRecords, width_of, step_by, by_records}

-- a byte of the record at a place
pub record_byte : (w : ℕ) (s : List ℕ) (at i : ℕ) → i < w → get_or (take w (drop at s)) i 0 ≡ get_or s (at + i) 0
record_byte w s at i h = get_or-take w (drop at s) i 0 h ∙ get_or-drop at s i 0

-- ---- records of a kind

three_bytes : (k : Kind) → 2 < width_of k
three_bytes Internal = omega arith
three_bytes Call = omega arith
three_bytes Return = omega arith

-- the first record's step, then the others'
by_cons : (k : Kind) (r : List ℕ) (rs : List (List ℕ)) (g : List ℕ) → by_records k (r ∷ rs) g ≡ by_records k rs (step_by k g (get_or r 0 0) (get_or r 2 0) (get_or r (width_of k - 1) 0))
unfolding by_internals by_calls by_returns live step_by
by_cons Internal r rs g = refl
by_cons Call r rs g = refl
by_cons Return r rs g = refl

by_nil : (k : Kind) (g : List ℕ) → by_records k [] g ≡ g
unfolding by_internals by_calls by_returns
by_nil Internal g = refl
by_nil Call g = refl
by_nil Return g = refl

-- ---- a walk over the records of a section: the words as they are, and the records that are left

pub record Walking (k : Kind) (s before : List ℕ) (n : ℕ) (rest words : List ℕ) : Type 0 where
  pub left : Left (by_records k (records (width_of k) s) before) (λ rs. by_records k rs words) (width_of k) n rest
  pub states : (r : List ℕ) → Memᴰ r (records (width_of k) rest) → (i : ℕ) → i ≢ 1 → i < width_of k → get_or r i 0 < state_most
  pub long : length words ≡ length before

pub walking : (k : Kind) {s : List ℕ} (f : List ℕ) {n : ℕ} {rest : List ℕ} → StateRecords (width_of k) state_most s → n ≡ width_of k → rest ≡ s → Walking k s f n rest f
walking k f h e d = record {
  left = record { can_next = omega (arith, three_bytes k); width = e; meets = ap (λ r. by_records k (records (width_of k) r) f) (sym d) };
  states = rw d h.states;
  long = refl;
}

-- a step keeps the number of words
step-long : (k : Kind) (f : List ℕ) (q s q' : ℕ) → length (step_by k f q s q') ≡ length f
unfolding step_by
step-long Internal f q s q' = length-add f q' (get_or f q 0)
step-long Call f q s q' = go (eqb (get_or f q 0) 0)
  where
    go : (b : Bool) → length {A = ℕ} (elim b as (λ _. List ℕ) [ true ↦ f | false ↦ add f q' (2 ^ q) ]) ≡ length f
    go true = refl
    go false = length-add f q' (2 ^ q)
step-long Return f q s q' = go (has f q s)
  where
    go : (b : Bool) → length {A = ℕ} (elim b as (λ _. List ℕ) [ true ↦ add f q' (get_or f s 0) | false ↦ f ]) ≡ length f
    go true = length-add f q' (get_or f s 0)
    go false = refl

module _ {k : Kind} {s f : List ℕ} {n : ℕ} {rest g : List ℕ} (p : Walking k s f n rest g) where
  pub walked : length rest < n → g ≡ by_records k (records (width_of k) s) f
  walked h = sym (ended p.left h ∙ by_nil k g)

  module _ (x t : List ℕ) (e : (rest ≡ x ++ t) × (length x ≡ n)) where
    -- the record's bytes: the third is there, and the last is that of its kind
    pub fits : (2 < length x) × (length x ≡ width_of k)
    fits = let w : length x ≡ width_of k = e.1 ∙ p.left.width in (omega (arith, three_bytes k), w)

    here : records (width_of k) rest ≡ x ∷ records (width_of k) t
    here = chunk_on rest x t (omega (arith, three_bytes k)) e.0 fits.1

    -- a, b and c are what the code has of the record: its first, third and last byte
    module _ {a b c : ℕ} (u : a ≡ get_or x 0 0) (v : b ≡ get_or x 2 0) (w : c ≡ get_or x (width_of k - 1) 0) where
      pub states-read : (a < state_most) × (b < state_most) × (c < state_most)
      states-read =
          let h = p.states x (rw here (Memᴰ.head refl)) in
          let m = three_bytes k in
          (rw u (h 0 (λ q. omega arith) (omega arith)), rw v (h 2 (λ q. omega arith) m), rw w (h (width_of k - 1) (λ q. omega arith) (omega arith)))

      -- what the walk does with it
      pub walk_on : {m : ℕ} {g' : List ℕ} → m ≡ n → g' ≡ step_by k g a b c → Walking k s f m t g'
      walk_on {m} {g'} s q =
          let d : g' ≡ step_by k g (get_or x 0 0) (get_or x 2 0) (get_or x (width_of k - 1) 0) = q ∙ (λ i. step_by k g (u i) (v i) (w i)) in
          record {
            left = on p.left x t s e (by_cons k x (records (width_of k) t) g ∙ ap (by_records k (records (width_of k) t)) (sym d));
            states = λ r h. p.states r (rw here (Memᴰ.tail h));
            long = ap length q ∙ step-long k g a b c ∙ p.long;
          }

-- ---- the words, summed

-- a sum of what is at most m for each word
pub sum_most : (f : ℕ → ℕ) (m : ℕ) (ws : List ℕ) → ((q : ℕ) → f (get_or ws q 0) ≤ m) → sum_by f ws ≤ length ws * m
sum_most f m [] h = omega arith
sum_most f m (w ∷ ws) h = omega (arith, h 0, sum_most f m ws (λ q. h (suc q)), sum_by-cons f w ws, suc-mul (length ws) m)

-- the ones over all words are such a sum
pub ones_sum : (k : ℕ) (ws : List ℕ) → sum_by (ones_in k) ws ≡ ones_over k ws
unfolding ones_over
ones_sum k [] = refl
ones_sum k (w ∷ ws) = sum_by-cons (ones_in k) w ws ∙ ap (λ n. ones_in k w + n) (ones_sum k ws)

-- those of at most 40 words fit
pub ones_fit : (n : ℕ) (ws : List ℕ) → n ≤ state_most → sum_by (ones_in 64) (take n ws) < 2 ^ 32
ones_fit n ws h = omega (arith, sum_most (ones_in 64) 64 (take n ws) (λ q. ones_le 64 (get_or (take n ws) q 0)), length-take n ws)

pub ones_whole : (ws : List ℕ) → length ws ≤ state_most → sum_by (ones_in 64) ws < 2 ^ 32
ones_whole ws h = omega (arith, sum_most (ones_in 64) 64 ws (λ q. ones_le 64 (get_or ws q 0)))

-- ---- the rounds

pub section_within : {w n : ℕ} {s : List ℕ} → n ≤ state_most → StateRecords w n s → StateRecords w state_most s
section_within h k = record { whole = k.whole; states = λ r m i n l. let g = k.states r m i n l in omega arith }

-- the words that are to come out, and those that so many rounds are still to be made from
pub record Resting (t : Table) (end words : List ℕ) (left : ℕ) : Type 0 where
  pub meets : end ≡ rounds left t words

pub resting : (t : Table) (words : List ℕ) (n : ℕ) {left : ℕ} → left ≡ n * (n + 1) + 1 - 0 → Resting t (rounds (suc (n * suc n)) t words) words left
resting t words n {left} e =
    let l : left ≡ n * (n + 1) + 1 = omega arith in
    record { meets = ap (λ k. rounds k t words) (sym (l ∙ add-one (n * (n + 1)) ∙ ap (λ k. suc (n * k)) (add-one n))) }

-- at most 40 states are few rounds
pub few-rounds : {n : ℕ} → n ≤ state_most → n * (n + 1) ≤ 1640
few-rounds h = mul-le-mul {n₂ = state_most} {m₂ = 41} h (omega arith)

-- all three sections make a round
pub rounded : (t : Table) (f : List ℕ) {a b c : List ℕ} → a ≡ by_internals t.internals f → b ≡ by_calls t.calls a → c ≡ by_returns t.returns b → c ≡ round t f
unfolding round
rounded t f p q r = r ∙ ap (by_returns t.returns) (q ∙ ap (by_calls t.calls) p)

module _ {t : Table} {end words : List ℕ} {left : ℕ} (p : Resting t end words left) where
  turn : 0 < left → (b : Bool) → same (round t words) words ≡ b → end ≡ elim b [ true ↦ words | false ↦ rounds (left - 1) t (round t words) ]
  unfolding rounds
  turn h b e =
      let l : left ≡ suc (left - 1) = omega arith in
      p.meets ∙ ap (λ n. rounds n t words) l ∙ ap (λ (c : Bool). elim c as (λ _. List ℕ) [ true ↦ words | false ↦ rounds (left - 1) t (round t words) ]) e

  pub rest_on : {new : List ℕ} {less : ℕ} → 0 < left → less ≡ left - 1 → new ≡ round t words → same new words ≡ false → Resting t end new less
  rest_on h l e k = record { meets = turn h false (ap (λ ws. same ws words) (sym e) ∙ k) ∙ λ i. rounds (sym l i) t (sym e i) }

  pub rested : {new : List ℕ} → 0 < left → new ≡ round t words → same new words ≡ true → new ≡ end
  rested h e k = same_true _ words k ∙ sym (turn h true (ap (λ ws. same ws words) (sym e) ∙ k))

  pub spent : left ≡ 0 → words ≡ end
  unfolding rounds
  spent e = sym (p.meets ∙ ap (λ n. rounds n t words) e)
