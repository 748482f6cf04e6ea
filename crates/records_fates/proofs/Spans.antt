-- The records of a section by their indexes, and where those of each state end. The records' width is a variable. Assumes nothing.
use mathlib.Core.Path.{◌≡◌, refl, sym, ap, ◌∙◌, subst}
use mathlib.Core.Logic.{◌⊎◌, inl, inr}
use mathlib.Core.Bool.{true, true≢false}
use mathlib.Core.List.{List, [], ◌∷◌}
use Prim.Native.Nat.{ℕ, zero, suc, ◌+◌, ◌-◌, ◌*◌, ◌/◌, ◌<◌, ◌≤◌}
use native.Mathlib.Nat.{le-div_iff_mul-le, add-mul, one-mul}
use native.Mathlib.Omega.{arith}
use native.Mathlib.Decide.{ℕ_discrete, dec_lt}
use lib.ListN.{length, get_or, set, take, drop, replicate, length-set, length-replicate}
use lib.Seq.{get_or-take, get_or-drop, get_or-set_same, get_or-set_other}
use Rattle.lists.specs.Lists.{parts}
use Rattle.lists.proofs.Members.{zeros}
use Rattle.lists.proofs.Parts.{length-parts, get_d_parts}
use Rattle.limits.specs.Limits.{state_most}
use Rattle.table_spec.specs.File.{records}
use Rattle.table_spec.specs.Reading.{before, ascend}
use Rattle.table_spec.proofs.Order.{first_cases, ascend-before}
use Rattle.records_fates.specs.Marks.{record_at, state_at, records_in, Ends}

-- ---- a record by its index

module _ (w : ℕ) (s : List ℕ) where
  pub records-count : records_in w s ≡ length s / w
  unfolding records
  records-count = length-parts (length s / w) w s

  module _ (p : 0 < w) (i : ℕ) (h : i < records_in w s) where
    pub index-room : i * w + w ≤ length s
    index-room =
        let l : (i + 1) * w ≤ length s = (le-div_iff_mul-le p).0 (omega (arith, records-count)) in
        omega (arith, l, add-mul i 1 w, one-mul w)

    pub record_here : take (i * w + w - i * w) (drop (i * w) s) ≡ record_at w s i
    unfolding records
    record_here = let e : i * w + w - i * w ≡ w = omega arith in rw e (sym (get_d_parts (length s / w) w s i (omega (arith, records-count))))

    pub state-here : get_or s (i * w) 0 ≡ state_at w s i
    state-here =
        let e : i * w ≡ i * w + 0 = omega arith in
        ap (λ n. get_or s n 0) e ∙ sym (get_or-drop (i * w) s 0 0) ∙ sym (get_or-take (i * w + w - i * w) (drop (i * w) s) 0 0 (omega arith)) ∙ ap (λ r. get_or r 0 0) record_here

-- ---- the first bytes of records in order do not fall

first-rises : (x y : List ℕ) → before x y ≡ true → get_or x 0 0 ≤ get_or y 0 0
unfolding before
first-rises [] y e = omega arith
first-rises (x ∷ xs) [] e = absurd (true≢false (sym e))
first-rises (x ∷ xs) (y ∷ ys) e = elim (first_cases x y xs ys e) [ inl l ↦ omega arith | inr l ↦ omega (arith, l.0) ]

pub states_rise : (w : ℕ) (s : List ℕ) → ascend (records w s) ≡ true → (i j : ℕ) → i ≤ j → j < records_in w s → state_at w s i ≤ state_at w s j
states_rise w s a i j h l = go (ℕ_discrete i j)
  where
    go : Dec (i ≡ j) → state_at w s i ≤ state_at w s j
    go (yes e) = omega (arith, ap (state_at w s) e)
    go (no n) = first-rises (record_at w s i) (record_at w s j) (ascend-before (records w s) a i j (omega arith) l)

-- ---- where the records of each state end

-- the same of the records before i
pub record Ending (w : ℕ) (s ends : List ℕ) (i : ℕ) : Type 0 where
  pub long : length ends ≡ state_most
  pub inside : i ≤ records_in w s
  pub behind : (j : ℕ) → j < i → j < get_or ends (state_at w s j) 0
  pub within : (p : ℕ) → get_or ends p 0 ≤ i
  pub last : (p : ℕ) → 0 < get_or ends p 0 → state_at w s (get_or ends p 0 - 1) ≡ p

pub ending : (w : ℕ) (s : List ℕ) → Ending w s (replicate state_most 0) 0
ending w s = record { long = length-replicate {A = ℕ} state_most 0; inside = omega arith; behind = λ j h. absurd (omega arith); within = λ p. omega (arith, zeros state_most p); last = λ p h. absurd (omega (arith, zeros state_most p)) }

module _ {w : ℕ} {s ends : List ℕ} {i : ℕ} (e : Ending w s ends i) where
  pub ended : records_in w s ≤ i → Ends w s ends
  ended h = record { behind = λ j l. e.behind j (omega arith); inside = λ p. omega (arith, e.within p, e.inside); last = e.last }

  module _ (h : i < records_in w s) {q : ℕ} (k : q ≡ state_at w s i) (l : q < state_most) where
    here : get_or (set ends q (i + 1)) q 0 ≡ i + 1
    here = get_or-set_same ends q (i + 1) 0 (omega (arith, e.long))

    pub end_on : Ending w s (set ends q (i + 1)) (i + 1)
    end_on = record { long = length-set ends q (i + 1) ∙ e.long; inside = omega arith; behind = λ j b. behind j b (ℕ_discrete (state_at w s j) q); within = λ p. within p (ℕ_discrete p q); last = λ p. last p (ℕ_discrete p q) }
      where
        behind : (j : ℕ) → j < i + 1 → Dec (state_at w s j ≡ q) → j < get_or (set ends q (i + 1)) (state_at w s j) 0
        behind j b (yes z) = omega (arith, ap (λ p. get_or (set ends q (i + 1)) p 0) z ∙ here)
        behind j b (no z) = rw (get_or-set_other ends q (state_at w s j) (i + 1) 0 z) (e.behind j (below (ℕ_discrete j i)))
          where
            below : Dec (j ≡ i) → j < i
            below (yes u) = absurd (z (ap (state_at w s) u ∙ sym k))
            below (no u) = omega arith

        within : (p : ℕ) → Dec (p ≡ q) → get_or (set ends q (i + 1)) p 0 ≤ i + 1
        within p (yes z) = omega (arith, ap (λ n. get_or (set ends q (i + 1)) n 0) z ∙ here)
        within p (no z) = omega (arith, get_or-set_other ends q p (i + 1) 0 z, e.within p)

        last : (p : ℕ) → Dec (p ≡ q) → 0 < get_or (set ends q (i + 1)) p 0 → state_at w s (get_or (set ends q (i + 1)) p 0 - 1) ≡ p
        last p (yes z) b =
            let g : get_or (set ends q (i + 1)) p 0 - 1 ≡ i = omega (arith, ap (λ n. get_or (set ends q (i + 1)) n 0) z ∙ here) in
            ap (state_at w s) g ∙ sym k ∙ sym z
        last p (no z) b = rw (get_or-set_other ends q p (i + 1) 0 z) (e.last p (rw (get_or-set_other ends q p (i + 1) 0 z) at b))

-- up to its end a state has all the records
pub one_state : {w : ℕ} {s ends : List ℕ} → Ends w s ends → ascend (records w s) ≡ true → (i j : ℕ) → i < records_in w s → i ≤ j → j < get_or ends (state_at w s i) 0 → state_at w s j ≡ state_at w s i
one_state {w} {s} {ends} e a i j h l k =
    let n = get_or ends (state_at w s i) 0 in
    let b = e.inside (state_at w s i) in
    let top : state_at w s (n - 1) ≡ state_at w s i = e.last (state_at w s i) (omega arith) in
    omega (arith, states_rise w s a i j l (omega arith), states_rise w s a j (n - 1) (omega arith) (omega arith), top)
