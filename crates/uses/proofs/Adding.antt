-- Adding lines up one by one: what is still to come of the sums and the total, and a law for each way through the loops of src/. Assumes nothing.
use mathlib.Core.Path.{◌≡◌, refl, sym, ap, ◌∙◌}
use mathlib.Core.Bool.{Bool, true, false}
use mathlib.Core.List.{List, [], ◌∷◌, ◌++◌, map}
use Prim.Native.Nat.{ℕ, ◌+◌, ◌*◌, ◌≤◌, ◌<◌}
use native.Mathlib.Omega.{arith}
use lib.ListN.{length, get_or, set, replicate, length-set, length-append}
use lib.Seq.{ext_get_or, get_or-set_same, get_or-set_other}
use lib.Dec.{eqb}
use borrow.Author.Tests.{eqb-true, eqb-false}
use Rattle.lists.specs.Lists.{filter, sum}
use Rattle.lists.proofs.Members.{zeros}
use Rattle.limits.specs.Limits.{state_most}
use Rattle.table_spec.specs.Maps.{class_of}
use Rattle.table_spec.proofs.Chunks.{chunk_on, chunk_end}
use Rattle.uses_spec.specs.Uses.{Line, line_of, lines_of, uses_in, class_sum, class_sums, counted}
use Rattle.uses_spec.specs.Demands.{Fits}
use Rattle.uses_spec.proofs.Sums.{weigh, sum_first, length-sums, sum-at}

-- ---- the lines that are left

pub lines_on : (s x r : List ℕ) → s ≡ x ++ r → length x ≡ 5 → lines_of s ≡ line_of x ∷ lines_of r
unfolding lines_of
lines_on s x r e h = ap (map line_of) (chunk_on s x r (omega arith) e h)

pub lines_end : (s : List ℕ) → length s < 5 → lines_of s ≡ []
unfolding lines_of
lines_end s h = ap (map line_of) (chunk_end s h)

-- ---- the sums

-- the lines that are left are still to be added
pub record Adding (m s : List ℕ) (size : ℕ) (rest sums : List ℕ) (total : ℕ) : Type 0 where
  pub can_next : 0 < size
  pub width : size ≡ 5
  pub few : length s ≤ 5 * 65536
  pub long : length sums ≡ state_most
  pub each : (c : ℕ) → c < state_most → get_or sums c 0 + class_sum m (lines_of rest) c ≡ class_sum m (lines_of s) c
  pub every : total + uses_in (lines_of rest) ≡ uses_in (lines_of s)
  pub small : 5 * total + length rest * 4294967295 ≤ length s * 4294967295
  pub under : (c : ℕ) → get_or sums c 0 ≤ total

pub adding : (m s : List ℕ) {size : ℕ} {rest : List ℕ} → length s ≤ 5 * 65536 → size ≡ 5 → rest ≡ s → Adding m s size rest (replicate 40 0) 0
adding m s h e d = record {
  can_next = omega arith;
  width = e;
  few = h;
  long = refl;
  each = λ c l. omega (arith, zeros 40 c, ap (λ (y : List ℕ). class_sum m (lines_of y) c) d);
  every = omega (arith, ap (λ (y : List ℕ). uses_in (lines_of y)) d);
  small = omega (arith, ap length d);
  under = λ c. omega (arith, zeros 40 c);
}

module _ {m s : List ℕ} {size : ℕ} {rest sums : List ℕ} {total : ℕ} (w : Adding m s size rest sums total) where
  module _ {uses class : ℕ} (x t : List ℕ) (h : (rest ≡ x ++ t) × (length x ≡ size)) (l : class < 40) (b : uses ≤ 4294967295) where
    pub long : length x ≡ 5
    long = h.1 ∙ w.width

    less : length rest ≡ 5 + length t
    less = omega (arith, ap length h.0, length-append x t, long)

    -- neither the total nor a sum wraps
    pub room : (5 * (total + uses) + length t * 4294967295 ≤ length s * 4294967295) × (length s ≤ 5 * 65536) × (get_or sums class 0 + uses ≤ total + uses)
    room = (omega (arith, w.small, less), omega (arith, w.few), omega (arith, w.under class))

    module _ (e : uses ≡ (line_of x).uses) (k : class ≡ class_of m (line_of x).state) where
      now : List ℕ
      now = set sums class (get_or sums class 0 + uses)

      after : List Line
      after = lines_of t

      -- what the line adds to the sum of class c
      line_sum : (c : ℕ) → class_sum m (lines_of rest) c ≡ weigh (eqb class c) uses + class_sum m after c
      unfolding class_sum uses_in after
      line_sum c =
          ap (λ ls. class_sum m ls c) (lines_on rest x t h.0 long)
          ∙ sum_first (λ y. y.uses) (λ y. eqb (class_of m y.state) c) _ _
          ∙ λ i. weigh (eqb (sym k i) c) (sym e i) + class_sum m after c

      here : (c : ℕ) → c < state_most → get_or now c 0 + class_sum m after c ≡ class_sum m (lines_of s) c
      unfolding now weigh
      here c lc = go (eqb class c) refl
        where
          go : (t : Bool) → eqb class c ≡ t → get_or (set sums class (get_or sums class 0 + uses)) c 0 + class_sum m after c ≡ class_sum m (lines_of s) c
          go true q =
              let v = eqb-true class c q in
              let g : get_or (set sums class (get_or sums class 0 + uses)) c 0 ≡ get_or sums c 0 + uses =
              rw (sym v) (get_or-set_same sums class (get_or sums class 0 + uses) 0 (omega (arith, w.long))) in
              let f : weigh (eqb class c) uses ≡ uses = rw (q, weigh) in
              omega (arith, g, f, line_sum c, w.each c lc)
          go false q =
              let g = get_or-set_other sums class c (get_or sums class 0 + uses) 0 (λ v. eqb-false class c q (sym v)) in
              let f : weigh (eqb class c) uses ≡ 0 = rw (q, weigh) in
              omega (arith, g, f, line_sum c, w.each c lc)

      below : (c : ℕ) → get_or now c 0 ≤ total + uses
      unfolding now
      below c = go (eqb class c) refl
        where
          go : (t : Bool) → eqb class c ≡ t → get_or (set sums class (get_or sums class 0 + uses)) c 0 ≤ total + uses
          go true q =
              let v = eqb-true class c q in
              let g : get_or (set sums class (get_or sums class 0 + uses)) c 0 ≡ get_or sums class 0 + uses =
              rw (sym v) (get_or-set_same sums class (get_or sums class 0 + uses) 0 (omega (arith, w.long))) in
              omega (arith, g, w.under class)
          go false q = omega (arith, get_or-set_other sums class c (get_or sums class 0 + uses) 0 (λ v. eqb-false class c q (sym v)), w.under c)

      pub added : {left : ℕ} → left ≡ size → Adding m s left t (set sums class (get_or sums class 0 + uses)) (total + uses)
      unfolding now after uses_in sum
      added d = record {
        can_next = omega (arith, w);
        width = d ∙ w.width;
        few = w.few;
        long = length-set sums class _ ∙ w.long;
        each = here;
        every = omega (arith, w.every, ap uses_in (lines_on rest x t h.0 long), e);
        small = room.0;
        under = below;
      }

  module _ (h : length rest < size) where
    pub added_all : record { sums = sums; total = total } ≡ counted m s
    unfolding counted uses_in sum class_sum filter
    added_all =
        let f = lines_end rest (omega (arith, w)) in
        let each : (c : ℕ) → c < length sums → get_or sums c 0 ≡ get_or (class_sums m (lines_of s)) c 0 =
        λ c l. let lc : c < state_most = omega (arith, w.long) in omega (arith, w.each c lc, ap (λ ls. class_sum m ls c) f, sum-at m (lines_of s) c lc) in
        let sums-are = ext_get_or 0 sums (class_sums m (lines_of s)) (w.long ∙ sym (length-sums m (lines_of s))) each in
        let total-is : total ≡ uses_in (lines_of s) = omega (arith, w.every, ap uses_in f) in
        λ i. record { sums = sums-are i; total = total-is i }

    pub added_fits : Fits (record { sums = sums; total = total })
    added_fits = record { total = omega (arith, w.small, w.few); sums = w.under }
