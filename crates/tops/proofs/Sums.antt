-- A round only adds to the words, so their sum tells whether it changed one. Assumes nothing.
use mathlib.Core.Path.{◌≡◌, refl, sym, ap, ◌∙◌}
use mathlib.Core.Logic.{◌≢◌}
use mathlib.Core.Bool.{Bool, true, false}
use mathlib.Core.List.{List, [], ◌∷◌, ◌++◌, map}
use Prim.Native.Nat.{ℕ, zero, suc, ◌+◌, ◌-◌, ◌^◌, ◌<◌, ◌≤◌}
use native.Mathlib.Omega.{arith}
use native.Mathlib.Decide.{ℕ_discrete, dec_lt}
use lib.ListN.{length, get_or, replicate, length-append, length-map, length-replicate, get_or-eq_default}
use lib.Seq.{get_or-set_same, get_or-set_other}
use lib.Dec.{eqb}
use Rattle.std.specs.List.{sum}
use Rattle.std.proofs.lemmas.List.Sums.{sum_by-cons}
use lib.Pow.{pow-lt}
use lib.Bits.{bit_or, or_add_and, and_le_r, or_lt}
use Rattle.lists.specs.Lists.{same}
use Rattle.lists.proofs.Members.{same_refl, same_true}
use Rattle.lists.proofs.Words.{get_d_padded}
use Rattle.limits.specs.Limits.{state_most}
use Rattle.table_spec.specs.File.{Table}
use Rattle.table_spec.specs.Reading.{is_initial}
use Rattle.table_view.specs.Sections.{sectioned}
use Rattle.tops_spec.specs.Tops.{add, live, by_internals, by_calls, by_returns, round, start_words}
use Rattle.tops_spec.proofs.Bounded.{Bounded}
use Rattle.tops_spec.proofs.Walks.{internal_step, call_step, return_step, round-walk, walk-keeps, length-add}
use Rattle.tops.specs.Steps.{StateParts, Small}
use Rattle.tops.proofs.Padded.{sections_bounded}
use Rattle.tops.proofs.Loops.{Resting, rest_on, rested, sum_most}

or-more : (a b : ℕ) → a ≤ bit_or a b
or-more a b = omega (arith, or_add_and a b, and_le_r a b)

-- as many words as f has, none of them less, and small
record Grown (f g : List ℕ) : Type 0 where
  wide : length g ≡ length f
  more : (q : ℕ) → get_or f q 0 ≤ get_or g q 0
  small : Small g

module _ {f g : List ℕ} (p : Grown f g) (q w : ℕ) (h : w < 2 ^ suc state_most) where
  add-grown : Grown f (add g q w)
  unfolding add
  add-grown = record { wide = length-add g q w ∙ p.wide; more = λ x. more x (ℕ_discrete x q) (dec_lt q (length g)); small = record { long = length-add g q w ∙ p.small.long; each = λ x. small x (ℕ_discrete x q) (dec_lt q (length g)) } }
    where
      more : (x : ℕ) → Dec (x ≡ q) → Dec (q < length g) → get_or f x 0 ≤ get_or (add g q w) x 0
      more x (no n) d = rw (get_or-set_other g q x _ 0 n) (p.more x)
      more x (yes e) (yes l) = rw (e, get_or-set_same g q _ 0 l) (let m = p.more q in let o = or-more (get_or g q 0) w in omega arith)
      more x (yes e) (no l) = rw (get_or-eq_default f 0 {n = x} (omega (arith, p.wide))) (omega arith)

      small : (x : ℕ) → Dec (x ≡ q) → Dec (q < length g) → get_or (add g q w) x 0 < 2 ^ suc state_most
      small x (no n) d = rw (get_or-set_other g q x _ 0 n) (p.small.each x)
      small x (yes e) (yes l) = rw (e, get_or-set_same g q _ 0 l) (or_lt (suc state_most) (get_or g q 0) w (p.small.each q) h)
      small x (yes e) (no l) = rw (get_or-eq_default (add g q w) 0 {n = x} (omega (arith, length-add g q w))) (omega arith)

-- ---- each kind of record

module _ (f : List ℕ) where
  internal-grown : (r g : List ℕ) → Grown f g → Grown f (internal_step r g)
  unfolding internal_step by_internals
  internal-grown r g p = add-grown p _ _ (p.small.each _)

  call-grown : (r : List ℕ) → get_or r 0 0 < state_most → (g : List ℕ) → Grown f g → Grown f (call_step r g)
  unfolding call_step by_calls
  call-grown r h g p = go (eqb (get_or g (get_or r 0 0) 0) 0)
    where
      go : (b : Bool) → Grown f (elim b [ true ↦ g | false ↦ add g (get_or r 2 0) (2 ^ get_or r 0 0) ])
      go true = p
      go false = add-grown p _ _ (pow-lt {j = suc state_most} (omega arith))

  return-grown : (r g : List ℕ) → Grown f g → Grown f (return_step r g)
  unfolding return_step by_returns
  return-grown r g p = go (live g r)
    where
      go : (b : Bool) → Grown f (elim b [ true ↦ add g (get_or r 3 0) (get_or g (get_or r 2 0) 0) | false ↦ g ])
      go true = add-grown p _ _ (p.small.each _)
      go false = p

  round-grown : {t : Table} → Bounded state_most t → Small f → Grown f (round t f)
  round-grown {t} bounded s =
      let start : Grown f f = record { wide = refl; more = λ q. omega arith; small = s } in
      let i = walk-keeps (Grown f) internal_step t.internals f (λ r m g p. internal-grown r g p) start in
      let c = walk-keeps (Grown f) call_step t.calls _ (λ r m g p. call-grown r (let b = bounded.calls r m in omega (arith, b.from, bounded.states)) g p) i in
      rw (round-walk t f) (walk-keeps (Grown f) return_step t.returns _ (λ r m g p. return-grown r g p) c)

-- ---- the sum of lists of which one is nowhere less

sum_more : (f g : List ℕ) → length g ≡ length f → ((q : ℕ) → get_or f q 0 ≤ get_or g q 0) → sum f ≤ sum g
sum_more [] [] l h = omega arith
sum_more [] (y ∷ g) l h = absurd (omega arith)
sum_more (x ∷ f) [] l h = absurd (omega arith)
sum_more (x ∷ f) (y ∷ g) l h = omega (arith, h 0, sum_more f g (omega arith) (λ q. h (suc q)), sum_by-cons (λ w. w) x f, sum_by-cons (λ w. w) y g)

sum_tells : (f g : List ℕ) → length g ≡ length f → ((q : ℕ) → get_or f q 0 ≤ get_or g q 0) → sum g ≡ sum f → g ≡ f
sum_tells [] [] l h e = refl
sum_tells [] (y ∷ g) l h e = absurd (omega arith)
sum_tells (x ∷ f) [] l h e = absurd (omega arith)
sum_tells (x ∷ f) (y ∷ g) l h e =
    let m = sum_more f g (omega arith) (λ q. h (suc q)) in
    let a = sum_by-cons (λ w. w) x f in
    let b = sum_by-cons (λ w. w) y g in
    let here : y ≡ x = omega (arith, h 0) in
    let rest = sum_tells f g (omega arith) (λ q. h (suc q)) (omega arith) in
    λ i. here i ∷ rest i

module _ {s i c r f g : List ℕ} (h : StateParts s i c r) (small : Small f) (e : g ≡ round (sectioned 0 [] s i c r) f) where
  pub small_on : Small g
  small_on = rw e (round-grown f (sections_bounded h) small).small

  -- a round that leaves the sum changes nothing; one that does not, does
  pub sum_same : sum g ≡ sum f → same g f ≡ true
  sum_same k =
      let p = round-grown f (sections_bounded h) small in
      let d = sum_tells f (round (sectioned 0 [] s i c r) f) p.wide p.more (rw e at k) in
      rw (e, d) (same_refl f)

  pub sum-other : sum g ≢ sum f → same g f ≡ false
  sum-other k = go (same g f) refl
    where
      go : (b : Bool) → same g f ≡ b → same g f ≡ false
      go false d = d
      go true d = absurd (k (ap sum (same_true g f d)))

-- the sum of small words fits a word of the machine
pub sum_fits : {ws : List ℕ} → Small ws → sum ws < 2 ^ 64
sum_fits {ws} s = let m = sum_most (λ w. w) (2 ^ suc state_most) ws (λ q. let h = s.each q in omega arith) in omega (arith, m, s.long)

-- ---- the words at the start are small

pub start_small : (s : List ℕ) {words : List ℕ} → length s ≤ state_most → words ≡ start_words state_most (sectioned 0 [] s [] [] []) ++ replicate (state_most - length s) 0 → Small words
unfolding start_words sectioned
start_small s few e = record { long = ap length e ∙ long; each = λ q. rw (e, get_d_padded _ (state_most - length s) q) (state-small s q) }
  where
    long : length (start_words state_most (sectioned 0 [] s [] [] []) ++ replicate (state_most - length s) 0) ≡ state_most
    long = length-append (start_words state_most (sectioned 0 [] s [] [] [])) (replicate (state_most - length s) 0) ∙ (λ i. length-map {B = ℕ} s (λ byte. elim (is_initial byte) [ true ↦ 2 ^ state_most | false ↦ 0 ]) i + length-replicate {A = ℕ} (state_most - length s) 0 i) ∙ omega arith

    word_small : (b : Bool) → elim b as (λ _. ℕ) [ true ↦ 2 ^ state_most | false ↦ 0 ] < 2 ^ suc state_most
    word_small true = omega arith
    word_small false = omega arith

    state-small : (s : List ℕ) (q : ℕ) → get_or (map (λ byte. elim (is_initial byte) [ true ↦ 2 ^ state_most | false ↦ 0 ]) s) q 0 < 2 ^ suc state_most
    state-small [] q = omega arith
    state-small (x ∷ s) zero = word_small (is_initial x)
    state-small (x ∷ s) (suc q) = state-small s q

-- ---- the rounds, with the sum of the words

pub record SumKnown (t : Table) (end words : List ℕ) (left was : ℕ) : Type 0 where
  pub rest : Resting t end words left
  pub small : Small words
  pub summed : was ≡ sum words

module _ {s i c r end words new : List ℕ} {left was : ℕ} (p : SumKnown (sectioned 0 [] s i c r) end words left was) (h : StateParts s i c r) (l : 0 < left) (e : new ≡ round (sectioned 0 [] s i c r) words) where
  pub told_small : Small new
  told_small = small_on h p.small e

  pub told_on : {told less : ℕ} → less ≡ left - 1 → told ≡ sum new → told ≢ was → SumKnown (sectioned 0 [] s i c r) end new less told
  told_on m k n = record { rest = rest_on p.rest l m e (sum-other h p.small e (λ d. n (k ∙ d ∙ sym p.summed))); small = told_small; summed = k }

  pub told_end : {told : ℕ} → told ≡ sum new → told ≡ was → new ≡ end
  told_end k n = rested p.rest l e (sum_same h p.small e (sym k ∙ n ∙ p.summed))
