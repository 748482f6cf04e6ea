-- The states of the quotient's table (document 01: "The quotient has one state a class, initial or accepting if a member is"; document 02, (v): "the
-- members' mark"). Assumes nothing.
use mathlib.Core.Path.{◌≡◌, refl, sym, ap, ◌∙◌}
use mathlib.Core.Logic.{◌↔◌}
use mathlib.Core.Bool.{Bool, true, false, ◌&&◌, true≢false}
use mathlib.Core.List.{List, ◌∷◌, [], Memᴰ}
use Prim.Native.Nat.{ℕ, ◌+◌, ◌-◌, ◌*◌, ◌/◌, ◌%◌, ◌≤◌, ◌<◌}
use native.Mathlib.Omega.{arith}
use lib.ListN.{length-map}
use lib.Dec.{eqb}
use borrow.Author.Tests.{eqb-true, eqb-false, eq-eqb}
use Rattle.lists.specs.Lists.{any, upto}
use Rattle.lists.proofs.Members.{and-true, and_of, get_d_map, any-true, any_of, upto-mem, upto_of, length-upto, get_d_upto}
use Rattle.table_spec.specs.File.{Table}
use Rattle.table_spec.specs.Reading.{state_byte_most, is_initial, is_accepting}
use Rattle.table_spec.specs.Language.{count, byte_of, mark_of}
use Rattle.table_spec.specs.Maps.{class_of, classes}
use Rattle.table_spec.proofs.Versions.{mark-within}
use Rattle.quotient_spec.specs.Quotient.{member_has, bit_of, mark_among, class_mark, class_byte, quotient_table}

-- a member of class c whose byte passes
pub record Has (P : ℕ → Type 0) (t : Table) (m : List ℕ) (c : ℕ) : Type 0 where
  pub state : ℕ
  pub within : state < count t
  pub class : class_of m state ≡ c
  pub holds : P (byte_of t state)

has_of : (test : ℕ → Bool) (t : Table) (m : List ℕ) (c : ℕ) → member_has test t m c ≡ true ↔ Has (λ b. test b ≡ true) t m c
unfolding member_has
has_of test t m c = (forth, λ h. any_of passes (upto (count t)) h.state (upto_of (count t) h.state h.within) (and_of (eq-eqb _ _ h.class) h.holds))
  where
    passes : ℕ → Bool
    passes q = eqb (class_of m q) c && test (byte_of t q)

    forth : any passes (upto (count t)) ≡ true → Has (λ b. test b ≡ true) t m c
    forth e =
        let r = any-true passes (upto (count t)) e in
        let p = and-true _ _ r.2 in
        record { state = r.0; within = upto-mem (count t) r.0 r.1; class = eqb-true _ _ p.0; holds = p.1 }

pub bit-small : (b : Bool) → bit_of b ≤ 1
unfolding bit_of
bit-small true = omega arith
bit-small false = omega arith

-- a class's byte, of two bits and a mark
abbrev pub byte_with : Bool → Bool → ℕ → ℕ
byte_with a b k = bit_of a + 2 * bit_of b + 4 * k

pub low_bit : (a b : Bool) (k : ℕ) → byte_with a b k % 2 ≡ 1 ↔ a ≡ true
unfolding bit_of
low_bit true true k = (λ e. refl, λ e. omega arith)
low_bit true false k = (λ e. refl, λ e. omega arith)
low_bit false true k = (λ e. absurd (omega arith), λ e. absurd (true≢false (sym e)))
low_bit false false k = (λ e. absurd (omega arith), λ e. absurd (true≢false (sym e)))

pub high_bit : (a b : Bool) (k : ℕ) → byte_with a b k / 2 % 2 ≡ 1 ↔ b ≡ true
unfolding bit_of
high_bit true true k = (λ e. refl, λ e. omega arith)
high_bit false true k = (λ e. refl, λ e. omega arith)
high_bit true false k = (λ e. absurd (omega arith), λ e. absurd (true≢false (sym e)))
high_bit false false k = (λ e. absurd (omega arith), λ e. absurd (true≢false (sym e)))

-- ---- the members' mark

module _ (t : Table) (m : List ℕ) (c : ℕ) where
  pub mark-here : (q : ℕ) (qs : List ℕ) → eqb (class_of m q) c ≡ true → mark_among t.states m c (q ∷ qs) ≡ mark_of (byte_of t q)
  unfolding mark_among
  mark-here q qs e = rw (e, mark_among)

  pub mark_on : (q : ℕ) (qs : List ℕ) → eqb (class_of m q) c ≡ false → mark_among t.states m c (q ∷ qs) ≡ mark_among t.states m c qs
  unfolding mark_among
  mark_on q qs e = rw (e, mark_among)

  -- it is at most what every state's mark is
  among-most : (x : ℕ) → ((q : ℕ) → mark_of (byte_of t q) ≤ x) → (qs : List ℕ) → mark_among t.states m c qs ≤ x
  unfolding mark_among
  among-most x h [] = omega arith
  among-most x h (q ∷ qs) = go (eqb (class_of m q) c) refl (among-most x h qs)
    where
      go : (b : Bool) → eqb (class_of m q) c ≡ b → mark_among t.states m c qs ≤ x → mark_among t.states m c (q ∷ qs) ≤ x
      go true e k = omega (arith, mark-here q qs e, h q)
      go false e k = omega (arith, mark_on q qs e)

  pub mark-most : (x : ℕ) → ((q : ℕ) → mark_of (byte_of t q) ≤ x) → class_mark t m c ≤ x
  unfolding class_mark
  mark-most x h = among-most x h (upto (count t))

  -- where the states of one class have one mark, it is that of each member
  among-mark : (k : ℕ) (qs : List ℕ) → ((q : ℕ) → Memᴰ q qs → class_of m q ≡ c → mark_of (byte_of t q) ≡ k) → (p : ℕ) → Memᴰ p qs → class_of m p ≡ c → mark_among t.states m c qs ≡ k
  among-mark k (q ∷ qs) h p i e = go (eqb (class_of m q) c) refl i (λ j. among-mark k qs (λ q i. h q (Memᴰ.tail i)) p j e)
    where
      go : (b : Bool) → eqb (class_of m q) c ≡ b → Memᴰ p (q ∷ qs) → (Memᴰ p qs → mark_among t.states m c qs ≡ k) → mark_among t.states m c (q ∷ qs) ≡ k
      go true f j ih = mark-here q qs f ∙ h q (Memᴰ.head refl) (eqb-true _ _ f)
      go false f (Memᴰ.head d) ih = absurd (eqb-false _ _ f (ap (class_of m) (sym d) ∙ e))
      go false f (Memᴰ.tail j) ih = mark_on q qs f ∙ ih j
  among-mark k [] h p i e = elim i [ ]

  pub members-mark : (p : ℕ) → p < count t → class_of m p ≡ c → ((q : ℕ) → q < count t → class_of m q ≡ c → mark_of (byte_of t q) ≡ mark_of (byte_of t p)) → class_mark t m c ≡ mark_of (byte_of t p)
  unfolding class_mark
  members-mark p l e h = among-mark (mark_of (byte_of t p)) (upto (count t)) (λ q i. h q (upto-mem (count t) q i)) p (upto_of (count t) p l) e

-- a class's byte is within the limit that the states' bytes are within
pub byte_small : (t : Table) (m : List ℕ) (c : ℕ) → ((q : ℕ) → byte_of t q ≤ state_byte_most t.version) → class_byte t m c ≤ state_byte_most t.version
unfolding class_byte mark_of
byte_small t m c h =
    let most = state_byte_most t.version in
    let k = mark-most t m c ((most - 3) / 4) (λ q. omega (arith, mark-within t.version (byte_of t q) (h q))) in
    omega (arith, k, mark-within t.version (byte_of t 0) (h 0), bit-small (member_has is_initial t m c), bit-small (member_has is_accepting t m c))

module _ (t : Table) (m : List ℕ) where
  class_byte_lem : (c : ℕ) → c < classes m → byte_of (quotient_table t m) c ≡ class_byte t m c
  unfolding quotient_table
  class_byte_lem c h = get_d_map (class_byte t m) (upto (classes m)) c 0 0 (rw length-upto h) ∙ ap (class_byte t m) (get_d_upto (classes m) c 0 h)

  pub count-classes : count (quotient_table t m) ≡ classes m
  unfolding quotient_table
  count-classes = length-map (upto (classes m)) (class_byte t m) ∙ length-upto (classes m)

  -- "initial or accepting if a member is": a bit of the byte, and the test for it
  class-has : (bit : ℕ → ℕ) (test : ℕ → Bool) → ((x : ℕ) → test x ≡ true ↔ bit x ≡ 1) → ((c : ℕ) → bit (class_byte t m c) ≡ 1 ↔ member_has test t m c ≡ true)
      → (c : ℕ) → c < classes m → bit (byte_of (quotient_table t m) c) ≡ 1 ↔ Has (λ b. bit b ≡ 1) t m c
  class-has bit test one byte c h = (
    λ e. let s = (has_of test t m c).0 ((byte c).0 (ap bit (sym (class_byte_lem c h)) ∙ e)) in record { state = s.state; within = s.within; class = s.class; holds = (one _).0 s.holds },
    λ s. ap bit (class_byte_lem c h) ∙ (byte c).1 ((has_of test t m c).1 (record { state = s.state; within = s.within; class = s.class; holds = (one _).1 s.holds })),
  )

  pub class-initial : (c : ℕ) → c < classes m → byte_of (quotient_table t m) c % 2 ≡ 1 ↔ Has (λ b. b % 2 ≡ 1) t m c
  unfolding class_byte is_initial
  class-initial = class-has (λ b. b % 2) is_initial (λ x. (eqb-true _ _, eq-eqb _ _)) (λ c. low_bit _ _ _)

  pub class-accepting : (c : ℕ) → c < classes m → byte_of (quotient_table t m) c / 2 % 2 ≡ 1 ↔ Has (λ b. b / 2 % 2 ≡ 1) t m c
  unfolding class_byte is_accepting
  class-accepting = class-has (λ b. b / 2 % 2) is_accepting (λ x. (eqb-true _ _, eq-eqb _ _)) (λ c. high_bit _ _ _)

  pub class-mark : (c : ℕ) → c < classes m → mark_of (byte_of (quotient_table t m) c) ≡ class_mark t m c
  unfolding class_byte mark_of
  class-mark c h = omega (arith, class_byte_lem c h, bit-small (member_has is_initial t m c), bit-small (member_has is_accepting t m c))
