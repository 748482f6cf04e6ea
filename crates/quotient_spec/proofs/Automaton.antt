-- The automaton of the quotient's table is the quotient of the automaton, relation by relation (document 01: "Its records are the images of
-- internals, calls and live returns"). Assumes nothing.
use mathlib.Core.Path.{◌≡◌, refl, sym, ap, ◌∙◌}
use mathlib.Core.Logic.{◌↔◌}
use mathlib.Core.Bool.{true}
use mathlib.Core.List.Memᴰ
use mathlib.Core.List.{List, [], ◌∷◌, Memᴰ}
use mathlib.Core.Option.{some}
use Prim.Native.Nat.{ℕ, ◌/◌, ◌%◌, ◌<◌, ◌≤◌}
use native.Mathlib.Omega.{arith}
use native.Mathlib.Decide.{dec_lt}
use lib.ListN.{length, get_or, get_or-eq_default}
use Rattle.lists.proofs.Members.{filter-mem, filter_of}
use Rattle.vpa.specs.Automata.{Tops}
use Rattle.vpa.specs.Quotients.{quotient}
use Rattle.table_spec.specs.File.{Table}
use Rattle.table_spec.specs.Language.{count, byte_of, mark_of, automaton}
use Rattle.table_spec.specs.Maps.{class_of, JoinedBy, classes, numbered}
use Rattle.table_spec.proofs.Passed.{Wide}
use Rattle.tops_spec.specs.Tops.{top_words, live, live_returns}
use Rattle.check_spec.proofs.Numbered.{class-below}
use Rattle.quotient_spec.specs.Quotient.{image, images, class_mark, quotient_table}
use Rattle.quotient_spec.proofs.Image.{images-mem, image_move, image-return}
use Rattle.quotient_spec.proofs.Classes.{class_member}
use Rattle.quotient_spec.proofs.States.{Has, members-mark, count-classes, class-initial, class-accepting, class-mark}

-- "A return record is live when its stack state is in tops of its state", by runs
abbrev pub LiveExact : Table → Type 0
LiveExact t = (r : List ℕ) → Memᴰ r t.returns → live (top_words t) r ≡ true ↔ Tops (automaton t) (get_or r 0 0) (some (get_or r 2 0))

-- ---- the record of an image

move_of : (m s : List ℕ) (P a Q : ℕ) → length s ≡ 3 → image m s ≡ P ∷ a ∷ Q ∷ [] → (p q : ℕ) × (class_of m p ≡ P) × (class_of m q ≡ Q) × (p ∷ a ∷ q ∷ [] ≡ s)
unfolding image
move_of m [] P a Q l e = absurd (omega arith)
move_of m (p ∷ []) P a Q l e = absurd (omega arith)
move_of m (p ∷ b ∷ []) P a Q l e = absurd (omega arith)
move_of m (p ∷ b ∷ q ∷ []) P a Q l e = (p, q, cc, cc, cc)
move_of m (p ∷ b ∷ q ∷ x ∷ r) P a Q l e = absurd (omega arith)

return_of_lem : (m r : List ℕ) (P a U Q : ℕ) → length r ≡ 4 → image m r ≡ P ∷ a ∷ U ∷ Q ∷ [] → (p s q : ℕ) × (class_of m p ≡ P) × (class_of m s ≡ U) × (class_of m q ≡ Q) × (p ∷ a ∷ s ∷ q ∷ [] ≡ r)
unfolding image
return_of_lem m [] P a U Q l e = absurd (omega arith)
return_of_lem m (p ∷ []) P a U Q l e = absurd (omega arith)
return_of_lem m (p ∷ b ∷ []) P a U Q l e = absurd (omega arith)
return_of_lem m (p ∷ b ∷ s ∷ []) P a U Q l e = absurd (omega arith)
return_of_lem m (p ∷ b ∷ s ∷ q ∷ []) P a U Q l e = (p, s, q, cc, cc, cc, cc)
return_of_lem m (p ∷ b ∷ s ∷ q ∷ x ∷ r) P a U Q l e = absurd (omega arith)

-- a state whose byte has a bit is there
there : (t : Table) (q : ℕ) → (byte_of t q ≡ 0 → ⊥) → q < count t
there t q h = go (dec_lt q (count t))
  where
    go : Dec (q < count t) → q < count t
    go (yes l) = l
    go (no l) = let past : count t ≤ q = omega arith in absurd (h (get_or-eq_default t.states 0 past))

-- a bit of a class's byte: the classes that a member gives
has-bit : (t : Table) (m : List ℕ) → length m ≡ count t → (bit : ℕ → ℕ) → bit 0 ≡ 0
    → ((c : ℕ) → c < classes m → bit (byte_of (quotient_table t m) c) ≡ 1 ↔ Has (λ b. bit b ≡ 1) t m c)
    → (c : ℕ) → bit (byte_of (quotient_table t m) c) ≡ 1 ↔ ((p : ℕ) × (class_of m p ≡ c) × (bit (byte_of t p) ≡ 1))
has-bit t m n bit z has c = (
  λ e. let l = there (quotient_table t m) c (set _ e) in let s = (has c (omega (arith, count-classes t m))).0 e in (s.state, s.class, s.holds),
  λ s. let l = there t s.0 (set _ s.2) in (has c (rw s.1 at (class-below m s.0 (omega arith)))).1 (record { state = s.0; within = l; class = s.1; holds = s.2 }),
)
  where
    set : (b : ℕ) → bit b ≡ 1 → b ≡ 0 → ⊥
    set b e h = absurd (omega (arith, ap bit h))

module _ (t : Table) (m : List ℕ) (w : Wide t) (n : length m ≡ count t) (k : numbered m ≡ true) where
  pub quotient-state : (c : ℕ) → (automaton (quotient_table t m)).state c ↔ (quotient (automaton t) (class_of m)).state c
  unfolding quotient
  quotient-state c = (
    λ h. let s = class_member m k c (omega (arith, count-classes t m)) in (s.state, s.class, omega (arith, s.within)),
    λ s. omega (arith, count-classes t m, s.1, class-below m s.0 (omega (arith, s.2))),
  )

  pub quotient-initial : (c : ℕ) → (automaton (quotient_table t m)).initial c ↔ (quotient (automaton t) (class_of m)).initial c
  unfolding quotient
  quotient-initial = has-bit t m n (λ b. b % 2) refl (class-initial t m)

  pub quotient-accepting : (c : ℕ) → (automaton (quotient_table t m)).accepting c ↔ (quotient (automaton t) (class_of m)).accepting c
  unfolding quotient
  quotient-accepting = has-bit t m n (λ b. b / 2 % 2) refl (class-accepting t m)

  -- "the members' mark": the classes' marks are the members', where joined states have one mark
  pub quotient-mark :
      ((p q j : ℕ) → JoinedBy t m p q → (automaton t).mark p j ↔ (automaton t).mark q j) → (c j : ℕ)
      → (automaton (quotient_table t m)).mark c j ↔ (quotient (automaton t) (class_of m)).mark c j
  unfolding quotient
  quotient-mark alike c j = (
    λ (l, e).
        let b : c < classes m = omega (arith, count-classes t m) in
        let s = class_member m k c b in
        let r : s.state < count t = omega (arith, s.within) in
        (s.state, s.class, (r, sym (one s.state r s.class) ∙ sym (class-mark t m c b) ∙ e)),
    λ (p, f, o).
        let l : p < length m = omega (arith, o.0) in
        let b : c < classes m = rw f at (class-below m p l) in
        (omega (arith, count-classes t m, b), class-mark t m c b ∙ one p o.0 f ∙ o.1),
  )
    where
      one : (p : ℕ) → p < count t → class_of m p ≡ c → class_mark t m c ≡ mark_of (byte_of t p)
      one p l f = members-mark t m c p l f (λ q h g. ((alike p q _ (record { left = l; right = h; classes = f ∙ sym g })).0 (l, refl)).1)

  -- a section of moves
  moves : (rs : List (List ℕ)) → ((r : List ℕ) → Memᴰ r rs → length r ≡ 3) → (P a Q : ℕ)
      → Memᴰ (P ∷ a ∷ Q ∷ []) (images m rs) ↔ ((p q : ℕ) × (class_of m p ≡ P) × (class_of m q ≡ Q) × Memᴰ (p ∷ a ∷ q ∷ []) rs)
  moves rs h P a Q = (λ i. forth ((images-mem m rs (P ∷ a ∷ Q ∷ [])).0 i), λ s. (images-mem m rs (P ∷ a ∷ Q ∷ [])).1 (s.0 ∷ a ∷ s.1 ∷ [], s.4, image_move m s.0 a s.1 ∙ (λ i. s.2 i ∷ a ∷ s.3 i ∷ [])))
    where
      forth : (s : List ℕ) × Memᴰ s rs × (image m s ≡ P ∷ a ∷ Q ∷ []) → (p q : ℕ) × (class_of m p ≡ P) × (class_of m q ≡ Q) × Memᴰ (p ∷ a ∷ q ∷ []) rs
      forth (s, i, e) = let o = move_of m s P a Q (h s i) e in (o.0, o.1, o.2, o.3, Memᴰ.cast o.4 i)

  pub quotient-internal : (P a Q : ℕ) → (automaton (quotient_table t m)).internal P a Q ↔ (quotient (automaton t) (class_of m)).internal P a Q
  unfolding quotient quotient_table
  quotient-internal = moves t.internals w.internals

  pub quotient-call : (P a Q : ℕ) → (automaton (quotient_table t m)).call P a Q ↔ (quotient (automaton t) (class_of m)).call P a Q
  unfolding quotient quotient_table
  quotient-call = moves t.calls w.calls

  pub quotient-return : LiveExact t → (P a U Q : ℕ) → (automaton (quotient_table t m)).return P a U Q ↔ (quotient (automaton t) (class_of m)).return P a U Q
  unfolding quotient quotient_table live_returns
  quotient-return exact P a U Q = (λ i. forth ((images-mem m (live_returns t) (P ∷ a ∷ U ∷ Q ∷ [])).0 i), back)
    where
      forth : (r : List ℕ) × Memᴰ r (live_returns t) × (image m r ≡ P ∷ a ∷ U ∷ Q ∷ []) → (quotient (automaton t) (class_of m)).return P a U Q
      forth (r, i, e) =
          let j = filter-mem (live (top_words t)) t.returns r i in
          let o = return_of_lem m r P a U Q (w.returns r j.0) e in
          let l = Memᴰ.cast o.6 j.0 in
          (o.0, o.1, o.2, o.3, o.4, o.5, l, (exact (o.0 ∷ a ∷ o.1 ∷ o.2 ∷ []) l).0 (ap (live (top_words t)) o.6 ∙ j.1))

      back : (quotient (automaton t) (class_of m)).return P a U Q → Memᴰ (P ∷ a ∷ U ∷ Q ∷ []) (images m (live_returns t))
      back (p, s, q, e, f, g, i, top) =
          (images-mem m (live_returns t) (P ∷ a ∷ U ∷ Q ∷ [])).1
          (p ∷ a ∷ s ∷ q ∷ [], filter_of (live (top_words t)) t.returns (p ∷ a ∷ s ∷ q ∷ []) i ((exact (p ∷ a ∷ s ∷ q ∷ []) i).1 top), image-return m p a s q ∙ (λ i. e i ∷ a ∷ f i ∷ g i ∷ []))
