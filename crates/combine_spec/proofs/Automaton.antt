-- The automaton of the intersection's table is the product of the two automata, that of the union's their sum. Assumes nothing.
use mathlib.Core.Path.{◌≡◌, refl, sym, ap, ◌∙◌, subst}
use mathlib.Core.Logic.{◌↔◌, ◌⊎◌, inl, inr}
use mathlib.Core.List.Memᴰ
use mathlib.Core.List.{List, [], ◌∷◌, Memᴰ}
use Prim.Native.Nat.{ℕ, ◌+◌, ◌/◌, ◌%◌, ◌<◌}
use native.Mathlib.Nat.{div-lt_iff_lt-mul, mod-lt}
use native.Mathlib.Omega.{arith}
use lib.ListN.{length}
use Rattle.vpa.specs.Automata.{Automaton, Lawful}
use Rattle.vpa.specs.Combined.{product, renamed, either, sum}
use Rattle.vpa.proofs.Equal.{Same}
use Rattle.limits.specs.declared.Limits.{Limits}
use Rattle.table_spec.specs.File.{Table}
use Rattle.table_spec.specs.Reading.{WellFormed}
use Rattle.table_spec.specs.Language.{count, byte_of, mark_of, automaton}
use Rattle.table_spec.proofs.Passed.{formed-wide, formed_tested}
use Rattle.tops_spec.proofs.Bounded.{lawful}
use Rattle.tops_spec.proofs.Formed.{bounded}
use Rattle.combine_spec.specs.Combine.{renumbered, first_of, second_of, intersection_table, both_records, union_table}
use Rattle.combine_spec.proofs.Records.{Section, fits-true, pairs-exact, both-mem, both_first, both-second}
use Rattle.combine_spec.proofs.States.{byte_initial, byte_accepting, byte_mark, intersection_count, intersection_byte, union_state, union_bit}

-- ---- the sections of a well-formed table

module _ {L : Limits} {t : Table} (wf : WellFormed L t) where
  pub internals_section : Section t 0 3 t.internals
  internals_section = record { wide = (formed-wide wf).internals; each = λ r d. fits-true t 0 r ((formed_tested wf).internals-fit r d) }

  pub calls_section : Section t 1 3 t.calls
  calls_section = record { wide = (formed-wide wf).calls; each = λ r d. fits-true t 1 r ((formed_tested wf).calls-fit r d) }

  pub returns_section : Section t 2 4 t.returns
  returns_section = record { wide = (formed-wide wf).returns; each = λ r d. fits-true t 2 r ((formed_tested wf).returns-fit r d) }

  pub lawful_table : Lawful (automaton t)
  lawful_table = lawful (bounded wf)

module _ {L : Limits} {t u : Table} (wf : WellFormed L t) (wf' : WellFormed L u) where
  abbrev A : Automaton ℕ
  A = automaton t

  abbrev B : Automaton ℕ
  B = automaton u

  pub some-second : 0 < count u
  some-second = (formed_tested wf').some-state

  pub intersection_same : Same (automaton (intersection_table t u)) (product A B (first_of (count u)) (second_of (count u)))
  unfolding product intersection_table renumbered
  intersection_same = record {
    initially = λ x. subst (λ (b : ℕ). b % 2 ≡ 1 ↔ (byte_of t (first_of (count u) x) % 2 ≡ 1) × (byte_of u (second_of (count u) x) % 2 ≡ 1)) (sym (intersection_byte t u some-second x)) (byte_initial _ _);
    finally = λ x. subst (λ (b : ℕ). b / 2 % 2 ≡ 1 ↔ (byte_of t (first_of (count u) x) / 2 % 2 ≡ 1) × (byte_of u (second_of (count u) x) / 2 % 2 ≡ 1)) (sym (intersection_byte t u some-second x)) (byte_accepting _ _);
    marked = λ x k.
        let e : mark_of (byte_of (intersection_table t u) x) ≡ mark_of (byte_of t (first_of (count u) x)) = ap mark_of (intersection_byte t u some-second x) ∙ byte_mark _ _ in (
          λ (h, j). (((div-lt_iff_lt-mul some-second).1 (omega (arith, intersection_count t u)), sym e ∙ j), mod-lt x some-second),
          λ ((h, j), l). (rw (intersection_count t u) ((div-lt_iff_lt-mul some-second).0 h), e ∙ j),
        );
    internals = λ x a y. pairs-exact (internals_section wf) (internals_section wf') (x ∷ a ∷ y ∷ []);
    calls = λ x a y. pairs-exact (calls_section wf) (calls_section wf') (x ∷ a ∷ y ∷ []);
    returns = λ x a s y. pairs-exact (returns_section wf) (returns_section wf') (x ∷ a ∷ s ∷ y ∷ []);
  }

-- ---- the union

-- a section of moves
move_of : (f : ℕ → ℕ) (s : List ℕ) (x a y : ℕ) → length s ≡ 3 → renumbered f s ≡ x ∷ a ∷ y ∷ [] → (p q : ℕ) × (f p ≡ x) × (f q ≡ y) × (p ∷ a ∷ q ∷ [] ≡ s)
unfolding renumbered
move_of f [] x a y l e = absurd (omega arith)
move_of f (p ∷ []) x a y l e = absurd (omega arith)
move_of f (p ∷ b ∷ []) x a y l e = absurd (omega arith)
move_of f (p ∷ b ∷ q ∷ []) x a y l e = (p, q, cc, cc, cc)
move_of f (p ∷ b ∷ q ∷ z ∷ r) x a y l e = absurd (omega arith)

return_of_lem : (f : ℕ → ℕ) (r : List ℕ) (x a z y : ℕ) → length r ≡ 4 → renumbered f r ≡ x ∷ a ∷ z ∷ y ∷ [] → (p s q : ℕ) × (f p ≡ x) × (f s ≡ z) × (f q ≡ y) × (p ∷ a ∷ s ∷ q ∷ [] ≡ r)
unfolding renumbered
return_of_lem f [] x a z y l e = absurd (omega arith)
return_of_lem f (p ∷ []) x a z y l e = absurd (omega arith)
return_of_lem f (p ∷ b ∷ []) x a z y l e = absurd (omega arith)
return_of_lem f (p ∷ b ∷ s ∷ []) x a z y l e = absurd (omega arith)
return_of_lem f (p ∷ b ∷ s ∷ q ∷ []) x a z y l e = (p, s, q, cc, cc, cc, cc)
return_of_lem f (p ∷ b ∷ s ∷ q ∷ v ∷ r) x a z y l e = absurd (omega arith)

module _ (n : ℕ) (rs ss : List (List ℕ)) where
  union_moves : ((r : List ℕ) → Memᴰ r ss → length r ≡ 3) → (x a y : ℕ) → Memᴰ (x ∷ a ∷ y ∷ []) (both_records n rs ss)
      ↔ (((p q : ℕ) × (p ≡ x) × (q ≡ y) × Memᴰ (p ∷ a ∷ q ∷ []) rs) ⊎ ((p q : ℕ) × (n + p ≡ x) × (n + q ≡ y) × Memᴰ (p ∷ a ∷ q ∷ []) ss))
  unfolding renumbered
  union_moves wide x a y = (λ d. forth (both-mem n rs ss _ d), back)
    where
      forth : Memᴰ (x ∷ a ∷ y ∷ []) rs ⊎ ((s : List ℕ) × Memᴰ s ss × (renumbered (λ q. n + q) s ≡ x ∷ a ∷ y ∷ []))
          → ((p q : ℕ) × (p ≡ x) × (q ≡ y) × Memᴰ (p ∷ a ∷ q ∷ []) rs) ⊎ ((p q : ℕ) × (n + p ≡ x) × (n + q ≡ y) × Memᴰ (p ∷ a ∷ q ∷ []) ss)
      forth (inl d) = inl (x, y, refl, refl, d)
      forth (inr (s, d, e)) = let o = move_of (λ q. n + q) s x a y (wide s d) e in inr (o.0, o.1, o.2, o.3, Memᴰ.cast o.4 d)

      back :
          ((p q : ℕ) × (p ≡ x) × (q ≡ y) × Memᴰ (p ∷ a ∷ q ∷ []) rs) ⊎ ((p q : ℕ) × (n + p ≡ x) × (n + q ≡ y) × Memᴰ (p ∷ a ∷ q ∷ []) ss)
          → Memᴰ (x ∷ a ∷ y ∷ []) (both_records n rs ss)
      back (inl (p, q, e, f, d)) = Memᴰ.cast (λ i. sym e i ∷ a ∷ sym f i ∷ []) (both_first n rs ss _ d)
      back (inr (p, q, e, f, d)) = Memᴰ.cast (λ i. sym e i ∷ a ∷ sym f i ∷ []) (both-second n rs ss _ d)

  union_returns : ((r : List ℕ) → Memᴰ r ss → length r ≡ 4) → (x a z y : ℕ) → Memᴰ (x ∷ a ∷ z ∷ y ∷ []) (both_records n rs ss)
      ↔ (((p s q : ℕ) × (p ≡ x) × (s ≡ z) × (q ≡ y) × Memᴰ (p ∷ a ∷ s ∷ q ∷ []) rs) ⊎ ((p s q : ℕ) × (n + p ≡ x) × (n + s ≡ z) × (n + q ≡ y) × Memᴰ (p ∷ a ∷ s ∷ q ∷ []) ss))
  unfolding renumbered
  union_returns wide x a z y = (λ d. forth (both-mem n rs ss _ d), back)
    where
      forth : Memᴰ (x ∷ a ∷ z ∷ y ∷ []) rs ⊎ ((s : List ℕ) × Memᴰ s ss × (renumbered (λ q. n + q) s ≡ x ∷ a ∷ z ∷ y ∷ []))
          → ((p s q : ℕ) × (p ≡ x) × (s ≡ z) × (q ≡ y) × Memᴰ (p ∷ a ∷ s ∷ q ∷ []) rs) ⊎ ((p s q : ℕ) × (n + p ≡ x) × (n + s ≡ z) × (n + q ≡ y) × Memᴰ (p ∷ a ∷ s ∷ q ∷ []) ss)
      forth (inl d) = inl (x, z, y, refl, refl, refl, d)
      forth (inr (r, d, e)) = let o = return_of_lem (λ q. n + q) r x a z y (wide r d) e in inr (o.0, o.1, o.2, o.3, o.4, o.5, Memᴰ.cast o.6 d)

      back :
          ((p s q : ℕ) × (p ≡ x) × (s ≡ z) × (q ≡ y) × Memᴰ (p ∷ a ∷ s ∷ q ∷ []) rs) ⊎ ((p s q : ℕ) × (n + p ≡ x) × (n + s ≡ z) × (n + q ≡ y) × Memᴰ (p ∷ a ∷ s ∷ q ∷ []) ss)
          → Memᴰ (x ∷ a ∷ z ∷ y ∷ []) (both_records n rs ss)
      back (inl (p, s, q, e, g, f, d)) = Memᴰ.cast (λ i. sym e i ∷ a ∷ sym g i ∷ sym f i ∷ []) (both_first n rs ss _ d)
      back (inr (p, s, q, e, g, f, d)) = Memᴰ.cast (λ i. sym e i ∷ a ∷ sym g i ∷ sym f i ∷ []) (both-second n rs ss _ d)

module _ {L : Limits} {t u : Table} (wf : WellFormed L t) (wf' : WellFormed L u) where
  pub union_same : Same (automaton (union_table t u)) (sum (automaton t) (automaton u) (λ p. p) (λ q. count t + q))
  unfolding renamed either union_table
  union_same = record {
    initially = union_bit t u (λ b. b % 2) refl;
    finally = union_bit t u (λ b. b / 2 % 2) refl;
    marked = λ x k. union_state t u (λ b. mark_of b ≡ k) x;
    internals = union_moves (count t) t.internals u.internals (internals_section wf').wide;
    calls = union_moves (count t) t.calls u.calls (calls_section wf').wide;
    returns = union_returns (count t) t.returns u.returns (returns_section wf').wide;
  }
