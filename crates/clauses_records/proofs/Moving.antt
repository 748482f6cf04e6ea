-- The clauses of one record and one state, by the bytes that the code reads. Assumes nothing.
use mathlib.Core.Path.{◌≡◌, sym, ap, ◌∙◌, subst}
use mathlib.Core.Logic.{◌≢◌}
use mathlib.Core.Bool.{Bool, true, false}
use mathlib.Core.List.Memᴰ.{not-nil}
use mathlib.Core.List.{List, [], ◌∷◌, ◌++◌, map, Memᴰ}
use Prim.Native.Nat.{ℕ, ◌+◌, ◌≤◌, ◌<◌}
use native.Mathlib.Omega.{arith}
use lib.ListN.{length, get_or, length-take}
use lib.Dec.{eqb}
use borrow.Author.Tests.{eq-eqb, ne_eqb}
use Rattle.lists.specs.Lists.{filter}
use Rattle.limits.specs.Limits.{state_most, symbol_most}
use Rattle.pairs.specs.Triangles.{apart}
use Rattle.table_spec.specs.File.{records}
use Rattle.table_spec.specs.Language.{targets}
use Rattle.table_spec.proofs.Bytes.{records-wide}
use Rattle.table_find.specs.Spans.{starts_with}
use Rattle.clauses_spec.specs.Clauses.{premise, move_clause}
use Rattle.clauses_emit.specs.declared.literals.Literals.{Literals}
use Rattle.clauses_emit.specs.Emit.{literals_of, with_all, Negative, Holds, matching_from, Ascending, last_bytes, State, emit}
use Rattle.table_index.specs.Index.{Lent}
use Rattle.clauses_emit.proofs.Tidying.{premise-negative, with_negative, matching-one}
use Rattle.clauses_targets.specs.Targets.{Premised}
use Rattle.clauses_targets.proofs.Targeting.{with_length}
use Rattle.clauses_emit.proofs.Stepping.{Along, along-here}
use Rattle.clauses_records.proofs.Few.{rising, few-targets}

-- ---- premises are few

pub premise-more : (c : Literals) {d : Literals} (p q : ℕ) → Holds d (with_all (literals_of c) (premise p q)) → d.n ≤ c.n + 1
unfolding premise with_all
premise-more c {d} p q h = go (eqb p q) h.count
  where
    go : (t : Bool) → d.n ≡ length (with_all (literals_of c) (elim t [ true ↦ [] | false ↦ apart p q ∷ [] ])) → d.n ≤ c.n + 1
    go true e = omega (arith, length-take c.n c.words)
    go false e = omega (arith, with_length (literals_of c) (apart p q), length-take c.n c.words)

-- ---- premises are negative

pub none_odd : {none : Literals} → Holds none [] → Negative (literals_of none)
none_odd z l m = absurd (not-nil (subst (λ (ls : List ℕ). Memᴰ l ls) z.same m))

pub premise_odd : (c : Literals) {d : Literals} (p q : ℕ) → Negative (literals_of c) → Holds d (with_all (literals_of c) (premise p q)) → Negative (literals_of d)
premise_odd c p q n h l m = with_negative (literals_of c) (premise p q) n (premise-negative p q) l (subst (λ (ls : List ℕ). Memᴰ l ls) h.same m)

-- ---- a move

module _ (s : List ℕ) (p a p' q : ℕ) where
  pub move_self : (t : State) → q ≡ p → t ≡ emit (move_clause (records 3 s) p a p' q) t
  unfolding move_clause emit
  move_self t e = sym (rw (eq-eqb q p e, move_clause))

  module _ (found : List ℕ) {none c : Literals} (f : records 3 found ≡ filter (starts_with (q ∷ a ∷ [])) (records 3 s)) (z : Holds none []) (h : Holds c (with_all (literals_of none) (premise p q))) where
    pub move_premised : Lent 3 state_most s → Premised 3 found c
    move_premised o = record {
      some-width = omega arith;
      few = omega (arith, ap length f, few-targets (q ∷ a ∷ []) state_most s o.in_order (λ r m. o.states r m 2 (omega arith) (omega arith)));
      two = omega (arith, premise-more none p q h, z.count);
      negative = premise_odd none p q (none_odd z) h;
      ascending = subst (λ (rs : List (List ℕ)). Ascending 0 (map (λ r. get_or r 2 0) rs)) (sym f) (rising (q ∷ a ∷ []) (records 3 s) (records-wide 3 s) o.in_order);
    }

    pub move_other : (t : State) {next : State} → q ≢ p → next ≡ emit (matching_from (literals_of c) p' (last_bytes 3 found)) t → next ≡ emit (move_clause (records 3 s) p a p' q) t
    unfolding move_clause targets starts_with
    move_other t d e =
        let literals : literals_of c ≡ with_all [] (premise p q) = h.same ∙ ap (λ ls. with_all ls (premise p q)) z.same in
        e
        ∙ (λ i. emit (matching_from (literals i) p' (map (λ r. get_or r 2 0) (f i))) t)
        ∙ ap (λ cs. emit cs t) (sym (matching-one p q p' (targets (records 3 s) (q ∷ a ∷ []))))
        ∙ sym (rw (ne_eqb q p d, move_clause))

-- the symbol of the record taken
pub symbol-few :
    {g : List ℕ → List (List ℕ)} {w n : ℕ} {s : List ℕ} {all : List (List ℕ)} {start : State} {rest : List ℕ} {now : State} (x after : List ℕ) → Along g w s all start rest now → 0 < w
    → rest ≡ x ++ after → length x ≡ w → Lent w n s → get_or x 1 0 < symbol_most
symbol-few x after i p e h o = o.symbols x (along-here i x after p e h)
