-- The words of two tables combined: of the intersection those of both, of the union those of one of them, and the words of each mark.
-- Assumes nothing.
use mathlib.Core.Path.{◌≡◌, sym, subst}
use mathlib.Core.Logic.{◌↔◌, ◌⊎◌}
use mathlib.Core.List.{List}
use Prim.Native.Nat.{ℕ, ◌+◌}
use native.Mathlib.Omega.{arith}
use lib.ListN.{get_or}
use Rattle.vpa.specs.Automata.{Automaton, Accepts, EndsIn}
use Rattle.vpa.specs.Combined.{EndsOn}
use Rattle.vpa.proofs.Equal.{same-words, same-marks}
use Rattle.vpa.proofs.Calls.{Kinded}
use Rattle.vpa.proofs.Product.{Pairs, product-words, product-marks}
use Rattle.vpa.proofs.Sum.{Disjoint, sum-words, sum-marks}
use Rattle.limits.specs.declared.Limits.{Limits}
use Rattle.table_spec.specs.File.{Table}
use Rattle.table_spec.specs.Reading.{WellFormed}
use Rattle.table_spec.specs.Language.{count, automaton, kind_of}
use Rattle.table_spec.proofs.Open.{moves_kinded}
use Rattle.combine_spec.specs.Combine.{first_of, second_of, pair_of, intersection_table, union_table, combined_table}
use Rattle.combine_spec.specs.Demands.{Combined, MarkWords}
use Rattle.combine_spec.specs.declared.How.{How}
use Rattle.combine_spec.specs.declared.How.TheVariants.{Intersection, Union}
use Rattle.combine_spec.proofs.Records.{pair-first, pair-second}
use Rattle.combine_spec.proofs.Automaton.{lawful_table, intersection_same, union_same}

then : {X Y Z : Type 0} → X ↔ Y → Y ↔ Z → X ↔ Z
then e f = (λ x. f.0 (e.0 x), λ z. e.1 (f.1 z))

module _ {L : Limits} {t u : Table} (wf : WellFormed L t) (wf' : WellFormed L u) where
  abbrev A : Automaton ℕ
  A = automaton t

  abbrev B : Automaton ℕ
  B = automaton u

  -- ---- the intersection: the symbols' bytes say their kinds, and they are equal

  kinded : t.symbols ≡ u.symbols → Kinded B (kind_of t)
  kinded e = subst (λ (s : List ℕ). Kinded B (λ a. get_or s a 0)) (sym e) (moves_kinded wf')

  pairs : Pairs A B (first_of (count u)) (second_of (count u)) (pair_of (count u))
  pairs = record { first = λ {p} h. pair-first (count u) p h; second = λ {p} h. pair-second (count u) p h }

  intersection_words : t.symbols ≡ u.symbols → (w : List ℕ) → Accepts (automaton (intersection_table t u)) w ↔ Accepts A w × Accepts B w
  intersection_words e w =
      then (same-words (intersection_same wf wf') w)
      (product-words A B (first_of (count u)) (second_of (count u)) (kind_of t) (moves_kinded wf) (kinded e) (lawful_table wf') (pair_of (count u)) pairs w)

  intersection_marks : t.symbols ≡ u.symbols → (k : ℕ) (w : List ℕ) → EndsIn (automaton (intersection_table t u)) k w ↔ EndsIn A k w × EndsOn B w
  intersection_marks e k w =
      then (same-marks (intersection_same wf wf') k w)
      (product-marks A B (first_of (count u)) (second_of (count u)) (kind_of t) (moves_kinded wf) (kinded e) (lawful_table wf') (pair_of (count u)) pairs k w)

  -- ---- the union: the second's states come after the first's

  disjoint : Disjoint A B (λ p. p) (λ q. count t + q)
  disjoint = record { firsts = λ p q e. e; seconds = λ p q e. omega arith; apart = λ p q h k e. omega arith }

  union_words : (w : List ℕ) → Accepts (automaton (union_table t u)) w ↔ Accepts A w ⊎ Accepts B w
  union_words w = then (same-words (union_same wf wf') w) (sum-words A B (λ p. p) (λ q. count t + q) (lawful_table wf) (lawful_table wf') disjoint w)

  union_marks : (k : ℕ) (w : List ℕ) → EndsIn (automaton (union_table t u)) k w ↔ EndsIn A k w ⊎ EndsIn B k w
  union_marks k w = then (same-marks (union_same wf wf') k w) (sum-marks A B (λ p. p) (λ q. count t + q) (lawful_table wf) (lawful_table wf') disjoint k w)

  -- ---- either way

  pub combined_words : (how : How) → t.symbols ≡ u.symbols → (w : List ℕ) → Accepts (automaton (combined_table how t u)) w ↔ Combined how (Accepts A w) (Accepts B w)
  unfolding combined_table
  combined_words (Intersection) e w = intersection_words e w
  combined_words (Union) e w = union_words w

  pub combined_marks : (how : How) → t.symbols ≡ u.symbols → (k : ℕ) (w : List ℕ) → EndsIn (automaton (combined_table how t u)) k w ↔ MarkWords how A B k w
  unfolding combined_table
  combined_marks (Intersection) e k w = intersection_marks e k w
  combined_marks (Union) e k w = union_marks k w
