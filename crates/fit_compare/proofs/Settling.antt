-- The rounds that the code makes are those of the definitions. Assumes nothing.
use mathlib.Core.Path.{◌≡◌, refl, sym, ap, ◌∙◌, subst}
use mathlib.Core.Bool.{Bool, true, false, ◌&&◌}
use mathlib.Core.List.{List, [], ◌∷◌}
use Prim.Native.Nat.{ℕ, suc, ◌+◌, ◌-◌, ◌*◌, ◌<◌, ◌≤◌}
use native.Mathlib.Omega.{arith}
use native.Mathlib.Nat.{mul-le-mul}
use native.Mathlib.Numerals.{add-one}
use lib.ListN.{length}
use lib.Dec.{eqb}
use lib.Pointwise.{pointwise}
use Rattle.lists.specs.Lists.{same}
use Rattle.lists.proofs.Members.{same_true}
use Rattle.table_spec.specs.File.{Table, records}
use Rattle.tops_spec.specs.Tops.{by_internals, by_calls, by_returns, round, rounds}
use Rattle.fit_spec.specs.Fit.{pair_moves, pair_returns, pair_table}
use Rattle.fit_rounds.specs.Rows.{Holds, by_kind, Turns}
use Rattle.fit_compare.specs.Compared.{Given}
use Rattle.fit_rounds.specs.declared.pairs.Kind.TheVariants.{Internal, Call}
use Rattle.fit_rounds.proofs.Holding.{same-held}
use Rattle.fit_rounds.proofs.Passing.{turns_then, turns_as}

-- ---- two lists compared by the library

pub pointwise_same : (a b : List ℕ) → pointwise eqb a b ≡ same a b
unfolding same
pointwise_same [] [] = refl
pointwise_same [] (y ∷ ys) = refl
pointwise_same (x ∷ xs) [] = refl
pointwise_same (x ∷ xs) (y ∷ ys) = ap (λ t. eqb x y && t) (pointwise_same xs ys)

-- ---- a round

module _ {s t : Table} {internals calls returns moves pushes pops : List ℕ} {k n : ℕ} (d : Given s t internals calls returns moves pushes pops k n) where
  round_is :
      (F : List ℕ)
      → by_returns (pair_returns n (records 4 returns) t.returns) (by_kind Call (pair_moves n (records 3 calls) t.calls) (by_kind Internal (pair_moves n (records 3 internals) t.internals) F)) ≡ round (pair_table s t) F
  unfolding round pair_table by_kind
  round_is F = λ i. by_returns (pair_returns (sym d.seconds i) (sym d.returns-are i) t.returns) (by_calls (pair_moves (sym d.seconds i) (sym d.calls_are i) t.calls) (by_internals (pair_moves (sym d.seconds i) (sym d.internals-are i) t.internals) F))

  pub round_turns :
      {f g h e : List ℕ} → Turns k n f g (by_kind Internal (pair_moves n (records 3 internals) t.internals))
      → Turns k n g h (by_kind Call (pair_moves n (records 3 calls) t.calls)) → Turns k n h e (by_returns (pair_returns n (records 4 returns) t.returns))
      → Turns k n f e (round (pair_table s t))
  round_turns a b c = turns_as (turns_then (turns_then a b) c) round_is

-- ---- the rounds

pub record Resting (internals calls returns moves pushes pops : List ℕ) (k n : ℕ) (f g : List ℕ) (left : ℕ) : Type 0 where
  pub words : (s t : Table) → Given s t internals calls returns moves pushes pops k n → (F : List ℕ) → Holds f F → length F ≡ k * suc n → List ℕ
  pub holds : (s t : Table) (d : Given s t internals calls returns moves pushes pops k n) (F : List ℕ) (h : Holds f F) (l : length F ≡ k * suc n) → Holds g (words s t d F h l)
  pub long : (s t : Table) (d : Given s t internals calls returns moves pushes pops k n) (F : List ℕ) (h : Holds f F) (l : length F ≡ k * suc n) → length (words s t d F h l) ≡ k * suc n
  pub meets :
      (s t : Table) (d : Given s t internals calls returns moves pushes pops k n) (F : List ℕ) (h : Holds f F) (l : length F ≡ k * suc n)
      → rounds (suc (k * suc n * suc (k * suc n))) (pair_table s t) F ≡ rounds left (pair_table s t) (words s t d F h l)

pub few-rounds : {p : ℕ} → p ≤ 600 → p * (p + 1) ≤ 360600
few-rounds h = mul-le-mul {n₂ = 600} {m₂ = 601} h (omega arith)

pub resting : (internals calls returns moves pushes pops : List ℕ) (k n : ℕ) (f : List ℕ) → Resting internals calls returns moves pushes pops k n f f (k * (n + 1) * (k * (n + 1) + 1) + 1)
resting internals calls returns moves pushes pops k n f = record {
  words = λ s t d F h l. F;
  holds = λ s t d F h l. h;
  long = λ s t d F h l. l;
  meets = λ s t d F h l. ap (λ i. rounds i (pair_table s t) F) (sym (add-one (k * (n + 1) * (k * (n + 1) + 1)) ∙ ap suc (ap (λ j. k * (n + 1) * j) (add-one (k * (n + 1))) ∙ ap (λ j. k * j * suc (k * j)) (add-one n))));
}

pub rest_as : {internals calls returns moves pushes pops : List ℕ} {k n : ℕ} {f g : List ℕ} {left left' : ℕ} → left ≡ left' → Resting internals calls returns moves pushes pops k n f g left
    → Resting internals calls returns moves pushes pops k n f g left'
rest_as {internals} {calls} {returns} {moves} {pushes} {pops} {k} {n} {f} {g} e w = subst (λ (m : ℕ). Resting internals calls returns moves pushes pops k n f g m) e w

turn : (P : Table) (F : List ℕ) (left : ℕ) → 0 < left → (b : Bool) → same (round P F) F ≡ b → rounds left P F ≡ elim b [ true ↦ F | false ↦ rounds (left - 1) P (round P F) ]
unfolding rounds
turn P F left h b e =
    let l : left ≡ suc (left - 1) = omega arith in
    ap (λ n. rounds n P F) l ∙ ap (λ (c : Bool). elim c as (λ _. List ℕ) [ true ↦ F | false ↦ rounds (left - 1) P (round P F) ]) e

module _ {internals calls returns moves pushes pops : List ℕ} {k n : ℕ} {f g : List ℕ} {left : ℕ} (w : Resting internals calls returns moves pushes pops k n f g left) (l0 : 0 < left)
    {new : List ℕ} (r : (s t : Table) → Given s t internals calls returns moves pushes pops k n → Turns k n g new (round (pair_table s t))) where
  pub rest_on : same new g ≡ false → Resting internals calls returns moves pushes pops k n f new (left - 1)
  rest_on e = record {
    words = λ s t d F h l. round (pair_table s t) (w.words s t d F h l);
    holds = λ s t d F h l. (r s t d).holds _ (w.holds s t d F h l) (w.long s t d F h l);
    long = λ s t d F h l. (r s t d).long _ ∙ w.long s t d F h l;
    meets = λ s t d F h l.
        let G = w.words s t d F h l in
        w.meets s t d F h l ∙ turn (pair_table s t) G left l0 false (sym (same-held ((r s t d).holds G (w.holds s t d F h l) (w.long s t d F h l)) (w.holds s t d F h l) ((r s t d).long G)) ∙ e);
  }

  pub rested :
      same new g ≡ true → (s t : Table) → Given s t internals calls returns moves pushes pops k n → (F : List ℕ) → Holds f F → length F ≡ k * suc n
      → Holds new (rounds (suc (k * suc n * suc (k * suc n))) (pair_table s t) F)
  rested e s t d F h l =
      let G = w.words s t d F h l in
      let q = sym (same-held ((r s t d).holds G (w.holds s t d F h l) (w.long s t d F h l)) (w.holds s t d F h l) ((r s t d).long G)) ∙ e in
      subst (λ (x : List ℕ). Holds x (rounds (suc (k * suc n * suc (k * suc n))) (pair_table s t) F)) (sym (same_true new g e))
      (subst (Holds g) (sym (w.meets s t d F h l ∙ turn (pair_table s t) G left l0 true q)) (w.holds s t d F h l))

pub spent :
    {internals calls returns moves pushes pops : List ℕ} {k n : ℕ} {f g : List ℕ} {left : ℕ} → Resting internals calls returns moves pushes pops k n f g left
    → left ≤ 0 → (s t : Table) → Given s t internals calls returns moves pushes pops k n → (F : List ℕ) → Holds f F → length F ≡ k * suc n
    → Holds g (rounds (suc (k * suc n * suc (k * suc n))) (pair_table s t) F)
unfolding rounds
spent {g = g} {left = left} w z s t d F h l =
    let e : left ≡ 0 = omega arith in
    subst (Holds g) (sym (w.meets s t d F h l ∙ ap (λ i. rounds i (pair_table s t) (w.words s t d F h l)) e)) (w.holds s t d F h l)
