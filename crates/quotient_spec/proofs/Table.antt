-- The quotient's table is well formed (document 01: "They are again a readable table"). Assumes nothing.
use mathlib.Core.Path.{◌≡◌, refl, sym, ap, ◌∙◌, subst}
use mathlib.Core.Bool.{true, ◌&&◌}
use mathlib.Core.List.Memᴰ
use mathlib.Core.List.{List, [], ◌∷◌, map, Memᴰ}
use Prim.Native.Nat.{ℕ, suc, ◌%◌, ◌≤◌, ◌<◌}
use native.Mathlib.Omega.{arith}
use lib.ListN.{length, get_or}
use lib.Dec.{eqb, ltb}
use borrow.Author.Tests.{eqb-true, eq-eqb, ltb-true, lt-ltb}
use Rattle.lists.specs.Lists.{any, all, upto}
use Rattle.lists.proofs.Members.{and-true, and_of, get_d_mem, any-true, any_of, all_true, all_of, filter-mem}
use Rattle.lists.proofs.Counts.{filter-le}
use Rattle.limits.specs.declared.Limits.{Limits}
use Rattle.table_spec.specs.File.{Table}
use Rattle.table_spec.specs.Reading.{version_fits, state_byte_most, is_initial, record_fits, ascend, WellFormed}
use Rattle.table_spec.specs.Language.{count}
use Rattle.table_spec.specs.Maps.{class_of, classes, numbered}
use Rattle.table_spec.proofs.Passed.{Wide, Tested, formed-wide, formed_tested, formed_of}
use Rattle.table_spec.proofs.Facts.{byte_within}
use Rattle.tops_spec.specs.Tops.{top_words, live, live_returns}
use Rattle.check_spec.proofs.Numbered.{class-below, classes-few}
use Rattle.quotient_spec.specs.Quotient.{image, images, class_byte, quotient_table}
use Rattle.quotient_spec.proofs.Ascending.{ascending_ascends}
use Rattle.quotient_spec.proofs.Image.{images-mem, images-length, image-length}
use Rattle.quotient_spec.proofs.States.{byte_small, count-classes, class-initial}

-- a member stands at an index
pub mem_index : (x : ℕ) (xs : List ℕ) → Memᴰ x xs → (i : ℕ) × (i < length xs) × (get_or xs i 0 ≡ x)
mem_index x (y ∷ xs) (Memᴰ.head e) = (0, omega arith, sym e)
mem_index x (y ∷ xs) (Memᴰ.tail m) = let r = mem_index x xs m in (suc r.0, omega (arith, r.1), r.2)
mem_index x [] x'' = elim x'' [ ]

module _ (L : Limits) (t : Table) (m : List ℕ) (f : WellFormed L t) (n : length m ≡ count t) (k : numbered m ≡ true) where
  few : classes m ≤ length m
  few = classes-few m k

  below : (q : ℕ) → q < count t → class_of m q < count (quotient_table t m)
  below q h = rw count-classes (class-below m q (omega arith))

  symbols-same : (quotient_table t m).symbols ≡ t.symbols
  unfolding quotient_table
  symbols-same = refl

  -- the image of a record that fits
  image-fits : (kind : ℕ) (r : List ℕ) → record_fits t kind r ≡ true → record_fits (quotient_table t m) kind (image m r) ≡ true
  unfolding record_fits image
  image-fits kind [] e = e
  image-fits kind (p ∷ []) e = e
  image-fits kind (p ∷ a ∷ qs) e =
      let e1 = and-true _ _ e in
      let e2 = and-true _ _ e1.0 in
      and_of (and_of (lt-ltb _ _ (below p (ltb-true _ _ e2.0))) (symbol e2.1)) (all_of (λ q. ltb q (count (quotient_table t m))) (map (class_of m) qs) (λ q i. each q (Memᴰ.of_map (class_of m) qs i) e1.1))
    where
      symbol : (ltb a (length t.symbols) && eqb (get_or t.symbols a 0) kind) ≡ true → (ltb a (length (quotient_table t m).symbols) && eqb (get_or (quotient_table t m).symbols a 0) kind) ≡ true
      symbol h = rw symbols-same h

      each : (q : ℕ) → (p : ℕ) × Memᴰ p qs × (class_of m p ≡ q) → all (λ q. ltb q (count t)) qs ≡ true → ltb q (count (quotient_table t m)) ≡ true
      each q (p, i, e) h = lt-ltb _ _ (subst (λ (c : ℕ). c < count (quotient_table t m)) e (below p (ltb-true _ _ (all_true _ qs h p i))))

  -- some class is initial
  some-initial : any is_initial t.states ≡ true → any is_initial (quotient_table t m).states ≡ true
  unfolding is_initial
  some-initial e = go (any-true is_initial t.states e)
    where
      go : (x : ℕ) × Memᴰ x t.states × (is_initial x ≡ true) → any is_initial (quotient_table t m).states ≡ true
      go (x, i, h) =
          let s = mem_index x t.states i in
          let c = below s.0 s.1 in
          let b = (class-initial t m (class_of m s.0) (class-below m s.0 (omega (arith, s.1)))).1 (record { state = s.0; within = s.1; class = refl; holds = ap (λ b. b % 2) s.2 ∙ eqb-true _ _ h }) in
          any_of is_initial (quotient_table t m).states _ (get_d_mem (quotient_table t m).states (class_of m s.0) 0 c) (eq-eqb _ _ b)

  section_fits :
      (kind : ℕ) (rs : List (List ℕ)) → ((r : List ℕ) → Memᴰ r rs → record_fits t kind r ≡ true) → (r : List ℕ) → Memᴰ r (images m rs)
      → record_fits (quotient_table t m) kind r ≡ true
  section_fits kind rs h r i = go ((images-mem m rs r).0 i)
    where
      go : (s : List ℕ) × Memᴰ s rs × (image m s ≡ r) → record_fits (quotient_table t m) kind r ≡ true
      go (s, j, e) = rw e at (image-fits kind s (h s j))

  section_wide : (w : ℕ) (rs : List (List ℕ)) → ((r : List ℕ) → Memᴰ r rs → length r ≡ w) → (r : List ℕ) → Memᴰ r (images m rs) → length r ≡ w
  section_wide w rs h r i = go ((images-mem m rs r).0 i)
    where
      go : (s : List ℕ) × Memᴰ s rs × (image m s ≡ r) → length r ≡ w
      go (s, j, e) = sym (ap length e) ∙ image-length m s ∙ h s j

  live-return : (r : List ℕ) → Memᴰ r (live_returns t) → Memᴰ r t.returns
  unfolding live_returns
  live-return r i = (filter-mem (live (top_words t)) t.returns r i).0

  images-ascend : (rs : List (List ℕ)) → ascend (images m rs) ≡ true
  unfolding images
  images-ascend rs = ascending_ascends (map (image m) rs)

  quotient_tested : Tested L t → Tested L (quotient_table t m)
  unfolding quotient_table live_returns
  quotient_tested p = record {
    symbols-few = p.symbols-few;
    some-state = omega (arith, count-classes t m, class-below m 0 (omega (arith, p.some-state)));
    states-few = omega (arith, count-classes t m, few, p.states-few);
    internals-few = omega (arith, images-length m t.internals, p.internals-few);
    calls-few = omega (arith, images-length m t.calls, p.calls-few);
    returns-few = omega (arith, images-length m (live_returns t), filter-le (live (top_words t)) t.returns, p.returns-few);
    symbol-bytes = p.symbol-bytes;
    state-bytes = λ x i. go x (Memᴰ.of_map (class_byte t m) (upto (classes m)) i);
    initial = some-initial p.initial;
    internals-fit = section_fits 0 t.internals p.internals-fit;
    calls-fit = section_fits 1 t.calls p.calls-fit;
    returns-fit = section_fits 2 (live_returns t) (λ r i. p.returns-fit r (live-return r i));
    internals-ascend = images-ascend t.internals;
    calls-ascend = images-ascend t.calls;
    returns-ascend = images-ascend (live_returns t);
  }
    where
      go : (x : ℕ) → (c : ℕ) × Memᴰ c (upto (classes m)) × (class_byte t m c ≡ x) → x ≤ state_byte_most t.version
      go x (c, i, e) = omega (arith, byte_small t m c (byte_within f))

  quotient-wide : Wide t → Wide (quotient_table t m)
  unfolding quotient_table
  quotient-wide w = record {
    internals = section_wide 3 t.internals w.internals;
    calls = section_wide 3 t.calls w.calls;
    returns = section_wide 4 (live_returns t) (λ r i. w.returns r (live-return r i));
  }

  dated_same : version_fits (quotient_table t m).version ≡ true
  unfolding quotient_table
  dated_same = f.versioned

  pub quotient_well_formed : WellFormed L (quotient_table t m)
  quotient_well_formed = formed_of f.limits dated_same (quotient-wide (formed-wide f)) (quotient_tested (formed_tested f))
