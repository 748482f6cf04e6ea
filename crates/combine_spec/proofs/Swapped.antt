-- The two tables the other way round: their combination has as many states and records of each kind, so that neither order is refused where the
-- other is not. Assumes nothing.
use mathlib.Core.Path.{◌≡◌, refl, sym, ap, ◌∙◌, subst}
use mathlib.Core.Logic.{◌⊎◌, inl, inr}
use mathlib.Core.Bool.{true, ◌&&◌}
use mathlib.Core.List.Memᴰ.{cases_cons}
use mathlib.Core.List.Memᴰ.{not-nil}
use mathlib.Core.List.{List, [], ◌∷◌, map, Memᴰ}
use Prim.Native.Nat.{ℕ, suc, ◌+◌, ◌≤◌}
use native.Mathlib.Nat.{mul_comm}
use native.Mathlib.Omega.{arith}
use lib.ListN.{length, length-append, length-map}
use lib.Dec.{leb}
use Rattle.limits.specs.declared.Limits.{Limits}
use Rattle.table_spec.specs.Limits.{move_limit, return_limit}
use Rattle.table_spec.specs.File.{Table}
use Rattle.table_spec.specs.Reading.{before, WellFormed}
use Rattle.table_spec.specs.Language.{count}
use Rattle.table_spec.proofs.Order.{before_irreflexive}
use Rattle.generate_spec.specs.Loads.{records_few}
use Rattle.combine_spec.specs.Combine.{renumbered, first_of, second_of, pair_record, pair_records, intersection_table, both_records, union_table, combined_table, states_few}
use Rattle.combine_spec.specs.declared.How.{How}
use Rattle.combine_spec.specs.declared.How.TheVariants.{Intersection, Union}
use Rattle.combine_spec.proofs.AllPairs.{AllPairs, none, first, ascend-all-pairs}
use Rattle.combine_spec.proofs.Records.{Section, same-symbol, record_again, record_first, record_second, pairs_of, pairs-ascend, pairs-exact}
use Rattle.combine_spec.proofs.States.{intersection_count, union_count}
use Rattle.combine_spec.proofs.Automaton.{internals_section, calls_section, returns_section}

-- ---- a list whose elements, all different, are mapped one to one into another is no longer

-- a list without one of its elements
record Without {A : Type 0} (x : A) (ys : List A) : Type 0 where
  pub others : List A
  pub shorter : length ys ≡ suc (length others)
  pub kept : (y : A) → Memᴰ y ys → (y ≡ x) ⊎ Memᴰ y others

without : {A : Type 0} (x : A) (ys : List A) → Memᴰ x ys → Without x ys
without x [] d = absurd (not-nil d)
without {A} x (y ∷ ys) d = go (cases_cons d) (without x ys)
  where
    here : x ≡ y → (z : A) → (z ≡ y) ⊎ Memᴰ z ys → (z ≡ x) ⊎ Memᴰ z ys
    here e z (inl f) = inl (f ∙ sym e)
    here e z (inr k) = inr k

    later : (w : Without x ys) (z : A) → (z ≡ y) ⊎ Memᴰ z ys → (z ≡ x) ⊎ Memᴰ z (y ∷ w.others)
    later w z (inl f) = inr (Memᴰ.head f)
    later w z (inr k) = elim (w.kept z k) [ inl f ↦ inl f | inr j ↦ inr (Memᴰ.tail j) ]

    go : (x ≡ y) ⊎ Memᴰ x ys → (Memᴰ x ys → Without x ys) → Without x (y ∷ ys)
    go (inl e) ih = record { others = ys; shorter = refl; kept = λ z k. here e z (cases_cons k) }
    go (inr k) ih = let w = ih k in record { others = y ∷ w.others; shorter = ap suc w.shorter; kept = λ z j. later w z (cases_cons j) }

no_longer : {A B : Type 0} {R : A → A → Type 0} (f : A → B) {xs : List A} (ys : List B) → AllPairs R xs → ((x : A) → Memᴰ x xs → Memᴰ (f x) ys)
    → ((x y : A) → Memᴰ x xs → Memᴰ y xs → R x y → f x ≡ f y → ⊥) → length xs ≤ length ys
no_longer f ys (none) h apart = omega arith
no_longer {A} {B} {R} f ys (first {x} {xs} k o) h apart =
    let w = without (f x) ys (h x (Memᴰ.head refl)) in
    let ih = no_longer f w.others o (λ y d. other w.others y d (w.kept (f y) (h y (Memᴰ.tail d)))) (λ y z i j. apart y z (Memᴰ.tail i) (Memᴰ.tail j)) in
    omega (arith, w.shorter, ih)
  where
    other : (zs : List B) (y : A) → Memᴰ y xs → (f y ≡ f x) ⊎ Memᴰ (f y) zs → Memᴰ (f y) zs
    other zs y d (inl e) = absurd (apart x y (Memᴰ.head refl) (Memᴰ.tail d) (k y d) (sym e))
    other zs y d (inr j) = j

-- ---- the records of the pairs

module _ {t u : Table} {kind w : ℕ} {rs ss : List (List ℕ)} (firsts : Section t kind w rs) (seconds : Section u kind w ss) where
  -- the same two records, the other way round
  swap : List ℕ → List ℕ
  swap x = pair_record (count t) (renumbered (second_of (count u)) x) (renumbered (first_of (count u)) x)

  swap_in : (x : List ℕ) → Memᴰ x (pair_records (count u) rs ss) → Memᴰ (swap x) (pair_records (count t) ss rs)
  unfolding swap
  swap_in x d = let e = (pairs-exact firsts seconds x).0 d in pairs_of (count t) ss rs _ _ e.1 e.0 (same-symbol (second_of (count u)) (first_of (count u)) x)

  -- what it was made of
  swap_first : (x : List ℕ) → Memᴰ x (pair_records (count u) rs ss) → renumbered (first_of (count t)) (swap x) ≡ renumbered (second_of (count u)) x
  unfolding swap
  swap_first x d = let e = (pairs-exact firsts seconds x).0 d in record_first (seconds.each _ e.1) (firsts.each _ e.0) (seconds.wide _ e.1 ∙ sym (firsts.wide _ e.0))

  swap_second : (x : List ℕ) → Memᴰ x (pair_records (count u) rs ss) → renumbered (second_of (count t)) (swap x) ≡ renumbered (first_of (count u)) x
  unfolding swap
  swap_second x d =
      let e = (pairs-exact firsts seconds x).0 d in
      record_second (seconds.each _ e.1) (firsts.each _ e.0) (seconds.wide _ e.1 ∙ sym (firsts.wide _ e.0)) (same-symbol (second_of (count u)) (first_of (count u)) x)

  swap_one : (x y : List ℕ) → Memᴰ x (pair_records (count u) rs ss) → Memᴰ y (pair_records (count u) rs ss) → swap x ≡ swap y → x ≡ y
  swap_one x y i j e =
      let f = sym (swap_second x i) ∙ ap (renumbered (second_of (count t))) e ∙ swap_second y j in
      let g = sym (swap_first x i) ∙ ap (renumbered (first_of (count t))) e ∙ swap_first y j in
      sym (record_again (count u) x) ∙ (λ k. pair_record (count u) (f k) (g k)) ∙ record_again (count u) y

  pairs-le : length (pair_records (count u) rs ss) ≤ length (pair_records (count t) ss rs)
  pairs-le = no_longer swap (pair_records (count t) ss rs) (ascend-all-pairs _ (pairs-ascend (count u) rs ss)) swap_in (λ x y i j h e. before_irreflexive y (subst (λ z. before z y ≡ true) (swap_one x y i j e) h))

pairs_swapped : {t u : Table} {kind w : ℕ} {rs ss : List (List ℕ)} → Section t kind w rs → Section u kind w ss → length (pair_records (count u) rs ss) ≡ length (pair_records (count t) ss rs)
pairs_swapped f g = omega (arith, pairs-le f g, pairs-le g f)

both_swapped : (n m : ℕ) (rs ss : List (List ℕ)) → length (both_records n rs ss) ≡ length (both_records m ss rs)
unfolding both_records
both_swapped n m rs ss =
    omega
    (arith, length-append rs (map (renumbered (λ q. n + q)) ss), length-append ss (map (renumbered (λ q. m + q)) rs), length-map ss (renumbered (λ q. n + q)), length-map rs (renumbered (λ q. m + q)))

-- ---- the tables

-- two tables of one size
pub record SameSize (c d : Table) : Type 0 where
  pub states : count c ≡ count d
  pub internals : length c.internals ≡ length d.internals
  pub calls : length c.calls ≡ length d.calls
  pub returns : length c.returns ≡ length d.returns

pub same-states-few : {c d : Table} (L : Limits) → SameSize c d → states_few L c ≡ states_few L d
unfolding states_few
same-states-few L s = ap (λ n. leb n L.states) s.states

pub same-records-few : {c d : Table} → SameSize c d → records_few c ≡ records_few d
unfolding records_few
same-records-few s = λ i. leb (s.internals i) move_limit && (leb (s.calls i) move_limit && leb (s.returns i) return_limit)

pub swapped_size : {L : Limits} {t u : Table} → WellFormed L t → WellFormed L u → (how : How) → SameSize (combined_table how t u) (combined_table how u t)
unfolding combined_table intersection_table union_table
swapped_size {L} {t} {u} wf wf' (Intersection) = record {
  states = intersection_count t u ∙ mul_comm (count t) (count u) ∙ sym (intersection_count u t);
  internals = pairs_swapped (internals_section wf) (internals_section wf');
  calls = pairs_swapped (calls_section wf) (calls_section wf');
  returns = pairs_swapped (returns_section wf) (returns_section wf');
}
swapped_size {L} {t} {u} wf wf' (Union) = record {
  states = omega (arith, union_count t u, union_count u t);
  internals = both_swapped (count t) (count u) t.internals u.internals;
  calls = both_swapped (count t) (count u) t.calls u.calls;
  returns = both_swapped (count t) (count u) t.returns u.returns;
}
