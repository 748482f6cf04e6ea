-- The table of two combined is well formed, where its counts fit. Assumes nothing.
use mathlib.Core.Path.{◌≡◌, refl, ap, ◌∙◌}
use mathlib.Core.Logic.{◌⊎◌, inl, inr}
use mathlib.Core.Bool.{true}
use mathlib.Core.List.Memᴰ
use mathlib.Core.List.Memᴰ.{append_cases}
use mathlib.Core.List.{◌++◌, Memᴰ}
use Prim.Native.Nat.{ℕ, ◌+◌, ◌*◌, ◌%◌, ◌<◌, ◌≤◌}
use native.Mathlib.Omega.{arith}
use lib.ListN.{length}
use borrow.Author.Tests.{eqb-true, eq-eqb, leb-true}
use Rattle.lists.specs.Lists.{any, upto}
use Rattle.lists.proofs.Members.{and-true, get_d_mem, any-true, any_of}
use Rattle.limits.specs.declared.Limits.{Limits}
use Rattle.table_spec.specs.Limits.{move_limit, return_limit}
use Rattle.table_spec.specs.File.{Table}
use Rattle.table_spec.specs.Reading.{version_fits, state_byte_most, is_initial, ascend, WellFormed}
use Rattle.table_spec.specs.Language.{count, byte_of}
use Rattle.table_spec.proofs.Passed.{formed_tested, formed_of}
use Rattle.table_spec.proofs.Versions.{mark-within}
use Rattle.table_spec.proofs.Facts.{byte_within}
use Rattle.quotient_spec.proofs.Table.{mem_index}
use Rattle.generate_spec.specs.Loads.{records_few}
use Rattle.combine_spec.specs.Combine.{first_of, second_of, pair_of, pair_byte, later_version, intersection_table, union_table, combined_table, states_few}
use Rattle.combine_spec.specs.declared.How.{How}
use Rattle.combine_spec.specs.declared.How.TheVariants.{Intersection, Union}
use Rattle.combine_spec.proofs.Records.{Section, fits_of, pair-first, pair-second, pair-below, pairs_section, pairs-ascend, both_section, both-ascend}
use Rattle.combine_spec.proofs.States.{byte_initial, byte_small, intersection_count, intersection_byte, union_count, later-fits, first-most, second-most}
use Rattle.combine_spec.proofs.Automaton.{internals_section, calls_section, returns_section, some-second}

-- what is left to show of a table whose counts fit
pub record Made (t u c : Table) : Type 0 where
  pub version : c.version ≡ later_version t.version u.version
  pub symbols : c.symbols ≡ t.symbols
  pub some-state : 1 ≤ count c
  pub bytes : (x : ℕ) → Memᴰ x c.states → x ≤ state_byte_most c.version
  pub initial : any is_initial c.states ≡ true
  pub internals : Section c 0 3 c.internals
  pub calls : Section c 1 3 c.calls
  pub returns : Section c 2 4 c.returns
  pub internals-ascend : ascend c.internals ≡ true
  pub calls-ascend : ascend c.calls ≡ true
  pub returns-ascend : ascend c.returns ≡ true

pub few-records : (t : Table) → records_few t ≡ true → (length t.internals ≤ move_limit) × (length t.calls ≤ move_limit) × (length t.returns ≤ return_limit)
unfolding records_few
few-records t e =
    let a = and-true _ _ e in
    let b = and-true _ _ a.1 in
    (leb-true _ _ a.0, leb-true _ _ b.0, leb-true _ _ b.1)

-- a table has an initial state
some-initial : {L : Limits} {t : Table} → WellFormed L t → (q : ℕ) × (q < count t) × (byte_of t q % 2 ≡ 1)
unfolding is_initial
some-initial {L} {t} f =
    let x = any-true is_initial t.states (formed_tested f).initial in
    let i = mem_index x.0 t.states x.1 in
    (i.0, i.1, ap (λ b. b % 2) i.2 ∙ eqb-true _ _ x.2)

module _ {L : Limits} {t u : Table} (wf : WellFormed L t) (wf' : WellFormed L u) where
  made-formed : {c : Table} → Made t u c → count c ≤ L.states → records_few c ≡ true → WellFormed L c
  made-formed {c} made n r =
      let few = few-records c r in
      formed_of wf.limits (ap version_fits made.version ∙ later-fits t.version u.version) (record { internals = made.internals.wide; calls = made.calls.wide; returns = made.returns.wide })
      (record {
        symbols-few = rw made.symbols (formed_tested wf).symbols-few;
        some-state = made.some-state;
        states-few = n;
        internals-few = few.0;
        calls-few = few.1;
        returns-few = few.2;
        symbol-bytes = rw made.symbols (formed_tested wf).symbol-bytes;
        state-bytes = made.bytes;
        initial = made.initial;
        internals-fit = λ r d. fits_of (made.internals.each r d);
        calls-fit = λ r d. fits_of (made.calls.each r d);
        returns-fit = λ r d. fits_of (made.returns.each r d);
        internals-ascend = made.internals-ascend;
        calls-ascend = made.calls-ascend;
        returns-ascend = made.returns-ascend;
      })

  -- ---- the intersection

  first_byte : (x : ℕ) → byte_of t x ≤ state_byte_most (later_version t.version u.version)
  first_byte x = omega (arith, byte_within wf x, first-most t.version u.version)

  pair-within : (x y : ℕ) → pair_byte (byte_of t x) y ≤ state_byte_most (later_version t.version u.version)
  pair-within x y = omega (arith, byte_small (byte_of t x) y, mark-within (later_version t.version u.version) (byte_of t x) (first_byte x))

  pair-initial : any is_initial (intersection_table t u).states ≡ true
  unfolding is_initial
  pair-initial =
      let i = some-initial wf in
      let j = some-initial wf' in
      let x = pair_of (count u) i.0 j.0 in
      let here : x < count (intersection_table t u) = rw (intersection_count t u) (pair-below (count u) i.1 j.1) in
      let e : byte_of (intersection_table t u) x ≡ pair_byte (byte_of t i.0) (byte_of u j.0) = intersection_byte t u (some-second wf wf') x ∙ (λ k. pair_byte (byte_of t (pair-first (count u) i.0 j.1 k)) (byte_of u (pair-second (count u) i.0 j.1 k))) in
      any_of is_initial (intersection_table t u).states _ (get_d_mem (intersection_table t u).states x 0 here) (eq-eqb _ _ (ap (λ b. b % 2) e ∙ (byte_initial _ _).1 (i.2, j.2)))

  intersection_made : Made t u (intersection_table t u)
  unfolding intersection_table
  intersection_made = record {
    version = refl;
    symbols = refl;
    some-state = omega (arith, intersection_count t u, pair-below (count u) (some-initial wf).1 (some-initial wf').1);
    bytes = λ x d. go x (Memᴰ.of_map (λ x. pair_byte (byte_of t (first_of (count u) x)) (byte_of u (second_of (count u) x))) (upto (count t * count u)) d);
    initial = pair-initial;
    internals = pairs_section (internals_section wf) (internals_section wf') refl (intersection_count t u);
    calls = pairs_section (calls_section wf) (calls_section wf') refl (intersection_count t u);
    returns = pairs_section (returns_section wf) (returns_section wf') refl (intersection_count t u);
    internals-ascend = pairs-ascend (count u) t.internals u.internals;
    calls-ascend = pairs-ascend (count u) t.calls u.calls;
    returns-ascend = pairs-ascend (count u) t.returns u.returns;
  }
    where
      go :
          (x : ℕ) → (y : ℕ) × Memᴰ y (upto (count t * count u)) × (pair_byte (byte_of t (first_of (count u) y)) (byte_of u (second_of (count u) y)) ≡ x)
          → x ≤ state_byte_most (later_version t.version u.version)
      go x (y, d, e) = omega (arith, pair-within (first_of (count u) y) (byte_of u (second_of (count u) y)))

  -- ---- the union

  union_made : t.symbols ≡ u.symbols → Made t u (union_table t u)
  unfolding union_table
  union_made e = record {
    version = refl;
    symbols = refl;
    some-state = omega (arith, union_count t u, (formed_tested wf).some-state);
    bytes = λ x d. go x (append_cases t.states d);
    initial = let x = any-true is_initial t.states (formed_tested wf).initial in any_of is_initial (t.states ++ u.states) x.0 (Memᴰ.append_left u.states x.1) x.2;
    internals = both_section (internals_section wf) (internals_section wf') refl e (union_count t u);
    calls = both_section (calls_section wf) (calls_section wf') refl e (union_count t u);
    returns = both_section (returns_section wf) (returns_section wf') refl e (union_count t u);
    internals-ascend = both-ascend (internals_section wf) (internals_section wf') (formed_tested wf).internals-ascend (formed_tested wf').internals-ascend;
    calls-ascend = both-ascend (calls_section wf) (calls_section wf') (formed_tested wf).calls-ascend (formed_tested wf').calls-ascend;
    returns-ascend = both-ascend (returns_section wf) (returns_section wf') (formed_tested wf).returns-ascend (formed_tested wf').returns-ascend;
  }
    where
      go : (x : ℕ) → Memᴰ x t.states ⊎ Memᴰ x u.states → x ≤ state_byte_most (later_version t.version u.version)
      go x (inl d) = omega (arith, (formed_tested wf).state-bytes x d, first-most t.version u.version)
      go x (inr d) = omega (arith, (formed_tested wf').state-bytes x d, second-most t.version u.version)

  -- ---- either way

  combined_made : (how : How) → t.symbols ≡ u.symbols → Made t u (combined_table how t u)
  unfolding combined_table
  combined_made (Intersection) e = intersection_made
  combined_made (Union) e = union_made e

  pub combined_well_formed : (how : How) → t.symbols ≡ u.symbols → states_few L (combined_table how t u) ≡ true → records_few (combined_table how t u) ≡ true → WellFormed L (combined_table how t u)
  unfolding states_few
  combined_well_formed how e n r = made-formed (combined_made how e) (leb-true _ _ n) r

pub combined_symbols : (how : How) (t u : Table) → (combined_table how t u).symbols ≡ t.symbols
unfolding combined_table intersection_table union_table
combined_symbols (Intersection) t u = refl
combined_symbols (Union) t u = refl
