-- The sections of a table that was read, as the comparison goes over them, and 38 by its tests. Assumes nothing.
use mathlib.Core.Path.{◌≡◌, sym, ap, ◌∙◌, subst}
use mathlib.Core.Bool.{Bool, true, false}
use mathlib.Core.List.{List, Memᴰ}
use Prim.Native.Nat.{ℕ, ◌≤◌}
use native.Mathlib.Omega.{arith}
use lib.ListN.{length}
use borrow.Author.Tests.{eq-eqb, ne_eqb}
use Rattle.lists.specs.Lists.{filter}
use Rattle.limits.specs.Limits.{standard}
use Rattle.table_spec.specs.File.{Table, table_of, records}
use Rattle.table_spec.specs.Reading.{is_initial, WellFormed}
use Rattle.table_spec.specs.Language.{count}
use Rattle.table_spec.specs.declared.Starts.{Starts}
use Rattle.table_spec.proofs.Bytes.{read_well_formed}
use Rattle.table_spec.proofs.Facts.{Fit, internals-fit, calls-fit, returns-fit, few-states}
use Rattle.table_spec.proofs.Passed.{formed_tested}
use Rattle.table_view.specs.Sections.{part_of, ReadAs}
use Rattle.table_view.specs.declared.Section.TheVariants.{States, Internals, Calls, Returns}
use Rattle.table_view.proofs.Parts.{states-read, internals-read, calls-read, returns-read}
use Rattle.fit_spec.specs.Fit.{one_target, one_initial, no_choice}
use Rattle.fit_rounds.specs.Rows.{Named, Ascends}

-- records that name states below n name states below any more
pub named_more : {w n k : ℕ} {s : List ℕ} → n ≤ k → Named w n s → Named w k s
named_more l h = record { states = λ r m i d e. let j = h.states r m i d e in omega arith; symbols = h.symbols }

module _ {b : List ℕ} {x : Starts} (h : ReadAs standard b x) where
  formed : WellFormed standard (table_of b)
  formed = read_well_formed standard b h.readable

  pub read-few : count (table_of b) ≤ 24
  read-few = few-states formed

  named : {kind w : ℕ} {s : List ℕ} {rs : List (List ℕ)} → records w s ≡ rs → Fit (table_of b) kind w rs → Named w (count (table_of b)) s
  named {s = s} e f = record {
    states = λ r m. f.states r (subst (λ (rs : List (List ℕ)). Memᴰ r rs) e m);
    symbols = λ r m. let l = (f.symbol r (subst (λ (rs : List (List ℕ)). Memᴰ r rs) e m)).0 in omega (arith, l, (formed_tested formed).symbols-few);
  }

  module _ {s : List ℕ} where
    pub internals-named : s ≡ part_of b x Internals → Named 3 (count (table_of b)) s
    internals-named e = named (internals-read h e) (internals-fit formed)

    pub calls-named : s ≡ part_of b x Calls → Named 3 (count (table_of b)) s
    calls-named e = named (calls-read h e) (calls-fit formed)

    pub returns-named : s ≡ part_of b x Returns → Named 4 (count (table_of b)) s
    returns-named e = named (returns-read h e) (returns-fit formed)

    -- the sections of a table, for 38
    pub one-initial : s ≡ part_of b x States → length (filter is_initial s) ≡ 1 → one_initial (table_of b) ≡ true
    unfolding one_initial
    one-initial e l = eq-eqb _ _ (sym (ap (λ (qs : List ℕ). length (filter is_initial qs)) (states-read h e)) ∙ l)

    pub other_initials : s ≡ part_of b x States → (length (filter is_initial s) ≡ 1 → ⊥) → one_initial (table_of b) ≡ false
    unfolding one_initial
    other_initials e n = ne_eqb _ _ (λ l. n (ap (λ (qs : List ℕ). length (filter is_initial qs)) (states-read h e) ∙ l))

    module _ {r : Bool} where
      pub internals-one : s ≡ part_of b x Internals → r ≡ one_target 2 (records 3 s) → one_target 2 (table_of b).internals ≡ r
      internals-one e f = sym (f ∙ ap (one_target 2) (internals-read h e))

      pub calls-one : s ≡ part_of b x Calls → r ≡ one_target 2 (records 3 s) → one_target 2 (table_of b).calls ≡ r
      calls-one e f = sym (f ∙ ap (one_target 2) (calls-read h e))

      pub returns_one : s ≡ part_of b x Returns → r ≡ one_target 3 (records 4 s) → one_target 3 (table_of b).returns ≡ r
      returns_one e f = sym (f ∙ ap (one_target 3) (returns-read h e))

    module _ {n : ℕ} (z : n ≡ count (table_of b)) where
      pub internals-ascend : s ≡ part_of b x Internals → Ascends 3 n s
      internals-ascend e = rw z record { few = read-few; named = internals-named e; in_order = rw (internals-read h e) (formed_tested formed).internals-ascend }

      pub calls-ascend : s ≡ part_of b x Calls → Ascends 3 n s
      calls-ascend e = rw z record { few = read-few; named = calls-named e; in_order = rw (calls-read h e) (formed_tested formed).calls-ascend }

      pub returns-ascend : s ≡ part_of b x Returns → Ascends 4 n s
      returns-ascend e = rw z record { few = read-few; named = returns-named e; in_order = rw (returns-read h e) (formed_tested formed).returns-ascend }

-- 38 by its four tests, in their order
module _ (t : Table) where
  pub many_initials : one_initial t ≡ false → false ≡ no_choice t
  unfolding no_choice
  many_initials e = sym (rw (e, no_choice))

  pub internals_choice : one_initial t ≡ true → one_target 2 t.internals ≡ false → false ≡ no_choice t
  unfolding no_choice
  internals_choice a e = sym (rw (a, e, no_choice))

  pub calls_choice : one_initial t ≡ true → one_target 2 t.internals ≡ true → one_target 2 t.calls ≡ false → false ≡ no_choice t
  unfolding no_choice
  calls_choice a e f = sym (rw (a, e, f, no_choice))

  pub returns_choice : {r : Bool} → one_initial t ≡ true → one_target 2 t.internals ≡ true → one_target 2 t.calls ≡ true → one_target 3 t.returns ≡ r → r ≡ no_choice t
  unfolding no_choice
  returns_choice a e f g = sym (rw (a, e, f, no_choice) g)
