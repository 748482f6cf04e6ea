-- The sections of tables that were read at 24 and 32, as the code takes them. Assumes nothing.
use mathlib.Core.Path.{◌≡◌, sym, ap, ◌∙◌, subst}
use mathlib.Core.Bool.{Bool, not}
use mathlib.Core.List.{List}
use Prim.Native.Nat.{ℕ, suc, ◌*◌, ◌≤◌}
use native.Mathlib.Omega.{arith}
use lib.ListN.{length}
use Rattle.limits.specs.Limits.{standard}
use Rattle.table_spec.specs.File.{Table, table_of, records}
use Rattle.table_spec.specs.Language.{count}
use Rattle.table_spec.specs.declared.Starts.{Starts}
use Rattle.table_spec.proofs.Bytes.{read_well_formed}
use Rattle.table_view.specs.Sections.{part_of}
use Rattle.table_view.specs.declared.Section.TheVariants.{States, Internals, Calls, Returns}
use Rattle.table_view.proofs.Parts.{states-read, internals-read, calls-read, returns-read}
use Rattle.tops_spec.specs.Tops.{rounds, start_words}
use Rattle.fit_spec.specs.Fit.{pair_count, pair_table, pair_tops, ends, fits}
use Rattle.fit_rounds.specs.Rows.{Holds, Named, NextMoves, NextReturns}
use Rattle.fit_compare.specs.Compared.{Given, BothRead}
use Rattle.fit_links.specs.Quick.{SomeTops, Counts, Inner, Pushing, Popping}
use Rattle.fit_links.proofs.Quickly.{start_partly, partly_tops}
use Rattle.fit_compare.proofs.Reading.{named_more, read-few, internals-named, calls-named, returns-named}

-- ---- the rows of the pairs

module _ {b c : List ℕ} {x y : Starts} (h : BothRead b x c y) {states others : List ℕ} (e1 : states ≡ part_of b x States) (e2 : others ≡ part_of c y States) where
  pub first_count : length states ≡ count (table_of b)
  first_count = ap length (states-read h.first e1)

  pub second-count : length others ≡ count (table_of c)
  second-count = ap length (states-read h.second e2)

  pub both-few : (length states ≤ 24) × (length others ≤ 24)
  both-few = (omega (arith, first_count, read-few h.first), omega (arith, second-count, read-few h.second))

  pub sink_count : {sink : ℕ} → sink ≡ length others → sink ≡ count (table_of c)
  sink_count e = e ∙ second-count

  module _ {internals calls returns : List ℕ} (e3 : internals ≡ part_of b x Internals) (e4 : calls ≡ part_of b x Calls) (e5 : returns ≡ part_of b x Returns) where
    pub three_named : Named 3 24 internals × Named 3 24 calls × Named 4 24 returns
    three_named = let l = read-few h.first in (named_more l (internals-named h.first e3), named_more l (calls-named h.first e4), named_more l (returns-named h.first e5))

    pub given : {sink : ℕ} {others1 others2 others3 moves pushes pops : List ℕ} → sink ≡ length others
        → others1 ≡ part_of c y Internals → others2 ≡ part_of c y Calls → others3 ≡ part_of c y Returns
        → NextMoves sink (records 3 others1) moves → NextMoves sink (records 3 others2) pushes → NextReturns sink (records 4 others3) pops
        → Given (table_of b) (table_of c) internals calls returns moves pushes pops (length states) (length others)
    given {moves = moves} {pushes = pushes} {pops = pops} z f1 f2 f3 m1 m2 m3 = record {
      firsts = sym first_count;
      seconds = sym second-count;
      internals-are = sym (internals-read h.first e3);
      calls_are = sym (calls-read h.first e4);
      returns-are = sym (returns-read h.first e5);
      internals-named = subst (λ (k : ℕ). Named 3 k internals) (sym first_count) (internals-named h.first e3);
      calls-named = subst (λ (k : ℕ). Named 3 k calls) (sym first_count) (calls-named h.first e4);
      returns-named = subst (λ (k : ℕ). Named 4 k returns) (sym first_count) (returns-named h.first e5);
      moves-are = rw (z, internals-read h.second f1) at m1;
      pushes_are = rw (z, calls-read h.second f2) at m2;
      pops_are = rw (z, returns-read h.second f3) at m3;
    }

  -- the tables as the quick walk has them
  counts_of_lem : Counts (table_of b) (table_of c) (length states) (length others)
  counts_of_lem = record { first = read_well_formed standard b h.first.readable; second = read_well_formed standard c h.second.readable; firsts = sym first_count; seconds = sym second-count }

  module _ {internals calls returns moves pushes pops : List ℕ} (d : Given (table_of b) (table_of c) internals calls returns moves pushes pops (length states) (length others)) where
    pub inner_of : Inner (table_of b) (table_of c) (length states) (length others) internals moves
    inner_of = record { counts = counts_of_lem; are = d.internals-are; goes = d.moves-are }

    pub pushing_of : Pushing (table_of b) (table_of c) (length states) (length others) calls pushes
    pushing_of = record { counts = counts_of_lem; are = d.calls_are; goes = d.pushes_are }

    pub popping_of : Popping (table_of b) (table_of c) (length states) (length others) returns pops
    popping_of = record { counts = counts_of_lem; are = d.returns-are; goes = d.pops_are }

  -- the rows at the start, what the quick walk adds, and what the rounds make of them
  pub rows-tops : {f f₁ g : List ℕ}
      → ((s t : Table) → s.states ≡ states → t.states ≡ others → Holds f (start_words (pair_count s t) (pair_table s t)))
      → (SomeTops (table_of b) (table_of c) f → SomeTops (table_of b) (table_of c) f₁)
      → ((F : List ℕ) → Holds f₁ F → length F ≡ length states * suc (length others) → Holds g (rounds (suc (length states * suc (length others) * suc (length states * suc (length others)))) (pair_table (table_of b) (table_of c)) F))
      → Holds g (pair_tops (table_of b) (table_of c))
  rows-tops {g = g} start quick turn =
      let s = table_of b in
      let t = table_of c in
      let c = counts_of_lem in
      let e : length states * suc (length others) ≡ pair_count s t = λ i. first_count i * suc (second-count i) in
      partly_tops c.first c.second (quick (start_partly c.first c.second (start s t (sym (states-read h.first e1)) (sym (states-read h.second e2)))))
      (λ F k l. subst (λ (m : ℕ). Holds g (rounds (suc (m * suc m)) (pair_table s t) F)) e (turn F k (l ∙ sym e)))

  -- the answer
  pub fits_told : {r : Bool} {g : List ℕ} → Holds g (pair_tops (table_of b) (table_of c))
      → ((s t : Table) → s.states ≡ states → t.states ≡ others → (F : List ℕ) → Holds g F → r ≡ ends (length states * suc (length others)) (pair_table s t) F)
      → not r ≡ fits (table_of b) (table_of c)
  unfolding fits
  fits_told k told =
      let s = table_of b in
      let t = table_of c in
      ap not (told s t (sym (states-read h.first e1)) (sym (states-read h.second e2)) (pair_tops s t) k ∙ (λ i. ends (first_count i * suc (second-count i)) (pair_table s t) (pair_tops s t)))
