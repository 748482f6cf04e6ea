-- What it says that reading refuses nothing (document 01, "Refused calls", 1 to 8, and 39): of the bytes, and of the table, test by test and both ways.
-- Assumes nothing.
use mathlib.Core.Path.{◌≡◌, refl, sym, subst, ◌∙◌}
use mathlib.Core.Logic.{◌⊎◌, inl, inr}
use mathlib.Core.Bool.{Bool, true, false}
use mathlib.Core.List.{List, [], ◌∷◌, Memᴰ}
use Prim.Native.Nat.{ℕ, ◌-◌, ◌%◌, ◌≤◌}
use native.Mathlib.Omega.{arith}
use lib.ListN.{length}
use lib.Dec.{eqb, leb}
use borrow.Author.Tests.{eqb-true, leb-true, eq-eqb, le-leb}
use Rattle.std.specs.Prelude.{Result}
use Rattle.lists.specs.Lists.{any, all, first_failed}
use Rattle.lists.proofs.Members.{and-true, and_of, all_true, all_of}
use Rattle.lists.proofs.Refusals.{passed, passes, fails, failed_within, none_failed, no_test}
use Rattle.limits.specs.Limits.{limits_fit, standard}
use Rattle.limits.specs.declared.Limits.{Limits}
use Rattle.refusals.specs.declared.Refusal.{Refusal}
use Rattle.refusals.specs.declared.Refusal.TheVariants.{Length, Version, Distances, Counts, Bytes, NoInitial, Records, Order, LimitsRange}
use Rattle.refusals.specs.Refusals.{Known}
use Rattle.refusals.proofs.Numbers.{known_of, failed_known, none_known, answered_says}
use Rattle.table_spec.specs.Limits.{longest, move_limit, return_limit}
use Rattle.table_spec.specs.File.{Table, trailer, distance, version, table_of}
use Rattle.table_spec.specs.Reading.{length_fits, version_fits, distances_fit, counts_fit, state_byte_most, bytes_fit, is_initial, start_fits, record_fits, records_fit, before, ascend_from, ascend, order_fits, table_tests, read_number, Readable, starts_of, read_of, start_values, ReadSays, WellFormed}
use Rattle.table_spec.specs.declared.Starts.{Starts}

-- ---- the first refusal that applies is given

-- two equal internals whose symbol is past the count
abbrev twice : Table
twice = record { version = 1; symbols = []; states = 1 ∷ []; internals = (0 ∷ 0 ∷ 0 ∷ []) ∷ (0 ∷ 0 ∷ 0 ∷ []) ∷ []; calls = []; returns = [] }

-- 39 before 1, of no bytes at limits of no state; 7 before 8
first_given : read_number (record { states = 0; symbols = 32 }) [] ∷ first_failed (table_tests standard twice) ∷ [] ≡ 39 ∷ 7 ∷ []
unfolding first_failed limits_fit length_fits counts_fit state_byte_most bytes_fit is_initial start_fits record_fits records_fit before ascend_from ascend order_fits table_tests read_number
first_given = refl

-- ---- what it says that bytes are readable

-- 3 does not apply
pub record Framed (b : List ℕ) : Type 0 where
  pub whole : distance b 0 ≡ trailer b
  pub falls_1 : distance b 1 ≤ distance b 0
  pub falls_2 : distance b 2 ≤ distance b 1
  pub falls_3 : distance b 3 ≤ distance b 2
  pub falls_4 : distance b 4 ≤ distance b 3
  pub threes_2 : (distance b 2 - distance b 3) % 3 ≡ 0
  pub threes_3 : (distance b 3 - distance b 4) % 3 ≡ 0
  pub fours_4 : distance b 4 % 4 ≡ 0

pub distances_framed : (b : List ℕ) → distances_fit b ≡ true → Framed b
unfolding distances_fit
distances_framed b e =
    let d7 = and-true _ _ e in
    let d6 = and-true _ _ d7.0 in
    let d5 = and-true _ _ d6.0 in
    let d4 = and-true _ _ d5.0 in
    let d3 = and-true _ _ d4.0 in
    let d2 = and-true _ _ d3.0 in
    let d1 = and-true _ _ d2.0 in
    record {
      whole = eqb-true _ _ d1.0;
      falls_1 = leb-true _ _ d1.1;
      falls_2 = leb-true _ _ d2.1;
      falls_3 = leb-true _ _ d3.1;
      falls_4 = leb-true _ _ d4.1;
      threes_2 = eqb-true _ _ d5.1;
      threes_3 = eqb-true _ _ d6.1;
      fours_4 = eqb-true _ _ d7.1;
    }

pub framed_distances : (b : List ℕ) → Framed b → distances_fit b ≡ true
unfolding distances_fit
framed_distances b f =
    and_of (and_of (and_of (and_of (and_of (and_of (and_of (eq-eqb _ _ f.whole) (le-leb _ _ f.falls_1))
    (le-leb _ _ f.falls_2)) (le-leb _ _ f.falls_3)) (le-leb _ _ f.falls_4)) (eq-eqb _ _ f.threes_2)) (eq-eqb _ _ f.threes_3))
    (eq-eqb _ _ f.fours_4)

-- 39 and 1 to 8 do not apply
pub record ReadPasses (L : Limits) (b : List ℕ) : Type 0 where
  pub limits : limits_fit L ≡ true
  pub long : 12 ≤ length b
  pub short : length b ≤ longest L
  pub versioned : version_fits (version b) ≡ true
  pub framed : Framed b
  pub fits : first_failed (table_tests L (table_of b)) ≡ 0

pub read-passed : (L : Limits) (b : List ℕ) → Readable L b → ReadPasses L b
unfolding read_number length_fits
read-passed L b e =
    let p0 = passed 39 _ _ (λ z. absurd (omega arith)) e in
    let p1 = passed 1 _ _ (λ z. absurd (omega arith)) p0.1 in
    let p2 = passed 2 _ _ (λ z. absurd (omega arith)) p1.1 in
    let p3 = passed 3 _ _ (λ z. absurd (omega arith)) p2.1 in
    let l = and-true _ _ p1.0 in
    record {
      limits = p0.0;
      long = leb-true _ _ l.0;
      short = leb-true _ _ l.1;
      versioned = p2.0;
      framed = distances_framed b p3.0;
      fits = p3.1;
    }

pub passed-read : (L : Limits) (b : List ℕ) → ReadPasses L b → Readable L b
unfolding read_number length_fits
passed-read L b p =
    passes 39 _ p.limits
    ∙ passes 1 _ (and_of (le-leb _ _ p.long) (le-leb _ _ p.short))
    ∙ passes 2 _ p.versioned
    ∙ passes 3 _ (framed_distances b p.framed)
    ∙ p.fits

-- ---- what it says that a table is well formed

pub record Wide (t : Table) : Type 0 where
  pub internals : (r : List ℕ) → Memᴰ r t.internals → length r ≡ 3
  pub calls : (r : List ℕ) → Memᴰ r t.calls → length r ≡ 3
  pub returns : (r : List ℕ) → Memᴰ r t.returns → length r ≡ 4

-- 4 to 8 do not apply
pub record Tested (L : Limits) (t : Table) : Type 0 where
  pub symbols-few : length t.symbols ≤ L.symbols
  pub some-state : 1 ≤ length t.states
  pub states-few : length t.states ≤ L.states
  pub internals-few : length t.internals ≤ move_limit
  pub calls-few : length t.calls ≤ move_limit
  pub returns-few : length t.returns ≤ return_limit
  pub symbol-bytes : (x : ℕ) → Memᴰ x t.symbols → x ≤ 2
  pub state-bytes : (x : ℕ) → Memᴰ x t.states → x ≤ state_byte_most t.version
  pub initial : any is_initial t.states ≡ true
  pub internals-fit : (r : List ℕ) → Memᴰ r t.internals → record_fits t 0 r ≡ true
  pub calls-fit : (r : List ℕ) → Memᴰ r t.calls → record_fits t 1 r ≡ true
  pub returns-fit : (r : List ℕ) → Memᴰ r t.returns → record_fits t 2 r ≡ true
  pub internals-ascend : ascend t.internals ≡ true
  pub calls-ascend : ascend t.calls ≡ true
  pub returns-ascend : ascend t.returns ≡ true

pub tests_passed : (L : Limits) (t : Table) → first_failed (table_tests L t) ≡ 0 → Tested L t
unfolding table_tests counts_fit bytes_fit start_fits records_fit order_fits
tests_passed L t e =
    let p4 = passed 4 _ _ (λ z. absurd (omega arith)) e in
    let p5 = passed 5 _ _ (λ z. absurd (omega arith)) p4.1 in
    let p6 = passed 6 _ _ (λ z. absurd (omega arith)) p5.1 in
    let p7 = passed 7 _ _ (λ z. absurd (omega arith)) p6.1 in
    let p8 = passed 8 _ _ (λ z. absurd (omega arith)) p7.1 in
    let c5 = and-true _ _ p4.0 in
    let c4 = and-true _ _ c5.0 in
    let c3 = and-true _ _ c4.0 in
    let c2 = and-true _ _ c3.0 in
    let c1 = and-true _ _ c2.0 in
    let b1 = and-true _ _ p5.0 in
    let r2 = and-true _ _ p7.0 in
    let r1 = and-true _ _ r2.0 in
    let o2 = and-true _ _ p8.0 in
    let o1 = and-true _ _ o2.0 in
    record {
      symbols-few = leb-true _ _ c1.0;
      some-state = leb-true _ _ c1.1;
      states-few = leb-true _ _ c2.1;
      internals-few = leb-true _ _ c3.1;
      calls-few = leb-true _ _ c4.1;
      returns-few = leb-true _ _ c5.1;
      symbol-bytes = λ x m. leb-true x 2 (all_true (λ x. leb x 2) t.symbols b1.0 x m);
      state-bytes = λ x m. leb-true x (state_byte_most t.version) (all_true (λ x. leb x (state_byte_most t.version)) t.states b1.1 x m);
      initial = p6.0;
      internals-fit = all_true (record_fits t 0) t.internals r1.0;
      calls-fit = all_true (record_fits t 1) t.calls r1.1;
      returns-fit = all_true (record_fits t 2) t.returns r2.1;
      internals-ascend = o1.0;
      calls-ascend = o1.1;
      returns-ascend = o2.1;
    }

pub tests_pass : (L : Limits) (t : Table) → Tested L t → first_failed (table_tests L t) ≡ 0
unfolding table_tests counts_fit bytes_fit start_fits records_fit order_fits
tests_pass L t p =
    passes 4 _
    (and_of (and_of (and_of (and_of (and_of (le-leb _ _ p.symbols-few) (le-leb _ _ p.some-state)) (le-leb _ _ p.states-few))
    (le-leb _ _ p.internals-few)) (le-leb _ _ p.calls-few)) (le-leb _ _ p.returns-few))
    ∙ passes 5 _ (and_of (all_of (λ x. leb x 2) t.symbols (λ x m. le-leb x 2 (p.symbol-bytes x m))) (all_of (λ x. leb x (state_byte_most t.version)) t.states (λ x m. le-leb x (state_byte_most t.version) (p.state-bytes x m))))
    ∙ passes 6 _ p.initial
    ∙ passes 7 _
    (and_of (and_of (all_of (record_fits t 0) t.internals p.internals-fit) (all_of (record_fits t 1) t.calls p.calls-fit)) (all_of (record_fits t 2) t.returns p.returns-fit))
    ∙ passes 8 _ (and_of (and_of p.internals-ascend p.calls-ascend) p.returns-ascend)
    ∙ no_test

pub formed-wide : {L : Limits} {t : Table} → WellFormed L t → Wide t
formed-wide {L} {t} f = record {
  internals = wide 3 t.internals f.internals-wide;
  calls = wide 3 t.calls f.calls-wide;
  returns = wide 4 t.returns f.returns-wide;
}
  where
    wide : (w : ℕ) (rs : List (List ℕ)) → all (λ r. eqb (length r) w) rs ≡ true → (r : List ℕ) → Memᴰ r rs → length r ≡ w
    wide w rs e r m = eqb-true (length r) w (all_true (λ r. eqb (length r) w) rs e r m)

pub formed_tested : {L : Limits} {t : Table} → WellFormed L t → Tested L t
formed_tested {L} {t} f = tests_passed L t f.fits

pub formed_of : {L : Limits} {t : Table} → limits_fit L ≡ true → version_fits t.version ≡ true → Wide t → Tested L t → WellFormed L t
formed_of {L} {t} l v w p = record {
  limits = l;
  versioned = v;
  internals-wide = wide 3 t.internals w.internals;
  calls-wide = wide 3 t.calls w.calls;
  returns-wide = wide 4 t.returns w.returns;
  fits = tests_pass L t p;
}
  where
    wide : (w : ℕ) (rs : List (List ℕ)) → ((r : List ℕ) → Memᴰ r rs → length r ≡ w) → all (λ r. eqb (length r) w) rs ≡ true
    wide w rs h = all_of (λ r. eqb (length r) w) rs (λ r m. eq-eqb (length r) w (h r m))

-- reading refuses by 39 and 1 to 8: by no number in between
pub read-within : (L : Limits) (b : List ℕ) → (read_number L b ≡ 39) ⊎ (read_number L b ≤ 8)
unfolding read_number table_tests
read-within L b = go (limits_fit L) refl
  where
    after : first_failed ((1, length_fits L b) ∷ (2, version_fits (version b)) ∷ (3, distances_fit b) ∷ table_tests L (table_of b)) ≤ 8
    after =
        failed_within 8 1 _ _ (omega arith) (failed_within 8 2 _ _ (omega arith) (failed_within 8 3 _ _ (omega arith) (failed_within 8 4 _ _ (omega arith)
        (failed_within 8 5 _ _ (omega arith) (failed_within 8 6 _ _ (omega arith) (failed_within 8 7 _ _ (omega arith) (failed_within 8 8 _ _ (omega arith) (none_failed 8))))))))

    go : (t : Bool) → limits_fit L ≡ t → (read_number L b ≡ 39) ⊎ (read_number L b ≤ 8)
    go true e = inr (subst (λ (k : ℕ). k ≤ 8) (sym (passes 39 _ e)) after)
    go false e = inl (fails 39 _ e)

-- reading refuses by numbers that are known
pub read-known : (L : Limits) (b : List ℕ) → Known (read_number L b)
unfolding read_number table_tests
read-known L b =
    failed_known _ _ (known_of LimitsRange) (failed_known _ _ (known_of Length) (failed_known _ _ (known_of Version) (failed_known _ _ (known_of Distances) (failed_known _ _ (known_of Counts)
    (failed_known _ _ (known_of Bytes) (failed_known _ _ (known_of NoInitial) (failed_known _ _ (known_of Records) (failed_known _ _ (known_of Order) none_known))))))))

-- what reading answers, by its number and its values
read_says : (L : Limits) (b : List ℕ) → ReadSays L b (read_of L b)
unfolding read_of
read_says L b = answered_says (starts_of b) start_values (read-known L b)

pub read_promised : (L : Limits) (b : List ℕ) {r : Result Starts Refusal} → r ≡ read_of L b → (r ≡ read_of L b) × ReadSays L b r
read_promised L b e = (e, subst (ReadSays L b) (sym e) (read_says L b))
