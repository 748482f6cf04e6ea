-- The numbers 4 to 8, one law for each way to a return of src/. Assumes nothing.
use mathlib.Core.Path.{◌≡◌, refl, sym, ap, ◌∙◌}
use mathlib.Core.Bool.{Bool, true, false, ◌&&◌}
use mathlib.Core.List.{List, [], ◌∷◌}
use Prim.Native.Nat.{ℕ, suc, ◌+◌, ◌/◌, ◌≤◌, ◌<◌}
use native.Mathlib.Numerals.{add-one}
use lib.ListN.{length}
use lib.Dec.{leb, ltb, leb-suc-suc}
use borrow.Author.Tests.{lt-leb, le-leb}
use Rattle.std.specs.Prelude.{Ok, Err}
use Rattle.lists.specs.Lists.{any, all, first_failed}
use Rattle.lists.proofs.Refusals.{passes, fails, no_test}
use Rattle.limits.specs.declared.Limits.{Limits}
use Rattle.refusals.specs.declared.Refusal.TheVariants.{Counts, Bytes, NoInitial, Records, Order}
use Rattle.refusals.specs.Refusals.{tested}
use Rattle.refusals.proofs.Numbers.{refused_by, ok_by}
use Rattle.table_spec.specs.File.{records}
use Rattle.table_spec.specs.Reading.{counts_fit, state_byte_most, bytes_fit, is_initial, start_fits, record_fits, records_fit, ascend, order_fits, table_tests}
use Rattle.table_spec.proofs.Bytes.{length-records}
use Rattle.table_view.specs.Sections.{sectioned}
use Rattle.read_contents.proofs.Fits.{fits_by}

-- ---- 4: counts

module _ (L : Limits) (a b c d e : List ℕ) where
  pub counts : counts_fit L (sectioned 0 a b c d e)
      ≡ leb (length a) L.symbols && leb 1 (length b) && leb (length b) L.states && leb (length c / 3) 1024 && leb (length d / 3) 1024 && leb (length e / 4) 4096
  unfolding counts_fit sectioned
  counts = λ i. leb (length a) L.symbols && leb 1 (length b) && leb (length b) L.states && leb (length-records 3 c i) 1024 && leb (length-records 3 d i) 1024 && leb (length-records 4 e i) 4096

-- ---- 5: bytes

below : (n : ℕ) (xs : List ℕ) → all (λ x. ltb x (suc n)) xs ≡ all (λ x. leb x n) xs
below n xs = λ i. all (λ x. leb-suc-suc x n i) xs

module _ (v : ℕ) (a b : List ℕ) where
  pub bytes : bytes_fit (sectioned v a b [] [] []) ≡ all (λ x. ltb x 3) a && all (λ x. ltb x (state_byte_most v + 1)) b
  unfolding bytes_fit sectioned
  bytes = rw add-one (λ i. sym (below 2 a) i && sym (below (state_byte_most v) b) i)

-- ---- 7 and 8: records and their order

module _ (v : ℕ) (a b c d e : List ℕ) where
  pub fitting : records_fit (sectioned v a b c d e)
      ≡ all (record_fits (sectioned 0 a b [] [] []) 0) (records 3 c) && all (record_fits (sectioned 0 a b [] [] []) 1) (records 3 d) && all (record_fits (sectioned 0 a b [] [] []) 2) (records 4 e)
  unfolding records_fit sectioned
  fitting = λ i. all (alone 0 i) (records 3 c) && all (alone 1 i) (records 3 d) && all (alone 2 i) (records 4 e)
    where
      alone : (kind : ℕ) → record_fits (sectioned v a b c d e) kind ≡ record_fits (sectioned 0 a b [] [] []) kind
      alone kind = λ i r. fits_by (sectioned v a b c d e) (sectioned 0 a b [] [] []) kind r refl refl i

pub ordered : (c d e : List ℕ) → order_fits (sectioned 0 [] [] c d e) ≡ ascend (records 3 c) && ascend (records 3 d) && ascend (records 4 e)
unfolding order_fits sectioned
ordered c d e = refl

-- ---- the first of 4 to 8

module _ (L : Limits) (v : ℕ) (a b c d e : List ℕ) where
  -- the tests, each over the sections that it reads
  tests : first_failed (table_tests L (sectioned v a b c d e))
      ≡ first_failed ((4, counts_fit L (sectioned 0 a b c d e)) ∷ (5, bytes_fit (sectioned v a b [] [] [])) ∷ (6, any is_initial b) ∷ (7, records_fit (sectioned 0 a b c d e)) ∷ (8, order_fits (sectioned 0 [] [] c d e)) ∷ [])
  unfolding table_tests counts_fit bytes_fit start_fits order_fits sectioned
  tests = ap (λ r. first_failed ((4, counts_fit L (sectioned 0 a b c d e)) ∷ (5, bytes_fit (sectioned v a b [] [] [])) ∷ (6, any is_initial b) ∷ (7, r) ∷ (8, order_fits (sectioned 0 [] [] c d e)) ∷ [])) (fitting v a b c d e ∙ sym (fitting 0 a b c d e))

  pub number_4 : counts_fit L (sectioned 0 a b c d e) ≡ false → Err Counts ≡ tested (first_failed (table_tests L (sectioned v a b c d e)))
  number_4 h = refused_by tt (tests ∙ fails 4 _ h)

  module _ (p4 : counts_fit L (sectioned 0 a b c d e) ≡ true) where
    pub number_5 : bytes_fit (sectioned v a b [] [] []) ≡ false → Err Bytes ≡ tested (first_failed (table_tests L (sectioned v a b c d e)))
    number_5 h = refused_by tt (tests ∙ passes 4 _ p4 ∙ fails 5 _ h)

    module _ (p5 : bytes_fit (sectioned v a b [] [] []) ≡ true) where
      pub number_6 : any is_initial b ≡ false → Err NoInitial ≡ tested (first_failed (table_tests L (sectioned v a b c d e)))
      number_6 h = refused_by tt (tests ∙ passes 4 _ p4 ∙ passes 5 _ p5 ∙ fails 6 _ h)

      module _ (p6 : any is_initial b ≡ true) where
        pub number_7 : records_fit (sectioned 0 a b c d e) ≡ false → Err Records ≡ tested (first_failed (table_tests L (sectioned v a b c d e)))
        number_7 h = refused_by tt (tests ∙ passes 4 _ p4 ∙ passes 5 _ p5 ∙ passes 6 _ p6 ∙ fails 7 _ h)

        module _ (p7 : records_fit (sectioned 0 a b c d e) ≡ true) where
          pub number_8 : order_fits (sectioned 0 [] [] c d e) ≡ false → Err Order ≡ tested (first_failed (table_tests L (sectioned v a b c d e)))
          number_8 h = refused_by tt (tests ∙ passes 4 _ p4 ∙ passes 5 _ p5 ∙ passes 6 _ p6 ∙ passes 7 _ p7 ∙ fails 8 _ h)

          pub number_0 : order_fits (sectioned 0 [] [] c d e) ≡ true → Ok tt ≡ tested (first_failed (table_tests L (sectioned v a b c d e)))
          number_0 h = ok_by tt (tests ∙ passes 4 _ p4 ∙ passes 5 _ p5 ∙ passes 6 _ p6 ∙ passes 7 _ p7 ∙ passes 8 _ h ∙ no_test)
