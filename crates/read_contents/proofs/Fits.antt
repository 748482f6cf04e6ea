-- One record against the table's symbols and states, test by test, of any width. Assumes nothing.
use mathlib.Core.Path.{◌≡◌, refl, sym, ◌∙◌}
use mathlib.Core.Bool.{false, ◌&&◌}
use mathlib.Core.List.{List, [], ◌∷◌}
use Prim.Native.Nat.{ℕ, ◌-◌, ◌≤◌, ◌<◌}
use native.Mathlib.Omega.{arith}
use lib.ListN.{length, get_or, take, drop, length-drop}
use lib.Seq.{take_all}
use lib.Dec.{ltb, eqb}
use borrow.Author.Tests.{lt-ltb, le-ltb, eq-eqb, ne_eqb}
use Rattle.lists.specs.Lists.{all}
use Rattle.table_spec.specs.File.{Table}
use Rattle.table_spec.specs.Reading.{record_fits}
use Rattle.table_view.specs.Sections.{sectioned}

-- a record is judged by the symbols and the states alone
pub fits_by : (t u : Table) (kind : ℕ) (r : List ℕ) → t.symbols ≡ u.symbols → t.states ≡ u.states → record_fits t kind r ≡ record_fits u kind r
unfolding record_fits
fits_by t u kind [] e f = refl
fits_by t u kind (p ∷ []) e f = refl
fits_by t u kind (p ∷ a ∷ qs) e f =
    λ i. ltb p (length (f i)) && (ltb a (length (e i)) && eqb (get_or (e i) a 0) kind) && all (λ q. ltb q (length (f i))) qs

pub too_short : (t : Table) (kind : ℕ) (r : List ℕ) → length r < 2 → false ≡ record_fits t kind r
unfolding record_fits
too_short t kind [] h = refl
too_short t kind (p ∷ []) h = refl
too_short t kind (p ∷ a ∷ qs) h = absurd (omega arith)

-- the tests of a record with a state and a symbol
tests : (sy st : List ℕ) (kind : ℕ) (r : List ℕ) → 2 ≤ length r
    → record_fits (sectioned 0 sy st [] [] []) kind r ≡ ltb (get_or r 0 0) (length st) && (ltb (get_or r 1 0) (length sy) && eqb (get_or sy (get_or r 1 0) 0) kind) && all (λ q. ltb q (length st)) (drop 2 r)
unfolding record_fits sectioned
tests sy st kind [] h = absurd (omega arith)
tests sy st kind (p ∷ []) h = absurd (omega arith)
tests sy st kind (p ∷ a ∷ qs) h = refl

module _ (sy st : List ℕ) (kind : ℕ) (r : List ℕ) (h : 2 ≤ length r) where
  pub state-past : length st ≤ get_or r 0 0 → false ≡ record_fits (sectioned 0 sy st [] [] []) kind r
  state-past p = sym (tests sy st kind r h ∙ rw (le-ltb _ _ p))

  pub symbol-past : get_or r 0 0 < length st → length sy ≤ get_or r 1 0 → false ≡ record_fits (sectioned 0 sy st [] [] []) kind r
  symbol-past p a = sym (tests sy st kind r h ∙ rw (lt-ltb _ _ p, le-ltb _ _ a))

  pub other_kind : get_or r 0 0 < length st → get_or r 1 0 < length sy → (get_or sy (get_or r 1 0) 0 ≡ kind → ⊥) → false ≡ record_fits (sectioned 0 sy st [] [] []) kind r
  other_kind p a k = sym (tests sy st kind r h ∙ rw (lt-ltb _ _ p, lt-ltb _ _ a, ne_eqb _ _ k))

  -- the further states, as a part of the record
  pub by_others : get_or r 0 0 < length st → get_or r 1 0 < length sy → get_or sy (get_or r 1 0) 0 ≡ kind
      → all (λ q. ltb q (length st)) (take (length r - 2) (drop 2 r)) ≡ record_fits (sectioned 0 sy st [] [] []) kind r
  by_others p a k =
      let l : length (drop 2 r) ≤ length r - 2 = omega (arith, length-drop 2 r) in
      sym (tests sy st kind r h ∙ rw (lt-ltb _ _ p, lt-ltb _ _ a, eq-eqb _ _ k, take_all (length r - 2) (drop 2 r) l))
