-- The draws: what is present of possible records. Assumes nothing.
use mathlib.Core.Path.{◌≡◌, refl, ◌∙◌}
use mathlib.Core.Bool.{Bool, true, false}
use mathlib.Core.List.{List, [], ◌∷◌, Memᴰ}
use Prim.Native.Nat.{ℕ, ◌/◌, ◌<◌, ◌≤◌}
use lib.Dec.{ltb}
use borrow.Author.Tests.{lt-ltb, le-ltb}
use Rattle.table_spec.specs.Reading.{ascend}
use Rattle.table_spec.proofs.Order.{ascend-behind, ascend-rest, ascend-cons}
use Rattle.generate_spec.specs.Loads.{draw, present}

-- ---- one record more

module _ (d s : ℕ) (r : List ℕ) (rs : List (List ℕ)) where
  -- by the new s
  present_by : present d s (r ∷ rs) ≡ elim (ltb (draw s / 65536) d) [ true ↦ r ∷ present d (draw s) rs | false ↦ present d (draw s) rs ]
  unfolding present
  present_by = refl

  pub present_in : draw s / 65536 < d → present d s (r ∷ rs) ≡ r ∷ present d (draw s) rs
  present_in h = present_by ∙ rw (lt-ltb (draw s / 65536) d h)

  pub present-out : d ≤ draw s / 65536 → present d s (r ∷ rs) ≡ present d (draw s) rs
  present-out h = present_by ∙ rw (le-ltb (draw s / 65536) d h)

-- ---- a part of the possible records, in their order

pub present-mem : (d s : ℕ) (rs : List (List ℕ)) (r : List ℕ) → Memᴰ r (present d s rs) → Memᴰ r rs
unfolding present
present-mem d s [] r m = m
present-mem d s (q ∷ rs) r m = go (ltb (draw s / 65536) d) (λ i. present-mem d (draw s) rs r i) m
  where
    go : (t : Bool) → (Memᴰ r (present d (draw s) rs) → Memᴰ r rs) → Memᴰ r (elim t [ true ↦ q ∷ present d (draw s) rs | false ↦ present d (draw s) rs ]) → Memᴰ r (q ∷ rs)
    go true ih (Memᴰ.head e) = Memᴰ.head e
    go true ih (Memᴰ.tail i) = Memᴰ.tail (ih i)
    go false ih i = Memᴰ.tail (ih i)

pub present_ascends : (d s : ℕ) (rs : List (List ℕ)) → ascend rs ≡ true → ascend (present d s rs) ≡ true
unfolding present ascend
present_ascends d s [] p = p
present_ascends d s (q ∷ rs) p = go (ltb (draw s / 65536) d) (present_ascends d (draw s) rs (ascend-rest q rs p))
  where
    go : (t : Bool) → ascend (present d (draw s) rs) ≡ true → ascend (elim t [ true ↦ q ∷ present d (draw s) rs | false ↦ present d (draw s) rs ]) ≡ true
    go true h = ascend-cons q (present d (draw s) rs) (λ r i. ascend-behind q rs p r (present-mem d (draw s) rs r i)) h
    go false h = h
