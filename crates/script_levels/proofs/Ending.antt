-- The script's end on the empty stack: an accepting state that is reached, and what is still to come of the search for one. Assumes nothing.
use mathlib.Core.Path.{◌≡◌, refl, sym, ap, ◌∙◌}
use mathlib.Core.Bool.{Bool, true, false, ◌&&◌}
use mathlib.Core.List.{List, []}
use Prim.Native.Nat.{ℕ, ◌+◌, ◌/◌, ◌%◌, ◌<◌, ◌≤◌}
use lib.ListN.{length, get_or}
use borrow.Author.Tests.{eq-eqb, ne_eqb}
use Rattle.lists.specs.Lists.{any, upto}
use Rattle.lists.specs.Bits.{has, has_bit}
use Rattle.lists.proofs.Upto.{Counting, counting, any-passed, any_found, any-done}
use Rattle.limits.specs.Limits.{state_most}
use Rattle.table_spec.specs.Reading.{is_accepting}
use Rattle.table_view.specs.Sections.{sectioned}
use Rattle.script_spec.specs.Script.{Level, ended}

-- state q accepts and is reached on the empty stack
abbrev pub ends : List ℕ → Level → ℕ → Bool
ends states level q = is_accepting (get_or states q 0) && has level q state_most

pub record Ending (states : List ℕ) (level : Level) (q : ℕ) : Type 0 where
  pub counted : Counting (any (ends states level)) (length states) q

pub ending : (states : List ℕ) (level : Level) → Ending states level 0
ending states level = record { counted = counting _ _ }

module _ {states : List ℕ} {level : Level} {q : ℕ} (p : Ending states level q) where
  by_ends : any (ends states level) (upto (length states)) ≡ ended (sectioned 0 [] states [] [] []) (record { now = level; below = [] })
  unfolding ended sectioned
  by_ends = refl

  pub end_none : length states ≤ q → false ≡ ended (sectioned 0 [] states [] [] []) (record { now = level; below = [] })
  end_none l = any-done (ends states level) p.counted l ∙ by_ends

  module _ (l : q < length states) where
    -- not accepting, or not reached
    pub pass-state : (get_or states q 0 / 2 % 2 ≡ 1 → ⊥) → Ending states level (q + 1)
    unfolding is_accepting
    pass-state n = record { counted = any-passed (ends states level) p.counted l (ap (λ b. b && has level q state_most) (ne_eqb _ _ n)) }

    module _ {r : Bool} (e : get_or states q 0 / 2 % 2 ≡ 1) (f : r ≡ has_bit (get_or level q 0) 40) where
      here : ends states level q ≡ r
      unfolding is_accepting has
      here = ap (λ b. b && has level q state_most) (eq-eqb _ _ e) ∙ sym f

      pub pass-word : r ≡ false → Ending states level (q + 1)
      pass-word n = record { counted = any-passed (ends states level) p.counted l (here ∙ n) }

      pub end_found : r ≡ true → true ≡ ended (sectioned 0 [] states [] [] []) (record { now = level; below = [] })
      end_found y = any_found (ends states level) p.counted l (here ∙ y) ∙ by_ends
