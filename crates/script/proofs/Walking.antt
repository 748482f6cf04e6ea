-- Reading symbol by symbol: what is still to come at each turn of the walk. Assumes nothing.
use mathlib.Core.Path.{◌≡◌, refl, sym, ap, ◌∙◌}
use mathlib.Core.Bool.{Bool, true, false, true≢false}
use mathlib.Core.List.{List, [], ◌∷◌}
use mathlib.Core.Option.{Option, none, some}
use Prim.Native.Nat.{ℕ, zero, suc, ◌+◌, ◌-◌, ◌<◌, ◌≤◌}
use native.Mathlib.Omega.{arith}
use native.Mathlib.Decide.{ℕ_discrete}
use lib.ListN.{length, get_or, set, drop, length-set, drop_of_length-le}
use lib.Seq.{get_or-set_same, get_or-set_other}
use Rattle.lists.proofs.Members.{one_on}
use Rattle.table_spec.specs.File.{Table}
use Rattle.table_spec.specs.Language.{kind_of}
use Rattle.script_spec.specs.Script.{Level, Levels, moved, returned, behind, ended, reads, started, open_most, too_deep}
use Rattle.script.proofs.Depths.{deep_internal, deep_call, deep_last, deep_return}

-- the first n levels that are kept, the latest first
unfoldable pub stack_of : List Level → ℕ → List Level
stack_of ls zero = []
stack_of ls (suc n) = get_or ls n [] ∷ stack_of ls n

stack_set : (ls : List Level) (i n : ℕ) (f : Level) → n ≤ i → stack_of (set ls i f) n ≡ stack_of ls n
unfolding stack_of
stack_set ls i zero f h = refl
stack_set ls i (suc n) f h = λ j. get_or-set_other ls i n f [] (λ e. omega arith) j ∷ stack_set ls i n f (omega arith) j

abbrev at_level : Level → List Level → Levels
at_level f gs = record { now = f; below = gs }

module _ (t : Table) (a : ℕ) (w : List ℕ) (f : Level) where
  -- by the levels after the symbol
  go_on : Option Levels → Bool
  go_on l = elim l [ none ↦ false | some k ↦ reads t k w ]

  behind_it : (gs : List Level) → reads t (at_level f gs) (a ∷ w) ≡ go_on (behind t a (kind_of t a) (at_level f gs))
  unfolding reads go_on
  behind_it gs = refl

  read-internal : (gs : List Level) → kind_of t a ≡ 0 → reads t (at_level f gs) (a ∷ w) ≡ reads t (at_level (moved t.internals a false f) gs) w
  unfolding go_on behind
  read-internal gs e = behind_it gs ∙ ap (λ k. go_on (behind t a k (at_level f gs))) e

  read-call : (gs : List Level) → kind_of t a ≡ 1 → reads t (at_level f gs) (a ∷ w) ≡ reads t (at_level (moved t.calls a true f) (f ∷ gs)) w
  unfolding go_on behind
  read-call gs e = behind_it gs ∙ ap (λ k. go_on (behind t a k (at_level f gs))) e

  read-return : {k : ℕ} (g : Level) (gs : List Level) → kind_of t a ≡ suc (suc k) → reads t (at_level f (g ∷ gs)) (a ∷ w) ≡ reads t (at_level (returned t.returns a f g) gs) w
  unfolding go_on behind
  read-return g gs e = behind_it (g ∷ gs) ∙ ap (λ k. go_on (behind t a k (at_level f (g ∷ gs)))) e

  read_none : {k : ℕ} → kind_of t a ≡ suc (suc k) → reads t (at_level f []) (a ∷ w) ≡ false
  unfolding go_on behind
  read_none e = behind_it [] ∙ ap (λ k. go_on (behind t a k (at_level f []))) e

-- i symbols are passed, n calls are open: the level of the latest is f, and those below are kept in ls
pub record Walking (t : Table) (w : List ℕ) (f : Level) (ls : List Level) (n i : ℕ) : Type 0 where
  pub inside : i ≤ length w
  pub few : n ≤ open_most
  pub long : length ls ≡ open_most
  pub shallow : too_deep (kind_of t) n (drop i w) ≡ false
  pub meets : reads t (started t) w ≡ reads t (at_level f (stack_of ls n)) (drop i w)

pub walking : (t : Table) (w : List ℕ) {f : Level} (ls : List Level) → f ≡ (started t).now → length ls ≡ open_most → too_deep (kind_of t) 0 w ≡ false → Walking t w f ls 0 0
unfolding stack_of started
walking t w ls e l s = record { inside = omega arith; few = omega arith; long = l; shallow = s; meets = ap (λ g. reads t (at_level g []) w) (sym e) }

module _ {t : Table} {w : List ℕ} {f : Level} {ls : List Level} {n i : ℕ} (p : Walking t w f ls n i) where
  pub walked : {r : Bool} → length w ≤ i → n ≡ 0 → r ≡ ended t (at_level f []) → r ≡ reads t (started t) w
  unfolding reads stack_of
  walked l z e = e ∙ sym (p.meets ∙ (λ j. reads t (at_level f (stack_of ls (z j))) (drop_of_length-le w {i = i} l j)))

  pub walked_open : length w ≤ i → (n ≡ 0 → ⊥) → false ≡ reads t (started t) w
  unfolding reads stack_of ended
  walked_open l z =
      let m : n ≡ suc (n - 1) = omega (arith, z) in
      sym (p.meets ∙ (λ j. reads t (at_level f (stack_of ls (m j))) (drop_of_length-le w {i = i} l j)))

  module _ {k : ℕ} (l : i < length w) (e : k ≡ kind_of t (get_or w i 0)) where
    here : reads t (started t) w ≡ reads t (at_level f (stack_of ls n)) (get_or w i 0 ∷ drop (i + 1) w)
    here = p.meets ∙ ap (reads t (at_level f (stack_of ls n))) (one_on w i l)

    deep_here : too_deep (kind_of t) n (get_or w i 0 ∷ drop (i + 1) w) ≡ false
    deep_here = ap (too_deep (kind_of t) n) (sym (one_on w i l)) ∙ p.shallow

    pub walk-internal : {h : Level} → k ≡ 0 → h ≡ moved t.internals (get_or w i 0) false f → Walking t w h ls n (i + 1)
    walk-internal z m =
        record {
          inside = omega arith;
          few = p.few;
          long = p.long;
          shallow = sym (deep_internal (kind_of t) (get_or w i 0) (drop (i + 1) w) n (sym e ∙ z)) ∙ deep_here;
          meets = here ∙ read-internal t (get_or w i 0) (drop (i + 1) w) f (stack_of ls n) (sym e ∙ z) ∙ ap (λ g. reads t (at_level g (stack_of ls n)) (drop (i + 1) w)) (sym m);
        }

    -- a 65th open call is refused before
    pub room : k ≡ 1 → n < open_most
    room z = go (ℕ_discrete n open_most)
      where
        go : Dec (n ≡ open_most) → n < open_most
        go (yes d) = absurd (true≢false (sym (deep_last (kind_of t) (get_or w i 0) (drop (i + 1) w) n (sym e ∙ z) d) ∙ deep_here))
        go (no d) = omega (arith, p.few, d)

    pub walk_call : {h : Level} → k ≡ 1 → h ≡ moved t.calls (get_or w i 0) true f → Walking t w h (set ls n f) (n + 1) (i + 1)
    unfolding stack_of
    walk_call {h} z m =
        let r = room z in
        let s : suc n ≡ n + 1 = omega arith in
        let kept : stack_of (set ls n f) (suc n) ≡ f ∷ stack_of ls n = (λ j. get_or-set_same ls n f [] (omega (arith, p.long)) j ∷ stack_set ls n n f (omega arith) j) in
        record {
          inside = omega arith;
          few = omega arith;
          long = length-set ls n f ∙ p.long;
          shallow = ap (λ j. too_deep (kind_of t) j (drop (i + 1) w)) (sym s) ∙ sym (deep_call (kind_of t) (get_or w i 0) (drop (i + 1) w) n (sym e ∙ z) (λ d. omega arith)) ∙ deep_here;
          meets = here ∙ read-call t (get_or w i 0) (drop (i + 1) w) f (stack_of ls n) (sym e ∙ z) ∙ (λ j. reads t (at_level (sym m j) (sym kept j)) (drop (i + 1) w)) ∙ ap (λ j. reads t (at_level h (stack_of (set ls n f) j)) (drop (i + 1) w)) s;
        }

    module _ (z : k ≡ 0 → ⊥) (o : k ≡ 1 → ⊥) where
      is_return : kind_of t (get_or w i 0) ≡ suc (suc (k - 2))
      is_return = omega (arith, z, o, e)

      pub walk_none : n ≡ 0 → false ≡ reads t (started t) w
      unfolding stack_of
      walk_none d = sym (here ∙ ap (λ m. reads t (at_level f (stack_of ls m)) (get_or w i 0 ∷ drop (i + 1) w)) d ∙ read_none t (get_or w i 0) (drop (i + 1) w) f is_return)

      pub walk-return : {h : Level} → (n ≡ 0 → ⊥) → h ≡ returned t.returns (get_or w i 0) f (get_or ls (n - 1) []) → Walking t w h ls (n - 1) (i + 1)
      unfolding stack_of
      walk-return d m =
          let s : n ≡ suc (n - 1) = omega (arith, d) in
          record {
            inside = omega arith;
            few = omega (arith, p.few);
            long = p.long;
            shallow = sym (deep_return (kind_of t) (get_or w i 0) (drop (i + 1) w) n is_return d) ∙ deep_here;
            meets = here ∙ ap (λ m. reads t (at_level f (stack_of ls m)) (get_or w i 0 ∷ drop (i + 1) w)) s ∙ read-return t (get_or w i 0) (drop (i + 1) w) f (get_or ls (n - 1) []) (stack_of ls (n - 1)) is_return ∙ ap (λ g. reads t (at_level g (stack_of ls (n - 1))) (drop (i + 1) w)) (sym m);
          }
