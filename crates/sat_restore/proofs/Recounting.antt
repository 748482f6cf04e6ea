-- Laws for giving the weights back: the trail's variables from a place back to a mark, one after the other. Assumes nothing.
use mathlib.Core.Path.{◌≡◌, sym, ◌∙◌, subst}
use mathlib.Core.Logic.{◌≢◌}
use mathlib.Core.List.{List}
use Prim.Native.Nat.{ℕ, ◌+◌, ◌-◌, ◌*◌, ◌≤◌, ◌<◌}
use native.Mathlib.Omega.{arith}
use lib.ListN.{length, get_or, take, drop}
use Rattle.cnf.specs.Clauses.{value_of}
use Rattle.cnf.specs.Closing.{unset_count}
use Rattle.sat_trail.proofs.Trails.{length-unsetting}
use Rattle.sat_literal.proofs.Walking.{lent-part}
use Rattle.sat_counters.specs.Counters.{places_of, Indexed, CountersOf, Fell, Rises}
use Rattle.sat_counters.specs.Earlier.{earlier, CountersBefore}
use Rattle.sat_counters.proofs.Decrements.{FalseOf, places-room, can_increment, rose}
use Rattle.sat_counters.proofs.Earlier.{earlier-next, set_next, value_next, counted_on}
use Rattle.sat_restore.specs.Restoring.{TrailMark}

module _ {ws v t : List ℕ} {mark base count : ℕ} (p : TrailMark ws v t mark base count) where
  trail-room : count ≤ length t
  trail-room = omega (arith, p.ready.counted, p.ready.room)

  module _ (i : ℕ) (h : mark < i) (k : i ≤ base) where
    at : ℕ
    at = i - 1

    after : i ≡ at + 1
    unfolding at
    after = omega (arith, h)

    inner : at < count
    unfolding at
    inner = omega (arith, h, k, p.inside)

    counted : at + unset_count (earlier v t at count) ≡ length v
    unfolding at
    counted = let sum : mark + (i - 1 - mark) ≡ i - 1 = omega (arith, h) in rw sum at (counted_on v t p.ready.counted trail-room (i - 1 - mark) mark (omega (arith, h, k, p.inside)) p.counted)

    pub variable-inside : get_or t (i - 1) 0 < length v
    unfolding at
    variable-inside = p.below (i - 1) inner

    then-set : value_of (earlier v t (at + 1) count) (get_or t at 0) ≢ 2
    then-set = set_next v t p.ready.counted trail-room at inner counted

    same : value_of v (get_or t at 0) ≡ value_of (earlier v t (at + 1) count) (get_or t at 0)
    same = value_next v t p.ready.counted trail-room at inner counted

    pub variable-set : value_of v (get_or t (i - 1) 0) < 2
    unfolding at
    variable-set = omega (arith, p.ready.values.small (get_or t (i - 1) 0), same, then-set)

    module _ {l : ℕ} (e : l ≡ 2 * get_or t (i - 1) 0 + value_of v (get_or t (i - 1) 0)) where
      pub literal-low : l < 1560
      literal-low = omega (arith, e, variable-set, variable-inside, p.most)

      is_false_lem : FalseOf (earlier v t (at + 1) count) (get_or t at 0) l
      unfolding at
      is_false_lem = record {
        inside = rw length-unsetting variable-inside;
        bit = omega (arith, variable-set, same);
        is = omega (arith, e, same);
        low = literal-low;
      }

      module _ {firsts clauses counters : List ℕ} (d : Indexed ws firsts clauses) (b : CountersBefore ws v t i count counters) where
        behind : CountersOf ws (earlier v t (at + 1) count) counters
        behind = subst (λ (j : ℕ). CountersOf ws (earlier v t j count) counters) after b.tallied

        -- the places that the code lends
        module _ {a z : ℕ} (from : a ≡ get_or firsts l 0) (to : z ≡ get_or firsts (l + 1) 0) where
          pub range : (a ≤ z) × (z ≤ length clauses)
          range = (omega (arith, from, to, d.rising l literal-low), omega (arith, to, d.inside l literal-low))

          lent : take (z - a) (drop a clauses) ≡ places_of firsts clauses l
          lent = lent-part a z clauses range.0 ∙ rw (from, to)

          pub rises : Rises (take (z - a) (drop a clauses)) l counters × (length (take (z - a) (drop a clauses)) ≤ length clauses)
          rises = (rw lent (can_increment is_false_lem d p.most p.ready.formed behind), rw lent (places-room d literal-low))

          pub climbed : {counters' : List ℕ} → Fell (take (z - a) (drop a clauses)) l counters' counters → CountersBefore ws v t (i - 1) count counters'
          unfolding at
          climbed {counters'} f = record {
            tallied = subst (λ (u : List ℕ). CountersOf ws u counters') (sym (earlier-next v t p.ready.counted trail-room at inner counted)) (rose is_false_lem d behind (rw lent at f));
            counted = counted;
          }
