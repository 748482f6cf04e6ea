-- Laws for a variable of the queue: the counters lose the weight of its false literal, and its clauses are seen to. Assumes nothing.
use mathlib.Core.Path.{◌≡◌, sym, ap, ◌∙◌, subst}
use mathlib.Core.Logic.{inl, ◌≢◌}
use mathlib.Core.Bool.{Bool, false}
use mathlib.Core.List.{List, [], ◌++◌, Memᴰ}
use Prim.Native.Nat.{ℕ, ◌+◌, ◌-◌, ◌*◌, ◌/◌, ◌≤◌, ◌<◌}
use native.Mathlib.Omega.{arith}
use native.Mathlib.Decide.{ℕ_discrete, dec_lt}
use lib.ListN.{length, get_or, set, take, drop, length-take}
use lib.Seq.{slice}
use Rattle.cnf.specs.Clauses.{value_of, clauses_in}
use Rattle.cnf.specs.Closing.{◌⊑◌, holds, SettledOr}
use Rattle.cnf.proofs.Values.{⊑_trans}
use Rattle.sat_trail.specs.Trail.{unsetting, Ready, Attended}
use Rattle.sat_trail.proofs.Trails.{unsetting-append, length-unsetting}
use Rattle.sat_trail.proofs.Working.{settled_or_behind, worked-length, worked-count, worked-extends, worked_on}
use Rattle.sat_literal.proofs.Walking.{lent-part}
use Rattle.equality_propagate.proofs.Queueing.{SeenTo, queue-ready, queue-values, next-queued}
use Rattle.sat_passes.proofs.Attending.{Both, first-ready, then_ready}
use Rattle.sat_counters.specs.Counters.{times, numbered, places_of, Indexed, weigh, CountersOf, Falls, Fell, Noted}
use Rattle.sat_counters.specs.Earlier.{earlier, CountersBefore}
use Rattle.sat_counters.proofs.Decrements.{FalseOf, places-room, can_decrement, fell}
use Rattle.sat_counters.proofs.Earlier.{earlier-none, earlier-next, counted_next, value_next, earlier-extends, earlier-grown}
use Rattle.sat_counters.proofs.Left.{two-left}
use Rattle.sat_counters.proofs.Times.{times-some, times_in}
use Rattle.sat_units.specs.Units.{UnitsNoted, Heeded}
use Rattle.sat_units.proofs.Places.{mem-place}

module _ {ws : List ℕ} {ds : List (List ℕ)} {v t w s : List ℕ} {start count at : ℕ} (j : Both (clauses_in ws) ds v t start w s count at) (most : length v ≤ 780) {counters : List ℕ} (b : CountersBefore ws w s at count counters) where
  ready : Ready (clauses_in ws ++ ds) w s count
  ready = queue-ready j.queueing

  room : count ≤ length s
  room = omega (arith, ready.counted, ready.room)

  -- the queue is empty
  pub sunk : count ≤ at → CountersOf ws w counters
  sunk h =
      let stop : at ≡ count = omega (arith, h, j.queueing.queue.inside) in
      subst (λ (u : List ℕ). CountersOf ws u counters) (ap (λ (i : ℕ). earlier w s i count) stop ∙ earlier-none w s ready.counted room) b.tallied

  module _ (h : at < count) where
    -- the variable, and the values before the later ones were set
    x : ℕ
    x = get_or s at 0

    y : List ℕ
    y = earlier w s (at + 1) count

    queued : (x < length w) × (value_of w x ≢ 2)
    unfolding x
    queued = next-queued j.queueing h

    was : earlier w s at count ≡ set y x 2
    unfolding x y
    was = earlier-next w s ready.counted room at h b.counted

    then_value : value_of w x ≡ value_of y x
    unfolding x y
    then_value = value_next w s ready.counted room at h b.counted

    module _ {u r : List ℕ} {mid : ℕ} {isBroken : Bool} (k : Attended ds (get_or s at 0) w s count u r isBroken mid) where
      same_value : value_of u x ≡ value_of w x
      same_value = (worked-extends (first-ready j h) k.worked).keeps x queued.1

      same_length : length u ≡ length w
      same_length = worked-length (first-ready j h) k.worked

      pub variable-set : (get_or s at 0 < length u) × (value_of u (get_or s at 0) < 2)
      unfolding x
      variable-set = (omega (arith, queued.0, same_length), omega (arith, queued.1, same_value, ready.values.small (get_or s at 0)))

      module _ {l : ℕ} (e : l ≡ 2 * get_or s at 0 + value_of u (get_or s at 0)) where
        pub literal-low : l < 1560
        literal-low = omega (arith, e, variable-set.0, variable-set.1, same_length, queue-values j.queueing, most)

        is_false_lem : FalseOf y x l
        unfolding x y
        is_false_lem = record {
          inside = rw length-unsetting queued.0;
          bit = omega (arith, variable-set.1, same_value, then_value);
          is = omega (arith, e, same_value, then_value);
          low = literal-low;
        }

        module _ {firsts clauses : List ℕ} (d : Indexed ws firsts clauses) {a z : ℕ} (from : a ≡ get_or firsts l 0) (to : z ≡ get_or firsts (l + 1) 0) where
          -- the places that the code lends
          pub range : (a ≤ z) × (z ≤ length clauses)
          range = (omega (arith, from, to, d.rising l literal-low), omega (arith, to, d.inside l literal-low))

          lent : take (z - a) (drop a clauses) ≡ places_of firsts clauses l
          lent = lent-part a z clauses range.0 ∙ rw (from, to)

          before : CountersOf ws (set y x 2) counters
          before = subst (λ (q : List ℕ). CountersOf ws q counters) was b.tallied

          pub falls : Falls (take (z - a) (drop a clauses)) l counters × (length (take (z - a) (drop a clauses)) ≤ length clauses)
          falls = (rw lent (can_decrement is_false_lem d before), rw lent (places-room d literal-low))

          module _ {counters' noted : List ℕ} {few : ℕ} (f : Fell (take (z - a) (drop a clauses)) l counters counters') (o : Noted (take (z - a) (drop a clauses)) counters' noted few) where
            after : CountersOf ws y counters'
            after = fell is_false_lem d before (rw lent at f)

            extends : y ⊑ u
            unfolding y
            extends = ⊑_trans (earlier-extends w (slice (at + 1) count s)) (worked-extends (first-ready j h) k.worked)

            pub told : length noted ≤ 32768 → length counters ≤ 32768 → UnitsNoted ws u counters' (take few noted)
            told short small = record {
              short = omega (arith, short, length-take few noted);
              few = omega (arith, small, f.long);
              before = y;
              extends = extends;
              tallied = after;
              numbers = λ c m. d.numbers l c literal-low (rw lent at (o.among c m));
              light = o.light;
            }

            module _ {u' r' : List ℕ} {more : ℕ} {isBroken' : Bool} (g : Heeded ws (take few noted) u r mid u' r' isBroken' more) where
              on : Ready (clauses_in ws) u r mid
              on = then_ready j h k

              -- what waits
              qs : List ℕ
              qs = slice (at + 1) count s ++ k.worked.grown.new

              back : unsetting u' (qs ++ g.worked.grown.new) ≡ y
              unfolding qs y
              back =
                  unsetting-append u' (slice (at + 1) count s ++ k.worked.grown.new) g.worked.grown.new
                  ∙ ap (λ (q : List ℕ). unsetting q (slice (at + 1) count s ++ k.worked.grown.new)) g.worked.grown.back
                  ∙ unsetting-append u (slice (at + 1) count s) k.worked.grown.new
                  ∙ ap (λ (q : List ℕ). unsetting q (slice (at + 1) count s)) k.worked.grown.back

              later : y ⊑ u'
              later = ⊑_trans extends (worked-extends on g.worked)

              now_value : value_of u' x ≡ value_of u x
              unfolding x
              now_value = (worked-extends on g.worked).keeps (get_or s at 0) (λ q. omega (arith, q, variable-set.1))

              pub seen : SeenTo (clauses_in ws) (get_or s at 0) (slice (at + 1) count s ++ k.worked.grown.new) u r mid u' r' isBroken' more
              unfolding x qs
              seen = record { worked = g.worked; settles = λ q c mc m mm p. go q c mc m mm p (ℕ_discrete m l) }
                where
                  here :
                      isBroken' ≡ false → (c : List ℕ) → Memᴰ c (clauses_in ws) → (i : ℕ) → i < length (clauses_in ws) → numbered ws i ≡ c
                      → Memᴰ i (places_of firsts clauses l) → Dec (get_or counters' i 0 < 4096) → SettledOr u' (qs ++ g.worked.grown.new) c
                  here q c mc i lt is mi (yes low) = settled_or_behind qs (rw is at (g.settles q i (o.every i (rw lent mi) low)))
                  here q c mc i lt is mi (no high) =
                      let heavy : 4096 ≤ weigh y (numbered ws i) = omega (arith, after.each i lt, high) in
                      two-left later c (λ m n. omega (arith, on.formed.below c mc m n, same_length, queue-values j.queueing, most)) (λ i. (worked_on on g.worked).values.small i) (rw is at heavy) back

                  go : isBroken' ≡ false → (c : List ℕ) → Memᴰ c (clauses_in ws) → (m : ℕ) → Memᴰ m c → m / 2 ≡ get_or s at 0 → Dec (m ≡ l) → SettledOr u' (qs ++ g.worked.grown.new) c
                  go q c mc m mm p (yes is) =
                      let place = mem-place (clauses_in ws) [] c mc in
                      let stands : 0 < times l (numbered ws place.0) = rw place.2 (times-some l c (rw is at mm)) in
                      here q c mc place.0 place.1 place.2 (times_in place.0 (places_of firsts clauses l) (omega (arith, d.stands l place.0 literal-low place.1, stands))) (dec_lt (get_or counters' place.0 0) 4096)
                  go q c mc m mm p (no n) = inl (holds m mm (rw p (omega (arith, p, n, e, variable-set.1, now_value))))

              -- the next one
              pub sinks_on : CountersBefore ws u' r' (at + 1) more counters'
              unfolding y
              sinks_on = record {
                tallied = subst (λ (q : List ℕ). CountersOf ws q counters') (sym then) after;
                counted = rw then (omega (arith, counted_next w s ready.counted room at h b.counted, worked-length on g.worked, same_length));
              }
                where
                  then : earlier u' r' (at + 1) more ≡ earlier w s (at + 1) count
                  then = earlier-grown {at = at + 1} g.worked.grown (omega (arith, h, middle)) (omega (arith, on.counted, on.room)) ∙ earlier-grown {at = at + 1} k.worked.grown (omega (arith, h)) room
                    where
                      middle : count ≤ mid
                      middle = worked-count (first-ready j h) k.worked
