-- What one reduction leaves for the next: its guesses are within the budget, the rest of the maps and of the output is as it was, and of the clause buffer
-- only the length matters. Assumes nothing.
use mathlib.Core.Path.{◌≡◌, refl, ap, subst}
use mathlib.Core.Bool.{Bool, true, false}
use mathlib.Core.List.{List, [], ◌∷◌, ◌++◌}
use Prim.Native.Nat.{ℕ, ◌≤◌}
use native.Mathlib.Omega.{arith}
use lib.ListN.{length, drop}
use lib.Seq.{drop-append_seam}
use lib.Dec.{eqb, leb}
use Rattle.std.specs.Prelude.{Ok, Err}
use Rattle.lists.specs.Lists.{over, first_failed, stage}
use Rattle.lists.proofs.Copying.{length_over}
use Rattle.cnf.specs.Trials.{ceiling_of, Tried}
use Rattle.cnf.specs.Search.{made_of, is_spent}
use Rattle.cnf.proofs.Budgets.{made-within}
use Rattle.limits.specs.declared.Limits.{Limits}
use Rattle.refusals.specs.Refusals.{refusal}
use Rattle.pairs.specs.Pairs.{pairs}
use Rattle.table_spec.specs.File.{table_of}
use Rattle.table_spec.specs.Reading.{read_number}
use Rattle.table_spec.specs.Language.{count}
use Rattle.table_spec.specs.Maps.{classes}
use Rattle.table_spec.proofs.Bytes.{read_well_formed}
use Rattle.clauses_spec.specs.Clauses.{clause_list, short_words}
use Rattle.clauses_spec.specs.Maps.{map_of}
use Rattle.clauses_spec.proofs.Theorems.{map_proper}
use Rattle.quotient_spec.specs.Quotient.{quotient_bytes, quotient_number}
use Rattle.reduce_spec.specs.Reduce.{Reduced, before_search, search_of_table, tried_of_table, joined_pairs, deliver, after_search, reduce_of}
use Rattle.reduce_spec.proofs.Ways.{Held, Ways, refused_first, refused_short, delivers, reduce_ways}
use Rattle.season_spec.specs.Seasons.{guesses_in, map_taken, out_taken}

-- ---- what is left

pub record Leaves (b : List ℕ) (budget : ℕ) (list map out : List ℕ) (r : Reduced) : Type 0 where
  pub guesses : guesses_in r.answer ≤ budget
  pub list-long : length r.list ≡ length list
  pub map-fits : map_taken b r.answer ≤ length r.map
  pub map-rest : drop (map_taken b r.answer) r.map ≡ drop (map_taken b r.answer) map
  pub out-fits : out_taken r.answer ≤ length r.out
  pub out-rest : drop (out_taken r.answer) r.out ≡ drop (out_taken r.answer) out

rest_over : (xs old : List ℕ) (n : ℕ) → length xs ≡ n → drop n (over xs old) ≡ drop n old
unfolding over
rest_over xs old n e = subst (λ (k : ℕ). drop k (xs ++ drop (length xs) old) ≡ drop k old) e (drop-append_seam xs (drop (length xs) old))

module _ (L : Limits) (b : List ℕ) (budget : ℕ) (list map out : List ℕ) where
  map-long : (v : List ℕ) (g u : ℕ) (z : Bool) → Held L b budget list map out v g u z → length (map_of v (count (table_of b))) ≡ count (table_of b)
  map-long v g u z s = (map_proper L (table_of b) (read_well_formed L b s.begun.readable) v s.model).long

  leaves_ways : {r : Reduced} → Ways L b budget list map out r → Leaves b budget list map out r
  unfolding guesses_in map_taken out_taken search_of_table
  leaves_ways (refused_first r e) = record { guesses = omega arith; list-long = refl; map-fits = omega arith; map-rest = refl; out-fits = omega arith; out-rest = refl }
  leaves_ways (refused_short v g u z s l) = record { guesses = omega arith; list-long = length_over _ list s.begun.listed; map-fits = omega arith; map-rest = refl; out-fits = omega arith; out-rest = refl }
  leaves_ways (delivers v g u z s l) =
      let m = map_of v (count (table_of b)) in
      let c = quotient_bytes b m in
      let k = map-long v g u z s in
      record {
        guesses = omega (arith, s.guesses, made-within (clause_list (table_of b)) (pairs (count (table_of b))) budget);
        list-long = length_over _ list s.begun.listed;
        map-fits = omega (arith, length_over m map (omega (arith, k, s.begun.room)), s.begun.room);
        map-rest = rest_over m map (count (table_of b)) k;
        out-fits = omega (arith, length_over c out l, l);
        out-rest = rest_over c out (length c) refl;
      }

  pub leaves : Leaves b budget list map out (reduce_of L b budget list map out)
  leaves = leaves_ways (reduce_ways L b budget list map out)

-- ---- another clause buffer of the same length

-- the same answer, map and output
pub record Same (r s : Reduced) : Type 0 where
  pub answer : r.answer ≡ s.answer
  pub map : r.map ≡ s.map
  pub out : r.out ≡ s.out

module _ (L : Limits) (b list other map out : List ℕ) (e : length list ≡ length other) where
  same-before : before_search L b list map ≡ before_search L b other map
  unfolding before_search
  same-before =
      ap (λ (n : ℕ). first_failed (stage (read_number L b) ∷ (22, leb (count (table_of b)) (length map)) ∷ (10, leb (length (short_words (table_of b))) n) ∷ [])) e

  same-deliver : (m : List ℕ) (k u : ℕ) (z : Bool) → Same (deliver L b list map out m k u z) (deliver L b other map out m k u z)
  unfolding deliver
  same-deliver m k u z = go (eqb (quotient_number L b m out) 0)
    where
      done : List ℕ → Bool → Reduced
      done xs t = elim t [
        | true ↦ record {
          answer = Ok (record { classes = classes m; guesses = k; words = length (short_words (table_of b)); length = length (quotient_bytes b m); joined = joined_pairs (count (table_of b)) m; ceiling = u; spent = z });
          list = over (short_words (table_of b)) xs;
          map = over m map;
          out = over (quotient_bytes b m) out;
        }
        | false ↦ record { answer = Err (refusal (quotient_number L b m out)); list = over (short_words (table_of b)) xs; map = map; out = out }
      ]

      go : (t : Bool) → Same (done list t) (done other t)
      go true = record { answer = refl; map = refl; out = refl }
      go false = record { answer = refl; map = refl; out = refl }

  pub same_reduced : (budget : ℕ) → Same (reduce_of L b budget list map out) (reduce_of L b budget other map out)
  unfolding reduce_of after_search
  same_reduced budget = subst (λ (k : ℕ). Same (reduce_of L b budget list map out) (done other k)) same-before (go (eqb (before_search L b list map) 0))
    where
      t : Tried
      t = tried_of_table b budget

      found : List ℕ → Reduced
      found xs = deliver L b xs map out (map_of t.trials.held (count (table_of b))) (made_of t.outcome) (ceiling_of t.trials.ceiling) (is_spent t.outcome)

      by : List ℕ → ℕ → Bool → Reduced
      by xs k z = elim z [ true ↦ found xs | false ↦ record { answer = Err (refusal k); list = xs; map = map; out = out } ]

      done : List ℕ → ℕ → Reduced
      done xs k = by xs k (eqb k 0)

      go : (z : Bool) → Same (by list (before_search L b list map) z) (by other (before_search L b list map) z)
      go true = same-deliver (map_of t.trials.held (count (table_of b))) (made_of t.outcome) (ceiling_of t.trials.ceiling) (is_spent t.outcome)
      go false = record { answer = refl; map = refl; out = refl }
