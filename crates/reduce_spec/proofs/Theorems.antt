-- Demand 3 of reduce, from the lent bytes to the written ones, for every table, budget and buffer. Assumes nothing.
use mathlib.Core.Path.{◌≡◌, refl, sym, ap, ◌∙◌, subst}
use mathlib.Core.Logic.{◌≢◌, ◌⊎◌, ⊎_elim}
use mathlib.Core.Bool.{Bool, true, true≢false}
use mathlib.Core.List.{List, [], ◌∷◌}
use Prim.Native.Nat.{ℕ, ◌-◌, ◌*◌, ◌/◌, ◌≤◌}
use native.Mathlib.Omega.{arith}
use lib.ListN.{length, take, drop}
use lib.Seq.{take_at, take-append_seam}
use Rattle.std.specs.Prelude.{Result, Ok, Err}
use Rattle.lists.specs.Lists.{over, Says}
use Rattle.lists.proofs.Refusals.{stage-passes, stage_fails, by_number, refused_says, says}
use Rattle.cnf.specs.Search.{Outcome, solved, none_exists, spent, unfinished, search_from, made_of, is_spent}
use Rattle.cnf.specs.Trials.{ceiling_of, Tried}
use Rattle.cnf.proofs.Theorems.{horn}
use Rattle.cnf.proofs.Trials.{spent-budget}
use Rattle.limits.specs.declared.Limits.{Limits}
use Rattle.refusals.specs.declared.Refusal.{Refusal}
use Rattle.refusals.specs.Refusals.{refusal, number_in, values_in}
use Rattle.refusals.proofs.Numbers.{some_number}
use Rattle.pairs.specs.Pairs.{pairs}
use Rattle.table_spec.specs.File.{table_of}
use Rattle.table_spec.specs.Language.{count, SameWords, SameMarks, OpenByNeither, OneTarget}
use Rattle.table_spec.specs.Maps.{classes, NoneCoarser}
use Rattle.table_spec.proofs.Bytes.{read_well_formed}
use Rattle.check_spec.specs.Check.{check_number, check_of}
use Rattle.check_spec.specs.Demands.{AcceptedWith}
use Rattle.check_spec.proofs.Answers.{accepted_with}
use Rattle.clauses_spec.specs.Clauses.{clause_list, short_words}
use Rattle.clauses_spec.specs.Maps.{map_of}
use Rattle.clauses_spec.proofs.Formed.{list_horn}
use Rattle.clauses_spec.proofs.Theorems.{map_proper, none_coarser}
use Rattle.quotient_spec.specs.Quotient.{quotient_bytes, quotient_number}
use Rattle.script_spec.specs.Script.{yes_value}
use Rattle.script_spec.specs.Demands.{SameScripts}
use Rattle.script_spec.proofs.Promises.{said_yes, said_no}
use Rattle.quotient_spec.specs.Demands.{IsQuotient, ShowsSteps}
use Rattle.quotient_spec.proofs.Theorems.{is_quotient, keeps-words, keeps-marks, open_neither, keeps-steps, keeps-scripts, quotient-known}
use Rattle.reduce_spec.specs.Reduce.{Reduced, before_search, search_of_table, joined_pairs, deliver, tried_of_table, after_search, reduce_of, reduction_values, reduce_number, ReduceSays}
use Rattle.reduce_spec.specs.Demands.{OnDelivery, KeepsWords, DeliversQuotient, DeliversChecked, DeliversMaximal, FewGuesses, Ceiling, DeliversCeiling, SameSearch, SameAssignment, SpentSaid, DeliversNoneOpen, DeliversSteps, KeepsMarks, KeepsScripts, Promises, map_written}
use Rattle.reduce_spec.specs.declared.Reduction.{Reduction}
use Rattle.reduce_spec.proofs.Ways.{FirstNumber, of_limits, of_reading, map-short, list-long, first-number, first-known, list-formed, Held, Ways, refused_first, refused_short, delivers, held-accepted, reduce_ways}

module _ (L : Limits) (b : List ℕ) (budget : ℕ) (list map out : List ℕ) where
  -- the map that was written is the one that was found
  map-written : (v : List ℕ) (g u : ℕ) (z : Bool) → Held L b budget list map out v g u z → map_written b (over (map_of v (count (table_of b))) map) ≡ map_of v (count (table_of b))
  unfolding over
  map-written v g u z s =
      take_at (map_of v (count (table_of b))) (drop (length (map_of v (count (table_of b)))) map) (count (table_of b))
      (map_proper L (table_of b) (read_well_formed L b s.begun.readable) v s.model).long

  -- the map of the trial v, after g guesses, with the ceiling u, the budget spent or not
  abbrev delivery : List ℕ → ℕ → ℕ → Bool → Reduced
  delivery v g u z =
      let m = map_of v (count (table_of b)) in
      record {
        answer = Ok (record { classes = classes m; guesses = g; words = length (short_words (table_of b)); length = length (quotient_bytes b m); joined = joined_pairs (count (table_of b)) m; ceiling = u; spent = z });
        list = over (short_words (table_of b)) list;
        map = over m map;
        out = over (quotient_bytes b m) out;
      }

  -- what holds of every delivery holds of the answer: the number of a refusal is not 0
  pub on_delivery : (P : Reduced → ℕ → ℕ → ℕ → ℕ → ℕ → ℕ → ℕ → Type 0)
      → ((v : List ℕ) (g u : ℕ) (z : Bool) → Held L b budget list map out v g u z → let m = map_of v (count (table_of b)) in
      length (quotient_bytes b m) ≤ length out → P (delivery v g u z) (classes m) g (length (short_words (table_of b))) (length (quotient_bytes b m)) (joined_pairs (count (table_of b)) m) u (yes_value z))
      → OnDelivery (reduce_of L b budget list map out).answer (P (reduce_of L b budget list map out))
  on_delivery P h = go (reduce_ways L b budget list map out)
    where
      go : {r : Reduced} → Ways L b budget list map out r → OnDelivery r.answer (P r)
      go (refused_first r e) = λ q. absurd (some_number r q)
      go (refused_short v g u z s l) = λ q. absurd (omega arith)
      go (delivers v g u z s l) = λ q. h v g u z s l

  -- a delivered map is one that the check accepts
  pub delivers_checked : DeliversChecked L (reduce_of L b budget list map out).answer b (reduce_of L b budget list map out).map
  delivers_checked = on_delivery (λ d c g w l j u s. AcceptedWith (check_of L b (map_written b d.map)) c) (λ v g u z s l.
      subst (λ (m : List ℕ). AcceptedWith (check_of L b m) (classes (map_of v (count (table_of b))))) (sym (map-written v g u z s))
      (accepted_with L b (map_of v (count (table_of b))) s.accepted))

  -- "No map meeting Definition 1 joins all pairs of a delivered map and one more", where the search was solved
  pub delivers_maximal : DeliversMaximal (reduce_of L b budget list map out).answer b (reduce_of L b budget list map out).map
  delivers_maximal = on_delivery (λ d c g w l j u s. s ≡ 0 → NoneCoarser (table_of b) (map_written b d.map)) (λ v g u z s l e.
      subst (λ (m : List ℕ). NoneCoarser (table_of b) m) (sym (map-written v g u z s))
      (none_coarser L (table_of b) (read_well_formed L b s.begun.readable) v s.model (s.none_above (said_no z e))))

  -- what is delivered fits the output
  pub delivers_fitting : OnDelivery (reduce_of L b budget list map out).answer (λ c g w l j u s. l ≤ length out)
  delivers_fitting = on_delivery (λ d c g w l j u s. l ≤ length out) (λ v g u z s l. l)

  -- "Where each move has at most one target, no reduction of n states, under any budget, reports more than n(n-1)/2 guesses."
  pub few-guesses : FewGuesses (reduce_of L b budget list map out).answer b
  unfolding search_of_table pairs
  few-guesses = on_delivery (λ d c g w l j u s. OneTarget (table_of b) → g ≤ count (table_of b) * (count (table_of b) - 1) / 2) (λ v g u z s l one.
      let wf = read_well_formed L b s.begun.readable in
      let n = pairs (count (table_of b)) in
      let cs = clause_list (table_of b) in
      let few : made_of (search_from cs n budget) ≤ n = horn cs n budget (list-formed wf) (list_horn (table_of b) wf one) in
      subst (λ (k : ℕ). k ≤ n) (sym s.guesses) few)

  -- "No accepted map joins more than U pairs", and J is how many the map delivered joins
  pub delivers_ceiling : DeliversCeiling (reduce_of L b budget list map out).answer b (reduce_of L b budget list map out).map
  delivers_ceiling = on_delivery (λ d c g w l j u s. Ceiling b d.map j u) (λ v g u z s l.
      record { joined = ap (joined_pairs (count (table_of b))) (sym (map-written v g u z s)); most = s.most })

  -- guesses and spent are those of the search over the full list
  pub same_search : SameSearch (reduce_of L b budget list map out).answer b budget
  same_search = on_delivery (λ d c g w l j u s. (g ≡ made_of (search_of_table b budget)) × (s ≡ yes_value (is_spent (search_of_table b budget)))) (λ v g u z s l. (s.guesses, ap yes_value s.ended))

  pub same_assignment : SameAssignment (reduce_of L b budget list map out).answer b budget (reduce_of L b budget list map out).map
  same_assignment = on_delivery (λ d c g w l j u s. (v : List ℕ) (k : ℕ) → search_of_table b budget ≡ solved v k → map_written b d.map ≡ map_of v (count (table_of b))) (λ v g u z s l w k e.
      map-written v g u z s ∙ ap (λ (x : List ℕ). map_of x (count (table_of b))) (s.found w k e))

  -- a search that is spent made all guesses of its budget
  spent_all : is_spent (search_of_table b budget) ≡ true → (made_of (search_of_table b budget) ≡ budget) × (search_of_table b budget ≡ spent budget)
  unfolding search_of_table
  spent_all e = go (search_from cs n budget) refl e
    where
      n : ℕ
      n = pairs (count (table_of b))

      cs : List (List ℕ)
      cs = clause_list (table_of b)

      go : (o : Outcome) → search_from cs n budget ≡ o → is_spent o ≡ true → (made_of (search_from cs n budget) ≡ budget) × (search_from cs n budget ≡ spent budget)
      go (spent k) q t = let all = spent-budget cs n budget k q in (ap made_of q ∙ all, q ∙ ap spent all)
      go (solved w k) q t = absurd (true≢false (sym t))
      go (none_exists k) q t = absurd (true≢false (sym t))
      go unfinished q t = absurd (true≢false (sym t))

  -- "A spent delivery says so": all guesses of the budget were made, and the search ends by (d)
  pub spent_said : SpentSaid (reduce_of L b budget list map out).answer b budget
  spent_said = on_delivery (λ d c g w l j u s. s ≡ 1 → (g ≡ budget) × (search_of_table b budget ≡ spent budget)) (λ v g u z s l e.
      let a = spent_all (sym s.ended ∙ said_yes z e) in (s.guesses ∙ a.0, a.1))

  -- what holds of an accepted map and its quotient's bytes holds of the map and the bytes that are delivered
  delivered : (P : List ℕ → List ℕ → Type 0) → ((m : List ℕ) → check_number L b m ≡ 0 → P m (quotient_bytes b m))
      → OnDelivery (reduce_of L b budget list map out).answer (λ c g w l j u s. P (map_written b (reduce_of L b budget list map out).map) (take l (reduce_of L b budget list map out).out))
  unfolding over
  delivered P h = on_delivery (λ d c g w l j u s. P (map_written b d.map) (take l d.out)) (λ v g u z s l.
      let m = map_of v (count (table_of b)) in
      let c = quotient_bytes b m in
      subst (λ (d : List ℕ). P (map_written b (over m map)) d) (sym (take-append_seam c (drop (length c) out)))
      (subst (λ (k : List ℕ). P k c) (sym (map-written v g u z s)) (h m s.accepted)))

  -- "for every word of any length, the written quotient accepts the word exactly when the input does"
  pub delivers_words : KeepsWords (reduce_of L b budget list map out).answer b (reduce_of L b budget list map out).out
  delivers_words = delivered (λ m c. SameWords b c) (keeps-words L b)

  -- the written table is the paper's quotient under the delivered map
  pub delivers_quotient : DeliversQuotient L (reduce_of L b budget list map out).answer b (reduce_of L b budget list map out).map (reduce_of L b budget list map out).out
  delivers_quotient = delivered (IsQuotient L b) (is_quotient L b)

  -- request (v): for each mark the same words that end in a state of it
  pub delivers_marks : KeepsMarks (reduce_of L b budget list map out).answer b (reduce_of L b budget list map out).out
  delivers_marks = delivered (λ m c. SameMarks b c) (keeps-marks L b)

  -- request (iv): a word that leaves something open is accepted by neither
  pub delivers_none_open : DeliversNoneOpen (reduce_of L b budget list map out).answer b (reduce_of L b budget list map out).out
  delivers_none_open = delivered (λ m c. OpenByNeither b c) (open_neither L b)

  -- request (xii): at every step, under the map delivered
  pub delivers_steps : DeliversSteps (reduce_of L b budget list map out).answer b (reduce_of L b budget list map out).map (reduce_of L b budget list map out).out
  delivers_steps = delivered (ShowsSteps b) (keeps-steps L b)

  -- request (i): one answer to every script, number included
  pub delivers_scripts : KeepsScripts L (reduce_of L b budget list map out).answer b (reduce_of L b budget list map out).out
  delivers_scripts = delivered (λ m c. SameScripts L b c) (keeps-scripts L b)

  -- all that is promised
  pub promises : Promises L b budget (reduce_of L b budget list map out).answer (reduce_of L b budget list map out).map (reduce_of L b budget list map out).out
  promises = record {
    words = delivers_words;
    exact = delivers_quotient;
    checked = delivers_checked;
    maximal = delivers_maximal;
    few = few-guesses;
    ceiling = delivers_ceiling;
    same = same_search;
    found = same_assignment;
    spent = spent_said;
    none_open = delivers_none_open;
    steps = delivers_steps;
    marks = delivers_marks;
    scripts = delivers_scripts;
  }

  -- the numbers that reduce refuses by: 39, "1 to 8; 22 ..; 10; .. 21". None other comes out, 12, 13 and those of the check among them
  pub data Number (k : ℕ) : Type 0 where
    first : FirstNumber k → Number k
    output_short : k ≡ 21 → Number k
    none_refused : k ≡ 0 → Number k

  number_ways : {r : Reduced} → Ways L b budget list map out r → Number (number_in r.answer)
  number_ways (refused_first r e) = first (subst (λ (x : ℕ). FirstNumber x) e (first-number L b list map))
  number_ways (refused_short v g u z s l) = output_short refl
  number_ways (delivers v g u z s l) = none_refused refl

  pub numbers : Number (number_in (reduce_of L b budget list map out).answer)
  numbers = number_ways (reduce_ways L b budget list map out)

  -- the number and the values of a delivery, or of a refusal after the search
  delivery_says : (m : List ℕ) (g u : ℕ) (z : Bool) → let r = (deliver L b list map out m g u z).answer in
      Says (number_in r) (values_in reduction_values r) (quotient_number L b m out)
      (classes m ∷ g ∷ length (short_words (table_of b)) ∷ length (quotient_bytes b m) ∷ joined_pairs (count (table_of b)) m ∷ u ∷ yes_value z ∷ [])
  unfolding deliver
  delivery_says m g u z = says (quotient_number L b m out) _ _ (λ (d : Reduced). number_in d.answer) (λ (d : Reduced). values_in reduction_values d.answer) refl refl (quotient-known L b m out) refl

  numbered : ReduceSays L b budget list map out (reduce_of L b budget list map out).answer
  unfolding reduce_of reduce_number after_search quotient_number
  numbered = by_number (before_search L b list map) (after_search L b list map out e) (record { answer = Err (refusal (before_search L b list map)); list = list; map = map; out = out }) (λ (d : Reduced). ReduceSays L b budget list map out d.answer) searched first
    where
      e : Tried
      e = tried_of_table b budget

      m : List ℕ
      m = map_of e.trials.held (count (table_of b))

      searched : before_search L b list map ≡ 0 → ReduceSays L b budget list map out (after_search L b list map out e).answer
      searched z =
          let r = (after_search L b list map out e).answer in
          subst (λ (k : ℕ). Says (number_in r) (values_in reduction_values r) k (classes m ∷ made_of e.outcome ∷ length (short_words (table_of b)) ∷ length (quotient_bytes b m) ∷ joined_pairs (count (table_of b)) m ∷ ceiling_of e.trials.ceiling ∷ yes_value (is_spent e.outcome) ∷ []))
          (stage-passes _ _ (held-accepted L b budget list map out z) ∙ sym (stage-passes _ _ z))
          (delivery_says m (made_of e.outcome) (ceiling_of e.trials.ceiling) (is_spent e.outcome))

      first : before_search L b list map ≢ 0 → ReduceSays L b budget list map out (Err (refusal (before_search L b list map)))
      first n = rw (first-known L b list map n) (refused_says _ (stage_fails _ _ refl n) n)

  -- so neither 12 nor 13 comes out of reduce
  pub never_refused : (k : ℕ) → (k ≡ 12) ⊎ (k ≡ 13) → number_in (reduce_of L b budget list map out).answer ≢ k
  never_refused k c e = go numbers
    where
      early : FirstNumber (number_in (reduce_of L b budget list map out).answer) → ⊥
      early (of_limits h) = ⊎_elim (λ d. omega arith) (λ d. omega arith) c
      early (of_reading h) = ⊎_elim (λ d. omega arith) (λ d. omega arith) c
      early (map-short h) = ⊎_elim (λ d. omega arith) (λ d. omega arith) c
      early (list-long h) = ⊎_elim (λ d. omega arith) (λ d. omega arith) c

      go : Number (number_in (reduce_of L b budget list map out).answer) → ⊥
      go (first h) = early h
      go (output_short h) = ⊎_elim (λ d. omega arith) (λ d. omega arith) c
      go (none_refused h) = ⊎_elim (λ d. omega arith) (λ d. omega arith) c

-- what the contract of reduce says, of the answer and the buffers that the definition gives
module _ (L : Limits) (b : List ℕ) (budget : ℕ) (list map out : List ℕ) {r : Result Reduction Refusal} {list' map' out' : List ℕ} (e : record { answer = r; list = list'; map = map'; out = out' } ≡ reduce_of L b budget list map out) where
  pub promised : (◌≡◌ {A = Reduced} (record { answer = r; list = list'; map = map'; out = out' }) (reduce_of L b budget list map out)) × (ReduceSays L b budget list map out r × Promises L b budget r map' out')
  promised = (
    e,
    subst (λ (d : Reduced). ReduceSays L b budget list map out d.answer × Promises L b budget d.answer d.map d.out) (sym e) (numbered L b budget list map out, promises L b budget list map out),
  )

  pub delivered_fits : {d : Reduction} → r ≡ Ok d → d.length ≤ length out
  delivered_fits f =
      subst (λ (x : Result Reduction Refusal). OnDelivery x (λ c g w l j u s. l ≤ length out)) f
      (subst (λ (d : Reduced). OnDelivery d.answer (λ c g w l j u s. l ≤ length out)) (sym e) (delivers_fitting L b budget list map out)) refl
