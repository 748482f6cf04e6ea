-- What each stage of reduce hands on to the next, as the code finds it: reading, clauses, search, then map and quotient. One law for each answer
-- of a stage. Assumes nothing.
use mathlib.Core.Path.{◌≡◌, refl, sym, ap, ◌∙◌, subst}
use mathlib.Core.Bool.{Bool, true, false}
use mathlib.Core.List.Memᴰ
use mathlib.Core.List.{List, ◌++◌}
use Prim.Native.Nat.{ℕ, ◌≤◌, ◌<◌}
use native.Mathlib.Omega.{arith}
use lib.ListN.{length, take, drop, replicate, length-append, length-replicate}
use lib.Seq.{length-take-le, take_at}
use lib.Dec.{leb}
use borrow.Author.Tests.{le-leb, lt-leb, leb-true, leb-false}
use Rattle.lists.specs.Lists.{over}
use Rattle.lists.proofs.Copying.{copied}
use Rattle.lists.proofs.Refusals.{passes, fails, no_test, stage-passes, stage_fails, refuses, not_refused, by_number}
use Rattle.cnf.specs.Clauses.{words_of, clauses_in, Model}
use Rattle.cnf.specs.Trials.{not_false, Tried, search_tried}
use Rattle.cnf.specs.Closing.{Formed}
use Rattle.cnf.proofs.Words.{clauses_words, whole_words}
use Rattle.cnf.proofs.Theorems.{never_none}
use Rattle.cnf.proofs.Trying.{tried-outcome}
use Rattle.limits.specs.declared.Limits.{Limits}
use Rattle.refusals.specs.declared.Refusal.{Refusal}
use Rattle.refusals.specs.declared.Refusal.TheVariants.{ListLength, MapRoom}
use Rattle.refusals.specs.Refusals.{number_of, refusal}
use Rattle.refusals.proofs.Numbers.{some_number, refuses_by}
use Rattle.std.specs.Prelude.{Result, Ok, Err}
use Rattle.limits.specs.Limits.{state_most}
use Rattle.pairs.specs.Pairs.{pairs}
use Rattle.pairs.specs.Triangles.{triangles}
use Rattle.pairs.proofs.Pairs.{most-pairs}
use Rattle.table_spec.specs.File.{table_of}
use Rattle.table_spec.specs.Reading.{read_number, Readable, WellFormed}
use Rattle.table_spec.specs.Language.{count}
use Rattle.table_spec.specs.Maps.{classes}
use Rattle.table_spec.specs.declared.Starts.{Starts}
use Rattle.table_spec.proofs.Bytes.{read_well_formed}
use Rattle.table_spec.proofs.Facts.{most-states}
use Rattle.table_view.specs.Sections.{ReadAs, part_of}
use Rattle.table_view.specs.declared.Section.TheVariants.{States}
use Rattle.table_view.proofs.Parts.{states-read}
use Rattle.check_map.specs.Known.{Known}
use Rattle.clauses_spec.specs.Clauses.{clause_list, short_list, short_words, ClausesDone}
use Rattle.clauses_spec.specs.Maps.{map_of}
use Rattle.clauses_spec.specs.declared.Listed.{Listed}
use Rattle.clauses_spec.proofs.Short.{short-formed, short-tried}
use Rattle.clauses.specs.Whole.{listed_by}
use Rattle.sat_decide.specs.Turns.{none_set, Fresh, EndsWith}
use Rattle.sat_trail.specs.Conclusions.{with_triangles}
use Rattle.sat_decide.specs.declared.Ending.{Ending}
use Rattle.sat_decide.specs.declared.Ending.TheVariants.{Found, Absent, Spent}
use Rattle.sat_solve.proofs.Prefixes.{prefix_is, prefix_values}
use Rattle.quotient_spec.specs.Quotient.{quotient_number, QuotientDone, quotient_of}
use Rattle.reduce_spec.specs.Reduce.{Reduced, before_search, tried_of_table, joined_pairs, deliver, after_search, reduce_of}
use Rattle.reduce_spec.specs.declared.Reduction.{Reduction}
use Rattle.reduce_spec.proofs.Joined.{held-joined}
use Rattle.reduce_spec.proofs.Ways.{list-formed, trial_model}
use Rattle.std.specs.Prelude.{Some, None}
use Rattle.reduce.specs.Held.{MadeBy, HeldFor}
use Rattle.reduce_map.specs.Lowest.{MapOf}
use Rattle.reduce_map.specs.declared.Classes.{Classes}
use Rattle.reduce.specs.declared.Made.{Made}

-- ---- map and quotient

-- the first n of 40
pub prefix_long : (m : List ℕ) (n : ℕ) → length m ≡ state_most → n ≤ state_most → length (take n m) ≡ n
prefix_long m n e h = length-take-le n m (omega (arith, e))

module _ (L : Limits) (b list map out m : List ℕ) (g u : ℕ) (z : Bool) where
  -- what reduce makes of the quotient's answer
  on_written : Result ℕ Refusal → List ℕ → Reduced
  on_written (Ok l) o = record { answer = Ok (record { classes = (classes m); guesses = g; words = (length (short_words (table_of b))); length = l; joined = (joined_pairs (count (table_of b)) m); ceiling = u; spent = z }); list = over (short_words (table_of b)) list; map = over m map; out = o }
  on_written (Err k) o = record { answer = Err k; list = over (short_words (table_of b)) list; map = map; out = o }

  on_written_lem : on_written (quotient_of L b m out).answer (quotient_of L b m out).out ≡ deliver L b list map out m g u z
  unfolding on_written quotient_of deliver
  on_written_lem =
      let refused : ℕ → Reduced = λ k. record { answer = Err (refusal k); list = over (short_words (table_of b)) list; map = map; out = out } in
      by_number (quotient_number L b m out) _ _ (λ (d : QuotientDone). on_written d.answer d.out ≡ deliver L b list map out m g u z) (not_refused (quotient_number L b m out) _ _) (refuses (quotient_number L b m out) _ refused refl)

  module _ {r : Result ℕ Refusal} {o : List ℕ} (e : record { answer = r; out = o } ≡ quotient_of L b m out) where
    on_answer : {x : Result ℕ Refusal} → r ≡ x → on_written x o ≡ deliver L b list map out m g u z
    on_answer {x} f = ap (λ (y : Result ℕ Refusal). on_written y o) (sym f) ∙ ap (λ (d : QuotientDone). on_written d.answer d.out) e ∙ on_written_lem

    deliver_refused : {k : Refusal} → r ≡ Err k → record { answer = Err k; list = over (short_words (table_of b)) list; map = map; out = o } ≡ deliver L b list map out m g u z
    unfolding on_written
    deliver_refused f = on_answer f

    deliver-written :
        {l : ℕ} → r ≡ Ok l
        → record { answer = Ok (record { classes = (classes m); guesses = g; words = (length (short_words (table_of b))); length = l; joined = (joined_pairs (count (table_of b)) m); ceiling = u; spent = z }); list = over (short_words (table_of b)) list; map = over m map; out = o } ≡ deliver L b list map out m g u z
    unfolding on_written
    deliver-written f = on_answer f

-- the map that the code found is the assignment's
module _ (L : Limits) (b list map out v : List ℕ) (n g u : ℕ) (z : Bool) {found : Classes} (h : MapOf v n found) {r : Result ℕ Refusal} {o : List ℕ} (e : record { answer = r; out = o } ≡ quotient_of L b (take n found.map) out) where
  e' : record { answer = r; out = o } ≡ quotient_of L b (map_of v n) out
  e' = e ∙ ap (λ (m : List ℕ). quotient_of L b m out) h.map

  pub not_delivered : {k : Refusal} {x : Result Reduction Refusal} → x ≡ Err k → r ≡ Err k → record { answer = x; list = over (short_words (table_of b)) list; map = map; out = o } ≡ deliver L b list map out (map_of v n) g u z
  not_delivered p f = (λ i. record { answer = p i; list = over (short_words (table_of b)) list; map = map; out = o }) ∙ deliver_refused L b list map out (map_of v n) g u z e' f

  pub delivered :
      {l w j : ℕ} {m : List ℕ} → HeldFor (table_of b) n v → j ≡ not_false v → r ≡ Ok l → w ≡ length (short_words (table_of b))
      → m ≡ take (length (take n found.map)) (take n found.map) ++ drop (length (take n found.map)) map
      → record { answer = Ok (record { classes = found.count; guesses = g; words = w; length = l; joined = j; ceiling = u; spent = z }); list = over (short_words (table_of b)) list; map = m; out = o } ≡ deliver L b list map out (map_of v n) g u z
  unfolding over
  delivered {l} {w} {j} {m} d i f p q =
      let pairs-joined : j ≡ joined_pairs (count (table_of b)) (map_of v n) = i ∙ d.joined ∙ ap (λ (k : ℕ). joined_pairs k (map_of v n)) d.states in
      let written : m ≡ over (map_of v n) map = copied (take n found.map) map q ∙ ap (λ (x : List ℕ). over x map) h.map in
      (λ i. record { answer = Ok (record { classes = (h.count i); guesses = g; words = (p i); length = l; joined = (pairs-joined i); ceiling = u; spent = z }); list = over (short_words (table_of b)) list; map = written i; out = o }) ∙ deliver-written L b list map out (map_of v n) g u z e' f

-- ---- search

pub states-few : (L : Limits) (b : List ℕ) → Readable L b → count (table_of b) ≤ state_most
states-few L b readable = most-states (read_well_formed L b readable)

-- a table that was read, its number of states, and the values of its pairs, none of which is set
pub record Solvable (b ws : List ℕ) (n : ℕ) : Type 0 where
  pub limits : Limits
  pub readable : Readable limits b
  pub states : n ≡ count (table_of b)
  pub listed : ws ≡ short_words (table_of b)

pub solvable : {b ws tops : List ℕ} {s : Starts} {n : ℕ} → Known b s tops → n ≡ count (table_of b) → ws ≡ short_words (table_of b) → Solvable b ws n
solvable k e f = record { limits = k.limits; readable = k.read.readable; states = e; listed = f }

module _ {b ws : List ℕ} {n : ℕ} (h : Solvable b ws n) where
  pub few : n ≤ state_most
  few = omega (arith, h.states, states-few h.limits b h.readable)

  -- room for the variables
  pub values-room : {v k : ℕ} → v ≡ pairs n → k ≡ 780 → v ≤ k
  values-room e f = omega (arith, most-pairs n few)

  wf : WellFormed h.limits (table_of b)
  wf = read_well_formed h.limits b h.readable

  formed : Formed (clause_list (table_of b)) (pairs (count (table_of b)))
  formed = list-formed wf

  short-part : Formed (short_list (table_of b)) (pairs (count (table_of b)))
  short-part = record { below = λ c m. (short-formed (table_of b) 0 formed).below c (Memᴰ.append_left (triangles (count (table_of b))) m) }

  words_are : clauses_in ws ≡ short_list (table_of b)
  unfolding short_words
  words_are = ap clauses_in h.listed ∙ clauses_words (short_list (table_of b))

  pub fresh : {v : List ℕ} → v ≡ replicate (pairs n) 2 → Fresh ws n v
  unfolding short_words
  fresh {v} e =
      let long : length v ≡ pairs n = ap length e ∙ length-replicate {A = ℕ} (pairs n) 2 in
      record {
        all_there = rw h.listed (whole_words (short_list (table_of b)));
        formed = rw (words_are, long, h.states) short-part;
        none-set = rw long e;
        most = omega (arith, long, most-pairs n few);
        few = few;
        size = λ z. long;
      }

  -- the end over the short list and the classes is that over the full list
  same :
      (r : Ending) {v : List ℕ} (w : List ℕ) (u budget : ℕ) → v ≡ replicate (pairs n) 2 → EndsWith (search_tried (with_triangles ws n) (length v) budget) r w u
      → EndsWith (tried_of_table b budget) r w u
  unfolding tried_of_table
  same r w u budget e f =
      subst (λ (t : Tried). EndsWith t r w u)
      ((λ i. search_tried (words_are i ++ triangles (h.states i)) ((ap length e ∙ length-replicate {A = ℕ} (pairs n) 2 ∙ ap pairs h.states) i) budget) ∙ short-tried (table_of b) budget formed)
      f

-- what is held where the search does not end with none
module _ {b ws : List ℕ} {n : ℕ} (h : Solvable b ws n) (budget : ℕ) {w : List ℕ} (e : (tried_of_table b budget).trials.held ≡ w) where
  model : Model (clause_list (table_of b)) (pairs (count (table_of b))) w
  unfolding tried_of_table
  model = subst (Model (clause_list (table_of b)) (pairs (count (table_of b)))) e (trial_model h.limits (table_of b) (wf h) budget)

  held_for : HeldFor (table_of b) n w
  held_for = record {
    states = h.states;
    long = model.assigns.long ∙ ap pairs (sym h.states);
    joined = rw h.states (held-joined h.limits (table_of b) (wf h) w model);
  }

-- how the search ended, by its guesses and whether the budget is spent
module _ {b ws : List ℕ} {n : ℕ} (h : Solvable b ws n) (budget : ℕ) (w : List ℕ) (u : ℕ) where
  pub ends_held : (r : Ending) (m : Made) → MadeBy r (Some m) → EndsWith (tried_of_table b budget) r w u → HeldFor (table_of b) n w
  ends_held (Found k) m p e = held_for h budget (ap (λ (t : Tried). t.trials.held) e)
  ends_held (Absent k) m p e = cc
  ends_held (Spent k) m p e = held_for h budget (ap (λ (t : Tried). t.trials.held) e)

  module _ (L : Limits) (before map out : List ℕ) where
    pub ends_delivered :
        (r : Ending) (m : Made) → MadeBy r (Some m) → EndsWith (tried_of_table b budget) r w u
        → deliver L b before map out (map_of w n) m.guesses u m.spent ≡ after_search L b before map out (tried_of_table b budget)
    unfolding after_search
    ends_delivered (Found k) m p e = let is : m ≡ record { guesses = k; spent = false } = cc in rw (is, h.states) (sym (ap (after_search L b before map out) e))
    ends_delivered (Absent k) m p e = cc
    ends_delivered (Spent k) m p e = let is : m ≡ record { guesses = k; spent = true } = cc in rw (is, h.states) (sym (ap (after_search L b before map out) e))

    -- that no assignment exists does not happen
    pub ends_absent : (r : Ending) {x : Reduced} → MadeBy r None → EndsWith (tried_of_table b budget) r w u → x ≡ after_search L b before map out (tried_of_table b budget)
    unfolding tried_of_table
    ends_absent (Found k) p e = cc
    ends_absent (Absent k) p e =
        absurd (never_none (clause_list (table_of b)) (pairs (count (table_of b))) budget (formed h) _ (trial_model h.limits (table_of b) (wf h) budget) k (sym (tried-outcome (clause_list (table_of b)) (pairs (count (table_of b))) budget) ∙ e))
    ends_absent (Spent k) p e = cc

-- the same as the code finds it: x variables, in the first of room for 780
module _ {b ws : List ℕ} {n : ℕ} (h : Solvable b ws n) {x : ℕ} (e : x ≡ pairs n) {s : List ℕ} (z : s ≡ none_set) where
  pub room : x ≤ 780
  room = values-room h e refl

  pub part_none : take x s ≡ replicate (pairs n) 2
  part_none = prefix_is x room z ∙ ap (λ (k : ℕ). replicate {A = ℕ} k 2) e

  module _ (budget : ℕ) (r : Ending) (u : ℕ) (v : List ℕ) (long : length v ≡ length (take x s)) (q : EndsWith (search_tried (with_triangles ws n) (length (take x s)) budget) r v u) where
    abbrev left : List ℕ
    left = take x (v ++ drop x s)

    ended : EndsWith (tried_of_table b budget) r left u
    ended = subst (λ (w : List ℕ). EndsWith (tried_of_table b budget) r w u) (sym (prefix_values x room z v long)) (same h r v u budget part_none q)

    pub was_held : (m : Made) → MadeBy r (Some m) → HeldFor (table_of b) n left
    was_held m p = ends_held h budget left u r m p ended

    module _ (L : Limits) (before map out : List ℕ) where
      pub was_delivered : (m : Made) → MadeBy r (Some m) → deliver L b before map out (map_of left n) m.guesses u m.spent ≡ after_search L b before map out (tried_of_table b budget)
      was_delivered m p = ends_delivered h budget left u L before map out r m p ended

      pub was_absent : {y : Reduced} → MadeBy r None → y ≡ after_search L b before map out (tried_of_table b budget)
      was_absent p = ends_absent h budget left u L before map out r p ended

-- ---- clauses

module _ (b list : List ℕ) where
  -- what an answer of the clauses says of the buffer
  ListedAs : Result Listed Refusal → List ℕ → Type 0
  ListedAs (Ok x) l = (x.words ≡ length (short_words (table_of b))) × (l ≡ over (short_words (table_of b)) list) × (x.words ≤ length list)
  ListedAs (Err k) l = (k ≡ ListLength) × (l ≡ list) × (length list < length (short_words (table_of b)))

  listed_as : ListedAs (listed_by (short_list (table_of b)) list).answer (listed_by (short_list (table_of b)) list).list
  unfolding ListedAs listed_by short_words
  listed_as = go (leb (length (words_of (short_list (table_of b)))) (length list)) refl
    where
      go : (t : Bool) → leb (length (words_of (short_list (table_of b)))) (length list) ≡ t → ListedAs (listed_by (short_list (table_of b)) list).answer (listed_by (short_list (table_of b)) list).list
      go true e = rw (e, listed_by) (refl, refl, leb-true _ _ e)
      go false e = rw (e, listed_by) (refl, refl, leb-false _ _ e)

  module _ {r : Result Listed Refusal} {l : List ℕ} (e : record { answer = r; list = l } ≡ listed_by (short_list (table_of b)) list) where
    told : {x : Result Listed Refusal} → r ≡ x → ListedAs x l
    told {x} f = subst (λ (y : Result Listed Refusal). ListedAs y l) f (subst (λ (d : ClausesDone). ListedAs d.answer d.list) (sym e) listed_as)

    -- the list stands at the front of the buffer
    pub list-there : {x : Listed} → r ≡ Ok x → take x.words l ≡ short_words (table_of b)
    unfolding ListedAs over
    list-there {x} f =
        let t = told f in
        ap (take x.words) t.1 ∙ take_at (short_words (table_of b)) (drop (length (short_words (table_of b))) list) x.words (sym t.0)

    pub list-room : {x : Listed} → r ≡ Ok x → x.words ≤ length l
    unfolding ListedAs over
    list-room {x} f =
        let t = told f in
        omega (arith, ap length t.1 ∙ length-append (short_words (table_of b)) (drop (length (short_words (table_of b))) list), t.0)

    module _ (L : Limits) (budget : ℕ) (map out : List ℕ) (readable : Readable L b) (room : count (table_of b) ≤ length map) where
      pub list_refused : {k : Refusal} {x : Result Reduction Refusal} → x ≡ Err k → r ≡ Err k → record { answer = x; list = l; map = map; out = out } ≡ reduce_of L b budget list map out
      unfolding ListedAs before_search reduce_of
      list_refused {k} p f =
          let t = told f in
          let n = stage-passes _ _ readable ∙ passes 22 _ (le-leb (count (table_of b)) (length map) room) ∙ fails 10 _ (lt-leb (length (short_words (table_of b))) (length list) t.2) in
          (λ i. record { answer = (p ∙ ap {B = Result Reduction Refusal} (λ r. Err r) t.0) i; list = t.1 i; map = map; out = out }) ∙ refuses_by (λ r. record { answer = Err r; list = list; map = map; out = out }) _ n

      -- the list was written, and the rest of reduce gave its answer
      pub list-solved :
          {x : Listed} {s : Result Reduction Refusal} {m o : List ℕ} → r ≡ Ok x
          → ((before : List ℕ) → record { answer = s; list = over (short_words (table_of b)) before; map = m; out = o } ≡ after_search L b before map out (tried_of_table b budget))
          → record { answer = s; list = l; map = m; out = o } ≡ reduce_of L b budget list map out
      unfolding ListedAs before_search reduce_of
      list-solved {x} {s} {m} {o} f h =
          let t = told f in
          let n = stage-passes _ _ readable ∙ passes 22 _ (le-leb (count (table_of b)) (length map) room) ∙ passes 10 _ (le-leb (length (short_words (table_of b))) (length list) (omega (arith, t.0, t.2))) ∙ no_test in
          (λ i. record { answer = s; list = t.1 i; map = m; out = o }) ∙ h list ∙ not_refused (before_search L b list map) _ _ n

-- ---- reading

module _ (L : Limits) (b : List ℕ) (budget : ℕ) (list map out : List ℕ) where
  refused_by_lem : {r : Refusal} → before_search L b list map ≡ number_of r → record { answer = Err r; list = list; map = map; out = out } ≡ reduce_of L b budget list map out
  unfolding reduce_of
  refused_by_lem e = refuses_by (λ r. record { answer = Err r; list = list; map = map; out = out }) _ e

  pub not-read : (r : Refusal) {x : Result Reduction Refusal} → x ≡ Err r → read_number L b ≡ number_of r → record { answer = x; list = list; map = map; out = out } ≡ reduce_of L b budget list map out
  unfolding before_search
  not-read r p e = (λ i. record { answer = p i; list = list; map = map; out = out }) ∙ refused_by_lem (stage_fails _ _ e (some_number r))

  pub map-short : Readable L b → length map < count (table_of b) → record { answer = Err MapRoom; list = list; map = map; out = out } ≡ reduce_of L b budget list map out
  unfolding before_search
  map-short readable h = refused_by_lem (stage-passes _ _ readable ∙ fails 22 _ (lt-leb (count (table_of b)) (length map) h))

-- the states are the bytes of their section
pub states-count : {L : Limits} {b : List ℕ} {s : Starts} {x : List ℕ} → ReadAs L b s → x ≡ part_of b s States → length x ≡ count (table_of b)
states-count h e = ap length (states-read h e)
