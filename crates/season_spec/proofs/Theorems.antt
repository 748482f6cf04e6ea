-- What a season promises holds of the definition, and of whatever answers as it does. Assumes nothing.
use mathlib.Core.Path.{◌≡◌, refl, sym, ap, ◌∙◌, subst}
use mathlib.Core.Bool.{false}
use mathlib.Core.List.{List, [], ◌∷◌, ◌++◌, map}
use Prim.Native.Nat.{ℕ, zero, suc, ◌+◌, ◌*◌, ◌≤◌, ◌<◌}
use native.Mathlib.Nat.{suc-mul, mul_comm, div-add-mod'}
use native.Mathlib.Omega.{arith}
use lib.ListN.{length, get_or, take, drop, replicate}
use lib.Seq.{get_or-take, get_or-drop, take-length}
use borrow.Author.Tests.{leb-true}
use Rattle.std.specs.Prelude.{Result, Ok, Err}
use Rattle.lists.specs.Lists.{concat_map, parts, sum, over, Says}
use Rattle.lists.proofs.Members.{and-true}
use Rattle.lists.proofs.Refusals.{passed, by_number, says}
use Rattle.cnf.specs.Search.{made_of, is_spent}
use Rattle.cnf.proofs.Budgets.{enough}
use Rattle.limits.specs.declared.Limits.{Limits}
use Rattle.refusals.specs.declared.Refusal.{Refusal}
use Rattle.refusals.specs.declared.Refusal.TheVariants.{Lengths, LimitsRange}
use Rattle.refusals.specs.Refusals.{refusal, Known, number_in, values_in}
use Rattle.refusals.proofs.Numbers.{some_number, known_of, failed_known, none_known}
use Rattle.pairs.specs.Pairs.{pairs}
use Rattle.table_spec.specs.File.{table_of}
use Rattle.table_spec.specs.Language.{count, SameWords, SameMarks, OpenByNeither}
use Rattle.table_spec.specs.Maps.{NoneCoarser}
use Rattle.table_spec.proofs.Bytes.{read_well_formed}
use Rattle.check_spec.specs.Check.{check_of}
use Rattle.script_spec.specs.Demands.{SameScripts}
use Rattle.check_spec.specs.Demands.{AcceptedWith}
use Rattle.script_spec.specs.Script.{yes_value}
use Rattle.clauses_spec.specs.Clauses.{clause_list}
use Rattle.quotient_spec.specs.Demands.{IsQuotient, ShowsSteps}
use Rattle.reduce_spec.specs.Reduce.{search_of_table, joined_pairs, reduce_of, reduction_values}
use Rattle.reduce_spec.specs.Demands.{OnDelivery, Promises, map_written}
use Rattle.reduce_spec.specs.declared.Reduction.{Reduction}
use Rattle.reduce_spec.proofs.Ways.{list-formed}
use Rattle.reduce_spec.proofs.Theorems.{promises, on_delivery}
use Rattle.season_spec.specs.Seasons.{row, guesses_in, map_taken, out_taken, Reductions, reductions_from, share_of, lengths_fit, season_number, SeasonDone, season_of, season_values, SeasonSays}
use Rattle.season_spec.specs.Demands.{table_at, answer_at, allowed_to, maps_before, out_before, IsLone, answers_of, Alone, SolvedWithin, EachPromised, guesses_reported, WithinAll, SeasonPromises}
use Rattle.season_spec.proofs.Each.{allowed, moved, used, counted, alone_in}

-- ---- the guesses reported

-- nothing but zeros
abbrev Zeros : List ℕ → Type 0
Zeros zs = (j : ℕ) → get_or zs j 0 ≡ 0

zeros : (n : ℕ) → Zeros (replicate n 0)
zeros zero j = refl
zeros (suc n) zero = refl
zeros (suc n) (suc j) = zeros n j

later_zeros : (i : ℕ) (zs : List ℕ) → Zeros zs → Zeros (drop i zs)
later_zeros i zs h j = get_or-drop i zs j 0 ∙ h (i + j)

abbrev reported_in : List (List ℕ) → ℕ
reported_in rows = sum (map (λ x. get_or x 2 0) rows)

none_reported : (k : ℕ) (zs : List ℕ) → Zeros zs → reported_in (parts k 8 zs) ≡ 0
unfolding parts sum
none_reported zero zs h = refl
none_reported (suc k) zs h = omega (arith, get_or-take 8 zs 2 0 (omega arith), h 2, none_reported k (drop 8 zs) (later_zeros 8 zs h))

rows_reported : (rs : List (Result Reduction Refusal)) (n : ℕ) (zs : List ℕ) → length rs ≤ n → Zeros zs → reported_in (parts n 8 (concat_map row rs ++ zs)) ≡ sum (map guesses_in rs)
unfolding parts sum over row guesses_in
rows_reported [] n zs l h = none_reported n zs h
rows_reported (r ∷ rs) zero zs l h = absurd (omega arith)
rows_reported (Ok d ∷ rs) (suc n) zs l h = ap (λ (m : ℕ). d.guesses + m) (rows_reported rs n zs (omega arith) h)
rows_reported (Err e ∷ rs) (suc n) zs l h = ap (λ (m : ℕ). 0 + m) (rows_reported rs n zs (omega arith) h)

-- ---- of the definition

-- what a reduction took of the maps and of the reduced tables is what it delivered
taken : (L : Limits) (b : List ℕ) (a : ℕ) (list map out : List ℕ) → let r = (reduce_of L b a list map out).answer in OnDelivery r (λ c g w l j u s. (map_taken b r ≡ count (table_of b)) × (out_taken r ≡ l))
unfolding map_taken out_taken
taken L b a list map out = on_delivery L b a list map out (λ d c g w l j u s. (map_taken b d.answer ≡ count (table_of b)) × (out_taken d.answer ≡ l)) (λ v g u z s l. (refl, refl))

-- what is promised of a reduction is promised of what stands at its place
carried : (L : Limits) (b : List ℕ) (a : ℕ) (r : Result Reduction Refusal) (map map' out out' : List ℕ) → OnDelivery r (λ c g w l j u s. (map_taken b r ≡ count (table_of b)) × (out_taken r ≡ l))
    → take (map_taken b r) map' ≡ take (map_taken b r) map → take (out_taken r) out' ≡ take (out_taken r) out → Promises L b a r map out → Promises L b a r map' out'
carried L b a r map map' out out' k e f p = record {
  words = λ q. subst (λ (x : List ℕ). SameWords b x) (sym (table q)) (p.words q);
  exact = λ q. subst (λ x. x) (λ i. IsQuotient L b (sym (classes q) i) (sym (table q) i)) (p.exact q);
  checked = λ q. subst (λ (m : List ℕ). AcceptedWith (check_of L b m) (get_or (values_in reduction_values r) 0 0)) (sym (classes q)) (p.checked q);
  maximal = λ q z. subst (λ (m : List ℕ). NoneCoarser (table_of b) m) (sym (classes q)) (p.maximal q z);
  few = p.few;
  ceiling = λ q. record { joined = (p.ceiling q).joined ∙ ap (joined_pairs (count (table_of b))) (sym (classes q)); most = (p.ceiling q).most };
  same = p.same;
  found = λ q v j s. classes q ∙ p.found q v j s;
  spent = p.spent;
  none_open = λ q. subst (λ (x : List ℕ). OpenByNeither b x) (sym (table q)) (p.none_open q);
  steps = λ q. subst (λ x. x) (λ i. ShowsSteps b (sym (classes q) i) (sym (table q) i)) (p.steps q);
  marks = λ q. subst (λ (x : List ℕ). SameMarks b x) (sym (table q)) (p.marks q);
  scripts = λ q. subst (λ (x : List ℕ). SameScripts L b x) (sym (table q)) (p.scripts q);
}
  where
    classes : number_in r ≡ 0 → map_written b map' ≡ map_written b map
    classes q = subst (λ (n : ℕ). take n map' ≡ take n map) (k q).0 e

    table : number_in r ≡ 0 → take (get_or (values_in reduction_values r) 3 0) out' ≡ take (get_or (values_in reduction_values r) 3 0) out
    table q = subst (λ (n : ℕ). take n out' ≡ take n out) (k q).1 f

-- a search that needs at most so many guesses is not spent under a budget that has them
solved-enough : (L : Limits) (b : List ℕ) (a budget : ℕ) (list map out : List ℕ) → is_spent (search_of_table b budget) ≡ false → made_of (search_of_table b budget) ≤ a
    → OnDelivery (reduce_of L b a list map out).answer (λ c g w l j u s. s ≡ 0)
unfolding search_of_table
solved-enough L b a budget list map out e h = on_delivery L b a list map out (λ d c g w l j u s. s ≡ 0) (λ v g u z s l.
    ap yes_value (s.ended ∙ ap is_spent (sym (enough (clause_list (table_of b)) (pairs (count (table_of b))) a budget (list-formed (read_well_formed L b s.begun.readable)) e h)) ∙ e))

module _ (L : Limits) (tables lengths : List ℕ) (guesses : ℕ) (list maps out : List ℕ) where
  abbrev share : ℕ
  share = share_of guesses lengths

  abbrev run : Reductions
  run = reductions_from L share 0 lengths tables list maps out

  -- "Each answer equals a lone reduction with the guesses and buffers it was allowed."
  pub each_lone : (i : ℕ) → i < length lengths
      → IsLone L (table_at tables lengths i) (allowed_to share run.answers i) list (drop (maps_before tables lengths run.answers i) maps) (drop (out_before run.answers i) out) (answer_at run.answers i) (drop (maps_before tables lengths run.answers i) run.maps) (drop (out_before run.answers i) run.out)
  unfolding allowed_to allowed
  each_lone i h = moved L list refl (omega arith) refl refl refl refl (alone_in L share 0 lengths tables list maps out i h)

  -- its share is among the guesses that a table is allowed
  share_allowed : (i : ℕ) → share ≤ allowed_to share run.answers i
  unfolding allowed_to
  share_allowed i = omega (arith, used L share 0 lengths tables list maps out i, suc-mul i share)

  -- "The guesses of all tables together are at most G"
  all-within : 1 ≤ length lengths → sum (map guesses_in run.answers) ≤ guesses
  unfolding share_of
  all-within h =
      let k = length lengths in
      let u : sum (map guesses_in run.answers) ≤ k * share = omega (arith, ap (λ (rs : List (Result Reduction Refusal)). sum (map guesses_in rs)) (sym (ap (λ (n : ℕ). take n run.answers) (sym (counted L share 0 lengths tables list maps out)) ∙ take-length run.answers)), used L share 0 lengths tables list maps out k) in
      omega (arith, u, div-add-mod' guesses k, mul_comm k share)

  -- the two ways in which a season ends
  data Ends : SeasonDone → Type 0 where
    refused : (r : Refusal) → Ends (record { answer = Err r; list = list; maps = maps; out = out })
    reduced :
        1 ≤ length lengths → length lengths ≤ 8
        → Ends (record { answer = Ok (over (concat_map row run.answers) (replicate 64 0)); list = run.list; maps = run.maps; out = run.out })

  lengths_few : season_number L tables lengths ≡ 0 → (1 ≤ length lengths) × (length lengths ≤ 8)
  unfolding season_number lengths_fit
  lengths_few e =
      let a = passed 39 _ _ (λ z. omega (arith, z)) e in
      let b = passed 34 _ _ (λ z. omega (arith, z)) a.1 in
      let c = and-true _ _ b.0 in
      let d = and-true _ _ c.0 in
      (leb-true _ _ d.0, leb-true _ _ d.1)

  season_ends : Ends (season_of L tables lengths guesses list maps out)
  unfolding season_of
  season_ends = by_number _ _ _ Ends (λ z. let f = lengths_few z in reduced f.0 f.1) (λ n. refused (refusal (season_number L tables lengths)))

  -- the answer's number is the first of the tests that fails, and its values are the rows and zeros
  season-known : Known (season_number L tables lengths)
  unfolding season_number
  season-known = failed_known _ _ (known_of LimitsRange) (failed_known _ _ (known_of Lengths) none_known)

  pub season-says : (let r = (season_of L tables lengths guesses list maps out).answer in Says (number_in r) (season_values r) (season_number L tables lengths) (over (concat_map row run.answers) (replicate 64 0)))
  unfolding season_of
  season-says = says (season_number L tables lengths) _ _ (λ (d : SeasonDone). number_in d.answer) (λ (d : SeasonDone). season_values d.answer) refl refl season-known refl

  alone-ends : {d : SeasonDone} → Ends d → Alone L tables lengths guesses list maps out d.answer d.maps d.out
  unfolding answers_of
  alone-ends (refused r) = λ e. absurd (some_number r e)
  alone-ends (reduced h k) = λ e. record { count = counted L share 0 lengths tables list maps out; rows = refl; each = each_lone }

  promised_ends : {d : SeasonDone} → Ends d → EachPromised L tables lengths guesses list maps out d.answer d.maps d.out
  unfolding answers_of
  promised_ends (refused r) = λ e. absurd (some_number r e)
  promised_ends (reduced h k) = λ e i l.
      let b = table_at tables lengths i in
      let a = allowed_to share run.answers i in
      let m = drop (maps_before tables lengths run.answers i) maps in
      let o = drop (out_before run.answers i) out in
      let r = reduce_of L b a list m o in
      let w = each_lone i l in
      carried L b a r.answer r.map _ r.out _ (taken L b a list m o) w.same_map w.same_out (promises L b a list m o)

  solved-ends : {d : SeasonDone} → Ends d → SolvedWithin L tables lengths guesses list maps out d.answer
  unfolding answers_of
  solved-ends (refused r) = λ e. absurd (some_number r e)
  solved-ends (reduced h k) = λ e i l z.
      solved-enough L (table_at tables lengths i) (allowed_to share run.answers i) z.budget list _ _ z.unspent (omega (arith, z.few, share_allowed i))

  within-ends : {d : SeasonDone} → Ends d → WithinAll guesses d.answer
  unfolding guesses_reported over
  within-ends (refused r) = omega (arith, none_reported 8 [] (λ j. refl))
  within-ends (reduced h k) =
      omega (arith, rows_reported run.answers 8 (drop (length (concat_map row run.answers)) (replicate 64 0)) (omega (arith, counted L share 0 lengths tables list maps out)) (later_zeros (length (concat_map row run.answers)) (replicate 64 0) (zeros 64)), all-within h)

-- what the contract of a season says, of the answer and the buffers that the definition gives
pub promised : (L : Limits) (tables lengths : List ℕ) (guesses : ℕ) (list maps out : List ℕ) {r : Result (List ℕ) Refusal} {list' maps' out' : List ℕ}
    → record { answer = r; list = list'; maps = maps'; out = out' } ≡ season_of L tables lengths guesses list maps out
    → (◌≡◌ {A = SeasonDone} (record { answer = r; list = list'; maps = maps'; out = out' }) (season_of L tables lengths guesses list maps out)) × SeasonPromises L tables lengths guesses list maps out r maps' out'
promised L tables lengths guesses list maps out {r} {list'} {maps'} {out'} e =
    let d : Ends L tables lengths guesses list maps out (record { answer = r; list = list'; maps = maps'; out = out' }) = subst (λ (x : SeasonDone). Ends L tables lengths guesses list maps out x) (sym e) (season_ends L tables lengths guesses list maps out) in (
      e,
      record {
        alone = alone-ends L tables lengths guesses list maps out d;
        total = within-ends L tables lengths guesses list maps out d;
        solved = solved-ends L tables lengths guesses list maps out d;
        each = promised_ends L tables lengths guesses list maps out d;
      },
    )

pub number_run : (L : Limits) (tables lengths : List ℕ) (guesses : ℕ) (list maps out : List ℕ) {r : Result (List ℕ) Refusal} {list' maps' out' : List ℕ}
    → record { answer = r; list = list'; maps = maps'; out = out' } ≡ season_of L tables lengths guesses list maps out
    → number_in r ≡ season_number L tables lengths
number_run L tables lengths guesses list maps out e = ap (λ (d : SeasonDone). number_in d.answer) e ∙ (season-says L tables lengths guesses list maps out).numbered

pub says_run : (L : Limits) (tables lengths : List ℕ) (guesses : ℕ) (list maps out : List ℕ) {r : Result (List ℕ) Refusal} {list' maps' out' : List ℕ}
    → record { answer = r; list = list'; maps = maps'; out = out' } ≡ season_of L tables lengths guesses list maps out
    → SeasonSays L tables lengths guesses list maps out r
says_run L tables lengths guesses list maps out e =
    subst (λ (d : SeasonDone). SeasonSays L tables lengths guesses list maps out d.answer) (sym e) (season-says L tables lengths guesses list maps out)
