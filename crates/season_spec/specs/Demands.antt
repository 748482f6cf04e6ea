-- What a season promises (document 02, request (ix)), of each of its tables and of all together. Assumes nothing.
use Rattle.std.specs.Prelude.{◌≡◌, false, Result, List, [], ◌∷◌, map, ℕ, ◌+◌, ◌-◌, ◌*◌, ◌≤◌, ◌<◌, length, get_or, take, drop, replicate}
use Rattle.lists.specs.Lists.{concat_map, over, parts, sum}
use Rattle.cnf.specs.Search.{made_of, is_spent}
use Rattle.limits.specs.declared.Limits.{Limits}
use Rattle.refusals.specs.declared.Refusal.{Refusal}
use Rattle.refusals.specs.Refusals.{number_in}
use Rattle.reduce_spec.specs.Reduce.{Reduced, search_of_table, reduce_of}
use Rattle.reduce_spec.specs.Demands.{OnDelivery, Promises}
use Rattle.reduce_spec.specs.declared.Reduction.{Reduction}
use Rattle.season_spec.specs.Seasons.{row, guesses_in, map_taken, out_taken, reductions_from, share_of, season_values}

-- "They stand back to back in one buffer": the bytes of table i
unfoldable pub table_at : List ℕ → List ℕ → ℕ → List ℕ
table_at tables lengths i = take (get_or lengths i 0) (drop (sum (take i lengths)) tables)

-- answer i, none past the last
unfoldable pub answer_at : List (Result Reduction Refusal) → ℕ → List (Result Reduction Refusal)
answer_at rs i = take 1 (drop i rs)

-- "Each may use its share .. plus what earlier ones left": all shares so far less the guesses reported before it
unfoldable pub allowed_to : ℕ → List (Result Reduction Refusal) → ℕ → ℕ
allowed_to share rs i = (i + 1) * share - sum (map guesses_in (take i rs))

-- how many bytes of the maps each table took
unfoldable pub maps_taken : List ℕ → List ℕ → List (Result Reduction Refusal) → List ℕ
maps_taken tables [] rs = []
maps_taken tables (n ∷ ns) rs = elim rs [ [] ↦ [] | r ∷ qs ↦ map_taken (take n tables) r ∷ maps_taken (drop n tables) ns qs ]

-- "Maps and reduced tables are written back to back too": where those of table i begin
unfoldable pub maps_before : List ℕ → List ℕ → List (Result Reduction Refusal) → ℕ → ℕ
maps_before tables lengths rs i = sum (take i (maps_taken tables lengths rs))

unfoldable pub out_before : List (Result Reduction Refusal) → ℕ → ℕ
out_before rs i = sum (map out_taken (take i rs))

-- "equals a lone reduction with the guesses and buffers it was allowed": the answer, and what stands where its map and its reduced table were written
pub record IsLone (L : Limits) (b : List ℕ) (budget : ℕ) (list map out : List ℕ) (answer : List (Result Reduction Refusal)) (map' out' : List ℕ) : Type 0 where
  pub same_answer : answer ≡ (reduce_of L b budget list map out).answer ∷ []
  pub same_map : let k = map_taken b (reduce_of L b budget list map out).answer in take k map' ≡ take k (reduce_of L b budget list map out).map
  pub same_out : let k = out_taken (reduce_of L b budget list map out).answer in take k out' ≡ take k (reduce_of L b budget list map out).out

module _ (L : Limits) (tables lengths : List ℕ) (guesses : ℕ) (list maps out : List ℕ) where
  -- the answers that the definition goes through
  unfoldable pub answers_of : List (Result Reduction Refusal)
  answers_of = (reductions_from L (share_of guesses lengths) 0 lengths tables list maps out).answers

  -- of table i: its bytes, its guesses, and where its map and its reduced table begin
  abbrev pub bytes_at : ℕ → List ℕ
  bytes_at i = table_at tables lengths i

  abbrev pub allowed_at : ℕ → ℕ
  allowed_at i = allowed_to (share_of guesses lengths) answers_of i

  abbrev pub map_at : ℕ → ℕ
  map_at i = maps_before tables lengths answers_of i

  abbrev pub out_at : ℕ → ℕ
  out_at i = out_before answers_of i

  -- the lone reduction of table i
  abbrev pub lone_at : ℕ → Reduced
  lone_at i = reduce_of L (bytes_at i) (allowed_at i) list (drop (map_at i) maps) (drop (out_at i) out)

  -- the numbers answered are the rows of the answers, zeros past the count, and each answer is a lone reduction's
  pub record EachAlone (r : Result (List ℕ) Refusal) (maps' out' : List ℕ) : Type 0 where
    pub count : length answers_of ≡ length lengths
    pub rows : season_values r ≡ over (concat_map row answers_of) (replicate 64 0)
    pub each : (i : ℕ) → i < length lengths → IsLone L (bytes_at i) (allowed_at i) list (drop (map_at i) maps) (drop (out_at i) out) (answer_at answers_of i) (drop (map_at i) maps') (drop (out_at i) out')

  abbrev pub Alone : Result (List ℕ) Refusal → List ℕ → List ℕ → Type 0
  Alone r maps' out' = number_in r ≡ 0 → EachAlone r maps' out'

  -- "whose own search needs at most its share": under some budget it ends otherwise than by (d), with at most so many guesses
  pub record Needs (i : ℕ) : Type 0 where
    pub budget : ℕ
    pub unspent : is_spent (search_of_table (bytes_at i) budget) ≡ false
    pub few : made_of (search_of_table (bytes_at i) budget) ≤ share_of guesses lengths

  -- "A table that is not refused and whose own search needs at most its share must be solved."
  abbrev pub SolvedWithin : Result (List ℕ) Refusal → Type 0
  SolvedWithin r = number_in r ≡ 0 → (i : ℕ) → i < length lengths → Needs i → OnDelivery (lone_at i).answer (λ c g w l j u s. s ≡ 0)

  -- for every table all that reduce promises, of its own bytes of the maps and of the reduced tables
  abbrev pub EachPromised : Result (List ℕ) Refusal → List ℕ → List ℕ → Type 0
  EachPromised r maps' out' = number_in r ≡ 0 → (i : ℕ) → i < length lengths → Promises L (bytes_at i) (allowed_at i) (lone_at i).answer (drop (map_at i) maps') (drop (out_at i) out')

-- the guesses reported of all tables together
unfoldable pub guesses_reported : Result (List ℕ) Refusal → ℕ
guesses_reported r = sum (map (λ x. get_or x 2 0) (parts 8 8 (season_values r)))

-- "The guesses of all tables together are at most G, in the counts reported."
abbrev pub WithinAll : ℕ → Result (List ℕ) Refusal → Type 0
WithinAll guesses r = guesses_reported r ≤ guesses

-- all of it, of one season
pub record SeasonPromises (L : Limits) (tables lengths : List ℕ) (guesses : ℕ) (list maps out : List ℕ) (r : Result (List ℕ) Refusal) (maps' out' : List ℕ) : Type 0 where
  pub alone : Alone L tables lengths guesses list maps out r maps' out'
  pub total : WithinAll guesses r
  pub solved : SolvedWithin L tables lengths guesses list maps out r
  pub each : EachPromised L tables lengths guesses list maps out r maps' out'
