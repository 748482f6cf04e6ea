-- What the functions of src/ are stated with: one table's turn, and all of them. Assumes nothing.
use Rattle.std.specs.Prelude.{◌≡◌, List, ℕ, replicate}
use Rattle.lists.specs.Lists.{concat_map, over}
use Rattle.limits.specs.declared.Limits.{Limits}
use Rattle.reduce_spec.specs.Reduce.{reduce_of}
use Rattle.season_spec.specs.Seasons.{row, guesses_in, map_taken, out_taken, reductions_from}
use Rattle.season.specs.declared.Turn.{Turn}

-- the turn of table b: its row, what it took, and its buffers at exit
pub record Turned (L : Limits) (b : List ℕ) (budget : ℕ) (list map out : List ℕ) (r : Turn) (list' map' out' : List ℕ) : Type 0 where
  pub as_row : r.row ≡ row (reduce_of L b budget list map out).answer
  pub took_map : r.states ≡ map_taken b (reduce_of L b budget list map out).answer
  pub took_out : r.length ≡ out_taken (reduce_of L b budget list map out).answer
  pub made : r.guesses ≡ guesses_in (reduce_of L b budget list map out).answer
  pub kept-list : list' ≡ (reduce_of L b budget list map out).list
  pub new-map : map' ≡ (reduce_of L b budget list map out).map
  pub new-out : out' ≡ (reduce_of L b budget list map out).out

-- all tables: their rows, and the buffers at exit
pub record Ran (L : Limits) (share : ℕ) (lengths tables list maps out : List ℕ) (values list' maps' out' : List ℕ) : Type 0 where
  pub rows : values ≡ over (concat_map row (reductions_from L share 0 lengths tables list maps out).answers) (replicate 64 0)
  pub kept-list : list' ≡ (reductions_from L share 0 lengths tables list maps out).list
  pub new-maps : maps' ≡ (reductions_from L share 0 lengths tables list maps out).maps
  pub new-out : out' ≡ (reductions_from L share 0 lengths tables list maps out).out
