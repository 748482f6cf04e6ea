-- Room for the search over a list whose clauses are indexed by their literals. Assumes nothing.
use Rattle.std.specs.Prelude.{◌≡◌, List, ℕ, ◌*◌, ◌≤◌, length}

-- a place for each word, half as many words for the clauses, twice, and as many notes as places
pub record WordRoom (ws clauses words saved noted : List ℕ) : Type 0 where
  pub clauses_room : length ws ≤ length clauses
  pub few : length clauses ≤ 32768
  pub words-room : length ws ≤ 2 * length words
  pub small : length words ≤ 32768
  pub same : length saved ≡ length words
  pub noted-room : length clauses ≤ length noted
  pub short : length noted ≤ 32768
