-- Clauses that have at most one literal left are seen to. Assumes nothing.
use Rattle.std.specs.Prelude.{◌≡◌, Bool, false, ℕ, ◌≤◌, ◌<◌, length, get_or}
use mathlib.Core.List.{List, Memᴰ}
use Rattle.cnf.specs.Clauses.{clauses_in}
use Rattle.cnf.specs.Closing.{◌⊑◌, SettledOr}
use Rattle.sat_trail.specs.Trail.{Worked}
use Rattle.sat_counters.specs.Counters.{numbered, CountersOf}

-- clauses of the list, whose counters are of values that v extends, have at most one literal left
pub record UnitsNoted (ws v counters noted : List ℕ) : Type 0 where
  pub short : length noted ≤ 32768
  pub few : length counters ≤ 32768
  pub before : List ℕ
  pub extends : before ⊑ v
  pub tallied : CountersOf ws before counters
  pub numbers : (c : ℕ) → Memᴰ c noted → c < length (clauses_in ws)
  pub light : (c : ℕ) → Memᴰ c noted → get_or counters c 0 < 4096

-- each of them is settled, or one of its variables was set meanwhile
pub record Heeded (ws noted v t : List ℕ) (count : ℕ) (w s : List ℕ) (isBroken : Bool) (more : ℕ) : Type 0 where
  pub worked : Worked (clauses_in ws) v t count w s isBroken more
  pub settles : isBroken ≡ false → (c : ℕ) → Memᴰ c noted → SettledOr w worked.grown.new (numbered ws c)
