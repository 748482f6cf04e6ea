-- The marks by which a variable that stands twice in a clause is told. Assumes nothing.
use Rattle.std.specs.Prelude.{◌≡◌, List, ℕ, ◌<◌, length, get_or}

-- every variable has a mark, and it is lower than this one
pub record MarksBelow (marks : List ℕ) (mark : ℕ) : Type 0 where
  pub long : length marks ≡ 780
  pub lower : (x : ℕ) → x < 780 → get_or marks x 0 < mark
