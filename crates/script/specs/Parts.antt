-- What the functions of src/ are stated with: a script that is not refused, and its answer by the sections of a table. Assumes nothing.
use Rattle.std.specs.Prelude.{◌≡◌, Bool, true, false, List, ℕ, length, get_or}
use Rattle.table_view.specs.Sections.{sectioned}
use Rattle.script_spec.specs.Script.{reads, started, symbols_fit, too_deep}

-- a script to which neither 30 nor 31 applies
pub record Fits (symbols w : List ℕ) : Type 0 where
  pub known : symbols_fit (length symbols) w ≡ true
  pub shallow : too_deep (λ a. get_or symbols a 0) 0 w ≡ false

-- yes or no, by the sections: the version plays no part
unfoldable pub sections_read : List ℕ → List ℕ → List ℕ → List ℕ → List ℕ → List ℕ → Bool
sections_read symbols states internals calls returns w = let t = sectioned 0 symbols states internals calls returns in reads t (started t) w
