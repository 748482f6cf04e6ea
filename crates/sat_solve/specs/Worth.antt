-- Which lists are worth being written anew. Assumes nothing.
use Rattle.std.specs.Prelude.{Bool, ◌&&◌, ◌||◌, ℕ, ◌/◌, leb, ltb}

-- a list at rest that is too long to be indexed, or not short where half of the variables are set
unfoldable pub worth_lightening : ℕ → ℕ → ℕ → Bool
worth_lightening words set variables = ltb 32768 words || (ltb 4096 words && leb (variables / 2) set)
