-- Which lists are worth being written anew, by their length. Assumes nothing.
use mathlib.Core.Path.{◌≡◌, sym}
use mathlib.Core.Bool.{true, false}
use Prim.Native.Nat.{ℕ, ◌/◌, ◌<◌, ◌≤◌}
use native.Mathlib.Omega.{arith}
use lib.Dec.{leb}
use borrow.Author.Tests.{lt-ltb, le-ltb}
use Rattle.sat_solve.specs.Worth.{worth_lightening}

module _ (words set variables : ℕ) where
  pub short : words ≤ 4096 → false ≡ worth_lightening words set variables
  unfolding worth_lightening
  short h = sym (rw (le-ltb 32768 words (omega arith), le-ltb 4096 words h))

  pub middle : 4096 < words → words ≤ 32768 → leb (variables / 2) set ≡ worth_lightening words set variables
  unfolding worth_lightening
  middle h k = sym (rw (le-ltb 32768 words k, lt-ltb 4096 words h))

  pub long : 32768 < words → true ≡ worth_lightening words set variables
  unfolding worth_lightening
  long h = sym (rw (lt-ltb 32768 words h))
