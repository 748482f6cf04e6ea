-- Reading a script (document 02, request (i), with acceptance as (iv) has it). A script is read by levels, one for the empty stack and one for each
-- open call: a level says which state is reached over which topmost stack state, and there are as many words of it as there may be states. What a
-- level means is proved (proofs/Levels): some run reaches a state and a stack exactly when each neighbouring two are in their level. Assumes nothing.
use Rattle.std.specs.Prelude.{Bool, true, false, ◌&&◌, not, Result, List, [], ◌∷◌, ◌++◌, ℕ, zero, suc, ◌-◌, ◌^◌, length, get_or, replicate, eqb, leb, ltb}
use Rattle.std.proofs.Math.Option.{Option, none, some}
use Rattle.lists.specs.Lists.{any, all, upto, first_failed, stage, Says}
use Rattle.lists.specs.Bits.{has}
use Rattle.limits.specs.declared.Limits.{Limits}
use Rattle.limits.specs.Limits.{state_most}
use Rattle.refusals.specs.declared.Refusal.{Refusal}
use Rattle.refusals.specs.Refusals.{answered, number_in, values_in}
use Rattle.vpa.specs.Automata.{open_behind}
use Rattle.table_spec.specs.File.{Table, table_of}
use Rattle.table_spec.specs.Reading.{is_accepting, read_number}
use Rattle.table_spec.specs.Language.{count, byte_of, kind_of}
use Rattle.tops_spec.specs.Tops.{add, start_words}

-- a level has a word for each possible state: bit s of word q is 1 where q is reached over s; bottom is numbered 40, as in tops
abbrev pub Level : Type 0
Level = List ℕ

-- the level of the latest open call, and those of the earlier ones and of the empty stack below it
pub record Levels : Type 0 where
  pub now : Level
  pub below : List Level

-- nothing is reached
abbrev pub nowhere : Level
nowhere = replicate state_most 0

-- a record by symbol a, whose target stands at the place `to`: the target gains tops
unfoldable pub gains : (List ℕ → ℕ) → ℕ → ℕ → List ℕ → Level → Level
gains gain to a r g = elim (eqb (get_or r 1 0) a) [ true ↦ add g (get_or r to 0) (gain r) | false ↦ g ]

-- the records of a section, in the file's order
unfoldable pub gained : (List ℕ → ℕ) → ℕ → ℕ → List (List ℕ) → Level → Level
gained gain to a [] g = g
gained gain to a (r ∷ rs) g = gained gain to a rs (gains gain to a r g)

-- what a target of q has as tops: those of q by an internal; q itself by a call, "pushes the state it left", if q is reached
unfoldable pub gain : Bool → Level → ℕ → ℕ
gain false f q = get_or f q 0
gain true f q = elim (eqb (get_or f q 0) 0) [ true ↦ 0 | false ↦ 2 ^ q ]

-- .. by a return (q, a, s, q'): "A return pops state s and moves by a record naming s", so those that s has on the level below, if q is reached over s
unfoldable pub by_return : Level → Level → List ℕ → ℕ
by_return f below r = elim (has f (get_or r 0 0) (get_or r 2 0)) [ true ↦ get_or below (get_or r 2 0) 0 | false ↦ 0 ]

-- the level after a move by symbol a, and after a return
unfoldable pub moved : List (List ℕ) → ℕ → Bool → Level → Level
moved rs a call f = gained (λ r. gain call f (get_or r 0 0)) 2 a rs nowhere

unfoldable pub returned : List (List ℕ) → ℕ → Level → Level → Level
returned rs a f below = gained (by_return f below) 3 a rs nowhere

-- the levels after symbol a, by its kind, "0 internal, 1 call, 2 return"; none where "A return on the empty stack ends it with no"
unfoldable pub behind : Table → ℕ → ℕ → Levels → Option Levels
behind t a zero l = some (record { now = moved t.internals a false l.now; below = l.below })
behind t a (suc zero) l = some (record { now = moved t.calls a true l.now; below = l.now ∷ l.below })
behind t a (suc (suc k)) l = elim l.below [ [] ↦ none | b ∷ bs ↦ some (record { now = returned t.returns a l.now b; below = bs }) ]

-- request (iv), "an accepting state on the empty stack" is reached
unfoldable pub ended : Table → Levels → Bool
ended t l = elim l.below [ [] ↦ any (λ q. is_accepting (byte_of t q) && has l.now q state_most) (upto (count t)) | b ∷ bs ↦ false ]

-- yes or no, from the levels on
unfoldable pub reads : Table → Levels → List ℕ → Bool
reads t l [] = ended t l
reads t l (a ∷ w) = elim (behind t a (kind_of t a) l) [ none ↦ false | some k ↦ reads t k w ]

-- "A run starts in an initial state on the empty stack"
unfoldable pub started : Table → Levels
started t = record { now = start_words state_most t ++ replicate (state_most - count t) 0; below = [] }

-- 30: "a symbol past the count anywhere", of n symbols
unfoldable pub symbols_fit : ℕ → List ℕ → Bool
symbols_fit n w = all (λ a. ltb a n) w

-- "up to 64 calls open"
abbrev pub open_most : ℕ
open_most = 64

-- 31: "a 65th open call before any return on the empty stack", by the symbols' kinds, where n calls are open
unfoldable pub too_deep : (ℕ → ℕ) → ℕ → List ℕ → Bool
too_deep kind n [] = false
too_deep kind n (a ∷ w) = elim (leb 2 (kind a) && eqb n 0) [
  | true ↦ false
  | false ↦ elim (eqb (kind a) 1 && eqb n open_most) [ true ↦ true | false ↦ too_deep kind (open_behind (kind a) n) w ]
]

-- 30, 31, by the bytes of the symbols alone
unfoldable pub script_tests : List ℕ → List ℕ → List (ℕ × Bool)
script_tests symbols w = (30, symbols_fit (length symbols) w) ∷ (31, not (too_deep (λ a. get_or symbols a 0) 0 w)) ∷ []

-- "1 to 8 first, then 30 .., 31", and 39 before them; or 0
unfoldable pub script_number : Limits → List ℕ → List ℕ → ℕ
script_number L b w = first_failed (stage (read_number L b) ∷ script_tests (table_of b).symbols w)

-- the answer whose number is k, 0 where nothing is refused
unfoldable pub answer_by : ℕ → Table → List ℕ → Result Bool Refusal
answer_by k t w = answered k (reads t (started t) w)

-- the operation
unfoldable pub script_of : Limits → List ℕ → List ℕ → Result Bool Refusal
script_of L b w = answer_by (script_number L b w) (table_of b) w

-- an answer's value: 1 yes, 0 no
abbrev pub yes_value : Bool → ℕ
yes_value true = 1
yes_value false = 0

abbrev pub yes_values : Bool → List ℕ
yes_values b = yes_value b ∷ []

-- the answer by its number and its values
abbrev pub ScriptSays : Limits → List ℕ → List ℕ → Result Bool Refusal → Type 0
ScriptSays L b w r = Says (number_in r) (values_in yes_values r) (script_number L b w) (yes_value (reads (table_of b) (started (table_of b)) w) ∷ [])
