-- The automaton of a table, and the words that bytes accept (document 01, "Runs and reachable tops"; document 02, (iv) and (v)). Assumes nothing.
use Rattle.std.specs.Prelude.{◌≡◌, ◌↔◌, ℕ, ◌/◌, ◌%◌, ◌<◌, length, get_or, take}
use mathlib.Core.List.{List, [], ◌∷◌, ◌++◌, map, Memᴰ}
use Rattle.lists.specs.Lists.{filter, same}
use Rattle.vpa.specs.Automata.{Automaton, Accepts, EndsIn, open_after}
use Rattle.table_spec.specs.File.{Table, table_of}

-- how many states
abbrev pub count : Table → ℕ
count t = length t.states

-- a state's byte: "1 for initial plus 2 for accepting", and its mark times 4
abbrev pub byte_of : Table → ℕ → ℕ
byte_of t q = get_or t.states q 0

-- request (v): "a mark 0 to 15 in the state byte, times 4"; version 1, whose bytes are at most 3, "means mark 0 throughout"
unfoldable pub mark_of : ℕ → ℕ
mark_of byte = byte / 4

-- what joined states must agree on, of a state's byte: accepting plus 2 times the mark, and not initial
unfoldable pub agreed_on : ℕ → ℕ
agreed_on byte = byte / 2

-- the targets of the records that start with the key (q, a) or (q, r, u), in file order
unfoldable pub targets : List (List ℕ) → List ℕ → List ℕ
targets rs key = map (λ r. get_or r (length key) 0) (filter (λ r. same key (take (length key) r)) rs)

-- a record (q, a, q') is an internal or a call by symbol a, a record (q, r, s, q') a return that pops s
abbrev pub automaton : Table → Automaton ℕ
automaton t = record {
  state = λ q. q < count t;
  initial = λ q. byte_of t q % 2 ≡ 1;
  accepting = λ q. byte_of t q / 2 % 2 ≡ 1;
  mark = λ q k. (q < count t) × (mark_of (byte_of t q) ≡ k);
  internal = λ q a q'. Memᴰ (q ∷ a ∷ q' ∷ []) t.internals;
  call = λ q a q'. Memᴰ (q ∷ a ∷ q' ∷ []) t.calls;
  return = λ q a s q'. Memᴰ (q ∷ a ∷ s ∷ q' ∷ []) t.returns;
}

-- the automaton of the table that bytes hold
abbrev pub automaton_of : List ℕ → Automaton ℕ
automaton_of b = automaton (table_of b)

-- a symbol's kind, its byte: "0 internal, 1 call, 2 return"
abbrev pub kind_of : Table → ℕ → ℕ
kind_of t a = get_or t.symbols a 0

-- request (iv), "a script that ends with something still open": some call of the word is closed by no return after it, by the symbols' bytes
abbrev pub LeavesOpen : List ℕ → List ℕ → Type 0
LeavesOpen b w = 0 < open_after (kind_of (table_of b)) 0 w

-- the word is accepted by the table that the bytes hold: some run over it ends in an accepting state on the empty stack
abbrev pub AcceptsWord : List ℕ → List ℕ → Type 0
AcceptsWord b w = Accepts (automaton_of b) w

-- two files accept the same words
pub record SameWords (b c : List ℕ) : Type 0 where
  pub each : (w : List ℕ) → AcceptsWord b w ↔ AcceptsWord c w

-- request (v): "For each mark, the words that end on the empty stack in a state of that mark are the same before and after."
pub record SameMarks (b c : List ℕ) : Type 0 where
  pub each : (k : ℕ) (w : List ℕ) → EndsIn (automaton_of b) k w ↔ EndsIn (automaton_of c) k w

-- request (iv), "scripts left open are accepted by neither": c has the symbols of b
pub record OpenByNeither (b c : List ℕ) : Type 0 where
  pub each : (w : List ℕ) → LeavesOpen b w → (¬ AcceptsWord b w) × (¬ AcceptsWord c w)

-- "Each move has at most one target where no two records of one section differ in their target alone."
pub record OneTarget (t : Table) : Type 0 where
  pub internals : (key : List ℕ) (q q' : ℕ) → Memᴰ (key ++ (q ∷ [])) t.internals → Memᴰ (key ++ (q' ∷ [])) t.internals → q ≡ q'
  pub calls : (key : List ℕ) (q q' : ℕ) → Memᴰ (key ++ (q ∷ [])) t.calls → Memᴰ (key ++ (q' ∷ [])) t.calls → q ≡ q'
  pub returns : (key : List ℕ) (q q' : ℕ) → Memᴰ (key ++ (q ∷ [])) t.returns → Memᴰ (key ++ (q' ∷ [])) t.returns → q ≡ q'
