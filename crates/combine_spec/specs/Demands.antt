-- What a written combination promises, of words, from the lent bytes to the written ones. Assumes nothing.
use Rattle.std.specs.Prelude.{◌≡◌, ◌↔◌, ◌⊎◌, Result, List, ℕ, take}
use Rattle.vpa.specs.Automata.{Automaton, EndsIn}
use Rattle.vpa.specs.Combined.{EndsOn}
use Rattle.limits.specs.declared.Limits.{Limits}
use Rattle.table_spec.specs.File.{table_of}
use Rattle.table_spec.specs.Reading.{Readable}
use Rattle.table_spec.specs.Language.{automaton_of, AcceptsWord, SameWords}
use Rattle.quotient_spec.specs.Demands.{OnWriting}
use Rattle.refusals.specs.declared.Refusal.{Refusal}
use Rattle.combine_spec.specs.Combine.{combined_table, combined_bytes}
use Rattle.combine_spec.specs.declared.How.{How}
use Rattle.combine_spec.specs.declared.How.TheVariants.{Intersection, Union}

-- both, or one of them
abbrev pub Combined : How → Type 0 → Type 0 → Type 0
Combined (Intersection) X Y = X × Y
Combined (Union) X Y = X ⊎ Y

-- "the intersection accepts exactly the words that both accept, the union exactly those that one of them accepts"
pub record CombinesWords (how : How) (b c d : List ℕ) : Type 0 where
  pub each : (w : List ℕ) → AcceptsWord d w ↔ Combined how (AcceptsWord b w) (AcceptsWord c w)

-- "for the union the words of each mark are those of both"; of the intersection "marks are the first's": the words of a mark are those of the first
-- over which the second, too, has a run to the empty stack
abbrev pub MarkWords : How → Automaton ℕ → Automaton ℕ → ℕ → List ℕ → Type 0
MarkWords (Intersection) A B k w = EndsIn A k w × EndsOn B w
MarkWords (Union) A B k w = EndsIn A k w ⊎ EndsIn B k w

pub record CombinesMarks (how : How) (b c d : List ℕ) : Type 0 where
  pub each : (k : ℕ) (w : List ℕ) → EndsIn (automaton_of d) k w ↔ MarkWords how (automaton_of b) (automaton_of c) k w

-- all of it, of one combination d of b and c
pub record Combination (L : Limits) (how : How) (b c d : List ℕ) : Type 0 where
  -- "the written table is readable"
  pub readable : Readable L d
  pub exact : table_of d ≡ combined_table how (table_of b) (table_of c)
  pub words : CombinesWords how b c d
  pub marks : CombinesMarks how b c d
  -- "a table combined with itself, either way, accepts the table's words"
  pub itself : b ≡ c → SameWords b d
  -- "the order of the two changes no word"
  pub order : SameWords d (combined_bytes how c b)

-- .. of the bytes that are written
abbrev pub Promises : Limits → How → List ℕ → List ℕ → Result ℕ Refusal → List ℕ → Type 0
Promises L how b c r out = OnWriting r (λ n. Combination L how b c (take n out))

-- "the order of the two changes no word", of two calls, the second with the tables the other way round
abbrev pub EitherOrder : Result ℕ Refusal → List ℕ → Result ℕ Refusal → List ℕ → Type 0
EitherOrder r out r' out' = OnWriting r (λ n. OnWriting r' (λ k. SameWords (take n out) (take k out')))
