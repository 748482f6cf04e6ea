-- What a written quotient is (demand 2; document 02, (i), (iv), (v) and (xii)): the quotient of source 000 under the map, without the input's dead
-- returns. Assumes nothing.
use Rattle.std.specs.Prelude.{◌≡◌, ◌↔◌, Result, List, ℕ, take}
use Rattle.lists.specs.Lists.{OnValues}
use Rattle.vpa.specs.Quotients.{quotient, EveryStep}
use Rattle.limits.specs.declared.Limits.{Limits}
use Rattle.refusals.specs.declared.Refusal.{Refusal}
use Rattle.refusals.specs.Refusals.{number_in, one_value, values_in}
use Rattle.table_spec.specs.File.{table_of}
use Rattle.table_spec.specs.Reading.{Readable}
use Rattle.table_spec.specs.Language.{count, automaton_of, SameWords, SameMarks, OpenByNeither}
use Rattle.table_spec.specs.Maps.{class_of, classes}
use Rattle.script_spec.specs.Demands.{SameScripts}

-- c holds the quotient of b under m: "one state a class, initial or accepting if a member is", and the images of internals, calls and live
-- returns. "They are again a readable table"; request (v): "The quotient has its input's version and the members' mark."
pub record IsQuotient (L : Limits) (b m c : List ℕ) : Type 0 where
  pub readable : Readable L c
  pub version : (table_of c).version ≡ (table_of b).version
  pub symbols : (table_of c).symbols ≡ (table_of b).symbols
  pub states : count (table_of c) ≡ classes m
  pub initial : (P : ℕ) → (automaton_of c).initial P ↔ (quotient (automaton_of b) (class_of m)).initial P
  pub accepting : (P : ℕ) → (automaton_of c).accepting P ↔ (quotient (automaton_of b) (class_of m)).accepting P
  pub marks : (P k : ℕ) → (automaton_of c).mark P k ↔ (quotient (automaton_of b) (class_of m)).mark P k
  pub internals : (P a Q : ℕ) → (automaton_of c).internal P a Q ↔ (quotient (automaton_of b) (class_of m)).internal P a Q
  pub calls : (P a Q : ℕ) → (automaton_of c).call P a Q ↔ (quotient (automaton_of b) (class_of m)).call P a Q
  pub returns : (P a U Q : ℕ) → (automaton_of c).return P a U Q ↔ (quotient (automaton_of b) (class_of m)).return P a U Q

-- request (xii), of the table b, the map m and the quotient c: "at every step"
abbrev pub ShowsSteps : List ℕ → List ℕ → List ℕ → Type 0
ShowsSteps b m c = EveryStep (automaton_of b) (automaton_of c) (class_of m)

-- where the quotient was written, of its bytes: "the output's first bytes, as many as that length"
abbrev pub OnWriting : Result ℕ Refusal → (ℕ → Type 0) → Type 0
OnWriting r P = OnValues (number_in r) (values_in one_value r) (λ v. P (v 0))

abbrev pub WritesQuotient : Limits → Result ℕ Refusal → List ℕ → List ℕ → List ℕ → Type 0
WritesQuotient L r b m out = OnWriting r (λ n. IsQuotient L b m (take n out))

-- demand 3: "for every word of any length, the written quotient accepts the word exactly when the input does"
abbrev pub WritesSameWords : Result ℕ Refusal → List ℕ → List ℕ → Type 0
WritesSameWords r b out = OnWriting r (λ n. SameWords b (take n out))

-- request (v): "For each mark, the words that end on the empty stack in a state of that mark are the same before and after."
abbrev pub WritesSameMarks : Result ℕ Refusal → List ℕ → List ℕ → Type 0
WritesSameMarks r b out = OnWriting r (λ n. SameMarks b (take n out))

-- request (iv): "scripts left open are accepted by neither"
abbrev pub WritesNoneOpen : Result ℕ Refusal → List ℕ → List ℕ → Type 0
WritesNoneOpen r b out = OnWriting r (λ n. OpenByNeither b (take n out))

-- request (xii): "the input must have a run over that word whose states and stacks, at every step, are members of the classes shown"
abbrev pub WritesSteps : Result ℕ Refusal → List ℕ → List ℕ → List ℕ → Type 0
WritesSteps r b m out = OnWriting r (λ n. ShowsSteps b m (take n out))

-- request (i): "Tables and reduced tables must give one answer to every script read", at the limits in force
abbrev pub WritesSameScripts : Limits → Result ℕ Refusal → List ℕ → List ℕ → Type 0
WritesSameScripts L r b out = OnWriting r (λ n. SameScripts L b (take n out))

-- all of it, of one quotient
pub record Promises (L : Limits) (b m : List ℕ) (r : Result ℕ Refusal) (out : List ℕ) : Type 0 where
  pub exact : WritesQuotient L r b m out
  pub words : WritesSameWords r b out
  pub none_open : WritesNoneOpen r b out
  pub steps : WritesSteps r b m out
  pub marks : WritesSameMarks r b out
  pub same : WritesSameScripts L r b out
