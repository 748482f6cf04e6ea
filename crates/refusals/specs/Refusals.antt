-- The refusals by their numbers, and the answer of a call by its number (document 01, "Refused calls"; document 02). Assumes nothing.
use Rattle.std.specs.Prelude.{◌≡◌, ◌≢◌, true, false, List, [], ◌∷◌, ℕ, eqb, Result, Ok, Err}
use Rattle.refusals.specs.declared.Refusal.{Refusal}
use Rattle.refusals.specs.declared.Refusal.TheVariants.{Length, Version, Distances, Counts, Bytes, NoInitial, Records, Order, ListLength, ListForm, NoneExists, Spent, AnswerLength, MapLength, Numbering, Disagreement, InternalUnmatched, CallUnmatched, ReturnUnmatched, OutputLength, MapRoom, ScriptSymbol, OpenCalls, Lines, LineState, Lengths, Load, LoadRecords, Symbols, Choices, LimitsRange, NeitherMap}

-- a refusal's number
abbrev pub number_of : Refusal → ℕ
number_of Length = 1
number_of Version = 2
number_of Distances = 3
number_of Counts = 4
number_of Bytes = 5
number_of NoInitial = 6
number_of Records = 7
number_of Order = 8
number_of ListLength = 10
number_of ListForm = 11
number_of NoneExists = 12
number_of Spent = 13
number_of AnswerLength = 14
number_of MapLength = 15
number_of Numbering = 16
number_of Disagreement = 17
number_of InternalUnmatched = 18
number_of CallUnmatched = 19
number_of ReturnUnmatched = 20
number_of OutputLength = 21
number_of MapRoom = 22
number_of ScriptSymbol = 30
number_of OpenCalls = 31
number_of Lines = 32
number_of LineState = 33
number_of Lengths = 34
number_of Load = 35
number_of LoadRecords = 36
number_of Symbols = 37
number_of Choices = 38
number_of LimitsRange = 39
number_of NeitherMap = 40

-- all of them, ascending
unfoldable pub every : List Refusal
every = Length ∷ Version ∷ Distances ∷ Counts ∷ Bytes ∷ NoInitial ∷ Records ∷ Order ∷ ListLength ∷ ListForm ∷ NoneExists ∷ Spent ∷ AnswerLength ∷ MapLength ∷ Numbering ∷ Disagreement ∷ InternalUnmatched ∷ CallUnmatched ∷ ReturnUnmatched ∷ OutputLength ∷ MapRoom ∷ ScriptSymbol ∷ OpenCalls ∷ Lines ∷ LineState ∷ Lengths ∷ Load ∷ LoadRecords ∷ Symbols ∷ Choices ∷ LimitsRange ∷ NeitherMap ∷ []

-- the first of them that has the number
unfoldable pub first_with : ℕ → List Refusal → Refusal
first_with k [] = LimitsRange
first_with k (r ∷ rs) = elim (eqb (number_of r) k) [ true ↦ r | false ↦ first_with k rs ]

-- the refusal of a number
unfoldable pub refusal : ℕ → Refusal
refusal k = first_with k every

-- some refusal has the number; or it is 0, which no refusal has
abbrev pub Known : ℕ → Type 0
Known k = k ≢ 0 → number_of (refusal k) ≡ k

-- the answer of a call by its number: "A refusal returns its number alone", and 0 is none
abbrev pub answered : {A : Type 0} → ℕ → A → Result A Refusal
answered k x = elim (eqb k 0) [ true ↦ Ok x | false ↦ Err (refusal k) ]

-- what a list of tests gives, by the number of the first that fails
abbrev pub tested : ℕ → Result (Unit {0}) Refusal
tested k = answered k tt

-- an answer's number, 0 where it is none
abbrev pub number_in : {A : Type 0} → Result A Refusal → ℕ
number_in (Ok x) = 0
number_in (Err r) = number_of r

-- an answer that is one number, as a list of values
abbrev pub one_value : ℕ → List ℕ
one_value x = x ∷ []

-- an answer's values, none with a refusal
abbrev pub values_in : {A : Type 0} → (A → List ℕ) → Result A Refusal → List ℕ
values_in values (Ok x) = values x
values_in values (Err r) = []
