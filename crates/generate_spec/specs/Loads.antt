-- A load that can be made again (document 02, request (x)). Assumes nothing.
use Rattle.std.specs.Prelude.{Bool, true, false, ◌&&◌, Result, Ok, Err, List, [], ◌∷◌, map, ℕ, ◌+◌, ◌-◌, ◌*◌, ◌/◌, ◌%◌, ◌^◌, length, replicate, eqb, ltb, leb}
use Rattle.lists.specs.Lists.{concat_map, upto, over, first_failed, Says}
use Rattle.limits.specs.declared.Limits.{Limits}
use Rattle.refusals.specs.declared.Refusal.{Refusal}
use Rattle.refusals.specs.Refusals.{refusal, number_in, one_value, values_in}
use Rattle.limits.specs.Limits.{limits_fit}
use Rattle.table_spec.specs.Limits.{move_limit, return_limit}
use Rattle.table_spec.specs.File.{Table, bytes_of}
use Rattle.quotient_spec.specs.Quotient.{bit_of, QuotientDone}

-- "a seed of 32 bits"; "Given are the state count, the counts of internal, call and return symbols .. and a density"
pub record Load : Type 0 where
  pub seed : ℕ
  pub states : ℕ
  pub internals : ℕ
  pub calls : ℕ
  pub returns : ℕ
  pub density : ℕ

abbrev pub load_of : ℕ → ℕ → ℕ → ℕ → ℕ → ℕ → Load
load_of seed states internals calls returns density =
    record { seed = seed; states = states; internals = internals; calls = calls; returns = returns; density = density }

-- "The draw is s times 1,664,525 plus 1,013,904,223, modulo 2 to the 32."
unfoldable pub draw : ℕ → ℕ
draw s = (s * 1664525 + 1013904223) % 2 ^ 32

-- "the counts of internal, call and return symbols, numbered in that order": the byte of symbol a
unfoldable pub kind_of : ℕ → ℕ → ℕ → ℕ
kind_of internals calls a = elim (ltb a internals) [ true ↦ 0 | false ↦ elim (ltb a (internals + calls)) [ true ↦ 1 | false ↦ 2 ] ]

unfoldable pub symbol_bytes : ℕ → ℕ → ℕ → List ℕ
symbol_bytes internals calls k = map (kind_of internals calls) (upto k)

-- "State 0 is initial and the last state accepting."
unfoldable pub state_byte : ℕ → ℕ → ℕ
state_byte n q = bit_of (eqb q 0) + 2 * bit_of (eqb (q + 1) n)

unfoldable pub state_bytes : ℕ → List ℕ
state_bytes n = map (state_byte n) (upto n)

-- every list with one element of each of the lists, the first element the slowest
unfoldable pub tuples : List (List ℕ) → List (List ℕ)
tuples [] = [] ∷ []
tuples (xs ∷ xss) = concat_map (λ x. map (λ r. x ∷ r) (tuples xss)) xs

-- k numbers from `from` on
unfoldable pub span : ℕ → ℕ → List ℕ
span from k = map (λ a. from + a) (upto k)

-- "Each possible record, in file order": of w bytes, a state, one of k symbols from `from` on, then one state or two
unfoldable pub possible : ℕ → ℕ → ℕ → ℕ → List (List ℕ)
possible w n from k = tuples (upto n ∷ span from k ∷ replicate (w - 2) (upto n))

-- "takes one draw and is present when the new s divided by 65,536, rounded down, is below the density"
unfoldable pub present : ℕ → ℕ → List (List ℕ) → List (List ℕ)
present density s [] = []
present density s (r ∷ rs) = elim (ltb (draw s / 65536) density) [ true ↦ r ∷ present density (draw s) rs | false ↦ present density (draw s) rs ]

-- s after a draw for each record
unfoldable pub after : ℕ → List (List ℕ) → ℕ
after s [] = s
after s (r ∷ rs) = after (draw s) rs

module _ (g : Load) where
  -- the possible records of each kind, and s before the first of them
  unfoldable pub possible_internals : List (List ℕ)
  possible_internals = possible 3 g.states 0 g.internals

  unfoldable pub possible_calls : List (List ℕ)
  possible_calls = possible 3 g.states g.internals g.calls

  unfoldable pub possible_returns : List (List ℕ)
  possible_returns = possible 4 g.states (g.internals + g.calls) g.returns

  unfoldable pub seed_calls : ℕ
  seed_calls = after g.seed possible_internals

  unfoldable pub seed_returns : ℕ
  seed_returns = after seed_calls possible_calls

  -- the table described: "The file is of version 1"
  unfoldable pub described : Table
  described =
      record {
        version = 1;
        symbols = symbol_bytes g.internals g.calls (g.internals + (g.calls + g.returns));
        states = state_bytes g.states;
        internals = present g.density g.seed possible_internals;
        calls = present g.density seed_calls possible_calls;
        returns = present g.density seed_returns possible_returns;
      }

-- "The file equals this description byte for byte"
unfoldable pub described_bytes : Load → List ℕ
described_bytes g = bytes_of (described g)

-- 35: "for state or symbol counts or density outside their limits", the symbols counted together
unfoldable pub sizes_fit : Limits → ℕ → ℕ → ℕ → Bool
sizes_fit L states symbols density = leb 1 states && leb states L.states && leb symbols L.symbols && leb density 65536

-- 36: "more records of a kind than the file permits"
unfoldable pub records_few : Table → Bool
records_few t = leb (length t.internals) move_limit && (leb (length t.calls) move_limit && leb (length t.returns) return_limit)

-- 39; "35 .., 36 .., then 21"; or 0
unfoldable pub generate_number : Limits → Load → List ℕ → ℕ
generate_number L g out =
    first_failed (
    (39, limits_fit L)
    ∷ (35, sizes_fit L g.states (g.internals + (g.calls + g.returns)) g.density)
    ∷ (36, records_few (described g))
    ∷ (21, leb (length (described_bytes g)) (length out))
    ∷ [])

-- the operation: "The answer is its length; later bytes keep their content."
unfoldable pub generate_of : Limits → Load → List ℕ → QuotientDone
generate_of L g out = elim (eqb (generate_number L g out) 0) [
  | true ↦ record { answer = Ok (length (described_bytes g)); out = over (described_bytes g) out }
  | false ↦ record { answer = Err (refusal (generate_number L g out)); out = out }
]

-- the answer by its number and its values
abbrev pub GenerateSays : Limits → Load → List ℕ → Result ℕ Refusal → Type 0
GenerateSays L g out r = Says (number_in r) (values_in one_value r) (generate_number L g out) (length (described_bytes g) ∷ [])
