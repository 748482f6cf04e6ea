-- A table that is written from the keys of its records, its trailer, and the answer where bytes are to be written. Assumes nothing.
use Rattle.std.specs.Prelude.{true, false, Ok, Err, List, [], ◌∷◌, map, ℕ, ◌+◌, ◌*◌, length, leb}
use Rattle.lists.specs.Lists.{concat_map, over}
use Rattle.table_spec.specs.File.{Table, bytes16}
use Rattle.quotient_spec.specs.Quotient.{QuotientDone}
use Rattle.refusals.specs.declared.Refusal.TheVariants.{OutputLength}
use Rattle.table_write.specs.Keys.{record_of}

-- a table of a version whose records are given by their keys
abbrev pub keyed_table : ℕ → List ℕ → List ℕ → List ℕ → List ℕ → List ℕ → Table
keyed_table version symbols states internals calls returns =
    record {
      version = version;
      symbols = symbols;
      states = states;
      internals = map (record_of 3) internals;
      calls = map (record_of 3) calls;
      returns = map (record_of 4) returns;
    }

-- the trailer of a version after so many symbols, states, internals, calls and returns
unfoldable pub trailer_from : ℕ → ℕ → ℕ → ℕ → ℕ → ℕ → List ℕ
trailer_from v y s i c r = concat_map bytes16 ((y + (s + (3 * i + (3 * c + 4 * r)))) ∷ (s + (3 * i + (3 * c + 4 * r))) ∷ (3 * i + (3 * c + 4 * r)) ∷ (3 * c + 4 * r) ∷ (4 * r) ∷ v ∷ [])

-- the answer and the output where these bytes are to be written: "21 output short"
unfoldable pub written_for : List ℕ → List ℕ → QuotientDone
written_for bytes out = elim (leb (length bytes) (length out)) [
  | true ↦ record { answer = Ok (length bytes); out = over bytes out }
  | false ↦ record { answer = Err OutputLength; out = out }
]
