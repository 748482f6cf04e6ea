-- Examples of loads: one list of what the definitions answer, computed by the checker, and one list of what they must answer. Assumes nothing.
use mathlib.Core.Path.{◌≡◌, refl}
use mathlib.Core.List.{List, [], ◌∷◌, map}
use Prim.Native.Nat.{ℕ}
use lib.ListN.{replicate}
use Rattle.lists.specs.Lists.{concat_map, upto, concat, first_failed}
use Rattle.limits.specs.declared.Limits.{Limits}
use Rattle.limits.specs.Limits.{standard, limits_fit}
use Rattle.table_spec.specs.File.{bytes16, from_returns, from_calls, from_internals, from_states, from_symbols, trailer_of, bytes_of}
use Rattle.quotient_spec.specs.Quotient.{bit_of}
use Rattle.generate_spec.specs.Loads.{Load, load_of, draw, kind_of, symbol_bytes, state_byte, state_bytes, tuples, span, possible, present, after, possible_internals, possible_calls, possible_returns, seed_calls, seed_returns, described, described_bytes, sizes_fit, records_few, generate_number}

-- two states and a symbol of each kind, drawn from seed 0: the first draw is 1,013,904,223, above 15,470 times 65,536
pub drawn : described_bytes (load_of 0 2 1 1 1 20000) ≡ 0 ∷ 1 ∷ 2 ∷ 1 ∷ 2 ∷ 0 ∷ 0 ∷ 0 ∷ 0 ∷ 0 ∷ 1 ∷ 1 ∷ 2 ∷ 1 ∷ 0 ∷ 15 ∷ 0 ∷ 12 ∷ 0 ∷ 10 ∷ 0 ∷ 4 ∷ 0 ∷ 4 ∷ 0 ∷ 1 ∷ 0 ∷ []
unfolding upto bytes16 from_returns from_calls from_internals from_states from_symbols trailer_of bytes_of bit_of draw kind_of symbol_bytes state_byte state_bytes tuples span possible present after possible_internals possible_calls possible_returns seed_calls seed_returns described described_bytes
drawn = refl

-- the limits, the load, and room for so many bytes
abbrev number_for : Limits × Load × ℕ → ℕ
number_for (L, g, room) = generate_number L g (replicate room 7)

abbrev none : Limits
none = record { states = 0; symbols = 64 }

abbrev loads : List (Limits × Load × ℕ)
loads =
    -- exactly as long as the file; one byte less
    (standard, load_of 0 2 1 1 1 20000, 27)
    ∷ (standard, load_of 0 2 1 1 1 20000, 26)
    -- no state, 25 states, 33 symbols, and a density over 65,536: before 21
    ∷ (standard, load_of 0 0 1 1 1 20000, 0)
    ∷ (standard, load_of 0 25 1 1 1 20000, 0)
    ∷ (standard, load_of 0 2 31 1 1 20000, 0)
    ∷ (standard, load_of 0 2 1 1 1 65537, 0)
    -- 1,152 internals are possible: 36 where all are present, before 21; not where none is
    ∷ (standard, load_of 0 24 2 0 0 65536, 0)
    ∷ (standard, load_of 0 24 2 0 0 0, 38)
    -- 39 before 35
    ∷ (none, load_of 0 0 1 1 1 20000, 0)
    ∷ []

pub numbers : map number_for loads ≡ 0 ∷ 21 ∷ 35 ∷ 35 ∷ 35 ∷ 35 ∷ 36 ∷ 0 ∷ 39 ∷ []
unfolding upto bytes16 from_returns from_calls from_internals from_states from_symbols trailer_of bytes_of bit_of draw kind_of symbol_bytes state_byte state_bytes tuples span possible present after possible_internals possible_calls possible_returns seed_calls seed_returns described described_bytes first_failed limits_fit sizes_fit records_few generate_number
numbers = refl
