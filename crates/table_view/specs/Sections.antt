-- The table of a version and five sections, and a read table as it is passed on. Assumes nothing.
use Rattle.std.specs.Prelude.{◌≡◌, List, ℕ, get_or}
use Rattle.std.proofs.Math.Seq.{slice}
use Rattle.limits.specs.declared.Limits.{Limits}
use Rattle.table_spec.specs.File.{Table, trailer, records}
use Rattle.table_spec.specs.Reading.{Readable, starts_of}
use Rattle.table_spec.specs.declared.Starts.{Starts}
use Rattle.table_view.specs.declared.Section.{Section}
use Rattle.table_view.specs.declared.Section.TheVariants.{Symbols, States, Internals, Calls, Returns}

-- the table that a version and five parts of a file give: symbols, states, internals, calls, returns; what a function is not lent is 0 or empty
unfoldable pub sectioned : ℕ → List ℕ → List ℕ → List ℕ → List ℕ → List ℕ → Table
sectioned version symbols states internals calls returns =
    record {
      version = version;
      symbols = symbols;
      states = states;
      internals = records 3 internals;
      calls = records 3 calls;
      returns = records 4 returns;
    }

-- "a read table is passed on as the lent bytes together with its five section starts"
pub record ReadAs (L : Limits) (b : List ℕ) (s : Starts) : Type 0 where
  pub readable : Readable L b
  pub starts : s ≡ starts_of b

-- the same at whatever limits: what is handed on inside does not look at them again
pub record HasRead (b : List ℕ) (s : Starts) : Type 0 where
  pub limits : Limits
  pub known : ReadAs limits b s

-- "Each section is a part of the file that begins where the one before it ends", by the starts that the bytes are passed on with
unfoldable pub part_of : List ℕ → Starts → Section → List ℕ
part_of b s Symbols = slice s.symbols s.states b
part_of b s States = slice s.states s.internals b
part_of b s Internals = slice s.internals s.calls b
part_of b s Calls = slice s.calls s.returns b
part_of b s Returns = slice s.returns (trailer b) b

-- "States, one byte each": a state's byte; 0 past the count
unfoldable pub state_byte : List ℕ → Starts → ℕ → ℕ
state_byte b s q = get_or (part_of b s States) q 0
