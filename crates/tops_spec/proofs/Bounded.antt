-- What the tops ask of a table: its records have their widths and name states, and there are no more states than words. Assumes nothing.
use mathlib.Core.Path.{◌≡◌, sym}
use mathlib.Core.Logic.{◌≢◌}
use mathlib.Core.List.Memᴰ
use mathlib.Core.List.{List, Memᴰ}
use Prim.Native.Nat.{ℕ, ◌<◌, ◌≤◌}
use native.Mathlib.Omega.{arith}
use native.Mathlib.Decide.{dec_lt}
use lib.ListN.{length, get_or, get_or-eq_default}
use Rattle.vpa.specs.Automata.{Lawful}
use Rattle.table_spec.specs.File.{Table}
use Rattle.table_spec.specs.Language.{count, byte_of, automaton}
use Rattle.table_spec.proofs.Facts.{three_bytes, four_bytes}

-- an internal or a call, a return
pub record Moves (n : ℕ) (r : List ℕ) : Type 0 where
  pub wide : length r ≡ 3
  pub from : get_or r 0 0 < n
  pub to : get_or r 2 0 < n

pub record Pops (n : ℕ) (r : List ℕ) : Type 0 where
  pub wide : length r ≡ 4
  pub from : get_or r 0 0 < n
  pub under : get_or r 2 0 < n
  pub to : get_or r 3 0 < n

pub record Bounded (m : ℕ) (t : Table) : Type 0 where
  pub states : count t ≤ m
  pub internals : (r : List ℕ) → Memᴰ r t.internals → Moves (count t) r
  pub calls : (r : List ℕ) → Memᴰ r t.calls → Moves (count t) r
  pub returns : (r : List ℕ) → Memᴰ r t.returns → Pops (count t) r

module _ {m : ℕ} {t : Table} (bounded : Bounded m t) where
  pub an_internal : (r : List ℕ) → Memᴰ r t.internals → (automaton t).internal (get_or r 0 0) (get_or r 1 0) (get_or r 2 0)
  an_internal r i = Memᴰ.cast (sym (three_bytes r (bounded.internals r i).wide)) i

  pub a_call : (r : List ℕ) → Memᴰ r t.calls → (automaton t).call (get_or r 0 0) (get_or r 1 0) (get_or r 2 0)
  a_call r i = Memᴰ.cast (sym (three_bytes r (bounded.calls r i).wide)) i

  pub a_return : (r : List ℕ) → Memᴰ r t.returns → (automaton t).return (get_or r 0 0) (get_or r 1 0) (get_or r 2 0) (get_or r 3 0)
  a_return r i = Memᴰ.cast (sym (four_bytes r (bounded.returns r i).wide)) i

  named : (q : ℕ) → byte_of t q ≢ 0 → q < count t
  named q h = go (dec_lt q (count t))
    where
      go : Dec (q < count t) → q < count t
      go (yes l) = l
      go (no n) = absurd (h (get_or-eq_default t.states 0 (omega arith)))

  -- the automaton of the table names states only
  pub lawful : Lawful (automaton t)
  lawful = record {
    initially = λ {q} i. named q (omega arith);
    finally = λ {q} i. named q (omega arith);
    marked = λ i. i.0;
    internals = λ r. ((bounded.internals _ r).from, (bounded.internals _ r).to);
    calls = λ r. ((bounded.calls _ r).from, (bounded.calls _ r).to);
    returns = λ r. ((bounded.returns _ r).from, (bounded.returns _ r).under, (bounded.returns _ r).to);
  }
