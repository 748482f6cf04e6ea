-- What it says that 39 does not apply, and each way in which it does. Assumes nothing.
use mathlib.Core.Path.{◌≡◌, refl, sym}
use mathlib.Core.Bool.{true, false}
use Prim.Native.Nat.{◌≤◌, ◌<◌}
use lib.Dec.{leb}
use borrow.Author.Tests.{leb-true, le-leb, lt-leb}
use Rattle.lists.proofs.Members.{and-true}
use Rattle.limits.specs.declared.Limits.{Limits}
use Rattle.limits.specs.Limits.{standard, state_most, symbol_most, limits_fit}

pub record Within (L : Limits) : Type 0 where
  pub some-state : 1 ≤ L.states
  pub states : L.states ≤ state_most
  pub some-symbol : 1 ≤ L.symbols
  pub symbols : L.symbols ≤ symbol_most

pub limits-within : {L : Limits} → limits_fit L ≡ true → Within L
unfolding limits_fit
limits-within e =
    let c = and-true _ _ e in
    let b = and-true _ _ c.0 in
    let a = and-true _ _ b.0 in
    record { some-state = leb-true _ _ a.0; states = leb-true _ _ a.1; some-symbol = leb-true _ _ b.1; symbols = leb-true _ _ c.1 }

pub standard-fits : limits_fit standard ≡ true
unfolding limits_fit
standard-fits = refl
