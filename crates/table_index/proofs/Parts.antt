-- The sections of a table that was read are lent. Assumes nothing.
use mathlib.Core.Path.{◌≡◌, ap, ◌∙◌, subst}
use mathlib.Core.Bool.{true}
use mathlib.Core.List.{List, Memᴰ}
use Prim.Native.Nat.{ℕ, ◌≤◌}
use native.Mathlib.Omega.{arith}
use lib.ListN.{length}
use Rattle.limits.specs.Limits.{symbol_most}
use Rattle.limits.specs.declared.Limits.{Limits}
use Rattle.limits.proofs.Within.{limits-within}
use Rattle.table_spec.specs.File.{Table, table_of, records}
use Rattle.table_spec.specs.Limits.{return_limit}
use Rattle.table_spec.specs.Reading.{ascend}
use Rattle.table_spec.specs.Language.{count}
use Rattle.table_spec.specs.declared.Starts.{Starts}
use Rattle.table_spec.proofs.Bytes.{read_well_formed}
use Rattle.table_spec.proofs.Passed.{formed_tested}
use Rattle.table_spec.proofs.Facts.{Fit, internals-fit, calls-fit, returns-fit, most-states}
use Rattle.table_view.specs.Sections.{part_of, ReadAs}
use Rattle.table_view.specs.declared.Section.TheVariants.{States, Internals, Calls, Returns}
use Rattle.table_view.proofs.Parts.{states-read, internals-read, calls-read, returns-read}
use Rattle.table_index.specs.Index.{Lent, LentParts}

-- a section's records, by the table's
lent :
    {t : Table} {kind w n : ℕ} {rs : List (List ℕ)} {section : List ℕ} → n ≡ count t → length t.symbols ≤ symbol_most → records w section ≡ rs
    → ascend rs ≡ true → length rs ≤ return_limit → Fit t kind w rs → Lent w n section
lent e most f up few fit =
    record {
      in_order = ap ascend f ∙ up;
      few = omega (arith, ap length f, few);
      states = λ r m i d k. omega (arith, e, fit.states r (subst (λ xs. Memᴰ r xs) f m) i d k);
      symbols = λ r m. omega (arith, most, (fit.symbol r (subst (λ xs. Memᴰ r xs) f m)).0);
    }

pub parts-lent :
    {L : Limits} (b : List ℕ) {s : Starts} → ReadAs L b s → {states internals calls returns : List ℕ} → states ≡ part_of b s States
    → internals ≡ part_of b s Internals → calls ≡ part_of b s Calls → returns ≡ part_of b s Returns → LentParts states internals calls returns
parts-lent {L} b h e1 e2 e3 e4 =
    let wf = read_well_formed L b h.readable in
    let c = formed_tested wf in
    let all = ap length (states-read h e1) in
    let most : length (table_of b).symbols ≤ symbol_most = omega (arith, c.symbols-few, (limits-within wf.limits).symbols) in
    record {
      few = omega (arith, all, most-states wf);
      internals-lent = lent all most (internals-read h e2) c.internals-ascend (omega (arith, c.internals-few)) (internals-fit wf);
      calls-lent = lent all most (calls-read h e3) c.calls-ascend (omega (arith, c.calls-few)) (calls-fit wf);
      returns-lent = lent all most (returns-read h e4) c.returns-ascend c.returns-few (returns-fit wf);
    }
