-- `combine_keys::shift::add_shifted` meets its contract: the keys of the records so far are added. Assumes nothing.
use native.Mathlib.Omega.{arith}
use mathlib.Core.Path.{◌≡◌, refl, ap, ◌∙◌}
use mathlib.Core.List.{List, [], ◌∷◌, Memᴰ}
use Prim.Native.Nat.{ℕ, ◌+◌, ◌<◌}
use lib.ListN.{length, take, drop}
use lib.Seq.{take_all}
use Rattle.table_find.specs.Keys.{key}
use Rattle.table_spec.proofs.Chunks.{chunk_on, chunk_end}
use Rattle.combine_keys.specs.Adding.{shifted_keys}
use Rattle.combine_keys.proofs.Adding.{add_on, add_stop, added}
use Rattle.combine_keys.proofs.shift.add_shifted.Goals as goal

number_is : (w : ℕ) (x : List ℕ) {r : ℕ} → r ≡ key (take w (drop 0 x)) → length x ≡ w → r ≡ key x
number_is w x e l = e ∙ ap key (take_all w x (omega arith))

small : (c : goal.After-number_at) → key c.in-Some.fields.now + c.args.by < 4294967296
small c =
    let i = c.records.invariant in
    let h = c.in-Some.ensures.steps in
    c.requires.2 c.in-Some.fields.now (i.among _ (rw (chunk_on _ _ _ (omega (arith, c.requires.0)) h.1.0 (h.1.1 ∙ i.size)) (Memᴰ.head refl)))

pub overflow_add-number_at : goal.overflow_add-number_at
overflow_add-number_at c = omega (arith, number_is c.args.width c.in-Some.fields.now c.number_at.ensures (c.in-Some.ensures.steps.1.1 ∙ c.records.invariant.size), small c)

pub push-requires : goal.push-requires
push-requires c = omega (arith, number_is c.args.width c.in-Some.fields.now c.number_at.ensures (c.in-Some.ensures.steps.1.1 ∙ c.records.invariant.size), small c)

pub returns-in_err-held : goal.returns-in_err-held
unfolding shifted_keys
returns-in_err-held c =
    let i = c.records.invariant in
    let h = c.in-Some.ensures.steps in
    add_stop i.walk _ _ (chunk_on _ _ _ (omega (arith, c.requires.0)) h.1.0 (h.1.1 ∙ i.size)) _ _ (ap (λ x. (x + c.args.by) ∷ []) (number_is c.args.width c.in-Some.fields.now c.number_at.ensures (h.1.1 ∙ i.size))) c.from_residual.ensures c.in_err-held.ensures

pub records-preserved : goal.records-preserved
records-preserved c =
    let i = c.records.invariant in
    let h = c.in-Some.ensures.steps in
    record {
      can_next = omega (arith, h.0, i.can_next);
      size = h.0 ∙ i.size;
      among = λ r m. i.among r (rw (chunk_on _ _ _ (omega (arith, c.requires.0)) h.1.0 (h.1.1 ∙ i.size)) (Memᴰ.tail m));
      walk = add_on i.walk _ _ (chunk_on _ _ _ (omega (arith, c.requires.0)) h.1.0 (h.1.1 ∙ i.size)) _ _ (ap (λ x. (x + c.args.by) ∷ []) (number_is c.args.width c.in-Some.fields.now c.number_at.ensures (h.1.1 ∙ i.size))) c.push.auto.keys c.in_ok-held.ensures;
    }

pub returns : goal.returns
unfolding shifted_keys
returns c = added c.records.invariant.walk (chunk_end _ (omega (arith, c.in-None.ensures.steps.1.0, c.records.invariant.size)))
