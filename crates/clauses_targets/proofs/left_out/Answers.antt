-- `clauses_targets::left_out` meets its contract: whether a target leaves the clause out, the targets to come tell. Assumes nothing.
use mathlib.Core.Path.{sym, ap, ◌∙◌}
use native.Mathlib.Omega.{arith}
use Rattle.lists.specs.Lists.{any}
use Rattle.clauses_emit.specs.Emit.{leaves, literals_of}
use Rattle.clauses_targets.proofs.Targeting.{target_next, targets_end, leaves-itself, leaves-both, leaves_on}
use Rattle.clauses_targets.proofs.left_out.Goals as goal

pub returns-then-q-target : goal.returns-then-q-target
returns-then-q-target c =
    let i = c.targets.invariant in
    let h = c.in-Some.ensures.steps in
    sym (i.left ∙ ap (any (leaves (literals_of c.args.premises) c.args.target)) (target_next _ _ _ c.requires.0 h.1.0 (h.1.1 ∙ i.size)) ∙ leaves-itself _ _ _ _ c.if-q-target.true)

pub returns-then-contains : goal.returns-then-contains
returns-then-contains c =
    let i = c.targets.invariant in
    let h = c.in-Some.ensures.steps in
    sym (i.left ∙ ap (any (leaves (literals_of c.args.premises) c.args.target)) (target_next _ _ _ c.requires.0 h.1.0 (h.1.1 ∙ i.size)) ∙ leaves-both _ _ _ _ c.joined-l.ensures c.opposed-other.ensures c.contains.ensures c.if-contains.true)

pub targets-preserved : goal.targets-preserved
targets-preserved c =
    let i = c.targets.invariant in
    let h = c.in-Some.ensures.steps in
    record {
      can_next = omega (arith, h.0, i.can_next);
      size = h.0 ∙ i.size;
      left = i.left ∙ ap (any (leaves (literals_of c.args.premises) c.args.target)) (target_next _ _ _ c.requires.0 h.1.0 (h.1.1 ∙ i.size)) ∙ leaves_on _ _ _ _ c.joined-l.ensures c.opposed-other.ensures c.contains.ensures c.if-q-target.false c.if-contains.false;
    }

pub returns : goal.returns
returns c =
    let i = c.targets.invariant in
    let h = c.in-None.ensures.steps in
    sym (i.left ∙ ap (any (leaves (literals_of c.args.premises) c.args.target)) (targets_end _ (omega (arith, h.1.0, i.size))))
