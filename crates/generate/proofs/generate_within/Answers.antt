-- `generate::generate_within` meets its contract: 39, 35, or what the draws give. Assumes nothing.
use Rattle.std.proofs.Common.{sym, ◌∙◌}
use Rattle.generate_spec.specs.Loads.{Load, load_of}
use Rattle.generate_spec.proofs.Theorems.{generated}
use Rattle.generate.proofs.Writing.{no_limits, no_sizes, small, drawn}
use Rattle.generate.proofs.generate_within.Goals as goal

pub returns-then-not-limits_fit : goal.returns-then-not-limits_fit
returns-then-not-limits_fit c =
    let load : Load = load_of c.args.seed c.args.states c.args.internals c.args.calls c.args.returns c.args.density in
    let the_facts = generated c.args.limits load c.args.out.now (no_limits c.args.limits load c.args.out.now (sym c.limits_fit.ensures ∙ c.if-not-limits_fit.true)) in
    record { answers = the_facts.0; number = the_facts.1.0; promises = the_facts.1.1 }

pub returns-then-not-sizes_fit : goal.returns-then-not-sizes_fit
returns-then-not-sizes_fit c =
    let load : Load = load_of c.args.seed c.args.states c.args.internals c.args.calls c.args.returns c.args.density in
    let the_facts = generated c.args.limits load c.args.out.now (no_sizes c.args.limits load c.args.out.now (sym c.limits_fit.ensures ∙ c.if-not-limits_fit.false) (sym c.sizes_fit.ensures ∙ c.if-not-sizes_fit.true)) in
    record { answers = the_facts.0; number = the_facts.1.0; promises = the_facts.1.1 }

pub write_drawn-requires : goal.write_drawn-requires
write_drawn-requires c =
    let load : Load = load_of c.args.seed c.args.states c.args.internals c.args.calls c.args.returns c.args.density in
    small c.args.limits load c.args.out.now (sym c.limits_fit.ensures ∙ c.if-not-limits_fit.false) (sym c.sizes_fit.ensures ∙ c.if-not-sizes_fit.false)

pub returns : goal.returns
returns c =
    let load : Load = load_of c.args.seed c.args.states c.args.internals c.args.calls c.args.returns c.args.density in
    let the_facts = generated c.args.limits load c.args.out.now (c.write_drawn.ensures ∙ drawn c.args.limits load c.args.out.now (sym c.limits_fit.ensures ∙ c.if-not-limits_fit.false) (sym c.sizes_fit.ensures ∙ c.if-not-sizes_fit.false)) in
    record { answers = the_facts.0; number = the_facts.1.0; promises = the_facts.1.1 }
