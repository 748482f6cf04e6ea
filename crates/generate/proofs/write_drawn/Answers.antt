-- `generate::write_drawn` meets its contract: 36 by the first kind that has too many, or the keys are written. Assumes nothing.
use Rattle.generate_spec.specs.Loads.{load_of}
use Rattle.generate.proofs.Keyed.{internals_many, calls_many, returns_many, few_drawn}
use Rattle.generate.proofs.write_drawn.Goals as goal

pub returns-in_default : goal.returns-in_default
returns-in_default c =
    internals_many (load_of c.args.seed c.args.states c.args.internals c.args.calls c.args.returns c.args.density) c.args.out.now c.in_default.ensures.many

pub returns-in_default-collect : goal.returns-in_default-collect
returns-in_default-collect c =
    calls_many (load_of c.args.seed c.args.states c.args.internals c.args.calls c.args.returns c.args.density) c.args.out.now c.in-Some.ensures c.in_default-collect.ensures.many

pub returns-in_default-collect-2 : goal.returns-in_default-collect-2
returns-in_default-collect-2 c =
    returns_many (load_of c.args.seed c.args.states c.args.internals c.args.calls c.args.returns c.args.density) c.args.out.now c.in-Some.ensures c.in-Some-collect.ensures c.in_default-collect-2.ensures.many

pub returns : goal.returns
returns c =
    few_drawn (load_of c.args.seed c.args.states c.args.internals c.args.calls c.args.returns c.args.density) c.args.out.now c.in-Some.ensures c.in-Some-collect.ensures c.in-Some-collect-2.ensures c.requires c.write_keys.ensures
