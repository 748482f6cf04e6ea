-- `combine::write::write_combined` meets its contract: 36 by the first kind that has too many, or the keys are written. Assumes nothing.
use mathlib.Core.Path.{◌∙◌}
use Rattle.combine_spec.specs.Combine.{later_version}
use Rattle.combine.proofs.Combining.{long-first, long-second, internals-ready, calls-ready, returns-ready, internals_many, calls_many, returns_many, internals_held, calls_held, returns_held, few_keys, written}
use Rattle.combine.proofs.write.write_combined.Goals as goal

pub section_keys-requires : goal.section_keys-requires
section_keys-requires c =
    internals-ready c.requires c.part-symbols.ensures c.part-own.ensures c.part-other.ensures c.part-internals.result.now c.part-others.result.now c.part-internals.ensures c.part-others.ensures

pub returns-in_default : goal.returns-in_default
returns-in_default c =
    internals_many c.requires c.part-symbols.ensures c.part-own.ensures c.part-other.ensures c.args.out.now c.part-internals.ensures c.part-others.ensures c.in_default.ensures

pub section_keys-requires-2 : goal.section_keys-requires-2
section_keys-requires-2 c =
    calls-ready c.requires c.part-symbols.ensures c.part-own.ensures c.part-other.ensures c.part-calls.result.now c.part-others-2.result.now c.part-calls.ensures c.part-others-2.ensures

pub returns-in_default-section_keys : goal.returns-in_default-section_keys
returns-in_default-section_keys c =
    calls_many c.requires c.part-symbols.ensures c.part-own.ensures c.part-other.ensures c.args.out.now c.part-calls.ensures c.part-others-2.ensures c.in_default-section_keys.ensures

pub section_keys-requires-3 : goal.section_keys-requires-3
section_keys-requires-3 c =
    returns-ready c.requires c.part-symbols.ensures c.part-own.ensures c.part-other.ensures c.part-returns.result.now c.part-others-3.result.now c.part-returns.ensures c.part-others-3.ensures

pub returns-in_default-section_keys-2 : goal.returns-in_default-section_keys-2
returns-in_default-section_keys-2 c =
    returns_many c.requires c.part-symbols.ensures c.part-own.ensures c.part-other.ensures c.args.out.now c.part-returns.ensures c.part-others-3.ensures c.in_default-section_keys-2.ensures

pub version_of-requires : goal.version_of-requires
version_of-requires c = long-first c.requires

pub version_of-requires-2 : goal.version_of-requires-2
version_of-requires-2 c = long-second c.requires

pub write_keys-requires : goal.write_keys-requires
write_keys-requires c =
    few_keys c.requires c.part-symbols.ensures c.part-own.ensures c.part-other.ensures
    (internals_held c.requires c.part-symbols.ensures c.part-own.ensures c.part-other.ensures c.args.out.now c.part-internals.ensures c.part-others.ensures c.in-Some.ensures) c.section_keys.auto.keys
    (calls_held c.requires c.part-symbols.ensures c.part-own.ensures c.part-other.ensures c.args.out.now c.part-calls.ensures c.part-others-2.ensures c.in-Some-section_keys.ensures) c.section_keys-2.auto.keys
    (returns_held c.requires c.part-symbols.ensures c.part-own.ensures c.part-other.ensures c.args.out.now c.part-returns.ensures c.part-others-3.ensures c.in-Some-section_keys-2.ensures) c.section_keys-3.auto.keys

pub returns : goal.returns
returns c =
    written c.requires c.part-symbols.ensures c.part-own.ensures c.part-other.ensures
    (internals_held c.requires c.part-symbols.ensures c.part-own.ensures c.part-other.ensures c.args.out.now c.part-internals.ensures c.part-others.ensures c.in-Some.ensures) c.section_keys.auto.keys
    (calls_held c.requires c.part-symbols.ensures c.part-own.ensures c.part-other.ensures c.args.out.now c.part-calls.ensures c.part-others-2.ensures c.in-Some-section_keys.ensures) c.section_keys-2.auto.keys
    (returns_held c.requires c.part-symbols.ensures c.part-own.ensures c.part-other.ensures c.args.out.now c.part-returns.ensures c.part-others-3.ensures c.in-Some-section_keys-2.ensures) c.section_keys-3.auto.keys
    c.args.out.now (c.later_version-version.ensures ∙ (λ i. later_version (c.version_of.ensures i) (c.version_of-2.ensures i))) c.write_keys.ensures
