-- `choose::choose_within` meets its contract: the first map, the second, or the empty part of the first. Assumes nothing.
use mathlib.Core.Path.{refl, ap}
use Rattle.choose_spec.specs.declared.Which.{Which}
use Rattle.std.specs.Prelude.{Ok}
use Rattle.choose_spec.proofs.Choosing.{decided, undecided, hand_none, hand_first, hand_second}
use borrow.Author.Rules.{rules}
use Rattle.choose.proofs.choose_within.Goals as goal

pub returns-in-Err : goal.returns-in-Err
returns-in-Err c =
    let the_facts = hand_none _ _ _ _ (undecided _ _ _ _ c.in-Err.ensures.answers refl) (search rules) (search rules) in
    record { answers = the_facts.0; chosen = the_facts.1 }

pub returns-in-First : goal.returns-in-First
returns-in-First c =
    let the_facts = hand_first _ _ _ _ (decided _ _ _ _ c.in-Ok.ensures.answers (ap (λ (w : Which). Ok w) c.in-First.is)) in
    record { answers = the_facts.0; chosen = the_facts.1 }

pub returns-in-Second : goal.returns-in-Second
returns-in-Second c =
    let the_facts = hand_second _ _ _ _ (decided _ _ _ _ c.in-Ok.ensures.answers (ap (λ (w : Which). Ok w) c.in-Second.is)) in
    record { answers = the_facts.0; chosen = the_facts.1 }
