-- `clauses_emit::emit::store` meets its contract: the count and the literals so far stand at the front. Assumes nothing.
use mathlib.Core.Path.{◌≡◌}
use lib.ListN.{length, get_or, set}
use native.Mathlib.Omega.{arith}
use Rattle.clauses_emit.proofs.Collecting.{Storing, storing, store_on, stored}
use Rattle.clauses_emit.proofs.emit.store.Goals as goal

pub returns-then-n-eq0 : goal.returns-then-n-eq0
returns-then-n-eq0 c =
    let three_words : length c.args.clause.words ≡ 3 = c.well_formed.0.1.1.0.1.0.1 in
    let none : let rest = set c.args.rest.now 0 c.args.count in Storing c.args.count c.args.clause.n c.args.clause.words rest rest 0 = storing _ _ _ c.args.rest.now (omega (arith, c.requires.0, three_words)) c.requires.1 in
    stored c.args.rest.now none (omega (arith, c.if-n-eq0.true))

pub returns-then-n-eq1 : goal.returns-then-n-eq1
returns-then-n-eq1 c =
    let three_words : length c.args.clause.words ≡ 3 = c.well_formed.0.1.1.0.1.0.1 in
    let none : let rest = set c.args.rest.now 0 c.args.count in Storing c.args.count c.args.clause.n c.args.clause.words rest rest 0 = storing _ _ _ c.args.rest.now (omega (arith, c.requires.0, three_words)) c.requires.1 in
    let one : let rest = set c.args.rest.now 0 c.args.count in Storing c.args.count c.args.clause.n c.args.clause.words rest (set rest 1 (get_or c.args.clause.words 0 0)) 1 = store_on none (omega (arith, c.if-n-eq0.false)) in
    stored c.args.rest.now one (omega (arith, c.if-n-eq1.true))

pub returns-then-n-eq2 : goal.returns-then-n-eq2
returns-then-n-eq2 c =
    let three_words : length c.args.clause.words ≡ 3 = c.well_formed.0.1.1.0.1.0.1 in
    let none : let rest = set c.args.rest.now 0 c.args.count in Storing c.args.count c.args.clause.n c.args.clause.words rest rest 0 = storing _ _ _ c.args.rest.now (omega (arith, c.requires.0, three_words)) c.requires.1 in
    let one : let rest = set c.args.rest.now 0 c.args.count in Storing c.args.count c.args.clause.n c.args.clause.words rest (set rest 1 (get_or c.args.clause.words 0 0)) 1 = store_on none (omega (arith, c.if-n-eq0.false)) in
    let two : let rest = set c.args.rest.now 0 c.args.count in Storing c.args.count c.args.clause.n c.args.clause.words rest (set (set rest 1 (get_or c.args.clause.words 0 0)) 2 (get_or c.args.clause.words 1 0)) 2 = store_on one (omega (arith, c.if-n-eq0.false, c.if-n-eq1.false)) in
    stored c.args.rest.now two (omega (arith, c.if-n-eq2.true))

pub returns : goal.returns
returns c =
    let three_words : length c.args.clause.words ≡ 3 = c.well_formed.0.1.1.0.1.0.1 in
    let none : let rest = set c.args.rest.now 0 c.args.count in Storing c.args.count c.args.clause.n c.args.clause.words rest rest 0 = storing _ _ _ c.args.rest.now (omega (arith, c.requires.0, three_words)) c.requires.1 in
    let one : let rest = set c.args.rest.now 0 c.args.count in Storing c.args.count c.args.clause.n c.args.clause.words rest (set rest 1 (get_or c.args.clause.words 0 0)) 1 = store_on none (omega (arith, c.if-n-eq0.false)) in
    let two : let rest = set c.args.rest.now 0 c.args.count in Storing c.args.count c.args.clause.n c.args.clause.words rest (set (set rest 1 (get_or c.args.clause.words 0 0)) 2 (get_or c.args.clause.words 1 0)) 2 = store_on one (omega (arith, c.if-n-eq0.false, c.if-n-eq1.false)) in
    let three : let rest = set c.args.rest.now 0 c.args.count in
    Storing c.args.count c.args.clause.n c.args.clause.words rest (set (set (set rest 1 (get_or c.args.clause.words 0 0)) 2 (get_or c.args.clause.words 1 0)) 3 (get_or c.args.clause.words 2 0)) 3 = store_on two (omega (arith, c.if-n-eq0.false, c.if-n-eq1.false, c.if-n-eq2.false)) in
    stored c.args.rest.now three (omega (arith, c.requires.0))
