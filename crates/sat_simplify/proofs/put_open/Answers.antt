-- `sat_simplify::put_open` meets its contract: the words that are lent are the clause's. Assumes nothing.
use Rattle.std.proofs.Common.{arith, refl, sym, ◌∙◌}
use Rattle.sat_simplify.proofs.Simplifying as laws
use Rattle.sat_simplify.proofs.put_open.Goals as goal

pub holds-requires : goal.holds-requires
holds-requires c = laws.lent-formed refl c.requires.stands.0 c.from.ensures c.requires.stands.1

pub returns-then-holds : goal.returns-then-holds
returns-then-holds c =
    (c.requires.room, laws.put_held _ _ _ _ (laws.lent-held refl c.requires.stands.0 c.from.ensures _ (sym c.if-holds.true ∙ c.holds.ensures)))

pub returns : goal.returns
returns c =
    let s = c.requires.stands.0 in
    let put = c.put_words.ensures in
    let unheld = laws.lent-held refl s c.from.ensures _ (sym c.if-holds.false ∙ c.holds.ensures) in
    (omega (arith, put.0, laws.lent-size refl s c.from.ensures, c.if-out-at.false, c.requires.room), laws.put_unheld _ _ _ _ unheld put.1 (laws.lent-words refl s c.from.ensures))
