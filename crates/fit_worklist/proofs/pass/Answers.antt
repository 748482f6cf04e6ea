-- `fit_worklist::pass` meets its contract. The invariant: the rows hold tops and links only. Assumes nothing.
use borrow.Author.Rules.{rules}
use Rattle.fit_rounds.proofs.Passing.{few-pairs}
use Rattle.fit_links.proofs.Quickly.{looking, looking_past, looking_on, first-there, second-there}
use Rattle.fit_worklist.proofs.pass.Goals as goal

pub overflow_mul-pairs : goal.overflow_mul-pairs
overflow_mul-pairs c =
    let h = few-pairs c.args.input.reads.few c.args.input.reads.pushes_go.few in search rules

pub pairs-init : goal.pairs-init
pairs-init c = looking _ _ _ _ _ _ _ _

pub bounds-marks-u : goal.bounds-marks-u
bounds-marks-u c =
    let h = few-pairs c.args.input.reads.few c.args.input.reads.pushes_go.few in
    let l = c.pairs-test.true in
    search rules

pub pairs-preserved-then-marks-u-eq0 : goal.pairs-preserved-then-marks-u-eq0
pairs-preserved-then-marks-u-eq0 c = looking_past c.pairs.invariant c.pairs-test.true

pub bounds-marks-u-in-pairs : goal.bounds-marks-u-in-pairs
bounds-marks-u-in-pairs c =
    let h = few-pairs c.args.input.reads.few c.args.input.reads.pushes_go.few in
    let l = c.pairs-test.true in
    search rules

pub offset_bounds-pushing-p : goal.offset_bounds-pushing-p
offset_bounds-pushing-p c =
    let h = few-pairs c.args.input.reads.few c.args.input.reads.pushes_go.few in
    let l = c.pairs-test.true in
    let g = first-there c.args.input.n l in
    let k = c.args.input.reads.few in
    search rules

pub bounds-pushing-p : goal.bounds-pushing-p
bounds-pushing-p c =
    let h = few-pairs c.args.input.reads.few c.args.input.reads.pushes_go.few in
    let l = c.pairs-test.true in
    let g = first-there c.args.input.n l in
    let k = c.args.input.reads.few in
    search rules

pub offset_bounds-popping-p : goal.offset_bounds-popping-p
offset_bounds-popping-p c =
    let h = few-pairs c.args.input.reads.few c.args.input.reads.pushes_go.few in
    let l = c.pairs-test.true in
    let g = first-there c.args.input.n l in
    let k = c.args.input.reads.few in
    search rules

pub bounds-popping-p : goal.bounds-popping-p
bounds-popping-p c =
    let h = few-pairs c.args.input.reads.few c.args.input.reads.pushes_go.few in
    let l = c.pairs-test.true in
    let g = first-there c.args.input.n l in
    let k = c.args.input.reads.few in
    search rules

pub look-requires : goal.look-requires
look-requires c =
    (c.requires.0.each _, c.requires.1.each _, first-there c.args.input.n c.pairs-test.true, second-there c.args.input.n _)

pub pairs-preserved : goal.pairs-preserved
pairs-preserved c =
    looking_on c.pairs.invariant c.pairs-test.true c.look.ensures

pub returns : goal.returns
returns c = c.pairs.invariant.kept
