-- `sat_search::turns` meets its contract. The loop's invariant: whatever end the turns lead to from here, with the trial held, they lead to from the start; the counters are
-- those of the values before the last closing began, and are saved where a guess stands. The measure is twice the guesses left and the guesses that stand. Assumes nothing.
use Prim.Native.Nat.{ℕ, suc, ◌-◌, ◌≤◌, ◌<◌}
use Rattle.std.proofs.Common.{rules}
use native.Mathlib.Omega.{arith}
use mathlib.Core.List.{List}
use mathlib.Core.Path.{◌≡◌, refl, sym, ◌∙◌}
use lib.ListN.{length}
use Rattle.cnf.specs.Clauses.{clauses_in}
use Rattle.sat_decide.specs.Turns.{DueAt}
use Rattle.sat_decide.specs.declared.Due.{Due}
use Rattle.sat_decide.specs.declared.Due.TheVariants as due
use Rattle.sat_decide.proofs.Ends as laws
use Rattle.sat_search.proofs.Wording as wording
use Rattle.sat_search.proofs.turns.Goals as goal

-- ---- what holds there

-- what is lent keeps its length while the values are closed
record Lengths (counters counters₀ saved saved₀ noted noted₀ values values₀ trail trail₀ : List ℕ) : Type 0 where
  counters-long : length counters ≡ length counters₀
  saved-long : length saved ≡ length saved₀
  noted-long : length noted ≡ length noted₀
  values-long : length values ≡ length values₀
  trail-long : length trail ≡ length trail₀

pub turns-init : goal.turns-init
turns-init c =
    let r = c.requires.rested in
    (laws.turning _ _ r c.places-levels.ensures, c.requires.pair_table.1, wording.lags-first c.args.clauses.now c.requires.counters_of_if.0 r.counted (omega (arith, r.counted, r.size, r.most, r.long)), wording.marked-none, (λ _ h. absurd (omega (arith, h))), refl, c.requires.counters_of_if.1, refl)

pub propagate-reached-requires : goal.propagate-reached-requires
propagate-reached-requires c =
    let i = c.turns.invariant in
    record { prepared = wording.prepared_on i.5 i.7 c.requires.prepared; counters_before_if = i.2; ready = i.0.ready; queue = (i.0.queue, omega (arith, i.0.size, i.0.most)); pair_table = (c.requires.pair_table.0, i.1) }

pub returns-then-depth-eq0 : goal.returns-then-depth-eq0
returns-then-depth-eq0 c =
    laws.turn_absent c.turns.invariant.0 c.in-Err.ensures.settles.0 refl c.if-depth-eq0.true

pub offset_bounds-levels-depth : goal.offset_bounds-levels-depth
offset_bounds-levels-depth c =
    let depths : (c.turns.depth ≤ c.in-Err.conflict.count) × (c.in-Err.conflict.count ≤ 780) = let i = c.turns.invariant.0 in
    let s = c.in-Err.ensures.settles.0 in
    (laws.after_depth i s, omega (arith, laws.after-count i s, i.most)) in
    omega (arith, c.if-depth-eq0.false, depths)

pub bounds-levels-depth : goal.bounds-levels-depth
bounds-levels-depth c =
    let depths : (c.turns.depth ≤ c.in-Err.conflict.count) × (c.in-Err.conflict.count ≤ 780) = let i = c.turns.invariant.0 in
    let s = c.in-Err.ensures.settles.0 in
    (laws.after_depth i s, omega (arith, laws.after-count i s, i.most)) in
    omega (arith, c.if-depth-eq0.false, depths)

pub backtrack-undone-requires : goal.backtrack-undone-requires
backtrack-undone-requires c =
    let lengths : Lengths c.propagate-reached.new.counters c.args.counters.now c.turns.saved c.args.saved.now c.propagate-reached.new.noted c.args.noted.now c.propagate-reached.new.values c.args.values.now c.propagate-reached.new.trail c.args.trail.now = let i = c.turns.invariant in
    let s = c.in-Err.ensures.settles.0 in
    record { counters-long = c.propagate-reached.auto.counters ∙ i.5; saved-long = i.6 ∙ sym c.requires.counters_of_if.1; noted-long = c.propagate-reached.auto.noted ∙ i.7; values-long = laws.after-size i.0 s; trail-long = laws.after-long i.0 s ∙ sym c.requires.rested.long } in
    let stands : let d = c.turns.depth in d ≡ suc (d - 1) = omega (arith, c.if-depth-eq0.false) in
    let i = c.turns.invariant in
    let s = c.in-Err.ensures.settles in
    let t = refl in
    let d = c.turns.depth - 1 in
    let z = stands in
    let m = c.from-mark.ensures in
    let l = lengths.counters-long in
    let passed = wording.passed c.args.list.now c.args.n i.0 s.0 t d z m i.3 in
    let saved = wording.saved_on c.args.list.now c.args.n i.0 s.0 c.args.clauses.now (λ k. i.4 k (omega (arith, z))) i.2 in
    record { indexed_if = (c.requires.prepared.indexed, wording.prepared_sized l c.requires.prepared, i.6 ∙ sym l); trail_mark = (passed, saved); pair_table = (c.requires.pair_table.0, laws.can_undo i.0 s.0 t d z m, s.1) }

pub overflow_add-low : goal.overflow_add-low
overflow_add-low c =
    let stands : let d = c.turns.depth in d ≡ suc (d - 1) = omega (arith, c.if-depth-eq0.false) in
    let i = c.turns.invariant.0 in
    omega (arith, laws.inside i c.in-Err.ensures.settles.0 refl _ stands c.from-mark.ensures c.backtrack-undone.ensures.undone.0, i.most)

pub turns-preserved-in-Err : goal.turns-preserved-in-Err
turns-preserved-in-Err c =
    let lengths : Lengths c.propagate-reached.new.counters c.args.counters.now c.turns.saved c.args.saved.now c.propagate-reached.new.noted c.args.noted.now c.propagate-reached.new.values c.args.values.now c.propagate-reached.new.trail c.args.trail.now = let i = c.turns.invariant in
    let s = c.in-Err.ensures.settles.0 in
    record { counters-long = c.propagate-reached.auto.counters ∙ i.5; saved-long = i.6 ∙ sym c.requires.counters_of_if.1; noted-long = c.propagate-reached.auto.noted ∙ i.7; values-long = laws.after-size i.0 s; trail-long = laws.after-long i.0 s ∙ sym c.requires.rested.long } in
    let stands : let d = c.turns.depth in d ≡ suc (d - 1) = omega (arith, c.if-depth-eq0.false) in
    let i = c.turns.invariant in
    let s = c.in-Err.ensures.settles.0 in
    let t = refl in
    let d = c.turns.depth - 1 in
    let z = stands in
    let m = c.from-mark.ensures in
    rw c.backtrack-undone.ensures.forced (laws.turn_undo i.0 s t d z m c.backtrack-undone.ensures.undone.0, c.backtrack-undone.ensures.undone.1, c.backtrack-undone.ensures.back.lags, record { before = laws.earlier-mark i.0 s t d z m }, (λ k _. c.backtrack-undone.ensures.back.kept k), c.backtrack-undone.auto.counters ∙ c.propagate-reached.auto.counters ∙ i.5, c.backtrack-undone.auto.saved ∙ i.6, lengths.noted-long)

pub due_at-requires : goal.due_at-requires
due_at-requires c =
    let lengths : Lengths c.propagate-reached.new.counters c.args.counters.now c.turns.saved c.args.saved.now c.propagate-reached.new.noted c.args.noted.now c.propagate-reached.new.values c.args.values.now c.propagate-reached.new.trail c.args.trail.now = let i = c.turns.invariant in
    let s = c.in-Ok.ensures.settles.0 in
    record { counters-long = c.propagate-reached.auto.counters ∙ i.5; saved-long = i.6 ∙ sym c.requires.counters_of_if.1; noted-long = c.propagate-reached.auto.noted ∙ i.7; values-long = laws.after-size i.0 s; trail-long = laws.after-long i.0 s ∙ sym c.requires.rested.long } in
    omega (arith, c.turns.invariant.0.low_in, lengths.values-long)

pub returns-in-Solved : goal.returns-in-Solved
returns-in-Solved c =
    laws.turn_solved c.turns.invariant.0 c.in-Ok.ensures.settles.0 refl (rw c.in-Solved.is at c.due_at.ensures)

pub walk_back-requires : goal.walk_back-requires
walk_back-requires c =
    let lengths : Lengths c.propagate-reached.new.counters c.args.counters.now c.turns.saved c.args.saved.now c.propagate-reached.new.noted c.args.noted.now c.propagate-reached.new.values c.args.values.now c.propagate-reached.new.trail c.args.trail.now = let i = c.turns.invariant in
    let s = c.in-Ok.ensures.settles.0 in
    record { counters-long = c.propagate-reached.auto.counters ∙ i.5; saved-long = i.6 ∙ sym c.requires.counters_of_if.1; noted-long = c.propagate-reached.auto.noted ∙ i.7; values-long = laws.after-size i.0 s; trail-long = laws.after-long i.0 s ∙ sym c.requires.rested.long } in
    let i = c.turns.invariant.0 in
    let s = c.in-Ok.ensures.settles in
    record { list_value = (c.requires.prepared.all_there, rw lengths.values-long (laws.list-formed c.args.list.now c.args.n c.requires.rested.formed)); pair_table = (c.requires.pair_table.0, s.1); retraceable = laws.can_retrace i s.0 }

pub returns-in-Spent : goal.returns-in-Spent
returns-in-Spent c =
    let DueThen : Due → Type 0 = λ r. DueAt c.propagate-reached.new.values c.turns.low c.turns.made c.args.budget r in
    let spent : DueThen due.Spent = rw c.in-Spent.is at c.due_at.ensures in
    let p = c.requires.rested in
    let f = spent in
    laws.turn_spent c.turns.invariant.0 c.in-Ok.ensures.settles.0 refl f.0.lowest (clauses_in c.args.list.now) (laws.short_trial c.args.list.now c.args.n p.formed) f.1 c.walk_back.ensures

pub overflow_cast-levels : goal.overflow_cast-levels
overflow_cast-levels c =
    let depths : (c.turns.depth ≤ c.in-Ok.set) × (c.in-Ok.set ≤ 780) = let i = c.turns.invariant.0 in
    let s = c.in-Ok.ensures.settles.0 in
    (laws.after_depth i s, omega (arith, laws.after-count i s, i.most)) in
    let DueThen : Due → Type 0 = λ r. DueAt c.propagate-reached.new.values c.turns.low c.turns.made c.args.budget r in
    let guess : DueThen (due.Guess c.in-Guess.x) = rw c.in-Guess.is at c.due_at.ensures in
    let room : (c.turns.depth < 780) × (c.in-Ok.set < 780) × (c.in-Guess.x < 780) = let i = c.turns.invariant.0 in
    let l = laws.room-left i c.in-Ok.ensures.settles.0 refl guess.0 in
    (omega (arith, l, i.most, depths), omega (arith, l, i.most), omega (arith, guess.0.inside, laws.after-size i c.in-Ok.ensures.settles.0, i.most)) in
    omega (arith, room)

pub offset_bounds-levels-depth-in-Guess : goal.offset_bounds-levels-depth-in-Guess
offset_bounds-levels-depth-in-Guess c =
    let depths : (c.turns.depth ≤ c.in-Ok.set) × (c.in-Ok.set ≤ 780) = let i = c.turns.invariant.0 in
    let s = c.in-Ok.ensures.settles.0 in
    (laws.after_depth i s, omega (arith, laws.after-count i s, i.most)) in
    let DueThen : Due → Type 0 = λ r. DueAt c.propagate-reached.new.values c.turns.low c.turns.made c.args.budget r in
    let guess : DueThen (due.Guess c.in-Guess.x) = rw c.in-Guess.is at c.due_at.ensures in
    let room : (c.turns.depth < 780) × (c.in-Ok.set < 780) × (c.in-Guess.x < 780) = let i = c.turns.invariant.0 in
    let l = laws.room-left i c.in-Ok.ensures.settles.0 refl guess.0 in
    (omega (arith, l, i.most, depths), omega (arith, l, i.most), omega (arith, guess.0.inside, laws.after-size i c.in-Ok.ensures.settles.0, i.most)) in
    omega (arith, room)

pub bounds-levels-depth-in-Guess : goal.bounds-levels-depth-in-Guess
bounds-levels-depth-in-Guess c =
    let depths : (c.turns.depth ≤ c.in-Ok.set) × (c.in-Ok.set ≤ 780) = let i = c.turns.invariant.0 in
    let s = c.in-Ok.ensures.settles.0 in
    (laws.after_depth i s, omega (arith, laws.after-count i s, i.most)) in
    let DueThen : Due → Type 0 = λ r. DueAt c.propagate-reached.new.values c.turns.low c.turns.made c.args.budget r in
    let guess : DueThen (due.Guess c.in-Guess.x) = rw c.in-Guess.is at c.due_at.ensures in
    let room : (c.turns.depth < 780) × (c.in-Ok.set < 780) × (c.in-Guess.x < 780) = let i = c.turns.invariant.0 in
    let l = laws.room-left i c.in-Ok.ensures.settles.0 refl guess.0 in
    (omega (arith, l, i.most, depths), omega (arith, l, i.most), omega (arith, guess.0.inside, laws.after-size i c.in-Ok.ensures.settles.0, i.most)) in
    omega (arith, room)

pub overflow_add-depth : goal.overflow_add-depth
overflow_add-depth c =
    let depths : (c.turns.depth ≤ c.in-Ok.set) × (c.in-Ok.set ≤ 780) = let i = c.turns.invariant.0 in
    let s = c.in-Ok.ensures.settles.0 in
    (laws.after_depth i s, omega (arith, laws.after-count i s, i.most)) in
    let DueThen : Due → Type 0 = λ r. DueAt c.propagate-reached.new.values c.turns.low c.turns.made c.args.budget r in
    let guess : DueThen (due.Guess c.in-Guess.x) = rw c.in-Guess.is at c.due_at.ensures in
    let room : (c.turns.depth < 780) × (c.in-Ok.set < 780) × (c.in-Guess.x < 780) = let i = c.turns.invariant.0 in
    let l = laws.room-left i c.in-Ok.ensures.settles.0 refl guess.0 in
    (omega (arith, l, i.most, depths), omega (arith, l, i.most), omega (arith, guess.0.inside, laws.after-size i c.in-Ok.ensures.settles.0, i.most)) in
    omega (arith, room)

pub overflow_add-made : goal.overflow_add-made
overflow_add-made c =
    let DueThen : Due → Type 0 = λ r. DueAt c.propagate-reached.new.values c.turns.low c.turns.made c.args.budget r in
    let guess : DueThen (due.Guess c.in-Guess.x) = rw c.in-Guess.is at c.due_at.ensures in
    omega (arith, c.turns.invariant.0.few, guess.1, c.ranges.budget.fits)

pub overflow_mul-x : goal.overflow_mul-x
overflow_mul-x c =
    let depths : (c.turns.depth ≤ c.in-Ok.set) × (c.in-Ok.set ≤ 780) = let i = c.turns.invariant.0 in
    let s = c.in-Ok.ensures.settles.0 in
    (laws.after_depth i s, omega (arith, laws.after-count i s, i.most)) in
    let DueThen : Due → Type 0 = λ r. DueAt c.propagate-reached.new.values c.turns.low c.turns.made c.args.budget r in
    let guess : DueThen (due.Guess c.in-Guess.x) = rw c.in-Guess.is at c.due_at.ensures in
    let room : (c.turns.depth < 780) × (c.in-Ok.set < 780) × (c.in-Guess.x < 780) = let i = c.turns.invariant.0 in
    let l = laws.room-left i c.in-Ok.ensures.settles.0 refl guess.0 in
    (omega (arith, l, i.most, depths), omega (arith, l, i.most), omega (arith, guess.0.inside, laws.after-size i c.in-Ok.ensures.settles.0, i.most)) in
    omega (arith, room)

pub overflow_cast-x : goal.overflow_cast-x
overflow_cast-x c =
    let depths : (c.turns.depth ≤ c.in-Ok.set) × (c.in-Ok.set ≤ 780) = let i = c.turns.invariant.0 in
    let s = c.in-Ok.ensures.settles.0 in
    (laws.after_depth i s, omega (arith, laws.after-count i s, i.most)) in
    let DueThen : Due → Type 0 = λ r. DueAt c.propagate-reached.new.values c.turns.low c.turns.made c.args.budget r in
    let guess : DueThen (due.Guess c.in-Guess.x) = rw c.in-Guess.is at c.due_at.ensures in
    let room : (c.turns.depth < 780) × (c.in-Ok.set < 780) × (c.in-Guess.x < 780) = let i = c.turns.invariant.0 in
    let l = laws.room-left i c.in-Ok.ensures.settles.0 refl guess.0 in
    (omega (arith, l, i.most, depths), omega (arith, l, i.most), omega (arith, guess.0.inside, laws.after-size i c.in-Ok.ensures.settles.0, i.most)) in
    omega (arith, room)

pub force-count-requires : goal.force-count-requires
force-count-requires c =
    let DueThen : Due → Type 0 = λ r. DueAt c.propagate-reached.new.values c.turns.low c.turns.made c.args.budget r in
    let guess : DueThen (due.Guess c.in-Guess.x) = rw c.in-Guess.is at c.due_at.ensures in
    let s = c.in-Ok.ensures.settles in
    record { pair_table = c.requires.pair_table.0; settable = laws.can_guess c.turns.invariant.0 s.0 refl guess.0 refl s.1 }

pub overflow_add-low-in-Guess : goal.overflow_add-low-in-Guess
overflow_add-low-in-Guess c =
    let depths : (c.turns.depth ≤ c.in-Ok.set) × (c.in-Ok.set ≤ 780) = let i = c.turns.invariant.0 in
    let s = c.in-Ok.ensures.settles.0 in
    (laws.after_depth i s, omega (arith, laws.after-count i s, i.most)) in
    let DueThen : Due → Type 0 = λ r. DueAt c.propagate-reached.new.values c.turns.low c.turns.made c.args.budget r in
    let guess : DueThen (due.Guess c.in-Guess.x) = rw c.in-Guess.is at c.due_at.ensures in
    let room : (c.turns.depth < 780) × (c.in-Ok.set < 780) × (c.in-Guess.x < 780) = let i = c.turns.invariant.0 in
    let l = laws.room-left i c.in-Ok.ensures.settles.0 refl guess.0 in
    (omega (arith, l, i.most, depths), omega (arith, l, i.most), omega (arith, guess.0.inside, laws.after-size i c.in-Ok.ensures.settles.0, i.most)) in
    omega (arith, room)

pub turns-smaller : goal.turns-smaller
turns-smaller c =
    let DueThen : Due → Type 0 = λ r. DueAt c.propagate-reached.new.values c.turns.low c.turns.made c.args.budget r in
    let guess : DueThen (due.Guess c.in-Guess.x) = rw c.in-Guess.is at c.due_at.ensures in
    omega (arith, c.turns.invariant.0.few, guess.1)

pub turns-preserved : goal.turns-preserved
turns-preserved c =
    let same : c.copy_from_slice.new.self ≡ c.propagate-reached.new.counters = search rules in
    let lengths : Lengths c.propagate-reached.new.counters c.args.counters.now c.turns.saved c.args.saved.now c.propagate-reached.new.noted c.args.noted.now c.propagate-reached.new.values c.args.values.now c.propagate-reached.new.trail c.args.trail.now = let i = c.turns.invariant in
    let s = c.in-Ok.ensures.settles.0 in
    record { counters-long = c.propagate-reached.auto.counters ∙ i.5; saved-long = i.6 ∙ sym c.requires.counters_of_if.1; noted-long = c.propagate-reached.auto.noted ∙ i.7; values-long = laws.after-size i.0 s; trail-long = laws.after-long i.0 s ∙ sym c.requires.rested.long } in
    let DueThen : Due → Type 0 = λ r. DueAt c.propagate-reached.new.values c.turns.low c.turns.made c.args.budget r in
    let guess : DueThen (due.Guess c.in-Guess.x) = rw c.in-Guess.is at c.due_at.ensures in
    let depths : (c.turns.depth ≤ c.in-Ok.set) × (c.in-Ok.set ≤ 780) = let i = c.turns.invariant.0 in
    let s = c.in-Ok.ensures.settles.0 in
    (laws.after_depth i s, omega (arith, laws.after-count i s, i.most)) in
    let room : (c.turns.depth < 780) × (c.in-Ok.set < 780) × (c.in-Guess.x < 780) = let i = c.turns.invariant.0 in
    let l = laws.room-left i c.in-Ok.ensures.settles.0 refl guess.0 in
    (omega (arith, l, i.most, depths), omega (arith, l, i.most), omega (arith, guess.0.inside, laws.after-size i c.in-Ok.ensures.settles.0, i.most)) in
    let i = c.turns.invariant in
    let s = c.in-Ok.ensures in
    let e = refl in
    let f = c.force-count.ensures in
    (laws.turn_guess i.0 s.settles.0 e guess.0 guess.1 refl f, f.assigned.rows, wording.lags_guess c.args.list.now c.args.n i.0 s.settles.0 c.args.clauses.now e guess.0 s.caught refl f, wording.marked_guess c.turns.levels (omega (arith, i.0.marks, room)), (λ _ _. same), lengths.counters-long, c.copy_from_slice.auto.self ∙ i.6, lengths.noted-long)
