-- `records_fates::mark_of` meets its contract: dead, stamped before, or stamped now. Assumes nothing.
use mathlib.Core.Path.{sym, ap, ◌∙◌, subst}
use Prim.Native.Nat.{ℕ}
use lib.ListN.{get_or, set}
use Rattle.records_fates.specs.Marks.{Stamped, dead, again, first}
use Rattle.records_fates.proofs.mark_of.Goals as goal

pub returns-then-not-keeps : goal.returns-then-not-keeps
returns-then-not-keeps c = dead (sym c.keeps.ensures ∙ c.if-not-keeps.true)

pub returns-then-room-place : goal.returns-then-room-place
returns-then-room-place c =
    again (sym c.keeps.ensures ∙ c.if-not-keeps.false) (ap (λ p. get_or c.args.room.now p 0) (sym c.place_of-place.ensures.0) ∙ c.if-room-place.true)

pub returns : goal.returns
returns c =
    subst (λ (p : ℕ). Stamped c.args.words.now c.args.map.now c.args.stamp c.args.fields.now c.args.room.now 0 (set c.args.room.now p c.args.stamp)) (sym c.place_of-place.ensures.0) (first (sym c.keeps.ensures ∙ c.if-not-keeps.false) (λ e. c.if-room-place.false (ap (λ p. get_or c.args.room.now p 0) c.place_of-place.ensures.0 ∙ e)))
