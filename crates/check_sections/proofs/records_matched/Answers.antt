-- `check_sections::records_matched` meets its contract: record by record, or by the rooms of moves and of returns. Assumes nothing.
use Rattle.check_sections.proofs.States.{lent-width, move_width, lent_lies, moves_met}
use Rattle.check_sections.proofs.Rooms.{no_room}
use Rattle.check_matching.specs.Matching.{records_matched}
use Rattle.table_spec.specs.File.{records}
use mathlib.Core.Path.{sym, ap, ◌∙◌}
use Prim.Native.Nat.{ℕ}
use lib.ListN.{length}
use Rattle.check_sections.proofs.records_matched.Goals as goal

pub returns_matched-requires : goal.returns_matched-requires
returns_matched-requires c =
    (lent-width c.if-width-eq4.true c.requires, c.joined_words-joined.ensures, no_room)

pub returns-then-width-eq4 : goal.returns-then-width-eq4
returns-then-width-eq4 c =
    c.returns_matched.ensures ∙ ap (λ (w : ℕ). records_matched w c.args.words.now (records w c.args.section.now) (length c.args.map.now) c.args.map.now) (sym c.if-width-eq4.true)

pub note-requires : goal.note-requires
note-requires c =
    (lent_lies (lent-width (move_width c.requires c.if-width-eq4.false) c.requires) c.joined_words-joined.ensures, no_room)

pub met-requires : goal.met-requires
met-requires c =
    lent_lies (lent-width (move_width c.requires c.if-width-eq4.false) c.requires) c.joined_words-joined.ensures

pub returns : goal.returns
returns c =
    let e = move_width c.requires c.if-width-eq4.false in
    c.met.ensures ∙ moves_met (lent-width e c.requires) c.joined_words-joined.ensures c.note.ensures c.args.words.now ∙ ap (λ (w : ℕ). records_matched w c.args.words.now (records w c.args.section.now) (length c.args.map.now) c.args.map.now) (sym e)
