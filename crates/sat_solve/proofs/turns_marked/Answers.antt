-- `sat_solve::turns_marked` meets its contract. Assumes nothing.
use Prim.Native.Nat.{ℕ}
use lib.ListN.{length-replicate}
use Rattle.cnf.specs.Clauses.{clauses_in}
use Rattle.pairs.specs.Triangles.{triangles}
use Rattle.sat_trail.proofs.Working.{formed-part}
use Rattle.sat_passes.proofs.Attending.{to_cs}
use Rattle.sat_solve.proofs.Rooms.{formed-most}
use Rattle.sat_solve.proofs.turns_marked.Goals as goal

pub mark-requires : goal.mark-requires
mark-requires c =
    record { list_value = (c.requires.list_value.0, formed-most (formed-part (clauses_in c.args.list.now) _ (to_cs _ (triangles c.args.n)) c.requires.rested.formed) c.requires.rested.most); starts_len = (length-replicate {A = ℕ} 1025 0, length-replicate {A = ℕ} 12480 0) }
