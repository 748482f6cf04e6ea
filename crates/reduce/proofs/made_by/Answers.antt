-- `reduce::made_by` meets its contract. Assumes nothing.
use mathlib.Core.Path.{refl}
use Rattle.reduce.proofs.made_by.Goals as goal

pub returns-in-Found : goal.returns-in-Found
returns-in-Found c = rw c.in-Found.is refl

pub returns-in-Absent : goal.returns-in-Absent
returns-in-Absent c = rw c.in-Absent.is refl

pub returns-in-Spent : goal.returns-in-Spent
returns-in-Spent c = rw c.in-Spent.is refl
