-- `pairs::table::pair_table` meets its contract: the test of the whole table is computed. Assumes nothing.
use mathlib.Core.Path.{refl}
use Rattle.lists.specs.Lists.{all, upto}
use Rattle.pairs.specs.Pairs.{pairs, variable_of}
use Rattle.pairs.proofs.Entries.{is_for, is_table, table_of}
use Rattle.pairs.proofs.table.pair_table.Goals as goal

pub returns : goal.returns
unfolding is_table is_for upto pairs variable_of
returns c = table_of _ refl
