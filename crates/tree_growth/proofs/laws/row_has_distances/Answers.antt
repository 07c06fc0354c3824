use Rattle.tree_growth.proofs.TableRows.{row_of_table}
use Rattle.tree_growth.proofs.laws.row_has_distances.Goals as goal

pub returns : goal.returns
returns c = row_of_table
