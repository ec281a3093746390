-- What the lists are that a caller hands over, as the definitions have them.
use Rattle.std.specs.Prelude.{ℕ}
use Rattle.sums.specs.Index.{Index}
use Rattle.model.specs.Data.{Data, read}
use Rattle.tables.specs.declared.lists.Tables.{Tables}
use Rattle.tables.specs.declared.lists.Plan.{Plan}
use Rattle.tables.specs.Layout.{plan_entry}

-- the data
abbrev pub data_of : Tables → Data
data_of t = read t.list.now

-- the plan's entry of a column
abbrev pub entry_of : Plan → Index → ℕ
entry_of p = plan_entry p.counts p.list.now
