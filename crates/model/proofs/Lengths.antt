-- The numbers of families, of kinds of column and of tables are the lengths of their lists.
use mathlib.Core.Path.{◌≡◌, refl}
use lib.ListN.{length}
use Rattle.model.specs.Families.{families, family_count}
use Rattle.model.specs.Columns.{column_sets, column_kind_count}
use Rattle.model.specs.Data.{tables, table_count}

pub family-count : length families ≡ family_count
family-count = refl

pub column-kind-count : length column_sets ≡ column_kind_count
column-kind-count = refl

pub table-count : length tables ≡ table_count
table-count = refl
