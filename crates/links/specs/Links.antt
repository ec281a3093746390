-- A zone's links, by direction.
use Rattle.std.specs.Prelude.{ℕ}
use Rattle.sums.specs.Index.{Index}
use Rattle.model.specs.Columns.{trans}
use Rattle.links.specs.declared.Direction.{Direction}
use Rattle.links.specs.declared.Direction.TheVariants.{Inward, Outward}

-- the column of the flow between zone z and zone u in slice s: into z, or out of z
abbrev pub link : Direction → ℕ → ℕ → ℕ → ℕ → Index
link Inward y z u s = trans y u z s
link Outward y z u s = trans y z u s
