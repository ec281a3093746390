-- The shape record, at the counts that the code holds.
use mathlib.Core.Path.{◌≡◌, sym, ap, ◌∙◌}
use Rattle.model.specs.declared.Counts.{Counts}
use Rattle.model.specs.declared.Shape.{Shape}
use Rattle.model.specs.Families.{shape_of}
use Rattle.tables.specs.Layout.{Counted}
use Rattle.duals.specs.Multipliers.{Shaped}

pub shape-counts : {r : Shape} {c : Counts} → r ≡ shape_of c → r.counts ≡ c
unfolding shape_of
shape-counts e = ap (λ (r : Shape). r.counts) e

pub shaped : {c : Counts} {shape : Shape} → Counted c → shape ≡ shape_of c → Shaped shape
shaped n e = record { counted = rw (shape-counts e) n; sized = e ∙ ap shape_of (sym (shape-counts e)) }
