use mathlib.Core.Path.{ap, ◌≡◌, ◌∙◌}
use mathlib.Core.Logic.{◌⊎◌}
use Prim.Native.Nat.{◌<◌, ◌≤◌}
use Rattle.tables.specs.Lists.{data_of}
use Rattle.tables.proofs.Laws.{NoneAmong}
use Rattle.ranges.specs.Ranges.{ranged}
use Rattle.ranges.proofs.Within.{fixed-is, indexed, between}
use borrow.Author.Rules.{rules}
use Rattle.ranges.proofs.range_at.Goals as goal

pub returns-in_default : goal.returns-in_default
returns-in_default c =
    let apart : NoneAmong (Unit {0}) indexed c.args.t = search rules in
    λ y s.
    let a = c.args in
    ap ranged c.fixed_range.ensures ∙ fixed-is _ a.t apart (data_of a.tables.now) y a.i a.j s

pub returns-in-29 : goal.returns-in-29
returns-in-29 c =
    let own : (c.args.t ≡ 29) ⊎ ((45 ≤ c.args.t) × (c.args.t < 48)) = search rules in
    λ y s.
    let a = c.args in
    c.any_where-in-29.ensures ∙ between a.t own (data_of a.tables.now) y a.i a.j s
