use Rattle.std.proofs.Common.{rules}
use mathlib.Core.Path.{◌≡◌, ◌∙◌}
use Rattle.sums.proofs.ByKind.{only_zero}
use Rattle.model.specs.Standing.{standing⁺, standing⁻}
use Rattle.tables.specs.Lists.{data_of}
use Rattle.tables.proofs.Laws.{last_arm}
use Rattle.tables.proofs.Members.{column-inside}
use Rattle.columns.proofs.Arms.{own-indices, column-is}
use Rattle.columns.proofs.column_sums.Goals as goal

pub returns-in-0 : goal.returns-in-0
unfolding standing⁺ standing⁻
returns-in-0 c = column-is c.args.pricing.now c.in-0.is c.requires c.cap_column.ensures

pub returns-in-1 : goal.returns-in-1
unfolding standing⁺ standing⁻
returns-in-1 c = column-is c.args.pricing.now c.in-1.is c.requires c.build_column.ensures

pub returns-in-2 : goal.returns-in-2
unfolding standing⁺ standing⁻
returns-in-2 c = column-is c.args.pricing.now c.in-2.is c.requires c.retire_column.ensures

pub returns-in-3 : goal.returns-in-3
unfolding standing⁺ standing⁻
returns-in-3 c = column-is c.args.pricing.now c.in-3.is c.requires c.gen_column.ensures

pub returns-in-4 : goal.returns-in-4
unfolding standing⁺ standing⁻
returns-in-4 c = column-is c.args.pricing.now c.in-4.is c.requires c.reserve_column.ensures

pub returns-in-5 : goal.returns-in-5
unfolding standing⁺ standing⁻
returns-in-5 c = column-is c.args.pricing.now c.in-5.is c.requires c.trans_column.ensures

pub returns-in-6 : goal.returns-in-6
unfolding standing⁺ standing⁻
returns-in-6 c = column-is c.args.pricing.now c.in-6.is c.requires c.shortfall_column.ensures

pub returns-in-7 : goal.returns-in-7
unfolding standing⁺ standing⁻
returns-in-7 c = column-is c.args.pricing.now c.in-7.is c.requires c.surplus_column.ensures

pub returns-in-8 : goal.returns-in-8
unfolding standing⁺ standing⁻
returns-in-8 c = column-is c.args.pricing.now c.in-8.is c.requires c.shortfall_column-in-8.ensures

pub returns-in-9 : goal.returns-in-9
unfolding standing⁺ standing⁻
returns-in-9 c = column-is c.args.pricing.now c.in-9.is c.requires (c.shortfall_column-in-9.ensures ∙ rw (only_zero (own-indices c.args.pricing.now c.in-9.is c.requires).slice))

pub returns-in-10 : goal.returns-in-10
unfolding standing⁺ standing⁻
returns-in-10 c = column-is c.args.pricing.now c.in-10.is c.requires c.charge_column.ensures

pub returns-in-11 : goal.returns-in-11
unfolding standing⁺ standing⁻
returns-in-11 c = column-is c.args.pricing.now c.in-11.is c.requires c.level_column.ensures

pub returns-in-12 : goal.returns-in-12
unfolding standing⁺ standing⁻
returns-in-12 c = column-is c.args.pricing.now c.in-12.is c.requires (c.built_column.ensures (data_of c.args.pricing.now.tested.tables.now))

pub returns-in_default : goal.returns-in_default
unfolding standing⁺ standing⁻
returns-in_default c =
    let few = (column-inside _ c.requires).0 in
    let last : c.args.p.kind ≡ 13 = search (rules, last_arm) in
    column-is c.args.pricing.now last c.requires c.total_column.ensures
