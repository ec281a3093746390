use mathlib.Core.Path.{sym, ◌∙◌}
use native.Mathlib.Omega.{arith}
use borrow.Author.Rules.{rules}
use Rattle.model.specs.Data.{read}
use Rattle.energy_table.proofs.Laws.{part-season, fill_one, fill-same}
use Rattle.energy_table.proofs.fill_energies.Goals as goal

pub loop-q-preserved : goal.loop-q-preserved
loop-q-preserved c =
    let case = c.args.case.now in
    let hg = c.loop-g-test.true in
    let hq = c.loop-q-test.true in
    let place = c.energy_place-place.ensures in (
      search rules,
      fill-same (omega arith)
          (fill_one c.keep.result c.loop-y.y c.loop-g.g c.loop-q.q hg hq place.0 place.1
          (part-season (read case.tables.list.now) case.plan.counted (case.tables.laid_out.counts ∙ sym case.same_counts) c.plan_part-outputs.ensures.part hg hq c.keep.ensures (rw case.same_counts c.season_energy.ensures))
          (fill-same (sym place.0) c.loop-q.invariant.1)),
    )
