use Prim.Native.Nat.{◌+◌, ◌*◌, ◌<◌}
use borrow.Author.Rules.{rules}
use Rattle.model.specs.Counts.{slices_of}
use Rattle.energy.proofs.Laws.{slice-below}
use Rattle.energy.proofs.totals.season_energy.Goals as goal

pub total-requires : goal.total-requires
total-requires c = λ i l.
    let n = c.args.tables.now.laid_out.counted in
    let e = c.season_length-p.ensures.0 in
    let below : c.args.q * c.season_length-p.result + i < slices_of c.args.tables.now.counts = rw e (slice-below n c.requires.1.1 (rw⁻¹ e l)) in
    search rules
