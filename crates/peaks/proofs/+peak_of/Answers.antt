use native.Mathlib.Omega.{arith}
use Rattle.peaks.proofs.Laws.{peak-none, peak-one, peak-halves}
use Rattle.peaks.proofs.+peak_of.Goals as goal

pub returns-in-empty : goal.returns-in-empty
returns-in-empty t c = peak-none c.args.demand.now (omega (arith, c.in-empty.len_below))

pub returns-in-len1 : goal.returns-in-len1
returns-in-len1 t c = peak-one c.args.demand.now (omega (arith, c.in-len1.len_at_least, c.in-len1.len_below))

pub returns-in_default : goal.returns-in_default
returns-in_default t c =
    let parts = c.split_at.ensures in
    peak-halves _ c.args.demand.now c.max.ensures (rw parts.front at c.peak_of.ensures) (rw parts.back at c.peak_of-in_default.ensures)
