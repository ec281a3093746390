-- The measure is the span's length: each half is shorter, since a span of two or more slices is cut.
use Rattle.std.proofs.Common.{length}
use Rattle.peaks.proofs.+peak_of.Given as goal

abbrev pub decreases-peak_of : goal.decreases-peak_of
decreases-peak_of l = length l.demand.now
