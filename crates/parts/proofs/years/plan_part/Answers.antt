use Rattle.parts.proofs.Parts.{places-are, part-asked, part-is}
use Rattle.parts.proofs.years.plan_part.Goals as goal

pub year_part-requires : goal.year_part-requires
year_part-requires c =
    let r = c.requires in
    let plan = c.args.plan.now in
    part-asked plan.counted plan.laid_out r.1.1 (places-are plan.counts c.slices_of.ensures.0) c.args.t r.0 r.1.0

pub returns-clause-part : goal.returns-clause-part
returns-clause-part c =
    let r = c.requires in
    let plan = c.args.plan.now in
    part-is plan.counted plan.laid_out r.1.1 (places-are plan.counts c.slices_of.ensures.0) c.args.t r.0 r.1.0 c.year_part.ensures
