use mathlib.Core.Path.{◌∙◌, ap}
use mathlib.Core.Bool.{◌&&◌}
use borrow.Author.Rules.{rules}
use borrow.Author.Tests.{tests}
use lib.Dec.{eqb}
use Rattle.capped.specs.Cap.{cap}
use Rattle.sums.proofs.Sums.{sum-cong}
use Rattle.sums.proofs.Tests.{on_both}
use Rattle.model.specs.Data.{zone, is_vre}
use Rattle.tables.specs.Lists.{data_of}
use Rattle.terms.proofs.plants.vre_sum.Goals as goal

pub returns : goal.returns
returns c =
    let D = data_of c.args.tables.now in
    c.plants_sum.ensures (λ g. eqb (zone D g) c.args.z && is_vre D g) (λ g b l k. search (rules, tests)) ∙ ap cap (sum-cong _ (λ g l. on_both (eqb (zone D g) c.args.z) (is_vre D g) _))
