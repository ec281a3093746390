use borrow.Author.Rules.{rules}
use mathlib.Core.Path.{refl, sym, ap, ◌∙◌}
use Rattle.sums.specs.Span.{upto}
use Rattle.model.specs.declared.Counts.{Counts}
use Rattle.model.specs.Calls.{outcome}
use Rattle.model.specs.Data.{read}
use Rattle.model.specs.Tests.{storage_fault, plant_storage_fault}
use Rattle.model.proofs.Batteries.{plant-refused, plant-passed}
use Rattle.data_tests.proofs.test_storage.Goals as goal

pub returns : goal.returns
unfolding storage_fault
returns c =
    let D = read c.args.tables.now.list.now in
    c.first_refused.ensures (plant_storage_fault D) (λ g h k. plant-passed D g (search rules) refl)
    (λ g r h k e. let z = plant-refused D g (search rules) refl in search rules)
    ∙ ap (λ (k : Counts). outcome (upto k.plants (plant_storage_fault D))) (sym c.args.tables.now.laid_out.counts)
