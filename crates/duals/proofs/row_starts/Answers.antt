use mathlib.Core.Path.{◌≡◌, ◌∙◌}
use native.Mathlib.Nat.{zero-add}
use native.Mathlib.Omega.{arith}
use lib.ListN.{get_or}
use borrow.Author.Rules.{rules}
use Rattle.duals.proofs.Laws.{all-sizes, few-rows, size-at}
use Rattle.duals.proofs.row_starts.Goals as goal

pub starts_of-requires : goal.starts_of-requires
starts_of-requires c =
    let whole = all-sizes c.requires in (
      search rules,
      (
        search rules,
        (
          λ k l. search rules,
          λ k r l e.
              let size : r ≡ get_or c.args.shape.sizes k 0 = search rules in
              omega (arith, size, few-rows c.requires l),
        ),
      ),
    )

pub returns : goal.returns
returns c =
    let sizes = c.starts_of.ensures.value _ (λ k r l e. let size : r ≡ get_or c.args.shape.sizes k 0 = search rules in size ∙ size-at c.requires l) in
    (c.starts_of.ensures.length, λ k h. sizes k h ∙ zero-add _)
