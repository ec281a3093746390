-- What stands of the data where a refusal names a place of them. Assumes nothing.
use mathlib.Core.Path.{◌≡◌, sym, subst}
use mathlib.Core.List.{List}
use Prim.Native.Nat.{ℕ, ◌≤◌, ◌<◌}
use native.Mathlib.Omega.{arith}
use Rattle.sums.specs.declared.Box.{Box}
use Rattle.sums.specs.Index.{count}
use Rattle.sums.specs.Span.{fine}
use Rattle.model.specs.declared.Counts.{Counts}
use Rattle.model.specs.Data.{counts_of, read}
use Rattle.model.specs.Tests.{data_fault}
use Rattle.tables.specs.Layout.{Counted}
use Rattle.sums.specs.declared.Place.{Place}
use Rattle.places.specs.Numbers.{Numbered}
use Rattle.data_tests.proofs.Passed.{passed-counts, counts-sound, counts-read}
use Rattle.sentences.specs.Asked.{OfPlant}

-- data that passed the tests has counts, and a number that there is at the data's counts is one at those that the code holds
pub numbered-asked : (l : List ℕ) {c : Counts} → data_fault l ≡ fine → c ≡ counts_of l → (boxes : Counts → List Box) {n : ℕ} → n < count (boxes (read l).counts)
    → Counted c × (n < count (boxes c))
numbered-asked l s e boxes {n} h = (counts-sound l s e, subst (λ (d : Counts). n < count (boxes d)) (counts-read l e) h)

-- and what has a number at the counts that the code holds has it at the data's
pub numbered-read : (l : List ℕ) {c : Counts} → c ≡ counts_of l → (boxes : Counts → List Box) {n : ℕ} {p : Place} → Numbered (boxes c) n p → Numbered (boxes (read l).counts) n p
numbered-read l e boxes {n} {p} m = subst (λ (d : Counts). Numbered (boxes d) n p) (sym (counts-read l e)) m

-- a plant's number can be counted from 1 in a machine word
pub plant-low : (l : List ℕ) (g : ℕ) → OfPlant l g → g ≤ 1000
unfolding read
plant-low l g h = omega (arith, (passed-counts l h.0).few_plants, h.1)
