-- (21) as document 01 has it, before request (iv): for the statements that compare both rows. No test and no call reads this file.
use Rattle.std.specs.Prelude.{cond, ℕ, ◌+◌, ◌*◌, eqb}
use Rattle.sums.specs.Sum.{sum}
use Rattle.sums.specs.Index.{Index, index}
use Rattle.sums.specs.Linear.{nothing, ◌·◌, ◌⊕◌}
use Rattle.model.specs.Data.{Data, cap_credit, prm, tl, peak, Q}
use Rattle.model.specs.Columns.{cap, firmshort}
use Rattle.model.specs.Families.{Equation, in_zone, others_sum, equation}

module _ (D : Data) where
  -- 4 (21): Σ CapCredit·cap + firmshort + 1000·Σ TL[z2,z] over z2 and all seasons ≥ (1000 + PRM)·peak
  abbrev pub earlier_firm : ℕ → ℕ → Equation
  earlier_firm y z = record {
    positive = in_zone D z (λ g. cap_credit D g · cap y g) ⊕ 1 · firmshort y z;
    negative = nothing;
    plus = 1000 * others_sum D z (λ u. sum (Q D) (λ q. tl D y u z q));
    minus = (1000 + prm D z) * peak D y z;
  }

  -- the row of any family as it was: family 4, counted from 0 here, reads as above, and the others as they do now
  abbrev pub earlier_equation : Index → Equation
  earlier_equation (index k y i j s) = cond (eqb k 3) (earlier_firm y i) (equation D (index k y i j s))
