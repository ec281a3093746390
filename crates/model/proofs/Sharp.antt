-- The bound of demand 3 is reached, and speaks of every scale from 1 up.
use mathlib.Core.Path.{ap}
use Prim.Native.Nat.{ℕ, ◌*◌, ◌≤◌}
use native.Mathlib.Nat.{mul-add}
use native.Mathlib.Omega.{arith}
use borrow.Author.Tests.{eqb-true}
use Rattle.model.specs.Data.{read}
use Rattle.model.specs.Columns.{entries}
use Rattle.model.specs.Tests.{scale_fault, plan_length_fault}
use Rattle.model.specs.Calls.{cost_of}
use Rattle.model.specs.Station.{station, first_case, plan_of, multipliers_of}
use Rattle.model.specs.Claims.{AtScaleOne, SharpBound, SharpStation}
use Rattle.model.proofs.Sound.{passed, in-range}
use Rattle.model.proofs.Demand.{answered, meets-all}
use Rattle.model.proofs.Station.{first-answer}

pub at-scale-one : AtScaleOne
at-scale-one D N c g bounds x r = omega (arith, bounds 1 (omega arith) x r)

pub sharp-bound : SharpBound
unfolding scale_fault plan_length_fault cost_of
sharp-bound l N plan ms c e =
    let a = answered l N plan ms e in
    let meets = meets-all (read l) N (entries (read l) plan) a.tests.rows_pass in
    let scale : 1 ≤ N = (in-range _ N (passed _ _ a.tests.scale-pass)).0 in
    record {
      rival = record { complete = eqb-true _ _ (passed _ _ a.tests.length-pass); meets = meets };
      reached = rw a.cost-is (omega arith);
      highest = λ bounds. omega (arith, scale, ap (λ (v : ℕ). N * v) a.cost-is, mul-add N c 1, bounds N (omega arith) (entries (read l) plan) meets);
    }

pub sharp-station : SharpStation
sharp-station = record { answered = first-answer; sharp = sharp-bound station 1 (plan_of first_case) (multipliers_of first_case) 40000000000 first-answer }
