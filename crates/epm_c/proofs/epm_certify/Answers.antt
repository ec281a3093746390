use mathlib.Core.Path.{◌∙◌}
use Rattle.epm_c.proofs.Laws.{answered, out-binds}
use Rattle.epm_c.proofs.epm_certify.Goals as goal

pub returns : goal.returns
returns c =
    let a = c.args in
    let room = c.if-out-lt2.false in
    let code = c.certificate_code.ensures ∙ c.certify.ensures.0 in
    let two = answered a.out.now room code c.put.ensures in
    (two.0, (two.1, out-binds a.data.now a.scale a.plan.now a.multipliers.now a.out.now room code c.put.ensures))
