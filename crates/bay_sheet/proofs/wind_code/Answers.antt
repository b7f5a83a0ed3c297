-- `bay_sheet::wind_code`: the two bits (Codes).
use native.Mathlib.Omega.{arith}
use Rattle.bay_sheet.proofs.Codes.{small, joined}
use Rattle.bay_sheet.proofs.wind_code.Goals as goal

pub overflow_mul-result : goal.overflow_mul-result
overflow_mul-result c = omega (arith, small c.args.exposed, small c.args.turned)

pub overflow_add-result : goal.overflow_add-result
overflow_add-result c = omega (arith, small c.args.exposed, small c.args.turned)

pub returns : goal.returns
returns c = joined c.args.exposed c.args.turned
