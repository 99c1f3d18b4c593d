-- What the lists of a plan are, as code has them.
-- Assumes nothing.
use Rattle.plan.specs.Plan.{Plan}
use Rattle.plan.specs.Bytes.{parsed_by}
use Rattle.plan.specs.declared.Lists.{Lists}

abbrev pub listed : Lists → Plan
listed x = parsed_by x.h x.plan.now
