-- What a checked row's view says. Assumes nothing: these are definitions.
use Rattle.std.specs.Prelude.{List}
use Rattle.model.specs.declared.plan.Arrival.{Arrival}
use Rattle.plan.specs.declared.row.Row.{Row}
use Rattle.plan.specs.Rows.{row_in}

abbrev pub arrivals_of : Row → List Arrival
arrivals_of r = row_in r.partitions r.bytes.now r.at
