use Rattle.std.proofs.Common.{◌≡◌, drop}
use Rattle.model.specs.World.{turn_in}
use Rattle.reference.proofs.turn.turn_in.Given as goal

-- What is left ends as the whole does.
abbrev pub invariant-windows : goal.invariant-windows
invariant-windows l = turn_in l.system (drop l.w-index l.windows) l.left ≡ turn_in l.system l.windows l.into
