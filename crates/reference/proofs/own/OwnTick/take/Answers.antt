use Rattle.std.proofs.Common.{get_or}
use Rattle.std.proofs.lemmas.Option.{slice_get-get_or}
use Rattle.reference.proofs.Channels.{take_nowhere, take_there}
use Rattle.reference.proofs.own.OwnTick.take.Goals as goal

pub returns-then-c-self-clause-value : goal.returns-then-c-self-clause-value
returns-then-c-self-clause-value c =
    let w = c.args.self.now in take_nowhere w.q w.time w.channels.now w.memory.now c.args.channel c.args.address c.if-c-self.true

pub returns-clause-value : goal.returns-clause-value
returns-clause-value c =
    let w = c.args.self.now in
    let queue = c.index-self-c.result in
    take_there w.q w.time w.channels.now w.memory.now c.args.channel c.args.address (get_or w.channels.now c.args.channel queue) c.take.new.self c.take.result c.take.new.memory
    (slice_get-get_or w.channels.now c.args.channel queue c.if-c-self.false) c.take.ensures.same c.take.ensures.value
