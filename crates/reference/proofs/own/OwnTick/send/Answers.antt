use Rattle.std.proofs.Common.{get_or}
use Rattle.std.proofs.lemmas.Option.{slice_get-get_or}
use Rattle.reference.proofs.Channels.{send_nowhere, send_there}
use Rattle.reference.proofs.own.OwnTick.send.Goals as goal

pub returns-then-c-self-clause-value : goal.returns-then-c-self-clause-value
returns-then-c-self-clause-value c =
    let w = c.args.self.now in send_nowhere w.q w.time w.channels.now w.memory.now c.args.channel c.args.address c.args.length c.if-c-self.true

pub returns-clause-value : goal.returns-clause-value
returns-clause-value c =
    let w = c.args.self.now in
    let queue = c.index-channels-c.result in
    send_there w.q w.time w.channels.now w.memory.now c.args.channel c.args.address c.args.length (get_or w.channels.now c.args.channel queue) c.send.new.self c.send.result
    (slice_get-get_or w.channels.now c.args.channel queue c.if-c-self.false) c.send.ensures.same c.send.ensures.value
