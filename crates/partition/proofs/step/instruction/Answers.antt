use Rattle.std.proofs.Common.{◌+◌, length, sym, refl, ap, ◌∙◌, arith}
use Rattle.octets.specs.Bytes.{bytes_of}
use Rattle.memory.specs.Frames.{memory_of}
use Rattle.cpu.specs.declared.effect.Effect.TheVariants.{Sets, Goes, Loads, Stores, Calls, Wrong}
use Rattle.cpu.specs.Act.{quiet, store}
use Rattle.cpu.specs.Held.{core_of}
use Rattle.cpu.specs.Meaning.{store_bytes}
use Rattle.cpu.specs.Rv32i.{going_on, written, going}
use Rattle.std.proofs.lemmas.Bool.{cond-true, le-leb}
use Rattle.partition.proofs.Steps.{comes_to, loaded, did_quiet, did_wrong, did_store, did_call}
use Rattle.partition.proofs.step.instruction.Goals as goal

pub returns-in-Sets-clause-did : goal.returns-in-Sets-clause-did
returns-in-Sets-clause-did c =
    let b = c.args.b.now.bytes.now in
    let k = core_of c.args.core.now in
    let comes = comes_to b c.block-block.result.bytes.now k c.pc.result c.size.result c.fetch-word.result (Sets c.in-Sets.rd c.in-Sets.value c.in-Sets.next) c.block-block.ensures.bytes c.pc.ensures.value
    c.fetch-word.ensures.value c.size.ensures.value c.in-Sets.ensures.value in
    did_quiet b k (core_of c.go.new.self) c.args.time _ comes
    (ap quiet (sym (c.go.ensures.after ∙ ap (λ z. going z c.in-Sets.next) c.set.ensures.after)))

pub returns-in-Goes-clause-did : goal.returns-in-Goes-clause-did
returns-in-Goes-clause-did c =
    let b = c.args.b.now.bytes.now in
    let k = core_of c.args.core.now in
    let comes = comes_to b c.block-block.result.bytes.now k c.pc.result c.size.result c.fetch-word.result (Goes c.in-Goes.next) c.block-block.ensures.bytes c.pc.ensures.value
    c.fetch-word.ensures.value c.size.ensures.value c.in-Goes.ensures.value in
    did_quiet b k (core_of c.go-in-Goes.new.self) c.args.time _ comes (ap quiet (sym c.go-in-Goes.ensures.after))

pub returns-in-Wrong-clause-did : goal.returns-in-Wrong-clause-did
returns-in-Wrong-clause-did c =
    let b = c.args.b.now.bytes.now in
    let k = core_of c.args.core.now in
    let comes = comes_to b c.block-block.result.bytes.now k c.pc.result c.size.result c.fetch-word.result Wrong c.block-block.ensures.bytes c.pc.ensures.value
    c.fetch-word.ensures.value c.size.ensures.value c.in-Wrong.ensures.value in
    did_wrong b k k c.args.time _ comes refl

pub returns-in-Calls-clause-did : goal.returns-in-Calls-clause-did
returns-in-Calls-clause-did c =
    let b = c.args.b.now.bytes.now in
    let k = core_of c.args.core.now in
    let comes = comes_to b c.block-block.result.bytes.now k c.pc.result c.size.result c.fetch-word.result Calls c.block-block.ensures.bytes c.pc.ensures.value
    c.fetch-word.ensures.value c.size.ensures.value c.in-Calls.ensures.value in
    did_call b c.call.new.b.bytes.now k (core_of c.call.new.core) c.args.time c.call.result comes c.call.ensures.part c.call.ensures.still c.call.ensures.kept

pub returns-in-Some-clause-did : goal.returns-in-Some-clause-did
returns-in-Some-clause-did c =
    let b = c.args.b.now.bytes.now in
    let k = core_of c.args.core.now in
    let comes = comes_to b c.block-block.result.bytes.now k c.pc.result c.size.result c.fetch-word.result (Loads c.in-Loads.rd c.in-Loads.kind c.in-Loads.address) c.block-block.ensures.bytes c.pc.ensures.value
    c.fetch-word.ensures.value c.size.ensures.value c.in-Loads.ensures.value in
    let value = loaded b c.block-block.result.bytes.now c.in-Loads.kind c.in-Loads.address c.in-Some.value c.block-block.ensures.bytes
    (omega (arith, c.in-Loads.ensures.inside.1, c.size.ensures.value)) c.in-Some.ensures.value in
    did_quiet b k (core_of c.go_on.new.self) c.args.time _ comes
    (ap quiet (sym (c.go_on.ensures.after ∙ ap going_on (c.set-in-Loads.ensures.after ∙ ap (written k c.in-Loads.rd.number) value))))

pub returns-in-Some-store-clause-did : goal.returns-in-Some-store-clause-did
returns-in-Some-store-clause-did c =
    let b = c.args.b.now.bytes.now in
    let k = core_of c.args.core.now in
    let comes = comes_to b c.block-block.result.bytes.now k c.pc.result c.size.result c.fetch-word.result (Stores c.in-Stores.kind c.in-Stores.address c.in-Stores.value) c.block-block.ensures.bytes c.pc.ensures.value
    c.fetch-word.ensures.value c.size.ensures.value c.in-Stores.ensures.value in
    let bs = bytes_of (store_bytes c.in-Stores.kind) c.in-Stores.value in
    let fits = le-leb (c.in-Stores.address + store_bytes c.in-Stores.kind) (length (memory_of b)) (omega (arith, c.in-Stores.ensures.inside.1, c.size.ensures.value, ap (λ xs. length (memory_of xs)) c.block-block.ensures.bytes)) in
    did_store b k (core_of c.go_on-in-Stores.new.self) c.args.time _ comes c.store.new.self.bytes.now c.in-Stores.address bs
    (ap (store c.in-Stores.address bs) (sym c.go_on-in-Stores.ensures.after)) (c.store.ensures.memory ∙ cond-true _ _ _ fits) c.store.ensures.control
