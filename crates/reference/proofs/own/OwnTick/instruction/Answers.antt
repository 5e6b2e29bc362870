use Rattle.std.proofs.Common.{sym, refl, ap, ◌∙◌}
use Rattle.cpu.specs.Rv32i.{effect_at, going_on, written}
use Rattle.cpu.specs.Rv32i.{going as going_to}
use Rattle.cpu.specs.Meaning.{load_bytes, extended}
use Rattle.cpu.specs.declared.effect.Effect.TheVariants.{Sets, Goes, Loads, Stores, Wrong}
use Rattle.octets.specs.Bytes.{at}
use Rattle.model.specs.Tick.{acted, none, with_memory, goes_on, stops}
use Rattle.reference.specs.Parts.{heard_of, part_of}
use Rattle.reference.proofs.Steps.{did_as}
use Rattle.reference.proofs.Ticks.{core, acting, becoming, with_the_core, quiet, goes_so, goes_with}
use Rattle.reference.proofs.own.OwnTick.instruction.Goals as goal

pub returns-in-Sets-clause-value : goal.returns-in-Sets-clause-value
unfolding acted part_of
returns-in-Sets-clause-value c =
    let t = c.args.self.now in
    let k = going_to (written (core t) c.in-Sets.rd.number c.in-Sets.value) c.in-Sets.next in
    let after = c.go.ensures.after ∙ ap (λ z. going_to z c.in-Sets.next) (c.set.ensures.after ∙ ap (λ z. written z c.in-Sets.rd.number c.in-Sets.value) c.core-core.ensures) in
    quiet t (acting t (effect_at (core t) t.memory.now)) (acting t (Sets c.in-Sets.rd c.in-Sets.value c.in-Sets.next)) c.put.new.self t.memory.now (heard_of t.part.now) (goes_on k)
    (λ s. ap (λ e. acting t e s) (sym (c.effect.ensures.value ∙ ap (λ z. effect_at z t.memory.now) c.core-core.ensures) ∙ c.in-Sets.is)) (λ s. refl)
    (goes_with t c.requires c.put.new.self k _ c.put.ensures.runs (c.with_core.ensures ∙ ap (with_the_core t) after)) c.put.ensures.heard

pub returns-in-Goes-clause-value : goal.returns-in-Goes-clause-value
unfolding acted part_of
returns-in-Goes-clause-value c =
    let t = c.args.self.now in
    let k = going_to (core t) c.in-Goes.next in
    let after = c.go-in-Goes.ensures.after ∙ ap (λ z. going_to z c.in-Goes.next) c.core-core.ensures in
    quiet t (acting t (effect_at (core t) t.memory.now)) (acting t (Goes c.in-Goes.next)) c.put-in-Goes.new.self t.memory.now (heard_of t.part.now) (goes_on k)
    (λ s. ap (λ e. acting t e s) (sym (c.effect.ensures.value ∙ ap (λ z. effect_at z t.memory.now) c.core-core.ensures) ∙ c.in-Goes.is)) (λ s. refl)
    (goes_with t c.requires c.put-in-Goes.new.self k _ c.put-in-Goes.ensures.runs (c.with_core-in-Goes.ensures ∙ ap (with_the_core t) after)) c.put-in-Goes.ensures.heard

pub returns-in-Loads-clause-value : goal.returns-in-Loads-clause-value
unfolding acted part_of
returns-in-Loads-clause-value c =
    let t = c.args.self.now in
    let k = going_on (written (core t) c.in-Loads.rd.number (extended c.in-Loads.kind (at (load_bytes c.in-Loads.kind) t.memory.now c.in-Loads.address))) in
    let after = c.go_on.ensures.after ∙ ap going_on (c.set-in-Loads.ensures.after ∙ (λ j. written (c.core-core.ensures j) c.in-Loads.rd.number ((c.finish.ensures.value ∙ ap (extended c.in-Loads.kind) c.read-raw.ensures.value) j))) in
    quiet t (acting t (effect_at (core t) t.memory.now)) (acting t (Loads c.in-Loads.rd c.in-Loads.kind c.in-Loads.address)) c.put-in-Loads.new.self t.memory.now (heard_of t.part.now) (goes_on k)
    (λ s. ap (λ e. acting t e s) (sym (c.effect.ensures.value ∙ ap (λ z. effect_at z t.memory.now) c.core-core.ensures) ∙ c.in-Loads.is)) (λ s. refl)
    (goes_with t c.requires c.put-in-Loads.new.self k _ c.put-in-Loads.ensures.runs (c.with_core-in-Loads.ensures ∙ ap (with_the_core t) after)) c.put-in-Loads.ensures.heard

pub returns-in-Stores-clause-value : goal.returns-in-Stores-clause-value
unfolding acted part_of with_memory
returns-in-Stores-clause-value c =
    let t = c.args.self.now in
    let k = going_on (core t) in
    let after = c.go_on-in-Stores.ensures.after ∙ ap going_on c.core-core.ensures in
    quiet t (acting t (effect_at (core t) t.memory.now)) (acting t (Stores c.in-Stores.kind c.in-Stores.address c.in-Stores.value)) c.put-in-Stores.new.self c.write.new.b (heard_of t.part.now) (goes_on k)
    (λ s. ap (λ e. acting t e s) (sym (c.effect.ensures.value ∙ ap (λ z. effect_at z t.memory.now) c.core-core.ensures) ∙ c.in-Stores.is)) (λ s. ap (λ m. record { part = becoming t m (heard_of t.part.now) (goes_on k) s; change = none }) (sym c.write.ensures.after))
    (goes_with t c.requires c.put-in-Stores.new.self k _ c.put-in-Stores.ensures.runs (c.with_core-in-Stores.ensures ∙ ap (with_the_core t) after)) c.put-in-Stores.ensures.heard

pub returns-in-Calls-clause-value : goal.returns-in-Calls-clause-value
unfolding acted
returns-in-Calls-clause-value c =
    let t = c.args.self.now in did_as _ (acting t (effect_at (core t) t.memory.now)) t.time _ _ t.channels.now _ _ (λ s. ap (λ e. acting t e s) (sym (c.effect.ensures.value ∙ ap (λ z. effect_at z t.memory.now) c.core-core.ensures) ∙ c.in-Calls.is)) c.call.ensures.value

pub returns-in-Wrong-clause-value : goal.returns-in-Wrong-clause-value
unfolding acted part_of stops
returns-in-Wrong-clause-value c =
    let t = c.args.self.now in
    quiet t (acting t (effect_at (core t) t.memory.now)) (acting t Wrong) c.put-in-Wrong.new.self t.memory.now (heard_of t.part.now) stops
    (λ s. ap (λ e. acting t e s) (sym (c.effect.ensures.value ∙ ap (λ z. effect_at z t.memory.now) c.core-core.ensures) ∙ c.in-Wrong.is)) (λ s. refl)
    (goes_so t c.requires c.put-in-Wrong.new.self _ stops c.put-in-Wrong.ensures.runs c.stops.ensures) c.put-in-Wrong.ensures.heard
