-- The core as a machine: what the instruction at hand comes to, given the core and the memory. Assumes nothing: these
-- are definitions.
use Rattle.std.specs.Prelude.{ℕ, if◌then◌else◌, List, length, Some, None, Option, ◌==◌, slice_index, slice_set}
use Rattle.octets.specs.Bytes.{at, bytes_of}
use Rattle.decode.specs.declared.instruction.Instruction.{Instruction}
use Rattle.decode.specs.Decoded.{decoded}
use Rattle.cpu.specs.declared.call.Call.{Call}
use Rattle.cpu.specs.declared.call.Answer.{Answer}
use Rattle.cpu.specs.declared.call.Answer.TheVariants.{Value, Message}
use Rattle.cpu.specs.declared.effect.Effect.{Effect}
use Rattle.cpu.specs.declared.effect.Effect.TheVariants.{Sets, Goes, Loads, Stores, Calls, Wrong}
use Rattle.cpu.specs.Act.{Act, quiet, store, call, wrong, Machine}
use Rattle.cpu.specs.Core.{Core, fresh}
use Rattle.cpu.specs.Meaning.{load_bytes, store_bytes, extended}
use Rattle.cpu.specs.Effects.{following, inside, effect, sources}
use Rattle.cpu.specs.Calls.{call_of}

-- What register n holds; the core with register n written, unless it is x0; the core that goes on elsewhere.
abbrev pub held : Core → ℕ → ℕ
held c n = slice_index c.x n

abbrev pub written : Core → ℕ → ℕ → Core
written c n v = if n == 0 then c else record { pc = c.pc; x = slice_set c.x n v }

abbrev pub going : Core → ℕ → Core
going c k = record { pc = k; x = c.x }

abbrev pub going_on : Core → Core
going_on c = going c (following c.pc)

-- The call that a core makes, and how it goes on with what comes back.
abbrev pub called : Core → Call
called c = call_of (held c 17) (held c 10) (held c 11) (held c 12)

abbrev pub answered : Core → Answer → Core
answered c (Value v) = going_on (written c 10 v)
answered c (Message age long) = going_on (written (written c 10 age) 11 long)

-- The word at the pc, if it lies in memory.
abbrev pub fetched : Core → List ℕ → Option ℕ
fetched c m = if inside 4 c.pc (length m) then Some (at 4 m c.pc) else None

-- The effect of the instruction of a word, where memory has so many bytes.
abbrev pub effect_decoded : Core → Option Instruction → ℕ → Effect
effect_decoded c None size = Wrong
effect_decoded c (Some i) size = effect i c.pc (held c (sources i).0.number) (held c (sources i).1.number) size

abbrev pub effect_fetched : Core → Option ℕ → ℕ → Effect
effect_fetched c None size = Wrong
effect_fetched c (Some w) size = effect_decoded c (decoded w) size

abbrev pub effect_at : Core → List ℕ → Effect
effect_at c m = effect_fetched c (fetched c m) (length m)

-- What comes of it where memory holds m.
abbrev pub performed : Core → List ℕ → Effect → Act Core
performed c m (Sets rd value next) = quiet (going (written c rd.number value) next)
performed c m (Goes next) = quiet (going c next)
performed c m (Loads rd kind address) = quiet (going_on (written c rd.number (extended kind (at (load_bytes kind) m address))))
performed c m (Stores kind address value) = store address (bytes_of (store_bytes kind) value) (going_on c)
performed c m Calls = call (called c) (answered c)
performed c m Wrong = wrong

abbrev pub act : Core → List ℕ → Act Core
act c m = performed c m (effect_at c m)

abbrev pub rv32i : Machine Core
rv32i = record { fresh = fresh; act = act }
