-- What one instruction comes to, for any kind of core C. Assumes nothing: these are definitions.
use Rattle.std.specs.Prelude.{ℕ, List}
use Rattle.cpu.specs.declared.call.Call.{Call}
use Rattle.cpu.specs.declared.call.Answer.{Answer}

pub data Act (C : Type 0) : Type 0 where
  -- the core goes on, and nothing else changes
  quiet : C → Act C
  -- bytes are stored in memory from an address on, and the core goes on
  store : ℕ → List ℕ → C → Act C
  -- a call of the system; what comes back of it says how the core goes on
  call : Call → (Answer → C) → Act C
  -- nothing that an instruction may do: the task stops
  wrong : Act C

-- A kind of core: how a new task of a number begins, and what the instruction at hand does, given the core and the
-- partition's memory.
pub record Machine (C : Type 0) : Type 0 where
  pub fresh : ℕ → C
  pub act : C → List ℕ → Act C
