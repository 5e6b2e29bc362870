-- A core: the program counter, and the registers x0 to x31. Assumes nothing: these are definitions.
use Rattle.std.specs.Prelude.{ℕ, List, replicate, slice_set}

pub record Core : Type 0 where
  pub pc : ℕ
  pub x : List ℕ

-- A new task has its number in x10, and all else is 0.
unfoldable pub fresh : ℕ → Core
fresh i = record { pc = 0; x = slice_set (replicate 32 0) 10 i }
