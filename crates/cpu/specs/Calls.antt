-- The call that a task's registers say. Assumes nothing: these are definitions.
use Rattle.std.specs.Prelude.{ℕ, ◌%◌, if◌then◌else◌, ◌==◌}
use Rattle.cpu.specs.declared.call.Call.{Call}
use Rattle.cpu.specs.declared.call.Call.TheVariants.{Show, Wait, Clock, Send, Take, Hear, Unknown}

-- By the number in x17, with the arguments in x10, x11 and x12.
abbrev pub call_of : (number a0 a1 a2 : ℕ) → Call
call_of number a0 a1 a2 =
    if number == 0 then Show (a0 % 256)
    else if number == 1 then Wait
    else if number == 2 then Clock
    else if number == 3 then Send a0 a1 a2
    else if number == 4 then Take a0 a1
    else if number == 5 then Hear else Unknown
