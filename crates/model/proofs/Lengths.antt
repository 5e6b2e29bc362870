-- How long a memory is: a tick leaves it as long as it was. Assumes nothing.
use Rattle.std.proofs.Common.{◌≡◌, ℕ, zero, suc, ◌+◌, ◌-◌, ◌/◌, ◌%◌, ◌≤◌, eqb, leb, List, [], ◌∷◌, ◌++◌, length, get_or, take, drop, Some, None, Option, sym, refl, ap, ◌∙◌, arith}
use Rattle.std.proofs.lemmas.List.{length-append, length-take, length-drop}
use Rattle.std.proofs.lemmas.Bool.{cond_both, leb-true, and_parts}
use Rattle.octets.specs.Bytes.{put, bytes_of}
use Rattle.decode.specs.declared.instruction.Instruction.{Instruction}
use Rattle.decode.specs.declared.instruction.Instruction.TheVariants.{Lui, Auipc, Jal, Jalr, Branch, Load, Store, Immediate}
use Rattle.decode.specs.declared.instruction.Instruction.TheVariants.{Shift, Register, Fence, Ecall}
use Rattle.decode.specs.declared.reg.Reg.{Reg}
use Rattle.decode.specs.Decoded.{decoded}
use Rattle.cpu.specs.Act.{Act, quiet, store, call, wrong, Machine}
use Rattle.cpu.specs.Core.{Core}
use Rattle.cpu.specs.Meaning.{taken, load_bytes, store_bytes}
use Rattle.cpu.specs.Effects.{following, displaced, inside, jumps, branches, effect, sources}
use Rattle.cpu.specs.Rv32i.{rv32i, held, fetched, effect_decoded, effect_fetched, effect_at, performed}
use Rattle.cpu.specs.declared.effect.Effect.{Effect}
use Rattle.cpu.specs.declared.effect.Effect.TheVariants.{Sets, Goes, Loads, Stores, Calls, Wrong}
use Rattle.cpu.specs.declared.call.Call.{Call}
use Rattle.cpu.specs.declared.call.Call.TheVariants.{Show, Wait, Clock, Send, Take, Hear, Unknown}
use Rattle.cpu.specs.declared.call.Answer.{Answer}
use Rattle.model.specs.declared.plan.Task.{Task}
use Rattle.model.specs.World.{Plan, Run, Part, Sent, World, no_part, part, turn}
use Rattle.model.specs.Tick.{Step, Sight, with_tasks, with_memory, with_heard, showing, changing, refused, sends}
use Rattle.model.specs.Tick.{takes_first, takes, called, acted, first_ready, looked, does, instruction, part_tick, seen, applied}
use Rattle.model.specs.Tick.{came, later, work, tick}
use Rattle.model.specs.Promise.{Within, StoresWithin, MemoriesKeepLength}
use Rattle.model.proofs.Places.{set_keeps}
use Rattle.model.proofs.Own.{came_keeps}

length-put : (xs : List ℕ) (a : ℕ) (ys : List ℕ) → a + length ys ≤ length xs → length (put xs a ys) ≡ length xs
unfolding put
length-put xs a ys h =
    rw (
      length-append (take a xs) (ys ++ drop (a + length ys) xs),
      length-append ys (drop (a + length ys) xs),
      length-take a xs,
      length-drop (a + length ys) xs,
    ) (omega arith)

module _ {C : Type 0} (q t : ℕ) (see : ℕ → Option Sight) (n : ℕ) where
  Long : Step C → Type 0
  Long s = length s.part.memory ≡ n

  sends_long :
      (x : Part C) (i : ℕ) (then : Answer → C) (c a k : ℕ) (o : Option Sight) → length x.memory ≡ n →
      Long (sends q t see x i then c a k o)
  unfolding Long sends refused changing with_tasks
  sends_long x i then c a k None e = e
  sends_long x i then c a k (Some s) e = cond_both {A = Step C} _ _ _ Long (λ _. e) (λ _. e)

  takes_first_long :
      (x : Part C) (i : ℕ) (then : Answer → C) (c a : ℕ) (s : Sight) (ms : List Sent) → length x.memory ≡ n →
      Long (takes_first q t see x i then c a s ms)
  unfolding Long takes_first refused changing with_tasks with_memory
  takes_first_long x i then c a s [] e = e
  takes_first_long x i then c a s (m ∷ ms) e =
      cond_both {A = Step C} (leb (a + length m.bytes) (length x.memory)) _ _ Long
      (λ h. length-put x.memory a m.bytes (leb-true _ _ h) ∙ e) (λ _. e)

  takes_long :
      (x : Part C) (i : ℕ) (then : Answer → C) (c a : ℕ) (o : Option Sight) → length x.memory ≡ n →
      Long (takes q t see x i then c a o)
  unfolding Long takes refused changing with_tasks
  takes_long x i then c a None e = e
  takes_long x i then c a (Some s) e =
      cond_both {A = Step C} (eqb s.plan.to q) _ _ Long (λ _. takes_first_long x i then c a s s.messages e) (λ _. e)

  called_long : (x : Part C) (i : ℕ) (k : Call) (then : Answer → C) → length x.memory ≡ n → Long (called q t see x i k then)
  unfolding Long called refused changing with_tasks with_heard showing
  called_long x i (Show b) then e = e
  called_long x i Wait then e = e
  called_long x i Clock then e = e
  called_long x i (Send c a k) then e = sends_long x i then c a k (see c) e
  called_long x i (Take c a) then e = takes_long x i then c a (see c) e
  called_long x i Hear then e = e
  called_long x i Unknown then e = e

  acted_long : (x : Part C) (i : ℕ) (a : Act C) → Within x.memory a → length x.memory ≡ n → Long (acted q t see x i a)
  unfolding Long acted changing with_tasks with_memory
  acted_long x i (quiet c) h e = e
  acted_long x i (store a bs c) h e = length-put x.memory a bs h ∙ e
  acted_long x i (call k then) h e = called_long x i k then e
  acted_long x i wrong h e = e

  does_long :
      (M : Machine C) → StoresWithin M → (x : Part C) (i : ℕ) (rs : List (Run C)) → length x.memory ≡ n →
      Long (does M q t see x i rs)
  unfolding Long does
  does_long M keeps x i [] e = e
  does_long M keeps x i (r ∷ rs) e = acted_long x i (M.act r.core x.memory) (keeps r.core x.memory) e

  instruction_long :
      (M : Machine C) → StoresWithin M → (x : Part C) (o : Option ℕ) → length x.memory ≡ n →
      Long (instruction M q t see x o)
  unfolding Long instruction
  instruction_long M keeps x None e = e
  instruction_long M keeps x (Some i) e = does_long M keeps x i (drop i x.tasks) e

  part_tick_long :
      (M : Machine C) → StoresWithin M → (ks : List Task) (x : Part C) → length x.memory ≡ n →
      length (part_tick M q t see ks x).part.memory ≡ n
  unfolding Long part_tick with_tasks
  part_tick_long M keeps ks x e =
      instruction_long M keeps (with_tasks x (looked M ks 0 t x.tasks)) (first_ready ks 0 (looked M ks 0 t x.tasks)) e

work_long :
    {C : Type 0} (M : Machine C) → StoresWithin M → (p : Plan) (w : World C) (o : Option ℕ) (q : ℕ) →
    length (part (work M p w o) q).memory ≡ length (part w q).memory
unfolding work applied part
work_long M keeps p w None q = refl
work_long M keeps p w (Some k) q =
    set_keeps (λ x. length x.memory ≡ length (get_or w.parts q no_part).memory) w.parts k q _ no_part
    (λ z. part_tick_long k w.time (seen p.channels k w) _ M keeps (get_or p.tasks k []) (get_or w.parts k no_part)
    (ap (λ j. length (get_or w.parts j no_part).memory) (sym z)))
    refl

pub memories_keep_length : {C : Type 0} (M : Machine C) → MemoriesKeepLength M
unfolding tick later part with_heard
memories_keep_length M keeps p w row q =
    work_long M keeps p (came row w) (turn p w.time) q ∙ came_keeps (λ x. length x.memory) (λ x bs. refl) row w q

-- RV32I: what a store writes lies in memory.
length-bytes_of : (n v : ℕ) → length (bytes_of n v) ≡ n
unfolding bytes_of
length-bytes_of zero v = refl
length-bytes_of (suc n) v = ap suc (length-bytes_of n (v / 256))

abbrev Fitting : ℕ → Effect → Type 0
Fitting size (Sets rd value next) = Unit {0}
Fitting size (Goes next) = Unit {0}
Fitting size (Loads rd kind address) = Unit {0}
Fitting size (Stores kind address value) = address + store_bytes kind ≤ size
Fitting size Calls = Unit {0}
Fitting size Wrong = Unit {0}

jumps_fit : (rd : Reg) (back target size : ℕ) → Fitting size (jumps rd back target size)
jumps_fit rd back target size =
    cond_both (inside 4 target size) (Sets rd back target) Wrong (Fitting size) (λ _. tt) (λ _. tt)

branches_fit : (target size : ℕ) → Fitting size (branches target size)
branches_fit target size = cond_both (inside 4 target size) (Goes target) Wrong (Fitting size) (λ _. tt) (λ _. tt)

fitting : (i : Instruction) (pc a b size : ℕ) → Fitting size (effect i pc a b size)
fitting (Lui rd upper) pc a b size = tt
fitting (Auipc rd upper) pc a b size = tt
fitting (Jal rd offset) pc a b size = jumps_fit rd (following pc) (displaced pc offset) size
fitting (Jalr rd rs1 offset) pc a b size = jumps_fit rd (following pc) (displaced a offset - displaced a offset % 2) size
fitting (Branch on rs1 rs2 offset) pc a b size =
    cond_both (taken on a b) (branches (displaced pc offset) size) (Goes (following pc)) (Fitting size)
    (λ _. branches_fit (displaced pc offset) size) (λ _. tt)
fitting (Load kind rd rs1 offset) pc a b size =
    cond_both (inside (load_bytes kind) (displaced a offset) size) (Loads rd kind (displaced a offset)) Wrong (Fitting size)
    (λ _. tt) (λ _. tt)
fitting (Store kind rs1 rs2 offset) pc a b size =
    cond_both (inside (store_bytes kind) (displaced a offset) size) (Stores kind (displaced a offset) b) Wrong (Fitting size)
    (λ h. leb-true (displaced a offset + store_bytes kind) size
    (and_parts (eqb (displaced a offset % store_bytes kind) 0) (leb (displaced a offset + store_bytes kind) size) h).1)
    (λ _. tt)
fitting (Immediate op rd rs1 operand) pc a b size = tt
fitting (Shift op rd rs1 amount) pc a b size = tt
fitting (Register op rd rs1 rs2) pc a b size = tt
fitting Fence pc a b size = tt
fitting Ecall pc a b size = tt

fitting_decoded : (c : Core) (o : Option Instruction) (size : ℕ) → Fitting size (effect_decoded c o size)
fitting_decoded c None size = tt
fitting_decoded c (Some i) size =
    fitting i c.pc (held c (sources i).0.number) (held c (sources i).1.number) size

fitting_fetched : (c : Core) (o : Option ℕ) (size : ℕ) → Fitting size (effect_fetched c o size)
fitting_fetched c None size = tt
fitting_fetched c (Some w) size = fitting_decoded c (decoded w) size

within : (c : Core) (m : List ℕ) (e : Effect) → Fitting (length m) e → Within m (performed c m e)
within c m (Sets rd value next) h = tt
within c m (Goes next) h = tt
within c m (Loads rd kind address) h = tt
within c m (Stores kind address value) h = rw (length-bytes_of (store_bytes kind) value) h
within c m Calls h = tt
within c m Wrong h = tt

pub rv32i_within : StoresWithin rv32i
rv32i_within c m = within c m (effect_at c m) (fitting_fetched c (fetched c m) (length m))
