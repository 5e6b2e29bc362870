-- Ticks of the whole computer in which nothing comes from outside, and all of which are one partition's, or the system's.
use Rattle.std.proofs.Common.{◌≡◌, ℕ, zero, suc, ◌+◌, ◌<◌, cond, ◌&&◌, ◌||◌, eqb, List, [], ◌∷◌, length, get_or, set, replicate, Some, None, Option, sym, refl, ap, ◌∙◌, add-zero, arith, length-set, get_or-set_same, set-set}
use lib.Seq.{set-get_or}
use Rattle.std.proofs.lemmas.Bool.{le-ltb}
use Rattle.cpu.specs.Core.{Core}
use Rattle.cpu.specs.Act.{Act, quiet, store, call, wrong}
use Rattle.cpu.specs.declared.call.Call.{Call}
use Rattle.cpu.specs.declared.call.Call.TheVariants.{Show, Wait, Clock, Send, Take, Hear, Unknown}
use Rattle.cpu.specs.declared.call.Answer.{Answer}
use Rattle.cpu.specs.Rv32i.{rv32i, act}
use Rattle.model.specs.declared.plan.Task.{Task}
use Rattle.model.specs.declared.plan.Arrival.{Arrival}
use Rattle.model.specs.World.{Plan, Run, Part, World, no_part, part, turn, channel, messages}
use Rattle.model.specs.Tick.{none, seen, part_tick, instruction, does, acted, called, sends, takes, refused, applied, changed, came, later, work, tick, ticks}
use Rattle.partition.specs.Stretch.{none_seen, part_ticks}

-- Where there are no channels none is seen.
none_seen_lem : (q : ℕ) (w : World Core) → seen [] q w ≡ none_seen
unfolding seen
none_seen_lem q w =
    λ j c.
    ap (λ b. cond (b && (eqb (channel [] c).from q || eqb (channel [] c).to q)) (Some (record { plan = channel [] c; messages = messages w c })) None) (le-ltb c 0 (omega arith)) j

-- Nothing becomes of the channels.
called_none : (q t : ℕ) (x : Part Core) (i : ℕ) (k : Call) (then : Answer → Core) → (called q t none_seen x i k then).change ≡ none
unfolding called sends takes refused
called_none q t x i (Show b) then = refl
called_none q t x i Wait then = refl
called_none q t x i Clock then = refl
called_none q t x i (Send c a n) then = refl
called_none q t x i (Take c a) then = refl
called_none q t x i Hear then = refl
called_none q t x i Unknown then = refl

acted_none : (q t : ℕ) (x : Part Core) (i : ℕ) (a : Act Core) → (acted q t none_seen x i a).change ≡ none
unfolding acted
acted_none q t x i (quiet c) = refl
acted_none q t x i (store a bs c) = refl
acted_none q t x i (call k then) = called_none q t x i k then
acted_none q t x i wrong = refl

does_none : (q t : ℕ) (x : Part Core) (i : ℕ) (rs : List (Run Core)) → (does rv32i q t none_seen x i rs).change ≡ none
unfolding does
does_none q t x i [] = refl
does_none q t x i (r ∷ rs) = acted_none q t x i (act r.core x.memory)

instruction_none : (q t : ℕ) (x : Part Core) (o : Option ℕ) → (instruction rv32i q t none_seen x o).change ≡ none
unfolding instruction
instruction_none q t x None = refl
instruction_none q t x (Some i) = does_none q t x i _

tick_none : (q t : ℕ) (ks : List Task) (x : Part Core) → (part_tick rv32i q t none_seen ks x).change ≡ none
unfolding part_tick
tick_none q t ks x = instruction_none q t _ _

-- The world in which part q is this one, at this time.
unfoldable pub standing : World Core → ℕ → ℕ → Part Core → World Core
standing w t q x = record { time = t; parts = set w.parts q x; channels = w.channels }

-- One tick of q, in which nothing comes.
own_tick :
    (p : Plan) (w : World Core) (q : ℕ) → p.channels ≡ [] → turn p w.time ≡ Some q →
    tick rv32i p w [] ≡ standing w (suc w.time) q (part_tick rv32i q w.time none_seen (get_or p.tasks q []) (part w q)).part
unfolding tick later work came applied changed standing
own_tick p w q none_there turns =
    ap (λ o. later (work rv32i p w o)) turns
    ∙ ap (λ chs. later (applied w q (part_tick rv32i q w.time (seen chs q w) (get_or p.tasks q []) (part w q)))) none_there
    ∙ ap (λ f. later (applied w q (part_tick rv32i q w.time f (get_or p.tasks q []) (part w q)))) (none_seen_lem q w)
    ∙ ap (λ ch. standing (record { time = w.time; parts = w.parts; channels = changed ch w.channels }) (suc w.time) q (part_tick rv32i q w.time none_seen (get_or p.tasks q []) (part w q)).part)
    (tick_none q w.time (get_or p.tasks q []) (part w q))

part_standing : (w : World Core) (t q : ℕ) (x : Part Core) → q < length w.parts → part (standing w t q x) q ≡ x
unfolding part standing
part_standing w t q x h = get_or-set_same _ _ _ _ h

standing_twice : (w : World Core) (t u q : ℕ) (x y : Part Core) → standing (standing w t q x) u q y ≡ standing w u q y
unfolding standing
standing_twice w t u q x y = ap (λ xs. record { time = u; parts = xs; channels = w.channels }) (set-set w.parts q x y)

time_standing : (w : World Core) (t q : ℕ) (x : Part Core) → (standing w t q x).time ≡ t
unfolding standing
time_standing w t q x = refl

length-standing : (w : World Core) (t q : ℕ) (x : Part Core) → length (standing w t q x).parts ≡ length w.parts
unfolding standing
length-standing w t q x = length-set w.parts q x

-- Ticks of q in a row.
pub own_ticks :
    (p : Plan) (w : World Core) (q n : ℕ) → p.channels ≡ [] → q < length w.parts → ((k : ℕ) → k < n → turn p (w.time + k) ≡ Some q) →
    ticks rv32i p w (replicate n []) ≡ standing w (w.time + n) q (part_ticks q (get_or p.tasks q []) w.time n (part w q))
unfolding ticks part_ticks standing part
own_ticks p w q zero none_there lt turns =
    λ j. record { time = sym (add-zero w.time) j; parts = sym (set-get_or w.parts q no_part) j; channels = w.channels }
own_ticks p w q (suc n) none_there lt turns =
    let x : Part Core = (part_tick rv32i q w.time none_seen (get_or p.tasks q []) (part w q)).part in
    let v : World Core = standing w (suc w.time) q x in
    let z : suc w.time + n ≡ w.time + suc n = omega arith in
    let here : turn p w.time ≡ Some q = ap (turn p) (sym (add-zero w.time)) ∙ turns 0 (omega arith) in
    let next : (k : ℕ) → k < n → turn p (suc w.time + k) ≡ Some q = λ k h. let e : suc w.time + k ≡ w.time + suc k = omega arith in ap (turn p) e ∙ turns (suc k) (omega arith) in
    ap (λ u. ticks rv32i p u (replicate n [])) (own_tick p w q none_there here)
    ∙ own_ticks p v q n none_there (omega (arith, length-standing w (suc w.time) q x)) next
    ∙ ap (λ y. standing v (suc w.time + n) q (part_ticks q (get_or p.tasks q []) (suc w.time) n y)) (part_standing w (suc w.time) q x lt)
    ∙ standing_twice w (suc w.time) (suc w.time + n) q x (part_ticks q (get_or p.tasks q []) (suc w.time) n x)
    ∙ ap (λ u. standing w u q (part_ticks q (get_or p.tasks q []) (suc w.time) n x)) z

-- Ticks of nobody in a row.
pub no_ticks :
    (p : Plan) (w : World Core) (n : ℕ) → ((k : ℕ) → k < n → turn p (w.time + k) ≡ None) →
    ticks rv32i p w (replicate n []) ≡ record { time = w.time + n; parts = w.parts; channels = w.channels }
unfolding ticks tick later work came
no_ticks p w zero turns = λ j. record { time = sym (add-zero w.time) j; parts = w.parts; channels = w.channels }
no_ticks p w (suc n) turns =
    let z : suc w.time + n ≡ w.time + suc n = omega arith in
    let here : turn p w.time ≡ None = ap (turn p) (sym (add-zero w.time)) ∙ turns 0 (omega arith) in
    let next : (k : ℕ) → k < n → turn p (suc w.time + k) ≡ None = λ k h. let e : suc w.time + k ≡ w.time + suc k = omega arith in ap (turn p) e ∙ turns (suc k) (omega arith) in
    ap (λ o. ticks rv32i p (later (work rv32i p w o)) (replicate n [])) here
    ∙ no_ticks p (record { time = suc w.time; parts = w.parts; channels = w.channels }) n next
    ∙ ap (λ u. record { time = u; parts = w.parts; channels = w.channels }) z

-- What comes does not change the time, and may come before the tick.
pub came_time : (as' : List Arrival) (w : World Core) → (came as' w).time ≡ w.time
unfolding came
came_time [] w = refl
came_time (a ∷ as') w = came_time as' _

pub came_first : (p : Plan) (w : World Core) (row : List Arrival) → tick rv32i p w row ≡ tick rv32i p (came row w) []
unfolding tick came
came_first p w row = ap (λ t. later (work rv32i p (came row w) (turn p t))) (sym (came_time row w))
