-- The tick over the whole world is the tick in local form. Assumes nothing.
use Rattle.std.proofs.Common.{◌≡◌, ℕ, zero, suc, ◌+◌, ◌<◌, ◌≤◌, Bool, true, false, cond, ◌&&◌, ◌||◌, eqb, ltb, leb, List, [], ◌∷◌, ◌++◌, length, get_or, drop, set, Some, None, Option, sym, refl, ap, ◌∙◌, subst, ⊎_elim, MatchOption}
use Rattle.std.proofs.lemmas.List.{get_or-set_same, set-set, set_past, set-get_or, get_or_past, drop_more, length-set, length-map}
use Rattle.std.proofs.lemmas.Bool.{cases_lt}
use Rattle.octets.specs.Bytes.{put}
use Rattle.cpu.specs.Act.{Act, quiet, store, call, wrong, Machine}
use Rattle.cpu.specs.declared.call.Call.{Call}
use Rattle.cpu.specs.declared.call.Call.TheVariants.{Show, Wait, Clock, Send, Take, Hear, Unknown}
use Rattle.cpu.specs.declared.call.Answer.{Answer}
use Rattle.cpu.specs.declared.call.Answer.TheVariants.{Value}
use Rattle.model.specs.declared.plan.Task.{Task}
use Rattle.model.specs.declared.plan.Arrival.{Arrival}
use Rattle.model.specs.declared.plan.State.TheVariants.{Stopped}
use Rattle.model.specs.World.{Plan, Run, Part, Sent, World, no_part, part, messages, channel, turn}
use Rattle.model.specs.Tick.{none, becomes, Step, Sight, update, no, most_unheard, may_send, sending, taking, changed}
use Rattle.model.specs.Tick.{with_tasks, with_memory, with_heard, showing, changing, goes_on, waits, stops, refused, sends}
use Rattle.model.specs.Tick.{takes_first, takes, called, acted, first_ready, looked, does, instruction, part_tick, seen}
use Rattle.model.specs.Tick.{applied, hearing, came, later, work, tick}
use Rattle.model.specs.Whole.{with_part, with_messages, can_send, now_sent, now_taken, arrive, task_of, with_run, continues}
use Rattle.model.specs.Whole.{takes_one, does_call, does_act, runs_task, runs_first, looks_at, works_for, whole_tick}
use Rattle.model.specs.Promise.{WholeIsSame, ReadyAt, GoesFirst}
use Rattle.model.proofs.Places.{nth_below}
use Rattle.model.proofs.Steps.{came_time}
use Rattle.model.proofs.Priority.{first_ready_lem}

update_set : {X : Type 0} (xs : List X) (i : ℕ) (f : X → X) (d : X) → update xs i f ≡ set xs i (f (get_or xs i d))
unfolding update
update_set [] i f d = refl
update_set (x ∷ xs) zero f d = refl
update_set (x ∷ xs) (suc i) f d = ap (λ l. x ∷ l) (update_set xs i f d)

both_arms : {X Y : Type 0} (f : X → Y) (b : Bool) (x y : X) {u v : Y} → f x ≡ u → f y ≡ v → f (cond b x y) ≡ cond b u v
both_arms f true x y e h = e
both_arms f false x y e h = h

-- A partition that has an end of a channel and may use it as it wants to: whether it is asked at once, or first whether it
-- has an end of it. L is that there is such a channel, F and T that it is from there and to there.
module _ {W S : Type 0} (K : Option S → W) (s : S) (x y : W) where
  send_guards :
      (I L F T R : Bool) → K None ≡ y → K (Some s) ≡ cond (I && (F && R)) x y →
      cond (I && ((L && F) && R)) x y ≡ K (cond (L && (F || T)) (Some s) None)
  send_guards I true true T R n e = sym e
  send_guards I true false true R n e = sym e
  send_guards true true false false R n e = sym n
  send_guards false true false false R n e = sym n
  send_guards true false F T R n e = sym n
  send_guards false false F T R n e = sym n

  take_guards :
      (L F T : Bool) → K None ≡ y → K (Some s) ≡ cond T x y → cond (L && T) x y ≡ K (cond (L && (F || T)) (Some s) None)
  take_guards true true T n e = sym e
  take_guards true false true n e = sym e
  take_guards true false false n e = sym n
  take_guards false F T n e = sym n

arrive_came : {C : Type 0} (row : List Arrival) (w : World C) → arrive row w ≡ came row w
unfolding arrive came hearing with_part part
arrive_came [] w = refl
arrive_came {C} (a ∷ row) w = arrive_came row _ ∙ ap (came row) (one (ltb (length (part w a.partition).heard) most_unheard))
  where
    x : Part C
    x = part w a.partition

    one :
        (b : Bool) →
        cond b (with_part w a.partition (with_heard x (x.heard ++ a.byte ∷ []))) w ≡ with_part w a.partition
        (cond b (with_heard x (x.heard ++ a.byte ∷ [])) x)
    one true = refl
    one false = λ j. record {
      time = w.time;
      parts = sym (set-get_or w.parts a.partition no_part) j;
      channels =
          w.channels;
    }

module _ {C : Type 0} (M : Machine C) where
  -- A task that changes, in the world and in its part.
  run_is :
      (w : World C) (q i : ℕ) (f : Run C → Run C) →
      with_run M w q i (f (task_of M (part w q) i)) ≡ with_part w q (changing (part w q) i f)
  unfolding with_run task_of changing
  run_is w q i f = ap (λ l. with_part w q (with_tasks (part w q) l)) (sym (update_set (part w q).tasks i f _))

  module _ (w : World C) (q : ℕ) (there : q < length w.parts) where
    part_of : (x : Part C) → part (with_part w q x) q ≡ x
    unfolding part with_part
    part_of x = get_or-set_same w.parts q x no_part there

    twice : (x y : Part C) → with_part (with_part w q x) q y ≡ with_part w q y
    unfolding with_part
    twice x y = λ j. record { time = w.time; parts = set-set w.parts q x y j; channels = w.channels }

    continues_with :
        (x : Part C) (i : ℕ) (c : C) → continues M (with_part w q x) q i c ≡ with_part w q (changing x i (goes_on c))
    unfolding continues goes_on
    continues_with x i c =
        run_is (with_part w q x) q i (goes_on c) ∙ (twice x _ ∙ ap (λ y. with_part w q (changing y i (goes_on c))) (part_of x))

  continues_is : (w : World C) (q i : ℕ) (c : C) → continues M w q i c ≡ with_part w q (changing (part w q) i (goes_on c))
  unfolding continues goes_on
  continues_is w q i c = run_is w q i (goes_on c)

  -- The local form of a call, put into the world.
  module _ (p : Plan) (w : World C) (q : ℕ) (there : q < length w.parts) (i : ℕ) where
    abbrev put_in : Step C → World C
    put_in s = applied w q s

    abbrev see : ℕ → Option Sight
    see = seen p.channels q w

    refuses : (then : Answer → C) → continues M w q i (then (Value no)) ≡ put_in (refused (part w q) i then)
    unfolding refused applied changed with_part
    refuses then = continues_is w q i (then (Value no))

    sent_into :
        (c : ℕ) (ms : List Sent) (k : C) →
        continues M (with_messages w c ms) q i k ≡ put_in
        (record { part = changing (part w q) i (goes_on k); change = becomes c ms })
    unfolding applied changed with_part with_messages part
    sent_into c ms k = continues_is (with_messages w c ms) q i k

    taken_from :
        (b : Bool) (c : ℕ) (ms : List Sent) (x : Part C) (k : C) →
        continues M (with_part (cond b w (with_messages w c ms)) q x) q i k ≡ put_in
        (record { part = changing x i (goes_on k); change = cond b none (becomes c ms) })
    unfolding applied changed with_part with_messages
    taken_from true c ms x k = continues_with w q there x i k
    taken_from false c ms x k = continues_with (with_messages w c ms) q there x i k

    send_is :
        (c a n : ℕ) (then : Answer → C) →
        does_call M p w q i (Send c a n) then ≡ put_in (called q w.time see (part w q) i (Send c a n) then)
    unfolding does_call called can_send may_send seen sends now_sent sending
    send_is c a n then =
        send_guards (λ o. put_in (sends q w.time see (part w q) i then c a n o))
        (record { plan = channel p.channels c; messages = messages w c }) _ _
        (leb (a + n) (length (part w q).memory)) (ltb c (length p.channels)) (eqb (channel p.channels c).from q)
        (eqb (channel p.channels c).to q) _
        (sym (refuses then))
        (both_arms put_in _ _ _ (sym (sent_into c _ (then (Value 0)))) (sym (refuses then)))

    take_first_is :
        (c a : ℕ) (then : Answer → C) (ms : List Sent) →
        takes_one M p w q i then c a ms ≡ put_in
        (takes_first q w.time see (part w q) i then c a
        (record { plan = channel p.channels c; messages = messages w c }) ms)
    unfolding takes_one takes_first now_taken taking
    take_first_is c a then [] = refuses then
    take_first_is c a then (m ∷ ms) =
        sym (both_arms put_in (leb (a + length m.bytes) (length (part w q).memory)) _ _
        (sym (taken_from (eqb (channel p.channels c).places 0) c ms _ _)) (sym (refuses then)))

    take_is :
        (c a : ℕ) (then : Answer → C) →
        does_call M p w q i (Take c a) then ≡ put_in (called q w.time see (part w q) i (Take c a) then)
    unfolding does_call called seen takes
    take_is c a then =
        take_guards (λ o. put_in (takes q w.time see (part w q) i then c a o))
        (record { plan = channel p.channels c; messages = messages w c }) _ _
        (ltb c (length p.channels)) (eqb (channel p.channels c).from q) (eqb (channel p.channels c).to q)
        (sym (refuses then))
        (both_arms put_in (eqb (channel p.channels c).to q) _ _ (sym (take_first_is c a then (messages w c)))
        (sym (refuses then)))

    call_is :
        (k : Call) (then : Answer → C) → does_call M p w q i k then ≡ put_in (called q w.time see (part w q) i k then)
    unfolding does_call called applied changed with_part waits
    call_is (Show b) then = continues_with w q there (showing (part w q) w.time b) i (then (Value 0))
    call_is Wait then = run_is w q i (waits (then (Value 0)))
    call_is Clock then = continues_is w q i _
    call_is (Send c a n) then = send_is c a n then
    call_is (Take c a) then = take_is c a then
    call_is Hear then = continues_with w q there (with_heard (part w q) (drop 1 (part w q).heard)) i _
    call_is Unknown then = refuses then

    act_is : (a : Act C) → does_act M p w q i a ≡ put_in (acted q w.time see (part w q) i a)
    unfolding does_act acted applied changed with_part stops
    act_is (quiet c) = continues_is w q i c
    act_is (store a bs c) = continues_with w q there (with_memory (part w q) (put (part w q).memory a bs)) i c
    act_is (call k then) = call_is k then
    act_is wrong = run_is w q i stops

  -- A partition that is there, with its part as looked at: the instruction of a task that it has.
  runs_is :
      (p : Plan) (w : World C) (q : ℕ) (x : Part C) → q < length w.parts → (o : Option ℕ) →
      ((i : ℕ) → o ≡ Some i → i < length x.tasks) →
      runs_task M p (with_part w q x) q o ≡ applied w q (instruction M q w.time (seen p.channels q w) x o)
  unfolding runs_task instruction does applied changed with_part seen messages task_of
  runs_is p w q x there None has = refl
  runs_is p w q x there (Some i) has =
      act_is p (with_part w q x) q (rw (length-set w.parts q x) there) i _
      ∙ ((λ j. record {
        time = w.time;
        parts =
            set-set w.parts q x (local (part (with_part w q x) q)).part j;
        channels =
            changed (local (part (with_part w q x) q)).change w.channels;
      })
      ∙ (ap (λ y. applied w q (local y)) (part_of w q there x)
      ∙ ap (λ rs. applied w q (does M q w.time (seen p.channels q w) x i rs))
      (sym (drop_more x.tasks i idle (has i refl)))))
    where
      idle : Run C
      idle = record { state = Stopped; core = M.fresh 0; began = 0; late = 0 }

      local : Part C → Step C
      local y = acted q w.time (seen p.channels q w) y i (M.act (task_of M y i).core y.memory)

  first_there :
      (ks : List Task) (rs : List (Run C)) (o : Option ℕ) → first_ready ks 0 rs ≡ o → (i : ℕ) → o ≡ Some i → i < length rs
  first_there ks rs o e i h =
      let f : GoesFirst ks rs i =
      subst (λ u. MatchOption u ((k : ℕ) → ReadyAt rs k → ⊥) (λ j. GoesFirst ks rs j)) (e ∙ h) (first_ready_lem ks rs) in
      subst (λ n. i < n) (length-map rs _) (nth_below _ i _ f.ready)

  there_is :
      (p : Plan) (w : World C) (q : ℕ) → q < length w.parts → works_for M p w.time w (Some q) ≡ work M p w (Some q)
  unfolding works_for runs_first looks_at work part_tick with_tasks
  there_is p w q there =
      ap (λ y. runs_task M p (with_part w q x) q (first_ready ks 0 y.tasks)) (part_of w q there x)
      ∙ runs_is p w q x there (first_ready ks 0 x.tasks) (first_there ks x.tasks (first_ready ks 0 x.tasks) refl)
    where
      ks : List Task
      ks = get_or p.tasks q []

      x : Part C
      x = with_tasks (part w q) (looked M ks 0 w.time (part w q).tasks)

  -- One that is not there has no tasks.
  beyond_is :
      (p : Plan) (w : World C) (q : ℕ) → length w.parts ≤ q → works_for M p w.time w (Some q) ≡ work M p w (Some q)
  unfolding works_for runs_first runs_task looks_at looked first_ready work part_tick instruction applied changed part with_part with_tasks
  beyond_is p w q beyond =
      ap (λ v. runs_first M p v q) (stays (with_tasks (part w q) (looked M (get_or p.tasks q []) 0 w.time (part w q).tasks)))
      ∙ (ap (λ y. runs_task M p w q (first_ready (get_or p.tasks q []) 0 y.tasks)) nobody
      ∙ (sym (stays _) ∙ ap (λ y. applied w q (part_tick M q w.time (seen p.channels q w) (get_or p.tasks q []) y))
      (sym nobody)))
    where
      nobody : part w q ≡ no_part
      nobody = get_or_past w.parts q no_part beyond

      stays : (x : Part C) → with_part w q x ≡ w
      stays x = λ j. record { time = w.time; parts = set_past w.parts q x beyond j; channels = w.channels }

  works_is : (p : Plan) (w : World C) (o : Option ℕ) → works_for M p w.time w o ≡ work M p w o
  unfolding works_for work
  works_is p w None = refl
  works_is p w (Some q) = ⊎_elim (there_is p w q) (beyond_is p w q) (cases_lt q (length w.parts))

pub whole_is_same : {C : Type 0} (M : Machine C) → WholeIsSame M
unfolding whole_tick tick
whole_is_same M p w row =
    ap later
    (ap (λ v. works_for M p w.time v (turn p w.time)) (arrive_came row w)
    ∙ (ap (λ t. works_for M p t (came row w) (turn p w.time)) (sym (came_time row w)) ∙ works_is M p (came row w)
    (turn p w.time)))
