-- What a partition's tick can come to, what a row from outside does to a partition, and what a partition sees of a
-- channel. Assumes nothing.
use Rattle.std.proofs.Common.{◌≡◌, ℕ, ◌+◌, ◌≤◌, Bool, true, false, cond, ◌&&◌, ◌||◌, eqb, ltb, leb, List, [], ◌∷◌, ◌++◌, length, get_or, drop, Some, None, Option, unwrap_or, sym, refl, ap, ◌∙◌, subst, arith}
use Rattle.std.specs.List.{between, slice_get}
use Rattle.std.specs.Option.{option_map}
use Rattle.std.proofs.lemmas.List.Edits.{length-between}
use Rattle.std.proofs.lemmas.Bool.{cond_both, and_parts, leb-true, eqb-true, lt-ltb, le-ltb}
use Rattle.cpu.specs.Act.{Act, quiet, store, call, wrong, Machine}
use Rattle.cpu.specs.declared.call.Call.{Call}
use Rattle.cpu.specs.declared.call.Call.TheVariants.{Show, Wait, Clock, Send, Take, Hear, Unknown}
use Rattle.cpu.specs.declared.call.Answer.{Answer}
use Rattle.model.specs.declared.plan.Channel.{Channel}
use Rattle.model.specs.declared.plan.Task.{Task}
use Rattle.model.specs.declared.plan.Arrival.{Arrival}
use Rattle.model.specs.World.{Run, Part, Sent, World, no_part, no_channel, part, messages, channel}
use Rattle.model.specs.Tick.{Change, none, becomes, Step, Sight, may_send, sending, taking, with_tasks, with_memory, with_heard}
use Rattle.model.specs.Tick.{showing, changing, refused, sends, takes_first, takes, called, acted, first_ready, looked, does}
use Rattle.model.specs.Tick.{instruction, part_tick, seen, hearing, came, most_unheard}
use Rattle.model.proofs.Places.{get_or-nth, nth_below, nth_beyond, nth-changed, mapped_same, mapped_mapped}

-- What others can tell of a partition's tick: nothing; or a byte was shown; or a message was sent, into a channel that the
-- partition sees and may send into; or one was taken, from a channel that it sees and that is to it. P is what is to hold of what
-- was shown before and after, and of what becomes of the channels.
module _
    {C : Type 0} (q t : ℕ) (see : ℕ → Option Sight) (before : List (ℕ × ℕ)) (P : List (ℕ × ℕ) → Change → Type 0)
    (quietly : P before none) (shows : (b : ℕ) → P (before ++ (t, b) ∷ []) none)
    (sent : (c : ℕ) (s : Sight) (bs : List ℕ) → see c ≡ Some s → may_send q s (length bs) ≡ true → P before
    (becomes c (sending t s bs)))
    (took : (c : ℕ) (s : Sight) (m : Sent) (ms : List Sent) → see c ≡ Some s → s.plan.to ≡ q → s.messages ≡ m ∷ ms →
    P before (taking c s ms)) where
  Holds : Step C → Type 0
  Holds s = P s.part.shown s.change

  calm : (x : Part C) → x.shown ≡ before → P x.shown none
  calm x e = subst (λ l. P l none) (sym e) quietly

  sends_holds :
      (x : Part C) (i : ℕ) (then : Answer → C) (c a n : ℕ) (o : Option Sight) → x.shown ≡ before → see c ≡ o →
      Holds (sends q t see x i then c a n o)
  unfolding Holds sends refused changing with_tasks
  sends_holds x i then c a n None e h = calm x e
  sends_holds x i then c a n (Some s) e h =
      cond_both {A = Step C} (leb (a + n) (length x.memory) && may_send q s n) _ _ Holds
      (λ y.
      let both = and_parts (leb (a + n) (length x.memory)) (may_send q s n) y in
      let fits : a + n ≤ length x.memory = leb-true _ _ both.0 in
      let long : length (between a (a + n) x.memory) ≡ n = length-between x.memory a (a + n) fits ∙ omega arith in
      subst (λ l. P l (becomes c (sending t s (between a (a + n) x.memory)))) (sym e)
      (sent c s (between a (a + n) x.memory) h (subst (λ k. may_send q s k ≡ true) (sym long) both.1)))
      (λ _. calm x e)

  takes_first_holds :
      (x : Part C) (i : ℕ) (then : Answer → C) (c a : ℕ) (s : Sight) (ms : List Sent) → x.shown ≡ before → see c ≡ Some s →
      s.plan.to ≡ q → s.messages ≡ ms → Holds (takes_first q t see x i then c a s ms)
  unfolding Holds takes_first refused changing with_tasks with_memory
  takes_first_holds x i then c a s [] e h to is = calm x e
  takes_first_holds x i then c a s (m ∷ ms) e h to is =
      cond_both {A = Step C} (leb (a + length m.bytes) (length x.memory)) _ _ Holds
      (λ _. subst (λ l. P l (taking c s ms)) (sym e) (took c s m ms h to is))
      (λ _. calm x e)

  takes_holds :
      (x : Part C) (i : ℕ) (then : Answer → C) (c a : ℕ) (o : Option Sight) → x.shown ≡ before → see c ≡ o →
      Holds (takes q t see x i then c a o)
  unfolding Holds takes refused changing with_tasks
  takes_holds x i then c a None e h = calm x e
  takes_holds x i then c a (Some s) e h =
      cond_both {A = Step C} (eqb s.plan.to q) _ _ Holds
      (λ y. takes_first_holds x i then c a s s.messages e h (eqb-true _ _ y) refl)
      (λ _. calm x e)

  called_holds : (x : Part C) (i : ℕ) (k : Call) (then : Answer → C) → x.shown ≡ before → Holds (called q t see x i k then)
  unfolding Holds called refused changing with_tasks with_heard showing
  called_holds x i (Show b) then e = subst (λ l. P (l ++ (t, b) ∷ []) none) (sym e) (shows b)
  called_holds x i Wait then e = calm x e
  called_holds x i Clock then e = calm x e
  called_holds x i (Send c a n) then e = sends_holds x i then c a n (see c) e refl
  called_holds x i (Take c a) then e = takes_holds x i then c a (see c) e refl
  called_holds x i Hear then e = calm x e
  called_holds x i Unknown then e = calm x e

  acted_holds : (x : Part C) (i : ℕ) (a : Act C) → x.shown ≡ before → Holds (acted q t see x i a)
  unfolding Holds acted changing with_tasks with_memory
  acted_holds x i (quiet c) e = calm x e
  acted_holds x i (store a bs c) e = calm x e
  acted_holds x i (call k then) e = called_holds x i k then e
  acted_holds x i wrong e = calm x e

  does_holds : (M : Machine C) (x : Part C) (i : ℕ) (rs : List (Run C)) → x.shown ≡ before → Holds (does M q t see x i rs)
  unfolding Holds does
  does_holds M x i [] e = calm x e
  does_holds M x i (r ∷ rs) e = acted_holds x i (M.act r.core x.memory) e

  instruction_holds : (M : Machine C) (x : Part C) (o : Option ℕ) → x.shown ≡ before → Holds (instruction M q t see x o)
  unfolding Holds instruction
  instruction_holds M x None e = calm x e
  instruction_holds M x (Some i) e = does_holds M x i (drop i x.tasks) e

  pub part_tick_holds :
      (M : Machine C) (ks : List Task) (x : Part C) → x.shown ≡ before →
      P (part_tick M q t see ks x).part.shown (part_tick M q t see ks x).change
  unfolding Holds part_tick with_tasks
  part_tick_holds M ks x e =
      instruction_holds M (with_tasks x (looked M ks 0 t x.tasks)) (first_ready ks 0 (looked M ks 0 t x.tasks)) e

-- What partition q sees of a channel with these messages, if there is one.
abbrev pub sight : ℕ → Option Channel → List Sent → Option Sight
sight q None ms = None
sight q (Some ch) ms = cond (eqb ch.from q || eqb ch.to q) (Some (record { plan = ch; messages = ms })) None

pub seen_sight :
    {C : Type 0} (chs : List Channel) (q : ℕ) (w : World C) (c : ℕ) → seen chs q w c ≡ sight q (slice_get chs c) (messages w c)
unfolding seen channel
seen_sight chs q w c = go (slice_get chs c) refl
  where
    go : (o : Option Channel) → slice_get chs c ≡ o → seen chs q w c ≡ sight q o (messages w c)
    go None e = rw (le-ltb c (length chs) (nth_beyond chs c e))
    go (Some ch) e =
        let is : get_or chs c no_channel ≡ ch = get_or-nth chs c no_channel ∙ ap (λ o. unwrap_or o no_channel) e in
        rw (lt-ltb c (length chs) (nth_below chs c ch e), is)

-- What is seen is the channel, with its messages.
pub seen_is :
    {C : Type 0} (chs : List Channel) (q : ℕ) (w : World C) (c : ℕ) (s : Sight) → seen chs q w c ≡ Some s →
    (slice_get chs c ≡ Some s.plan) × (s.messages ≡ messages w c)
seen_is chs q w c s e = go (slice_get chs c) refl (sym (seen_sight chs q w c) ∙ e)
  where
    shown_so :
        (ch : Channel) (b : Bool) → cond b (Some (record { plan = ch; messages = messages w c })) None ≡ Some s →
        (ch ≡ s.plan) × (s.messages ≡ messages w c)
    shown_so ch true h = let z : ◌≡◌ {A = Sight} (record { plan = ch; messages = messages w c }) s =
        cc in (ap (λ x. x.plan) z, ap (λ x. x.messages) (sym z))
    shown_so ch false h = let z : ◌≡◌ {A = ℕ} 0 1 = cc in absurd (omega arith)

    go :
        (o : Option Channel) → slice_get chs c ≡ o → sight q o (messages w c) ≡ Some s → (slice_get chs c ≡ Some s.plan) ×
        (s.messages ≡ messages w c)
    go None f h = let z : ◌≡◌ {A = ℕ} 0 1 = cc in absurd (omega arith)
    go (Some ch) f h = let y =
        shown_so ch (eqb ch.from q || eqb ch.to q) h in (f ∙ ap {B = Option Channel} Some y.0, y.1)

-- A row from outside, as it comes to partition q alone.
unfoldable pub hears : {C : Type 0} → ℕ → List Arrival → Part C → Part C
hears q [] x = x
hears q (a ∷ row) x = hears q row (cond (eqb a.partition q) (hearing a.byte x) x)

module _ {C : Type 0} where
  pub came_time : (row : List Arrival) (w : World C) → (came row w).time ≡ w.time
  unfolding came
  came_time [] w = refl
  came_time (a ∷ row) w = came_time row _

  pub came_channels : (row : List Arrival) (w : World C) → (came row w).channels ≡ w.channels
  unfolding came
  came_channels [] w = refl
  came_channels (a ∷ row) w = came_channels row _

  pub came_part :
      (row : List Arrival) (w : World C) (q : ℕ) → slice_get (came row w).parts q ≡ option_map (hears q row) (slice_get w.parts q)
  unfolding came hears part
  came_part [] w q = sym (mapped_same (slice_get w.parts q))
  came_part (a ∷ row) w q =
      came_part row _ q ∙ (ap (option_map (hears q row)) (nth-changed (hearing a.byte) w.parts a.partition q no_part)
      ∙ mapped_mapped _ _ (slice_get w.parts q))

  -- What unheard bytes make no difference to, a row makes none to.
  pub hears_keeps :
      {X : Type 0} (f : Part C → X) → ((x : Part C) (bs : List ℕ) → f (with_heard x bs) ≡ f x) → (row : List Arrival) (q : ℕ)
      (x : Part C) → f (hears q row x) ≡ f x
  unfolding hears hearing
  hears_keeps f h [] q x = refl
  hears_keeps f h (a ∷ row) q x = hears_keeps f h row q _ ∙ one (eqb a.partition q) (ltb (length x.heard) most_unheard)
    where
      one : (b d : Bool) → f (cond b (cond d (with_heard x (x.heard ++ a.byte ∷ [])) x) x) ≡ f x
      one true true = h x _
      one true false = refl
      one false d = refl
