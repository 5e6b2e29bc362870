-- Separation: worlds that agree on a closed set of partitions go on agreeing on it. Assumes nothing.
use Rattle.std.proofs.Common.{◌≡◌, ℕ, zero, suc, Bool, true, false, cond, ◌||◌, eqb, ◌⊎◌, List, [], ◌∷◌, map, length, get_or, Some, None, Option, sym, refl, ap, ◌∙◌, subst, ap₂, inl, inr, ⊎_elim, arith}
use mathlib.Core.Path.{fun_ext}
use Rattle.std.specs.List.{slice_get}
use Rattle.std.specs.Option.{option_map}
use Rattle.std.proofs.lemmas.Bool.{both_ways, cases_Bool, eqb-true, eqb-false, cond_both, or_cases, or_left, or_right, and_parts, cond-false, ne_eqb}
use Rattle.cpu.specs.Act.{Machine}
use Rattle.model.specs.declared.plan.Channel.{Channel}
use Rattle.model.specs.declared.plan.Task.{Task}
use Rattle.model.specs.declared.plan.Arrival.{Arrival}
use Rattle.model.specs.World.{Plan, Part, Sent, World, no_part, part, messages, turn}
use Rattle.model.specs.Tick.{Change, none, becomes, Step, Sight, may_send, sending, taking, changed, part_tick, seen, applied}
use Rattle.model.specs.Tick.{hearing, came, later, work, tick, ticks, new_runs, new_parts, begin}
use Rattle.model.specs.Promise.{touches, SameChannels, SameTurns, Closed, Alike, only, Agree, TickSeparates, RunSeparates}
use Rattle.model.specs.Promise.{Separates}
use Rattle.model.proofs.Places.{get_or_alike, nth-set_other, nth-set_alike, nth-replicate}
use Rattle.model.proofs.Steps.{part_tick_holds, sight, seen_sight, seen_is, hears, came_time, came_channels, came_part}

-- The tick is a partition's of the set.
abbrev mine : (ℕ → Bool) → Option ℕ → Bool
mine A None = false
mine A (Some q) = A q

-- The arrivals that partition q hears are the same whether or not those for others, outside the set, are there.
hears_only :
    {C : Type 0} (A : ℕ → Bool) (q : ℕ) → A q ≡ true → (row : List Arrival) (x : Part C) →
    hears q row x ≡ hears q (only A row) x
unfolding hears
hears_only A q a [] x = refl
hears_only {C} A q a (b ∷ row) x = go (A b.partition) refl (λ y. hears_only A q a row y)
  where
    go :
        (d : Bool) → A b.partition ≡ d → ((y : Part C) → hears q row y ≡ hears q (only A row) y) →
        hears q row (cond (eqb b.partition q) (hearing b.byte x) x) ≡ hears q (cond d (b ∷ only A row) (only A row)) x
    go true e rest = rest (cond (eqb b.partition q) (hearing b.byte x) x)
    go false e rest = rw (ne_eqb b.partition q (λ z. both_ways (A q) (ap A (sym z) ∙ e) a)) (rest x)

one_of_two : (x y : Bool) → (x || y) ≡ true → (x ≡ true → ⊥) → y ≡ true
one_of_two true y e not = absurd (not refl)
one_of_two false y e not = e

flipped : (x y : Bool) → (x || y) ≡ true → (y || x) ≡ true
flipped true true e = e
flipped true false e = e
flipped false true e = e
flipped false false e = e

changed_alike :
    (k : Change) (cs ds : List (List Sent)) (c : ℕ) → slice_get cs c ≡ slice_get ds c → slice_get (changed k cs) c ≡ slice_get (changed k ds) c
unfolding changed
changed_alike none cs ds c e = e
changed_alike (becomes i ms) cs ds c e = nth-set_alike cs ds i c ms e

-- An end of partition q, which is of the set, touches the set.
ends :
    (A : ℕ → Bool) (q : ℕ) → A q ≡ true → (o : Option Channel) → ((ms : List Sent) → sight q o ms ≡ None) ⊎
    ((ch : Channel) × (o ≡ Some ch) × (touches A ch ≡ true))
ends A q a None = inl (λ ms. refl)
ends A q a (Some ch) = go (cases_Bool (eqb ch.from q || eqb ch.to q))
  where
    end : (eqb ch.from q ≡ true) ⊎ (eqb ch.to q ≡ true) → touches A ch ≡ true
    end (inl e) = or_left (A ch.from) (A ch.to) (ap A (eqb-true _ _ e) ∙ a)
    end (inr e) = or_right (A ch.from) (A ch.to) (ap A (eqb-true _ _ e) ∙ a)

    go :
        ((eqb ch.from q || eqb ch.to q) ≡ true) ⊎ ((eqb ch.from q || eqb ch.to q) ≡ false) →
        ((ms : List Sent) → sight q (Some ch) ms ≡ None) ⊎ ((k : Channel) × (Some ch ≡ Some k) × (touches A k ≡ true))
    go (inl e) = inr (ch, refl, end (or_cases _ _ e))
    go (inr e) = inl (λ ms. cond-false _ _ _ e)

module _ {C : Type 0} (A : ℕ → Bool) where
  agree_sym : (p : Plan) (w v : World C) → Agree A p w v → Agree A p v w
  agree_sym p w v g = record {
    time = sym g.time;
    parts = λ q a. sym (g.parts q a);
    channels = λ c ch e a. sym (g.channels c ch e a);
  }

  agree_trans : (p : Plan) (u v w : World C) → Agree A p u v → Agree A p v w → Agree A p u w
  agree_trans p u v w f g =
      record {
        time = f.time ∙ g.time;
        parts = λ q a. f.parts q a ∙ g.parts q a;
        channels = λ c ch e a. f.channels c ch e a ∙ g.channels c ch e a;
      }

  agree_for : (p r : Plan) (w v : World C) → SameChannels A p r → Agree A r w v → Agree A p w v
  agree_for p r w v same g =
      record { time = g.time; parts = g.parts; channels = λ c ch e a. g.channels c ch (same c ch e a) a }

-- A tick of another, or nobody's: the set is as before. What another sends does not go into the set, and what it takes
-- from the set, from a channel without places, stays there.
module _ {C : Type 0} (M : Machine C) (A : ℕ → Bool) (p : Plan) (shut : Closed A p) (w : World C) where
  Still : Change → Type 0
  Still k =
      (c : ℕ) (ch : Channel) → slice_get p.channels c ≡ Some ch → touches A ch ≡ true →
      slice_get (changed k w.channels) c ≡ slice_get w.channels c

  still_none : Still none
  unfolding Still changed
  still_none c ch e a = refl

  still_becomes :
      (i : ℕ) (ms : List Sent) → ((ch : Channel) → slice_get p.channels i ≡ Some ch → touches A ch ≡ true → ⊥) →
      Still (becomes i ms)
  unfolding Still changed
  still_becomes i ms never c ch e a = nth-set_other w.channels i c ms (λ z. never ch (ap (slice_get p.channels) z ∙ e) a)

  module _ (q : ℕ) (not : A q ≡ false) where
    -- the same channel, by its plan
    plan_is :
        (i : ℕ) (s : Sight) (ch : Channel) → seen p.channels q w i ≡ Some s → slice_get p.channels i ≡ Some ch →
        s.plan ≡ ch
    plan_is i s ch see e = let x : slice_get p.channels i ≡ Some s.plan = (seen_is p.channels q w i s see).0 in cc

    still_sent :
        (i : ℕ) (s : Sight) (bs : List ℕ) → seen p.channels q w i ≡ Some s → may_send q s (length bs) ≡ true →
        Still (becomes i (sending w.time s bs))
    unfolding may_send
    still_sent i s bs see may = still_becomes i _ (λ ch e a.
        let from : A ch.from ≡ false =
        ap A (ap (λ k. k.from) (sym (plan_is i s ch see e)) ∙ eqb-true _ _ (and_parts _ _ may).0) ∙ not in
        let to : A ch.to ≡ true = one_of_two (A ch.from) (A ch.to) a (λ z. both_ways (A ch.from) from z) in
        both_ways (A ch.from) from (shut.into i ch e to))

    still_took :
        (i : ℕ) (s : Sight) (ms : List Sent) → seen p.channels q w i ≡ Some s → s.plan.to ≡ q → Still (taking i s ms)
    unfolding taking
    still_took i s ms see to =
        cond_both {A = Change} (eqb s.plan.places 0) _ _ Still (λ _. still_none) (λ n. still_becomes i ms (λ ch e a.
        let is : s.plan ≡ ch = plan_is i s ch see e in
        let away : A ch.to ≡ false = ap A (ap (λ k. k.to) (sym is) ∙ to) ∙ not in
        let from : A ch.from ≡ true =
        one_of_two (A ch.to) (A ch.from) (flipped (A ch.from) (A ch.to) a)
        (λ z. both_ways (A ch.to) away z) in
        ⊎_elim (λ z. both_ways (A ch.to) away z) (λ z. eqb-false s.plan.places 0 n (ap (λ k. k.places) is ∙ z))
        (shut.back i ch e from)))

    other_agrees : Agree A p (work M p w (Some q)) w
    unfolding work applied part Still
    other_agrees = record {
      time = refl;
      parts = λ k a. nth-set_other w.parts q k _ (λ z. both_ways (A q) not (ap A z ∙ a));
      channels = part_tick_holds q w.time (seen p.channels q w) (part w q).shown (λ _ k. Still k) still_none
          (λ _. still_none) still_sent (λ i s m ms see to is. still_took i s ms see to) M (get_or p.tasks q [])
          (part w q) refl;
    }

  others_agree : (o : Option ℕ) → mine A o ≡ false → Agree A p (work M p w o) w
  unfolding work
  others_agree None h = record { time = refl; parts = λ q a. refl; channels = λ c ch e a. refl }
  others_agree (Some q) h = other_agrees q h

module _ {C : Type 0} (M : Machine C) (A : ℕ → Bool) (p r : Plan) (alike : Alike A p r) where
  -- Bytes from outside.
  came_agrees :
      (w v : World C) (row other : List Arrival) → only A row ≡ only A other → Agree A p w v →
      Agree A p (came row w) (came other v)
  came_agrees w v row other e g = record {
    time = came_time row w ∙ (g.time ∙ sym (came_time other v));
    parts = λ q a.
        came_part row w q
        ∙ (ap (option_map (hears q row)) (g.parts q a)
        ∙ (ap (λ f. option_map f (slice_get v.parts q))
        (fun_ext (λ x. hears_only A q a row x ∙ (ap (λ l. hears q l x) e ∙ sym (hears_only A q a other x))))
        ∙ sym (came_part other v q)));
    channels = λ c ch h a. ap (λ l. slice_get l c) (came_channels row w) ∙
        (g.channels c ch h a ∙ ap (λ l. slice_get l c) (sym (came_channels other v)));
  }

  -- A partition of the set sees the same.
  sees_alike :
      (w v : World C) (q : ℕ) → A q ≡ true → Agree A p w v → (c : ℕ) → seen p.channels q w c ≡ seen r.channels q v c
  unfolding messages
  sees_alike w v q a g c =
      seen_sight p.channels q w c ∙
      (go (ends A q a (slice_get p.channels c)) (ends A q a (slice_get r.channels c)) ∙ sym (seen_sight r.channels q v c))
    where
      Same : Type 0
      Same = sight q (slice_get p.channels c) (messages w c) ≡ sight q (slice_get r.channels c) (messages v c)

      both : (ch : Channel) → slice_get p.channels c ≡ Some ch → touches A ch ≡ true → Same
      both ch e t = ap₂ (sight q) (e ∙ sym (alike.channels.0 c ch e t))
          (get_or_alike w.channels v.channels c [] (g.channels c ch e t))

      End : Option Channel → Type 0
      End o = ((ms : List Sent) → sight q o ms ≡ None) ⊎ ((ch : Channel) × (o ≡ Some ch) × (touches A ch ≡ true))

      go : End (slice_get p.channels c) → End (slice_get r.channels c) → Same
      go (inr x) y = both x.0 x.1 x.2
      go (inl x) (inr y) = both y.0 (alike.channels.1 c y.0 y.1 y.2) y.2
      go (inl x) (inl y) = x _ ∙ sym (y _)

  -- A tick of a partition of the set: the same goes in, so the same comes out.
  applied_agrees : (w v : World C) (q : ℕ) (s : Step C) → Agree A p w v → Agree A p (applied w q s) (applied v q s)
  unfolding applied
  applied_agrees w v q s g = record {
    time = g.time;
    parts = λ k a. nth-set_alike w.parts v.parts q k s.part (g.parts k a);
    channels = λ c ch e a. changed_alike s.change w.channels v.channels c (g.channels c ch e a);
  }

  own_agrees : (w v : World C) (q : ℕ) → A q ≡ true → Agree A p w v → Agree A p (work M p w (Some q)) (work M r v (Some q))
  unfolding work part
  own_agrees w v q a g =
      let tasks : get_or p.tasks q [] ≡ get_or r.tasks q [] = get_or_alike p.tasks r.tasks q [] (alike.tasks q a) in
      let mine' : get_or w.parts q no_part ≡ get_or v.parts q no_part =
      get_or_alike w.parts v.parts q no_part (g.parts q a) in
      subst (λ s. Agree A p (work M p w (Some q)) (applied v q s))
      (λ i. part_tick M q (g.time i) (λ c. sees_alike w v q a g c i) (tasks i) (mine' i))
      (applied_agrees w v q
      (part_tick M q w.time (seen p.channels q w) (get_or p.tasks q []) (get_or w.parts q no_part)) g)

  mine_agrees : (w v : World C) (o : Option ℕ) → mine A o ≡ true → Agree A p w v → Agree A p (work M p w o) (work M r v o)
  mine_agrees w v None h g = absurd (both_ways false refl h)
  mine_agrees w v (Some q) h g = own_agrees w v q h g

  work_agrees : (w v : World C) (t : ℕ) → Agree A p w v → Agree A p (work M p w (turn p t)) (work M r v (turn r t))
  work_agrees w v t g = go (mine A (turn p t)) (mine A (turn r t)) refl refl
    where
      same : (x y : Plan) (o : Option ℕ) → SameTurns A x y → turn x t ≡ o → mine A o ≡ true → turn y t ≡ o
      same x y None s e h = absurd (both_ways false refl h)
      same x y (Some q) s e h = s q t h e

      go :
          (b d : Bool) → mine A (turn p t) ≡ b → mine A (turn r t) ≡ d →
          Agree A p (work M p w (turn p t)) (work M r v (turn r t))
      go true d e f = subst (λ o. Agree A p (work M p w (turn p t)) (work M r v o))
          (sym (same p r (turn p t) alike.turns.0 refl e)) (mine_agrees w v (turn p t) e g)
      go false true e f = absurd
          (both_ways (mine A (turn p t)) e (ap (mine A) (same r p (turn r t) alike.turns.1 refl f) ∙ f))
      go false false e f =
          agree_trans A p _ _ _ (others_agree M A p alike.closed.0 w (turn p t) e)
          (agree_trans A p _ _ _ g
          (agree_sym A p _ _ (agree_for A p r _ _ alike.channels.0
          (others_agree M A r alike.closed.1 v (turn r t) f))))

  tick_agrees :
      (w v : World C) (row other : List Arrival) → only A row ≡ only A other → Agree A p w v →
      Agree A p (tick M p w row) (tick M r v other)
  unfolding tick later
  tick_agrees w v row other e g =
      let x : Agree A p (work M p (came row w) (turn p w.time)) (work M r (came other v) (turn r v.time)) =
      subst (λ t. Agree A p (work M p (came row w) (turn p w.time)) (work M r (came other v) (turn r t))) g.time
      (work_agrees (came row w) (came other v) w.time (came_agrees w v row other e g)) in
      record { time = ap suc x.time; parts = x.parts; channels = x.channels }

  ticks_agree :
      (rows others : List (List Arrival)) (w v : World C) → map (only A) rows ≡ map (only A) others → Agree A p w v →
      Agree A p (ticks M p w rows) (ticks M r v others)
  unfolding ticks
  ticks_agree [] [] w v e g = g
  ticks_agree [] (c ∷ cs) w v e g = let z : ◌≡◌ {A = ℕ} 0 1 = cc in absurd (omega arith)
  ticks_agree (b ∷ bs) [] w v e g = let z : ◌≡◌ {A = ℕ} 0 1 = cc in absurd (omega arith)
  ticks_agree (b ∷ bs) (c ∷ cs) w v e g =
      let x : only A b ≡ only A c = cc in
      let y : map (only A) bs ≡ map (only A) cs = cc in
      ticks_agree bs cs (tick M p w b) (tick M r v c) y (tick_agrees w v b c x g)

new_parts_nth :
    {C : Type 0} (M : Machine C) (kss : List (List Task)) (ms : List (List ℕ)) (q : ℕ) →
    slice_get (new_parts M kss ms) q ≡
    option_map (λ ks. record { memory = get_or ms q []; tasks = new_runs M 0 ks; heard = []; shown = [] }) (slice_get kss q)
unfolding new_parts
new_parts_nth M [] ms q = refl
new_parts_nth M (ks ∷ kss) [] zero = refl
new_parts_nth M (ks ∷ kss) [] (suc q) = new_parts_nth M kss [] q
new_parts_nth M (ks ∷ kss) (m ∷ ms) zero = refl
new_parts_nth M (ks ∷ kss) (m ∷ ms) (suc q) = new_parts_nth M kss ms q

pub tick_separates : {C : Type 0} (M : Machine C) → TickSeparates M
tick_separates M A p r w v row other alike e g = tick_agrees M A p r alike w v row other e g

pub run_separates : {C : Type 0} (M : Machine C) → RunSeparates M
run_separates M A p r w v rows others alike e g = ticks_agree M A p r alike rows others w v e g

pub separates : {C : Type 0} (M : Machine C) → Separates M
unfolding begin part
separates M A p r ms ns rows others q alike same e a =
    let start : Agree A p (begin M p ms) (begin M r ns) = record {
      time = refl;
      parts = λ k b. new_parts_nth M p.tasks ms k ∙
          ((λ i. option_map (λ ks. record { memory = same k b i; tasks = new_runs M 0 ks; heard = []; shown = [] })
          (alike.tasks k b i)) ∙ sym (new_parts_nth M r.tasks ns k));
      channels = λ c ch h b. nth-replicate p.channels c [] ∙
          (ap (option_map (λ _. [])) (h ∙ sym (alike.channels.0 c ch h b)) ∙ sym (nth-replicate r.channels c []));
    } in
    get_or_alike _ _ q no_part ((ticks_agree M A p r alike rows others (begin M p ms) (begin M r ns) e start).parts q a)
