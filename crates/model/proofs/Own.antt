-- What changes in a partition's own ticks only, and what a channel holds. Assumes nothing.
use Rattle.std.proofs.Common.{◌≡◌, ℕ, zero, suc, ◌<◌, ◌≤◌, max, true, ◌||◌, eqb, ltb, leb, ◌≢◌, List, [], ◌∷◌, length, get_or, Some, None, Option, unwrap_or, sym, refl, ap, ◌∙◌, subst, arith}
use Rattle.std.specs.List.{AllByRecursion, slice_get}
use Rattle.std.specs.Option.{option_map}
use Rattle.std.proofs.ByRecursion.{All-push}
use Rattle.std.proofs.lemmas.List.{length_push, get_or-set_other}
use Rattle.std.proofs.lemmas.Bool.{and_parts, cond_both, leb-true, ltb-true}
use Rattle.cpu.specs.Act.{Machine}
use Rattle.model.specs.declared.plan.Channel.{Channel}
use Rattle.model.specs.declared.plan.Task.{Task}
use Rattle.model.specs.declared.plan.Arrival.{Arrival}
use Rattle.model.specs.World.{Plan, Part, Sent, World, no_part, part, messages, turn}
use Rattle.model.specs.Tick.{Change, none, becomes, Sight, may_send, sending, taking, changed, seen, applied}
use Rattle.model.specs.Tick.{with_heard, came, later, work, tick, ticks, new_parts, begin}
use Rattle.model.specs.Promise.{ShownInOwn, ShowsInOwnTicks, ChangesInOwnTicks, Fits, AllFit, ChannelsFit}
use Rattle.model.proofs.Places.{get_or-nth, set_keeps, get_or-replicate-same}
use Rattle.model.proofs.Steps.{part_tick_holds, seen_is, hears, hears_keeps, came_time, came_channels, came_part}

-- What unheard bytes make no difference to is the same after a row.
pub came_keeps :
    {C X : Type 0} (f : Part C → X) → ((x : Part C) (bs : List ℕ) → f (with_heard x bs) ≡ f x) → (row : List Arrival)
    (w : World C) (q : ℕ) → f (part (came row w) q) ≡ f (part w q)
unfolding part hears
came_keeps {C} f h row w q =
    ap f (get_or-nth (came row w).parts q no_part)
    ∙ (ap (λ o. f (unwrap_or o no_part)) (came_part row w q) ∙ (go (slice_get w.parts q) ∙ ap f (sym (get_or-nth w.parts q no_part))))
  where
    go : (o : Option (Part C)) → f (unwrap_or (option_map (hears q row) o) no_part) ≡ f (unwrap_or o no_part)
    go None = refl
    go (Some x) = hears_keeps f h row q x

-- What is sent fits, and so does what is left.
fits_sent :
    (q t : ℕ) (s : Sight) (bs : List ℕ) → may_send q s (length bs) ≡ true → Fits s.plan s.messages →
    Fits s.plan (sending t s bs)
unfolding may_send sending
fits_sent q t s bs may h =
    let rest = and_parts (leb (length bs) s.plan.bytes)
    (eqb s.plan.places 0 || ltb (length s.messages) s.plan.places)
    (and_parts (eqb s.plan.from q) _ may).1 in
    let short : length bs ≤ s.plan.bytes = leb-true _ _ rest.0 in
    cond_both {A = List Sent} (eqb s.plan.places 0) _ _ (Fits s.plan)
    (λ _. record { few = omega arith; short = (short, tt) })
    (λ n.
    let room : length s.messages < s.plan.places = ltb-true _ _ (rw n at rest.1) in
    record {
      few = rw (length_push s.messages (record { at = t; bytes = bs })) (omega arith);
      short =
          All-push _ s.messages _ h.short short;
    })

fits_rest : (ch : Channel) (m : Sent) (ms : List Sent) → Fits ch (m ∷ ms) → Fits ch ms
fits_rest ch m ms h = let x : suc (length ms) ≤ max 1 ch.places = h.few in record { few = omega arith; short = h.short.1 }

module _ {C : Type 0} (M : Machine C) (p : Plan) where
  elsewhere : (w : World C) (o : Option ℕ) (q : ℕ) → o ≢ Some q → part (work M p w o) q ≡ part w q
  unfolding work applied part
  elsewhere w None q h = refl
  elsewhere w (Some k) q h = get_or-set_other w.parts k q _ no_part (λ e. h (ap {B = Option ℕ} Some (sym e)))

  pub changes_in_own :
      {X : Type 0} (f : Part C → X) → ((x : Part C) (bs : List ℕ) → f (with_heard x bs) ≡ f x) → (w : World C)
      (row : List Arrival) (q : ℕ) → turn p w.time ≢ Some q → f (part (tick M p w row) q) ≡ f (part w q)
  unfolding tick later part
  changes_in_own f h w row q n = ap f (elsewhere (came row w) (turn p w.time) q n) ∙ came_keeps f h row w q

  shown_work :
      (w : World C) (o : Option ℕ) (q : ℕ) → turn p w.time ≡ o → ShownInOwn p w q → ShownInOwn p (work M p w o) q
  unfolding work applied part
  shown_work w None q e h = h
  shown_work w (Some k) q e h =
      set_keeps (λ x. AllByRecursion (λ y. turn p y.0 ≡ Some q) x.shown) w.parts k q _ no_part
      (λ z. part_tick_holds k w.time (seen p.channels k w) (part w k).shown
      (λ l _. AllByRecursion (λ y. turn p y.0 ≡ Some q) l) (here z)
      (λ b. All-push _ _ _ (here z) (e ∙ ap {B = Option ℕ} Some (sym z))) (λ _ _ _ _ _. here z)
      (λ _ _ _ _ _ _ _. here z) M (get_or p.tasks k []) (part w k) refl)
      h
    where
      here : q ≡ k → AllByRecursion (λ y. turn p y.0 ≡ Some q) (get_or w.parts k no_part).shown
      here z = subst (λ j. AllByRecursion (λ y. turn p y.0 ≡ Some q) (get_or w.parts j no_part).shown) z h

  shown_tick : (w : World C) (row : List Arrival) (q : ℕ) → ShownInOwn p w q → ShownInOwn p (tick M p w row) q
  unfolding tick later part with_heard
  shown_tick w row q h =
      shown_work (came row w) (turn p w.time) q (ap (turn p) (came_time row w))
      (subst (λ l. AllByRecursion (λ y. turn p y.0 ≡ Some q) l) (sym (came_keeps (λ x. x.shown) (λ x bs. refl) row w q)) h)

  shown_ticks : (rows : List (List Arrival)) (w : World C) (q : ℕ) → ShownInOwn p w q → ShownInOwn p (ticks M p w rows) q
  unfolding ticks
  shown_ticks [] w q h = h
  shown_ticks (row ∷ rows) w q h = shown_ticks rows (tick M p w row) q (shown_tick w row q h)

  -- A partition's tick leaves channels that fit, since it sends only what a channel takes.
  Fit : World C → Change → Type 0
  Fit w k = (c : ℕ) (ch : Channel) → slice_get p.channels c ≡ Some ch → Fits ch (get_or (changed k w.channels) c [])

  fit_becomes :
      (w : World C) (i : ℕ) (ms : List Sent) (q : ℕ) (s : Sight) → AllFit p w → seen p.channels q w i ≡ Some s →
      (Fits s.plan s.messages → Fits s.plan ms) → Fit w (becomes i ms)
  unfolding Fit changed messages
  fit_becomes w i ms q s h see new c ch e =
      let x = seen_is p.channels q w i s see in
      set_keeps (Fits ch) w.channels i c ms []
      (λ z.
      let y : s.plan ≡ ch = let u : slice_get p.channels i ≡ Some s.plan =
      x.0 in let v : slice_get p.channels i ≡ Some ch = ap (slice_get p.channels) (sym z) ∙ e in cc in
      subst (λ k. Fits k ms) y (new (subst (Fits s.plan) (sym x.1) (h i s.plan x.0))))
      (h c ch e)

  fits_work : (w : World C) (o : Option ℕ) → AllFit p w → AllFit p (work M p w o)
  unfolding work applied messages changed Fit taking
  fits_work w None h = h
  fits_work w (Some q) h =
      part_tick_holds q w.time (seen p.channels q w) (part w q).shown (λ _ k. Fit w k) h (λ _. h)
      (λ i s bs see may. fit_becomes w i _ q s h see (fits_sent q w.time s bs may))
      (λ i s m ms see to is. cond_both {A = Change} (eqb s.plan.places 0) none (becomes i ms) (Fit w) (λ _. h)
      (λ _. fit_becomes w i ms q s h see (λ x. fits_rest s.plan m ms (subst (Fits s.plan) is x))))
      M (get_or p.tasks q []) (part w q) refl

  fits_tick : (w : World C) (row : List Arrival) → AllFit p w → AllFit p (tick M p w row)
  unfolding tick later messages
  fits_tick w row h = fits_work (came row w) (turn p w.time)
      (λ c ch e. subst (λ l. Fits ch (get_or l c [])) (sym (came_channels row w)) (h c ch e))

  fits_ticks : (rows : List (List Arrival)) (w : World C) → AllFit p w → AllFit p (ticks M p w rows)
  unfolding ticks
  fits_ticks [] w h = h
  fits_ticks (row ∷ rows) w h = fits_ticks rows (tick M p w row) (fits_tick w row h)

pub changes_in_own_ticks : {C : Type 0} (M : Machine C) → ChangesInOwnTicks M
unfolding with_heard
changes_in_own_ticks M p w row q n = (
  changes_in_own M p (λ x. x.memory) (λ x bs. refl) w row q n,
  changes_in_own M p (λ x. x.tasks) (λ x bs. refl) w row q n,
  changes_in_own M p (λ x. x.shown) (λ x bs. refl) w row q n,
)

nothing_shown :
    {C : Type 0} (M : Machine C) (kss : List (List Task)) (ms : List (List ℕ)) (q : ℕ) →
    (get_or (new_parts M kss ms) q no_part).shown ≡ []
unfolding new_parts
nothing_shown M [] ms q = refl
nothing_shown M (ks ∷ kss) [] zero = refl
nothing_shown M (ks ∷ kss) [] (suc q) = nothing_shown M kss [] q
nothing_shown M (ks ∷ kss) (m ∷ ms) zero = refl
nothing_shown M (ks ∷ kss) (m ∷ ms) (suc q) = nothing_shown M kss ms q

pub shows_in_own_ticks : {C : Type 0} (M : Machine C) → ShowsInOwnTicks M
unfolding begin part
shows_in_own_ticks M = (
  (λ p w row q h. shown_tick M p w row q h),
  (λ p ms rows q. shown_ticks M p rows (begin M p ms) q
      (subst (AllByRecursion (λ y. turn p y.0 ≡ Some q)) (sym (nothing_shown M p.tasks ms q)) tt)),
)

pub channels_fit : {C : Type 0} (M : Machine C) → ChannelsFit M
unfolding begin messages
channels_fit M = (
  (λ p w row h. fits_tick M p w row h),
  (λ p ms rows. fits_ticks M p rows (begin M p ms)
      (λ c ch e. subst (Fits ch) (sym (get_or-replicate-same (length p.channels) c []))
      (record { few = omega arith; short = tt }))),
)
