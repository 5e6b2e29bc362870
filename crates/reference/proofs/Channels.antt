-- Sends and takes, from one channel to what the model does.
use Rattle.std.proofs.Common.{◌≡◌, ℕ, ◌+◌, ◌-◌, ◌%◌, ◌≤◌, Bool, true, false, cond, ◌&&◌, ◌||◌, eqb, ltb, leb, ◌⊎◌, List, [], ◌∷◌, map, length, get_or, set, Some, None, Option, sym, refl, ap, ◌∙◌, inl, inr, ⊎_elim, arith}
use Rattle.std.specs.List.{between, slice_get}
use Rattle.std.proofs.lemmas.List.{length-map, map-set}
use Rattle.std.proofs.lemmas.Bool.{cond-true, cond-false, cases_Bool, and_left, and_right, ne_eqb, lt-ltb, le-ltb, or_parts, eqb-false}
use Rattle.octets.specs.Bytes.{put}
use Rattle.cpu.specs.declared.call.Answer.{Answer}
use Rattle.cpu.specs.declared.call.Answer.TheVariants.{Value, Message}
use Rattle.cpu.specs.declared.call.Call.TheVariants.{Send, Take}
use Rattle.cpu.specs.Core.{Core}
use Rattle.model.specs.World.{Part, Sent, no_channel, channel, messages}
use Rattle.model.specs.Tick.{Step, Sight, none, becomes, no, changed, changing, goes_on, with_memory, seen, may_send, sending, taking, refused, sends, takes, takes_first, called}
use Rattle.reference.specs.declared.queue.Queue.{Queue}
use Rattle.reference.specs.Letters.{sents_of, sight_of, Exchange, refusing, posting, collecting, collecting_first}
use Rattle.reference.specs.Own.{plan_of, plans_of, channels_of, seen_of, Exchanged}
use Rattle.reference.proofs.Nths.{set_same, get_or-map_some}
use Rattle.std.proofs.lemmas.Option.{slice_get_within}

-- ---- what is seen of a channel

pub seen_none : (cs : List Queue) (q c : ℕ) → length cs ≤ c → seen_of cs q c ≡ None
unfolding seen_of seen plans_of
seen_none cs q c h =
    let l : length (map plan_of cs) ≤ c = omega (arith, length-map cs plan_of) in
    cond-false _ _ _ (and_left _ _ (le-ltb _ _ l))

-- The partition has an end of the channel.
abbrev ends : Queue → ℕ → Bool
ends old q = eqb old.plan.from q || eqb old.plan.to q

seen_there : (cs : List Queue) (q c : ℕ) (old : Queue) → slice_get cs c ≡ Some old → seen_of cs q c ≡ cond (ends old q) (Some (sight_of old)) None
unfolding seen_of seen plans_of channels_of plan_of sight_of channel messages
seen_there cs q c old h =
    let p : get_or (map plan_of cs) c no_channel ≡ old.plan = get_or-map_some plan_of cs c old no_channel h in
    let m : get_or (map sents_of cs) c [] ≡ sents_of old = get_or-map_some sents_of cs c old [] h in
    let b : ltb c (length (map plan_of cs)) ≡ true = lt-ltb _ _ (omega (arith, length-map cs plan_of, slice_get_within cs c old h)) in
    ap (λ x. cond (x && (eqb (get_or (map plan_of cs) c no_channel).from q || eqb (get_or (map plan_of cs) c no_channel).to q)) (Some (record { plan = get_or (map plan_of cs) c no_channel; messages = get_or (map sents_of cs) c [] })) None) b
    ∙ (λ j. cond (eqb (p j).from q || eqb (p j).to q) (Some (record { plan = p j; messages = m j })) None)

pub seen_cases : (cs : List Queue) (q c : ℕ) (old : Queue) → slice_get cs c ≡ Some old → (seen_of cs q c ≡ Some (sight_of old)) ⊎ ((seen_of cs q c ≡ None) × (ends old q ≡ false))
seen_cases cs q c old h =
    ⊎_elim
    (λ (e : ends old q ≡ true). inl (seen_there cs q c old h ∙ cond-true _ _ _ e))
    (λ (e : ends old q ≡ false). inr (seen_there cs q c old h ∙ cond-false _ _ _ e, e))
    (cases_Bool (ends old q))

-- ---- a send

module _ (q t : ℕ) (sn : ℕ → Option Sight) (x : Part Core) (i : ℕ) (then : Answer → Core) (c a n : ℕ) where
  part_by : (s : Sight) (b : Bool) (ms : List Sent)
      → (cond b (record { part = changing x i (goes_on (then (Value 0))); change = becomes c ms }) (refused x i then)).part
      ≡ changing x i (goes_on (then (cond b (record { answer = Value 0; messages = ms; memory = x.memory }) (refusing s x.memory)).answer))
  unfolding refused refusing
  part_by s true ms = refl
  part_by s false ms = refl

  change_by : (s : Sight) (b : Bool) (ms : List Sent) (cs : List (List Sent)) → get_or cs c [] ≡ s.messages
      → changed (cond b (record { part = changing x i (goes_on (then (Value 0))); change = becomes c ms }) (refused x i then)).change cs
      ≡ set cs c (cond b (record { answer = Value 0; messages = ms; memory = x.memory }) (refusing s x.memory)).messages
  unfolding refused refusing changed
  change_by s true ms cs h = refl
  change_by s false ms cs h = sym (set_same cs c s.messages [] h)

  pub sends_part : (s : Sight) → (sends q t sn x i then c a n (Some s)).part ≡ changing x i (goes_on (then (posting q t s x.memory a n).answer))
  unfolding sends posting
  sends_part s = part_by s (leb (a + n) (length x.memory) && may_send q s n) (sending t s (between a (a + n) x.memory))

  pub sends_change : (s : Sight) (cs : List (List Sent)) → get_or cs c [] ≡ s.messages → changed (sends q t sn x i then c a n (Some s)).change cs ≡ set cs c (posting q t s x.memory a n).messages
  unfolding sends posting
  sends_change s cs h = change_by s (leb (a + n) (length x.memory) && may_send q s n) (sending t s (between a (a + n) x.memory)) cs h

-- ---- a take

module _ (q t : ℕ) (sn : ℕ → Option Sight) (x : Part Core) (i : ℕ) (then : Answer → Core) (c a : ℕ) where
  -- What is done where a message was there, and what comes of it.
  abbrev taken_step : Sight → Sent → List Sent → Step Core
  taken_step s m ms =
      record { part = changing (with_memory x (put x.memory a m.bytes)) i (goes_on (then (Message ((t - m.at) % no) (length m.bytes)))); change = taking c s ms }

  abbrev taken_exchange : Sight → Sent → List Sent → Exchange
  taken_exchange s m ms =
      record { answer = Message ((t - m.at) % no) (length m.bytes); messages = cond (eqb s.plan.places 0) s.messages ms; memory = put x.memory a m.bytes }

  taken_part : (s : Sight) (m : Sent) (ms : List Sent) (b : Bool)
      → (cond b (taken_step s m ms) (refused x i then)).part
      ≡ changing (with_memory x (cond b (taken_exchange s m ms) (refusing s x.memory)).memory) i (goes_on (then (cond b (taken_exchange s m ms) (refusing s x.memory)).answer))
  unfolding refused refusing with_memory
  taken_part s m ms true = refl
  taken_part s m ms false = refl

  taking_change : (s : Sight) (ms : List Sent) (b : Bool) (cs : List (List Sent)) → get_or cs c [] ≡ s.messages
      → changed (cond b none (becomes c ms)) cs ≡ set cs c (cond b s.messages ms)
  unfolding changed
  taking_change s ms true cs h = sym (set_same cs c s.messages [] h)
  taking_change s ms false cs h = refl

  taken_change : (s : Sight) (m : Sent) (ms : List Sent) (b : Bool) (cs : List (List Sent)) → get_or cs c [] ≡ s.messages
      → changed (cond b (taken_step s m ms) (refused x i then)).change cs ≡ set cs c (cond b (taken_exchange s m ms) (refusing s x.memory)).messages
  unfolding refused refusing changed taking
  taken_change s m ms true cs h = taking_change s ms (eqb s.plan.places 0) cs h
  taken_change s m ms false cs h = sym (set_same cs c s.messages [] h)

  first_part : (s : Sight) (ms : List Sent)
      → (takes_first q t sn x i then c a s ms).part ≡ changing (with_memory x (collecting_first t s x.memory a ms).memory) i (goes_on (then (collecting_first t s x.memory a ms).answer))
  unfolding takes_first collecting_first refused refusing with_memory
  first_part s [] = refl
  first_part s (m ∷ ms) = taken_part s m ms (leb (a + length m.bytes) (length x.memory))

  first_change : (s : Sight) (ms : List Sent) (cs : List (List Sent)) → get_or cs c [] ≡ s.messages
      → changed (takes_first q t sn x i then c a s ms).change cs ≡ set cs c (collecting_first t s x.memory a ms).messages
  unfolding takes_first collecting_first refused refusing changed
  first_change s [] cs h = sym (set_same cs c s.messages [] h)
  first_change s (m ∷ ms) cs h = taken_change s m ms (leb (a + length m.bytes) (length x.memory)) cs h

  for_part : (s : Sight) (b : Bool)
      → (cond b (takes_first q t sn x i then c a s s.messages) (refused x i then)).part
      ≡ changing (with_memory x (cond b (collecting_first t s x.memory a s.messages) (refusing s x.memory)).memory) i
      (goes_on (then (cond b (collecting_first t s x.memory a s.messages) (refusing s x.memory)).answer))
  unfolding refused refusing with_memory
  for_part s true = first_part s s.messages
  for_part s false = refl

  for_change : (s : Sight) (b : Bool) (cs : List (List Sent)) → get_or cs c [] ≡ s.messages
      → changed (cond b (takes_first q t sn x i then c a s s.messages) (refused x i then)).change cs
      ≡ set cs c (cond b (collecting_first t s x.memory a s.messages) (refusing s x.memory)).messages
  unfolding refused refusing changed
  for_change s true cs h = first_change s s.messages cs h
  for_change s false cs h = sym (set_same cs c s.messages [] h)

  pub takes_part : (s : Sight) → (takes q t sn x i then c a (Some s)).part ≡ changing (with_memory x (collecting q t s x.memory a).memory) i (goes_on (then (collecting q t s x.memory a).answer))
  unfolding takes collecting
  takes_part s = for_part s (eqb s.plan.to q)

  pub takes_change : (s : Sight) (cs : List (List Sent)) → get_or cs c [] ≡ s.messages → changed (takes q t sn x i then c a (Some s)).change cs ≡ set cs c (collecting q t s x.memory a).messages
  unfolding takes collecting
  takes_change s cs h = for_change s (eqb s.plan.to q) cs h

-- ---- both

-- A call that comes to what one channel says.
module _ (call : Part Core → ℕ → (Answer → Core) → Step Core) (m : List ℕ) where
  -- It is refused, and nothing changes.
  pub exchange_refused : (cs : List Queue) → ((x : Part Core) (i : ℕ) (then : Answer → Core) → call (with_memory x m) i then ≡ refused (with_memory x m) i then) → Exchanged call m m cs cs (Value no)
  unfolding refused changed
  exchange_refused cs h =
      record {
        part = λ x i then. ap (λ (st : Step Core). st.part) (h x i then);
        change = λ x i then. ap (λ (st : Step Core). changed st.change (channels_of cs)) (h x i then);
        plans = refl;
      }

  pub exchange_done :
      (cs : List Queue) (c : ℕ) (old new : Queue) (r : Answer) (m' : List ℕ) (e : Exchange) → slice_get cs c ≡ Some old → new.plan ≡ old.plan
      → record { answer = r; messages = sents_of new; memory = m' } ≡ e
      → ((x : Part Core) (i : ℕ) (then : Answer → Core) → (call (with_memory x m) i then).part ≡ changing (with_memory x e.memory) i (goes_on (then e.answer)))
      → ((x : Part Core) (i : ℕ) (then : Answer → Core) (ds : List (List Sent)) → get_or ds c [] ≡ sents_of old → changed (call (with_memory x m) i then).change ds ≡ set ds c e.messages)
      → Exchanged call m m' cs (set cs c new) r
  unfolding plans_of channels_of plan_of
  exchange_done cs c old new r m' e h p f g k =
      record {
        part = λ x i then. g x i then ∙ ap (λ (z : Exchange). changing (with_memory x z.memory) i (goes_on (then z.answer))) (sym f);
        change = λ x i then.
            k x i then (map sents_of cs) (get_or-map_some sents_of cs c old [] h)
            ∙ ap (λ (z : Exchange). set (map sents_of cs) c z.messages) (sym f)
            ∙ sym (map-set sents_of cs c new);
        plans = map-set plan_of cs c new ∙ ap (set (map plan_of cs) c) p ∙ set_same (map plan_of cs) c old.plan no_channel (get_or-map_some plan_of cs c old no_channel h);
      }

post_from : (q t : ℕ) (s : Sight) (m : List ℕ) (a n : ℕ) → (s.plan.from ≡ q → ⊥) → refusing s m ≡ posting q t s m a n
unfolding posting may_send
post_from q t s m a n h = sym (cond-false _ _ _ (and_right (leb (a + n) (length m)) _ (and_left _ _ (ne_eqb _ _ h))))

collect_to : (q t : ℕ) (s : Sight) (m : List ℕ) (a : ℕ) → (s.plan.to ≡ q → ⊥) → refusing s m ≡ collecting q t s m a
unfolding collecting
collect_to q t s m a h = sym (cond-false _ _ _ (ne_eqb _ _ h))

module _ (q t : ℕ) (cs : List Queue) (m : List ℕ) (c a : ℕ) where
  abbrev pub sending_call : ℕ → Part Core → ℕ → (Answer → Core) → Step Core
  sending_call n = λ x i then. called q t (seen_of cs q) x i (Send c a n) then

  abbrev pub taking_call : Part Core → ℕ → (Answer → Core) → Step Core
  taking_call = λ x i then. called q t (seen_of cs q) x i (Take c a) then

  pub send_nowhere : (n : ℕ) → length cs ≤ c → Exchanged (sending_call n) m m cs cs (Value no)
  unfolding called sends
  send_nowhere n h =
      exchange_refused (sending_call n) m cs (λ x i then. ap (sends q t (seen_of cs q) (with_memory x m) i then c a n) (seen_none cs q c h))

  pub take_nowhere : length cs ≤ c → Exchanged taking_call m m cs cs (Value no)
  unfolding called takes
  take_nowhere h =
      exchange_refused taking_call m cs (λ x i then. ap (takes q t (seen_of cs q) (with_memory x m) i then c a) (seen_none cs q c h))

  -- A channel of which the partition has no end refuses it.
  send_closed : (n : ℕ) (old : Queue) → ends old q ≡ false → refusing (sight_of old) m ≡ posting q t (sight_of old) m a n
  unfolding sight_of
  send_closed n old e = post_from q t (sight_of old) m a n (eqb-false _ _ (or_parts _ (eqb old.plan.to q) e).0)

  pub send_there :
      (n : ℕ) (old new : Queue) (r : Answer) → slice_get cs c ≡ Some old → new.plan ≡ old.plan
      → record { answer = r; messages = sents_of new; memory = m } ≡ posting q t (sight_of old) m a n → Exchanged (sending_call n) m m cs (set cs c new) r
  unfolding called with_memory sight_of sends refused refusing changed
  send_there n old new r h p f =
      exchange_done (sending_call n) m cs c old new r m (posting q t (sight_of old) m a n) h p f
      (λ x i then.
      ⊎_elim
      (λ (e : seen_of cs q c ≡ Some (sight_of old)).
      ap (λ o. (sends q t (seen_of cs q) (with_memory x m) i then c a n o).part) e
      ∙ sends_part q t (seen_of cs q) (with_memory x m) i then c a n (sight_of old)
      ∙ ap (λ mm. changing (with_memory x mm) i (goes_on (then (posting q t (sight_of old) m a n).answer))) (ap (λ (z : Exchange). z.memory) f))
      (λ (e : (seen_of cs q c ≡ None) × (ends old q ≡ false)).
      ap (λ o. (sends q t (seen_of cs q) (with_memory x m) i then c a n o).part) e.0
      ∙ ap (λ (z : Exchange). changing (with_memory x z.memory) i (goes_on (then z.answer))) (send_closed n old e.1))
      (seen_cases cs q c old h))
      (λ x i then ds g.
      ⊎_elim
      (λ (e : seen_of cs q c ≡ Some (sight_of old)).
      ap (λ o. changed (sends q t (seen_of cs q) (with_memory x m) i then c a n o).change ds) e
      ∙ sends_change q t (seen_of cs q) (with_memory x m) i then c a n (sight_of old) ds g)
      (λ (e : (seen_of cs q c ≡ None) × (ends old q ≡ false)).
      ap (λ o. changed (sends q t (seen_of cs q) (with_memory x m) i then c a n o).change ds) e.0
      ∙ sym (set_same ds c (sents_of old) [] g)
      ∙ ap (λ (z : Exchange). set ds c z.messages) (send_closed n old e.1))
      (seen_cases cs q c old h))

  -- A channel of which the partition has no end refuses it.
  take_closed : (old : Queue) → ends old q ≡ false → refusing (sight_of old) m ≡ collecting q t (sight_of old) m a
  unfolding sight_of
  take_closed old e = collect_to q t (sight_of old) m a (eqb-false _ _ (or_parts (eqb old.plan.from q) _ e).1)

  pub take_there :
      (old new : Queue) (r : Answer) (m' : List ℕ) → slice_get cs c ≡ Some old → new.plan ≡ old.plan
      → record { answer = r; messages = sents_of new; memory = m' } ≡ collecting q t (sight_of old) m a → Exchanged taking_call m m' cs (set cs c new) r
  unfolding called with_memory sight_of takes refused refusing changed
  take_there old new r m' h p f =
      exchange_done taking_call m cs c old new r m' (collecting q t (sight_of old) m a) h p f
      (λ x i then.
      ⊎_elim
      (λ (e : seen_of cs q c ≡ Some (sight_of old)).
      ap (λ o. (takes q t (seen_of cs q) (with_memory x m) i then c a o).part) e
      ∙ takes_part q t (seen_of cs q) (with_memory x m) i then c a (sight_of old))
      (λ (e : (seen_of cs q c ≡ None) × (ends old q ≡ false)).
      ap (λ o. (takes q t (seen_of cs q) (with_memory x m) i then c a o).part) e.0
      ∙ ap (λ (z : Exchange). changing (with_memory x z.memory) i (goes_on (then z.answer))) (take_closed old e.1))
      (seen_cases cs q c old h))
      (λ x i then ds g.
      ⊎_elim
      (λ (e : seen_of cs q c ≡ Some (sight_of old)).
      ap (λ o. changed (takes q t (seen_of cs q) (with_memory x m) i then c a o).change ds) e
      ∙ takes_change q t (seen_of cs q) (with_memory x m) i then c a (sight_of old) ds g)
      (λ (e : (seen_of cs q c ≡ None) × (ends old q ≡ false)).
      ap (λ o. changed (takes q t (seen_of cs q) (with_memory x m) i then c a o).change ds) e.0
      ∙ sym (set_same ds c (sents_of old) [] g)
      ∙ ap (λ (z : Exchange). set ds c z.messages) (take_closed old e.1))
      (seen_cases cs q c old h))
