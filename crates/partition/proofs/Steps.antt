-- What instructions and calls come to over a block.
use Rattle.std.proofs.Common.{◌≡◌, ℕ, ◌+◌, ◌%◌, ◌≤◌, cond, leb, List, [], ◌∷◌, ◌++◌, length, drop, Some, None, Option, sym, refl, ap, ◌∙◌, arith}
use Rattle.octets.specs.Bytes.{put, at}
use Rattle.cpu.specs.Act.{quiet, store, wrong}
use Rattle.cpu.specs.declared.effect.Effect.TheVariants.{Calls}
use Rattle.decode.specs.declared.instruction.LoadKind.{LoadKind}
use Rattle.cpu.specs.Effects.{inside}
use Rattle.cpu.specs.Meaning.{load_bytes, extended}
use Rattle.std.proofs.lemmas.Bool.{cond-true, le-leb}
use Rattle.cpu.specs.Rv32i.{effect_fetched}
use Rattle.memory.specs.Frames.{control_of}
use Rattle.memory.proofs.Frames.{frame_kept}
use Rattle.partition.proofs.Kept.{count_frame, kept_self}
use Rattle.std.proofs.lemmas.List.{append-nil}
use Rattle.cpu.specs.declared.call.Call.{Call}
use Rattle.cpu.specs.declared.call.Call.TheVariants.{Show, Wait, Clock, Send, Take, Hear, Unknown}
use Rattle.cpu.specs.declared.call.Answer.{Answer}
use Rattle.cpu.specs.declared.call.Answer.TheVariants.{Value}
use Rattle.cpu.specs.declared.effect.Effect.{Effect}
use Rattle.cpu.specs.Core.{Core}
use Rattle.cpu.specs.Rv32i.{act, performed, effect_at, answered}
use Rattle.cpu.specs.Rv32i.{called as call_by}
use Rattle.model.specs.World.{Run}
use Rattle.model.specs.Tick.{called, acted, showing, with_heard, with_memory, with_tasks, refused, sends, takes, goes_on, waits, stops, changing, first_heard, update}
use Rattle.memory.specs.Frames.{memory_of, frame}
use Rattle.tasks.specs.Unheard.{heard_in}
use Rattle.partition.specs.declared.came.Came.{Came}
use Rattle.partition.specs.declared.came.Came.TheVariants.{Goes, Shows, Waits, Stops}
use Rattle.partition.specs.Block.{over, TableKept}
use Rattle.partition.specs.Stretch.{none_seen}
use Rattle.partition.specs.Steps.{Did, Still, said_by, turned_by}

-- A part over a block whose task i has changed, and in which nothing was shown.
pub changing_over : (b : List ℕ) (rs : List (Run Core)) (s : List (ℕ × ℕ)) (i : ℕ) (f : Run Core → Run Core) → changing (over b rs s) i f ≡ over b (update rs i f) (s ++ [])
unfolding changing with_tasks over
changing_over b rs s i f = ap (λ z. record { memory = memory_of b; tasks = update rs i f; heard = heard_in (frame 3 b); shown = z }) (sym (append-nil s))

-- What a call comes to, by which call it is and how the task goes on.
abbrev pub Comes : List ℕ → List ℕ → Core → Core → ℕ → Came → Type 0
Comes b b' k c t r =
    (q i : ℕ) (rs : List (Run Core)) (s : List (ℕ × ℕ)) →
    (called q t none_seen (over b rs s) i (call_by k) (answered k)).part ≡ over b' (update rs i (turned_by r c)) (s ++ said_by t r)

module _ (b : List ℕ) (k c : Core) (t : ℕ) where
  says : (z : Call) → call_by k ≡ z → (q i : ℕ) (rs : List (Run Core)) (s : List (ℕ × ℕ)) →
      (called q t none_seen (over b rs s) i (call_by k) (answered k)).part ≡ (called q t none_seen (over b rs s) i z (answered k)).part
  says z e q i rs s = ap (λ (z : Call). (called q t none_seen (over b rs s) i z (answered k)).part) e

  pub shows : (n : ℕ) → call_by k ≡ Show n → c ≡ answered k (Value 0) → Comes b b k c t (Shows n)
  unfolding called showing changing with_tasks over
  shows n e g q i rs s =
      says (Show n) e q i rs s ∙ ap (λ z. over b (update rs i (goes_on z)) (s ++ (t, n) ∷ [])) (sym g)

  pub waiting : call_by k ≡ Wait → c ≡ answered k (Value 0) → Comes b b k c t Waits
  unfolding called
  waiting e g q i rs s =
      says Wait e q i rs s ∙ changing_over b rs s i (waits (answered k (Value 0))) ∙ ap (λ z. over b (update rs i (waits z)) (s ++ [])) (sym g)

  on : (v : Answer) → c ≡ answered k v → (i : ℕ) (rs : List (Run Core)) (s : List (ℕ × ℕ)) →
      changing (over b rs s) i (goes_on (answered k v)) ≡ over b (update rs i (goes_on c)) (s ++ [])
  on v g i rs s = changing_over b rs s i (goes_on (answered k v)) ∙ ap (λ z. over b (update rs i (goes_on z)) (s ++ [])) (sym g)

  pub clocks : call_by k ≡ Clock → c ≡ answered k (Value (t % 4294967296)) → Comes b b k c t Goes
  unfolding called
  clocks e g q i rs s = says Clock e q i rs s ∙ on (Value (t % 4294967296)) g i rs s

  pub sent : (n a l : ℕ) → call_by k ≡ Send n a l → c ≡ answered k (Value 4294967295) → Comes b b k c t Goes
  unfolding called sends refused
  sent n a l e g q i rs s = says (Send n a l) e q i rs s ∙ on (Value 4294967295) g i rs s

  pub taken : (n a : ℕ) → call_by k ≡ Take n a → c ≡ answered k (Value 4294967295) → Comes b b k c t Goes
  unfolding called takes refused
  taken n a e g q i rs s = says (Take n a) e q i rs s ∙ on (Value 4294967295) g i rs s

  pub unknown : call_by k ≡ Unknown → c ≡ answered k (Value 4294967295) → Comes b b k c t Goes
  unfolding called refused
  unknown e g q i rs s = says Unknown e q i rs s ∙ on (Value 4294967295) g i rs s

  pub hears :
      (b' : List ℕ) → call_by k ≡ Hear → c ≡ answered k (Value (first_heard (heard_in (frame 3 b)))) → memory_of b' ≡ memory_of b →
      heard_in (frame 3 b') ≡ drop 1 (heard_in (frame 3 b)) → Comes b b' k c t Goes
  unfolding called with_heard changing with_tasks over
  hears b' e g m h q i rs s =
      says Hear e q i rs s
      ∙ (λ j. record { memory = sym m j; tasks = update rs i (goes_on (sym g j)); heard = sym h j; shown = sym (append-nil s) j })

-- The effect of the instruction at hand, as the core finds it with the word that was fetched from the block as it is read.
pub comes_to :
    (b r : List ℕ) (k : Core) (pc n : ℕ) (w : Option ℕ) (e : Effect) → r ≡ b → pc ≡ k.pc →
    w ≡ cond (inside 4 pc (length (memory_of r))) (Some (at 4 (memory_of r) pc)) None → n ≡ length (memory_of r) → e ≡ effect_fetched k w n →
    effect_at k (memory_of b) ≡ e
comes_to b r k pc n w e same here hw hn he =
    sym
    (he
    ∙ ap (effect_fetched k w) hn
    ∙ ap (λ w. effect_fetched k w (length (memory_of r))) hw
    ∙ ap (λ p. effect_fetched k (cond (inside 4 p (length (memory_of r))) (Some (at 4 (memory_of r) p)) None) (length (memory_of r))) here
    ∙ ap (λ xs. effect_fetched k (cond (inside 4 k.pc (length (memory_of xs))) (Some (at 4 (memory_of xs) k.pc)) None) (length (memory_of xs))) same)

-- What was loaded, where the access is inside.
pub loaded :
    (b r : List ℕ) (kind : LoadKind) (a v : ℕ) → r ≡ b → a + load_bytes kind ≤ length (memory_of r) →
    Some v ≡ cond (leb (a + load_bytes kind) (length (memory_of r))) (Some (extended kind (at (load_bytes kind) (memory_of r) a))) None →
    v ≡ extended kind (at (load_bytes kind) (memory_of b) a)
loaded b r kind a v same fits e =
    let s : Some v ≡ Some (extended kind (at (load_bytes kind) (memory_of r) a)) = e ∙ cond-true _ _ _ (le-leb _ _ fits) in
    let w : v ≡ extended kind (at (load_bytes kind) (memory_of r) a) = cc in
    w ∙ ap (λ xs. extended kind (at (load_bytes kind) (memory_of xs) a)) same

-- A store keeps the control frames.
pub kept_control : (b b' : List ℕ) → control_of b' ≡ control_of b → TableKept b b'
kept_control b b' e = record { table = frame_kept 2 b b' (omega arith) e; count = count_frame b b' (frame_kept 4 b b' (omega arith) e) }

module _ (b : List ℕ) (k c : Core) (t : ℕ) (e : Effect) (comes : effect_at k (memory_of b) ≡ e) where
  by_effect : (q i : ℕ) (rs : List (Run Core)) (s : List (ℕ × ℕ)) →
      (acted q t none_seen (over b rs s) i (act k (memory_of b))).part ≡ (acted q t none_seen (over b rs s) i (performed k (memory_of b) e)).part
  by_effect q i rs s = ap (λ (e : Effect). (acted q t none_seen (over b rs s) i (performed k (memory_of b) e)).part) comes

  -- It goes on with another core.
  pub did_quiet : performed k (memory_of b) e ≡ quiet c → Did b b k c t Goes
  unfolding acted
  did_quiet p =
      record {
        part = λ q i rs s. by_effect q i rs s ∙ ap (λ a. (acted q t none_seen (over b rs s) i a).part) p ∙ changing_over b rs s i (goes_on c);
        still = tt;
        kept = kept_self b;
      }

  -- It is wrong.
  pub did_wrong : performed k (memory_of b) e ≡ wrong → Did b b k k t Stops
  unfolding acted
  did_wrong p =
      record {
        part = λ q i rs s. by_effect q i rs s ∙ ap (λ a. (acted q t none_seen (over b rs s) i a).part) p ∙ changing_over b rs s i stops;
        still = refl;
        kept = kept_self b;
      }

  -- It stores.
  pub did_store :
      (b' : List ℕ) (a : ℕ) (bs : List ℕ) → performed k (memory_of b) e ≡ store a bs c → memory_of b' ≡ put (memory_of b) a bs →
      control_of b' ≡ control_of b → Did b b' k c t Goes
  unfolding acted with_memory changing with_tasks over
  did_store b' a bs p m f =
      record {
        part =
            λ q i rs s.
            by_effect q i rs s
            ∙ ap (λ a. (acted q t none_seen (over b rs s) i a).part) p
            ∙ (λ j. record { memory = sym m j; tasks = update rs i (goes_on c); heard = heard_in (sym (frame_kept 3 b b' (omega arith) f) j); shown = sym (append-nil s) j });
        still = tt;
        kept = kept_control b b' f;
      }

-- It calls.
pub did_call :
    (b b' : List ℕ) (k c : Core) (t : ℕ) (r : Came) → effect_at k (memory_of b) ≡ Calls → Comes b b' k c t r → Still r k c → TableKept b b' → Did b b' k c t r
unfolding acted
did_call b b' k c t r comes p still kept = record { part = λ q i rs s. by_effect b k c t Calls comes q i rs s ∙ p q i rs s; still = still; kept = kept }
