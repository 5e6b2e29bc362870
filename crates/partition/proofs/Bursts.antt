-- A burst of instructions, one tick more at a time.
use Rattle.std.proofs.Common.{◌≡◌, ℕ, ◌+◌, ◌*◌, ◌<◌, ◌≤◌, List, [], ◌∷◌, ◌++◌, length, take, drop, sym, refl, ap, ◌∙◌, append_assoc, arith}
use Rattle.std.specs.List.{flat_map}
use Rattle.std.proofs.lemmas.Grind.{flat_map-append}
use Rattle.std.proofs.lemmas.List.{append-nil, length-append, take-append-drop}
use Rattle.octets.specs.Bytes.{put, bytes_of}
use Rattle.octets.proofs.Numbers.{length-bytes_of}
use Rattle.octets.proofs.Puts.{put-behind, length-put}
use Rattle.cpu.specs.Core.{Core}
use Rattle.cpu.specs.Rv32i.{act}
use Rattle.model.specs.World.{Run}
use Rattle.model.specs.Tick.{acted, update, goes_on, waits, stops}
use Rattle.memory.specs.Frames.{memory_of}
use Rattle.partition.specs.declared.came.Came.{Came}
use Rattle.partition.specs.declared.came.Came.TheVariants.{Goes, Shows, Waits, Stops}
use Rattle.partition.specs.declared.shown.Shown.{Shown}
use Rattle.model.specs.declared.plan.State.{State}
use Rattle.model.specs.declared.plan.State.TheVariants.{Ready, Waiting, Stopped}
use Rattle.partition.specs.Block.{over}
use Rattle.partition.specs.Stretch.{none_seen, looked_ticks}
use Rattle.partition.specs.Shown.{entry_bytes}
use Rattle.partition.specs.Steps.{Did, Still, said_by, turned_by, ended_by, Bursted}
use Rattle.partition.proofs.Ticks.{busy_more, update_update}
use Rattle.partition.proofs.Kept.{kept_self, kept_then}

pub put-none : (xs : List ℕ) (k : ℕ) → put xs k [] ≡ xs
unfolding put
put-none xs k = let e : k + 0 ≡ k = omega arith in ap (λ m. take k xs ++ drop m xs) e ∙ take-append-drop k xs

pub length_entry : (e : ℕ × ℕ) → length (entry_bytes e) ≡ 9
unfolding entry_bytes
length_entry e = omega (arith, length-append (bytes_of 8 e.0) (e.1 ∷ []), length-bytes_of 8 e.0)

pub length-entries : (es : List (ℕ × ℕ)) → length (flat_map entry_bytes es) ≡ 9 * length es
length-entries [] = refl
length-entries (e ∷ es) = omega (arith, length-append (entry_bytes e) (flat_map entry_bytes es), length_entry e, length-entries es)

-- Entries written behind others.
pub entries_behind :
    (z z₁ z₂ : List ℕ) (k j : ℕ) (xs ys : List (ℕ × ℕ)) → z₁ ≡ put z k (flat_map entry_bytes xs) → j ≡ k + 9 * length xs →
    z₂ ≡ put z₁ j (flat_map entry_bytes ys) → k + 9 * (length xs + length ys) ≤ length z → z₂ ≡ put z k (flat_map entry_bytes (xs ++ ys))
entries_behind z z₁ z₂ k j xs ys e g f room =
    f
    ∙ ap (λ w. put w j (flat_map entry_bytes ys)) e
    ∙ put-behind z (flat_map entry_bytes xs) (flat_map entry_bytes ys) k j (omega (arith, length-entries xs)) (omega (arith, length-entries ys))
    ∙ ap (put z k) (sym (flat_map-append entry_bytes xs ys))

-- What is left of the slice behind entries.
pub entries_room :
    (z z₁ : Shown) (es : List (ℕ × ℕ)) (n : ℕ) → z₁.bytes.now ≡ put z.bytes.now z.«at» (flat_map entry_bytes es) → z₁.«at» ≡ z.«at» + 9 * length es →
    z.«at» + 9 * (length es + n) ≤ length z.bytes.now → z₁.«at» + 9 * n ≤ length z₁.bytes.now
entries_room z z₁ es n e g room =
    let l = ap length e ∙ length-put z.bytes.now (flat_map entry_bytes es) z.«at» (omega (arith, length-entries es)) in omega (arith, l, g)

pub bursted_none : (b : List ℕ) (c : Core) (z : Shown) (t n : ℕ) → Bursted b b c c z z t n (record { ticks = 0; «end» = Ready })
unfolding looked_ticks
bursted_none b c z t n =
    record {
      entries = [];
      part = λ q i ks rs s busy. ap (λ w. over b (update rs i (goes_on c)) w) (sym (append-nil s));
      slice = sym (put-none z.bytes.now z.«at»);
      bytes = refl;
      behind = omega arith;
      few = omega arith;
      within = omega arith;
      kept = kept_self b;
    }

-- How an instruction leaves the task.
abbrev pub end_of : Came → State
end_of Goes = Ready
end_of (Shows b) = Ready
end_of Waits = Waiting
end_of Stops = Stopped

turned_ended : (r : Came) (c₁ c₂ : Core) → Still r c₁ c₂ → (rs : List (Run Core)) (i : ℕ) → update rs i (λ a. turned_by r c₂ (goes_on c₁ a)) ≡ update rs i (ended_by (end_of r) c₂)
unfolding goes_on waits stops
turned_ended Goes c₁ c₂ h rs i = refl
turned_ended (Shows b) c₁ c₂ h rs i = refl
turned_ended Waits c₁ c₂ h rs i = refl
turned_ended Stops c₁ c₂ h rs i = ap (λ c. update rs i (λ a. stops (goes_on c a))) (sym h)

tasks_over : (b : List ℕ) (rs : List (Run Core)) (s : List (ℕ × ℕ)) → (over b rs s).tasks ≡ rs
unfolding over
tasks_over b rs s = refl

memory_over : (b : List ℕ) (rs : List (Run Core)) (s : List (ℕ × ℕ)) → (over b rs s).memory ≡ memory_of b
unfolding over
memory_over b rs s = refl

pub bursted_more :
    (b b₁ b₂ : List ℕ) (c c₁ c₂ : Core) (z z₁ z₂ : Shown) (t n m : ℕ) (r : Came) →
    Bursted b b₁ c c₁ z z₁ t n (record { ticks = m; «end» = Ready }) → m < n → z.«at» + 9 * n ≤ length z.bytes.now → Did b₁ b₂ c₁ c₂ (t + m) r →
    z₂.bytes.now ≡ put z₁.bytes.now z₁.«at» (flat_map entry_bytes (said_by (t + m) r)) → z₂.«at» ≡ z₁.«at» + 9 * length (said_by (t + m) r) →
    z₂.bytes.ghost_name ≡ z₁.bytes.ghost_name → length (said_by (t + m) r) ≤ 1 →
    Bursted b b₂ c c₂ z z₂ t n (record { ticks = m + 1; «end» = end_of r })
bursted_more b b₁ b₂ c c₁ c₂ z z₁ z₂ t n m r was lt room did slice behind bytes one =
    record {
      entries = was.entries ++ said;
      part = λ q i ks rs s busy.
          busy_more q t ks rs i n busy m lt c₁ (over b (update rs i (goes_on c)) s) (over b₁ (update rs i (goes_on c₁)) (s ++ was.entries)) (was.part q i ks rs s busy) (tasks_over b₁ (update rs i (goes_on c₁)) (s ++ was.entries))
          ∙ ap (λ w. (acted q (t + m) none_seen (over b₁ (update rs i (goes_on c₁)) (s ++ was.entries)) i (act c₁ w)).part) (memory_over b₁ (update rs i (goes_on c₁)) (s ++ was.entries))
          ∙ did.part q i (update rs i (goes_on c₁)) (s ++ was.entries)
          ∙ ap (λ ws. over b₂ ws ((s ++ was.entries) ++ said)) (update_update rs i (goes_on c₁) (turned_by r c₂) ∙ turned_ended r c₁ c₂ did.still rs i)
          ∙ ap (λ w. over b₂ (update rs i (ended_by (end_of r) c₂)) w) (append_assoc s was.entries said);
      slice = entries_behind z.bytes.now z₁.bytes.now z₂.bytes.now z.«at» z₁.«at» was.entries said was.slice was.behind slice (omega (arith, was.few));
      bytes = bytes ∙ was.bytes;
      behind = omega (arith, behind, was.behind, length-append was.entries said);
      few = omega (arith, was.few, length-append was.entries said);
      within = omega arith;
      kept = kept_then was.kept did.kept;
    }
  where
    said : List (ℕ × ℕ)
    said = said_by (t + m) r
